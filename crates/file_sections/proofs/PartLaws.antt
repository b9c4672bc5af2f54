-- A tracer's part, from its section of a file, by the file's mark.
use mathlib.Core.Path.{◌≡◌, refl, sym, ap, ap₂, subst, ◌∙◌}
use mathlib.Core.Bool.{true}
use mathlib.Core.List.{List, [], ◌∷◌, ◌++◌, append-nil}
use Prim.Native.Nat.{ℕ, suc, ◌+◌, ◌*◌, ◌/◌, ◌≤◌}
use native.Mathlib.Omega.{arith}
use lib.Dec.{T}
use lib.ListN.{length, get_or, set, take, drop, drop_of_length-le}
use lib.Seq.{length-take-le, drop-cons}
use Rattle.std.specs.Prelude.{Result, is_ok}
use Rattle.whole.specs.Sum.{sum}
use Rattle.whole.specs.Table.{table}
use Rattle.whole.proofs.TableLaws.{fill-last}
use Rattle.rules.specs.declared.Shape.{Shape}
use Rattle.rules.specs.declared.Mark.{Mark}
use Rattle.rules.specs.declared.Mark.TheVariants.{Plum, Plu2}
use Rattle.rules.specs.declared.Refusal.{Refusal}
use Rattle.rules.specs.Answers.{accepted, refused, answered, check, answer}
use Rattle.rules.specs.Bytes.{number32}
use Rattle.rules.specs.Field.{quadratic, elements, elements_length, part_length, part_of, mass, total, limit, sum_sound, sound}
use Rattle.rules.specs.FieldFile.{section_length, part_from}
use Rattle.rules.proofs.FieldLaws.{elements-small}
use Rattle.rules.proofs.StoredLaws.{length-part_of, total-part_of, sound-worked-out}
use Rattle.field_layout.proofs.PlaceLaws.{elements-are, part-is-more}
use Rattle.file_layout.proofs.LayoutLaws.{plum-length, plu2-length, length-part_from}
use Rattle.field_search.specs.Search.{searched, compared}
use Rattle.field_search.proofs.SearchLaws.{is-sound}
use Rattle.file_sections.specs.Numbers.{numbers_of, part_of_section}
use Rattle.file_sections.proofs.SectionLaws.{length-numbers}

-- a mark that is not the one is the other
pub not-plum : (m : Mark) → (m ≡ Plum → ⊥) → m ≡ Plu2
not-plum Plum n = absurd (n refl)
not-plum Plu2 n = refl

module _ (g : Shape) (section : List ℕ) where
  -- the numbers of a section of each mark
  abbrev pub elements_of : List ℕ
  elements_of = numbers_of section (elements_length quadratic g)

  plum-part : part_of_section Plum g section ≡ part_of elements_of (total quadratic g elements_of)
  unfolding part_of_section part_from section_length
  plum-part = refl

  plu2-part : part_of_section Plu2 g section ≡ numbers_of section (part_length quadratic g)
  unfolding part_of_section part_from section_length
  plu2-part = refl

  pub length-part-of-section : (m : Mark) → length (part_of_section m g section) ≡ part_length quadratic g
  unfolding part_of_section
  length-part-of-section m = length-part_from quadratic g (numbers_of section (section_length quadratic m g)) m (length-numbers section (section_length quadratic m g))

  plum-sound : sound quadratic g (part_of_section Plum g section) ≡ sum_sound quadratic g elements_of
  plum-sound = ap (sound quadratic g) plum-part ∙ sound-worked-out quadratic g elements_of (length-numbers section (elements_length quadratic g))

  plum-total : total quadratic g (part_of_section Plum g section) ≡ total quadratic g elements_of
  plum-total = ap (total quadratic g) plum-part ∙ total-part_of quadratic g elements_of (total quadratic g elements_of) (length-numbers section (elements_length quadratic g))

  -- what the part of a "PLUM" section holds
  pub total-held : (m : Mark) → m ≡ Plum → total quadratic g (part_of_section m g section) ≡ total quadratic g elements_of
  total-held m e = ap (λ k. total quadratic g (part_of_section k g section)) e ∙ plum-total

-- ---- a section of mark m, searched
module _ (m : Mark) (g : Shape) (section : List ℕ) (long : length section ≡ 4 * section_length quadratic m g) where
  many : (n : ℕ) → section_length quadratic m g ≡ n → length section / 4 ≡ n
  many n e = omega (arith, long, e)

  pub plum-many : m ≡ Plum → length section / 4 ≡ elements_length quadratic g
  plum-many e = many (elements_length quadratic g) (ap (λ k. section_length quadratic k g) e ∙ plum-length quadratic g)

  pub plu2-many : m ≡ Plu2 → length section / 4 ≡ part_length quadratic g
  plu2-many e = many (part_length quadratic g) (ap (λ k. section_length quadratic k g) e ∙ plu2-length quadratic g)

  -- what the search of the section answers is the sum of the part that it makes
  pub plum-summed : m ≡ Plum → searched g (numbers_of section (length section / 4)) ≡ compared g (part_of_section m g section)
  unfolding searched compared
  plum-summed e = ap (λ n. searched g (numbers_of section n)) (plum-many e) ∙ (λ i. answer (check 6 (sym (plum-sound g section) i) ∷ []) (sym (plum-total g section) i))
      ∙ sym (ap (λ k. compared g (part_of_section k g section)) e)

  pub plu2-summed : m ≡ Plu2 → compared g (numbers_of section (length section / 4)) ≡ compared g (part_of_section m g section)
  plu2-summed e = ap (λ n. compared g (numbers_of section n)) (plu2-many e) ∙ ap (compared g) (sym (plu2-part g section)) ∙ sym (ap (λ k. compared g (part_of_section k g section)) e)

  -- a search accepts exactly the sections that make a sound part
  module _ (r : Result ℕ Refusal) where
    abbrev Tested : Type 0
    Tested = is_ok r ≡ sound quadratic g (part_of_section m g section)

    pub plum-tested : m ≡ Plum → answered r ≡ searched g (numbers_of section (length section / 4)) → Tested
    plum-tested e h = is-sound g (part_of_section m g section) r (h ∙ plum-summed e)

    pub plu2-tested : m ≡ Plu2 → answered r ≡ compared g (numbers_of section (length section / 4)) → Tested
    plu2-tested e h = is-sound g (part_of_section m g section) r (h ∙ plu2-summed e)

-- the sum of a sound part is answered, and no refusal
module _ (g : Shape) (p : List ℕ) (h : sound quadratic g p ≡ true) where
  summed : compared g p ≡ accepted (total quadratic g p)
  unfolding compared answer
  summed = rw h refl

  pub summed-is : (t : ℕ) → accepted t ≡ compared g p → t ≡ total quadratic g p
  summed-is t e = let q : accepted t ≡ accepted (total quadratic g p) = e ∙ summed in cc

  pub summed-never : {A : Type 0} (n : ℕ) → refused n ≡ compared g p → A
  summed-never n e = let q : refused n ≡ accepted (total quadratic g p) = e ∙ summed in absurd cc

-- ---- a section of mark m, whose numbers out are read to the front of the part p
module _ (m : Mark) (g : Shape) (section p out : List ℕ) (n : ℕ) (width : n ≡ section_length quadratic m g) (size : length p ≡ part_length quadratic g)
    (read : out ≡ table (length (take n p)) (λ i. number32 section (4 * i))) where
  -- the numbers read are there
  numbers-read : n ≤ length p → out ≡ numbers_of section n
  unfolding numbers_of
  numbers-read h = read ∙ ap (λ k. table k (λ i. number32 section (4 * i))) (length-take-le n p h)

  -- "PLUM" leaves the place of the total, which is written from the elements that were read
  module _ (plum : m ≡ Plum) where
    elements-width : n ≡ elements_length quadratic g
    elements-width = width ∙ ap (λ k. section_length quadratic k g) plum ∙ plum-length quadratic g

    one-more : length p ≡ n + 1
    one-more = omega (arith, elements-width, size, part-is-more g)

    read-front : out ++ drop n p ≡ part_of (elements_of g section) (get_or p n 0)
    unfolding part_of
    read-front = ap₂ ◌++◌ (numbers-read (omega (arith, one-more)) ∙ ap (numbers_of section) elements-width)
        (drop-cons p n 0 (omega (arith, one-more)) ∙ ap (λ y. get_or p n 0 ∷ y) (drop_of_length-le p {i = suc n} (omega (arith, one-more))))

    pub read-long : length (out ++ drop n p) ≡ n + 1
    read-long = ap length read-front ∙ length-part_of quadratic g (elements_of g section) (get_or p n 0) (length-numbers section (elements_length quadratic g)) ∙ omega (arith, elements-width, part-is-more g)

    -- every element is there
    pub elements-room : elements g * 10 ≤ length (out ++ drop n p)
    elements-room = omega (arith, read-long, elements-width, elements-are g)

    pub worked-out : sum (elements g) (mass quadratic (out ++ drop n p)) ≡ total quadratic g (elements_of g section)
    unfolding total
    worked-out = ap (total quadratic g) read-front ∙ total-part_of quadratic g (elements_of g section) (get_or p n 0) (length-numbers section (elements_length quadratic g))

    pub total-fits : sound quadratic g (part_of_section m g section) ≡ true → total quadratic g (elements_of g section) ≤ limit
    total-fits e = elements-small quadratic g (elements_of g section) (subst T (sym e ∙ ap (λ k. sound quadratic g (part_of_section k g section)) plum ∙ plum-sound g section) tt)

    pub plum-read : (t : ℕ) → t ≡ total quadratic g (elements_of g section) → set (out ++ drop n p) n t ≡ part_of_section m g section
    unfolding numbers_of part_of
    plum-read t e = ap (λ y. set (y ++ drop n p) n t) (numbers-read (omega (arith, one-more))) ∙ fill-last n (λ i. number32 section (4 * i)) p t one-more
        ∙ (λ i. part_of (numbers_of section (elements-width i)) (e i)) ∙ sym (ap (λ k. part_of_section k g section) plum ∙ plum-part g section)

  pub plu2-read : m ≡ Plu2 → out ++ drop n p ≡ part_of_section m g section
  plu2-read e =
      let w : n ≡ length p = width ∙ ap (λ k. section_length quadratic k g) e ∙ plu2-length quadratic g ∙ sym size in
      ap₂ ◌++◌ (numbers-read (omega (arith, w))) (drop_of_length-le p {i = n} (omega (arith, w))) ∙ append-nil (numbers_of section n)
      ∙ ap (numbers_of section) (w ∙ size) ∙ sym (ap (λ k. part_of_section k g section) e ∙ plu2-part g section)

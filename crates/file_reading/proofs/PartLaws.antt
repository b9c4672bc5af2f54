-- The parts that tracers' sections make, one after the other: they are tested, and read into the field.
use mathlib.Core.Path.{◌≡◌, refl, sym, ap, subst, ◌∙◌}
use mathlib.Core.Bool.{Bool, true, false}
use mathlib.Core.List.{List, [], ◌∷◌, ◌++◌}
use Prim.Native.Nat.{ℕ, ◌+◌, ◌*◌, ◌/◌, ◌≤◌, ◌<◌}
use native.Mathlib.Nat.{zero-mul, suc-mul, mul-div_cancel, add-mul-div_right, mul-le-mul_right, lt_of_mul-lt-mul_right}
use native.Mathlib.Numerals.{add-one}
use native.Mathlib.Omega.{arith}
use lib.Dec.{T}
use lib.ListN.{length, get_or, set, take, drop, length-append, length-drop, get_or-append}
use lib.Seq.{take_at, drop_at, drop-drop}
use Rattle.whole.specs.Sum.{all}
use Rattle.whole.specs.Table.{table, blocks, overwrite}
use Rattle.whole.proofs.Cases.{true_of}
use Rattle.whole.proofs.FillLaws.{Filled, filled_none, filled_next, BlocksFilled, blocks-none, blocks-next, blocks-all}
use Rattle.whole.proofs.ListParts.{part-of-blocks}
use Rattle.whole.proofs.SumLaws.{all-at, all_more, all-fails}
use Rattle.whole.proofs.TableLaws.{length-table, get_d-table}
use Rattle.rules.specs.declared.Shape.{Shape}
use Rattle.rules.specs.declared.Mark.{Mark}
use Rattle.rules.specs.Answers.{accepted, check}
use Rattle.rules.specs.Field.{quadratic, part_length, field_length, part, total, sound}
use Rattle.rules.specs.FieldFile.{section_length, field_sound}
use Rattle.rules.proofs.AnswerLaws.{accepted-is}
use Rattle.field_search.specs.Search.{compared}
use Rattle.field_layout.proofs.PlaceLaws.{field_is, tracer-room}
use Rattle.file_layout.specs.declared.Layout.{Layout}
use Rattle.file_layout.proofs.LayoutLaws.{section-within}
use Rattle.file_sections.specs.Numbers.{part_of_section, parts_of_sections}
use Rattle.file_sections.proofs.PartLaws.{length-part-of-section}
use Rattle.file_reading.specs.Reading.{AreTotals}

-- a section has numbers
pub above : (a : Layout) → 0 < 4 * section_length quadratic a.mark a.grid.shape
above a = omega (arith, (section-within a.grid.shape a.mark a.grid.admitted).0)

-- one section more
count_more : (k n : ℕ) → (k + 1) * n ≡ k * n + n
count_more k n = rw (add-one k) (suc-mul k n)

-- the sections one after the other, each of n bytes
module _ (m : Mark) (g : Shape) (bytes : List ℕ) (n : ℕ) (e : n ≡ 4 * section_length quadratic m g) where
  -- the part that section s makes
  abbrev pub made_part : ℕ → List ℕ
  made_part s = part_of_section m g (take n (drop (s * n) bytes))

  each-part : (s : ℕ) → length (made_part s) ≡ part_length quadratic g
  each-part s = length-part-of-section g (take n (drop (s * n) bytes)) m

  parts-are : parts_of_sections m g bytes ≡ blocks g.tracers made_part
  unfolding parts_of_sections
  parts-are = ap (λ k. blocks g.tracers (λ s. part_of_section m g (take k (drop (s * k) bytes)))) (sym e)

  -- tracer s's part of them
  tracer-part : (s : ℕ) → s < g.tracers → part quadratic g s (parts_of_sections m g bytes) ≡ made_part s
  unfolding part
  tracer-part s h = ap (λ l. take (part_length quadratic g) (drop (s * part_length quadratic g) l)) parts-are ∙ part-of-blocks (part_length quadratic g) made_part each-part g.tracers s h

  -- a section that is tested in a part of its bytes
  pub part-tested : (x : List ℕ) (b : Bool) (s : ℕ) → s < g.tracers → x ≡ take n (drop (s * n) bytes) → b ≡ sound quadratic g (part_of_section m g x)
      → b ≡ sound quadratic g (part quadratic g s (parts_of_sections m g bytes))
  part-tested x b s h q t = t ∙ ap (sound quadratic g) (ap (part_of_section m g) q ∙ sym (tracer-part s h))

  -- how many sections there are
  bytes-long : length bytes ≡ g.tracers * (4 * section_length quadratic m g) → length bytes ≡ g.tracers * n
  bytes-long long = long ∙ ap (λ k. g.tracers * k) (sym e)

  -- what section s is tested for, and what its tracer holds
  abbrev pub sound_at : ℕ → Bool
  sound_at s = sound quadratic g (part quadratic g s (parts_of_sections m g bytes))

  abbrev pub held_at : ℕ → ℕ
  held_at s = total quadratic g (part quadratic g s (parts_of_sections m g bytes))

  -- ---- the tracers, one after the other: what a turn keeps, and where it ends
  -- of the search: the sections that are left after `count`, those before them sound, and their totals
  pub record TracersSummed (totals₀ : List ℕ) (count : ℕ) (left totals : List ℕ) : Type 0 where
    pub rest : left ≡ drop (count * n) bytes
    pub passed : all count sound_at ≡ true
    pub filled : Filled held_at totals₀ g.tracers count totals

  pub none-summed : (totals : List ℕ) → g.tracers ≤ length totals → TracersSummed totals 0 bytes totals
  unfolding all
  none-summed totals h = record { rest = ap (λ k. drop k bytes) (sym (zero-mul n)); passed = refl; filled = filled_none h }

  -- of the reading: the sections that are left after `count`, the place of the next part, and the field
  pub record TracersRead (field₀ : List ℕ) (count : ℕ) (left : List ℕ) (to : ℕ) (field : List ℕ) : Type 0 where
    pub place : to ≡ count * part_length quadratic g
    pub rest : left ≡ drop (count * n) bytes
    pub filled : BlocksFilled (part_length quadratic g) made_part field₀ g.tracers count field

  pub none-read : (field : List ℕ) → field_length quadratic g ≤ length field → TracersRead field 0 bytes 0 field
  none-read field h = record { place = sym (zero-mul (part_length quadratic g)); rest = ap (λ k. drop k bytes) (sym (zero-mul n)); filled = blocks-none (omega (arith, field_is g)) }

  module _ (long : length bytes ≡ g.tracers * (4 * section_length quadratic m g)) {count : ℕ} {left : List ℕ} (within : count ≤ g.tracers) (rest : left ≡ drop (count * n) bytes) where
    left-long : length left + count * n ≡ g.tracers * n
    left-long = omega (arith, ap length rest, length-drop (count * n) bytes, bytes-long long, mul-le-mul_right n within)

    -- the sections passed and those that are left are the tracers'
    pub sections-left : 0 < n → (size : ℕ) → size ≡ n → count + length left / size ≡ g.tracers
    sections-left above size e = omega (arith, ap (λ k. length left / k) e, sym (add-mul-div_right (length left) count above) ∙ ap (λ k. k / n) left-long ∙ mul-div_cancel g.tracers above)

    -- no section is left
    none-left : length left < n → count ≡ g.tracers
    none-left l = let c : g.tracers < count + 1 = lt_of_mul-lt-mul_right n (omega (arith, left-long, count_more count n)) in omega (arith, within)

    -- a section x is next: it is one of the tracers'
    module _ (x left' : List ℕ) (q : left ≡ x ++ left') (h : length x ≡ n) (above : 0 < n) where
      pub is_next : count < g.tracers
      is_next = lt_of_mul-lt-mul_right n (omega (arith, left-long, ap length q, length-append x left'))

      section-is : x ≡ take n (drop (count * n) bytes)
      section-is = sym (take_at x left' n h) ∙ ap (take n) (sym q ∙ rest)

      next-rest : left' ≡ drop ((count + 1) * n) bytes
      next-rest = sym (drop_at x left' n h) ∙ ap (drop n) (sym q ∙ rest) ∙ drop-drop n (count * n) bytes ∙ ap (λ k. drop k bytes) (omega (arith, count_more count n))

      pub next-held : total quadratic g (part_of_section m g x) ≡ held_at count
      next-held = ap (total quadratic g) (ap (part_of_section m g) section-is ∙ sym (tracer-part count is_next))

      -- it is searched
      next-tested : (b : Bool) → b ≡ sound quadratic g (part_of_section m g x) → b ≡ sound_at count
      next-tested b t = part-tested x b count is_next section-is t

      pub next-unsound : false ≡ sound quadratic g (part_of_section m g x) → field_sound quadratic g (parts_of_sections m g bytes) ≡ false
      unfolding field_sound
      next-unsound t = all-fails g.tracers sound_at count is_next (sym (next-tested false t))

      pub next-summed : {totals₀ totals : List ℕ} (t : ℕ) → TracersSummed totals₀ count left totals → accepted t ≡ compared g (part_of_section m g x)
          → TracersSummed totals₀ (count + 1) left' (set totals count t)
      unfolding compared
      next-summed t r e = let p = accepted-is (check 6 (sound quadratic g (part_of_section m g x)) ∷ []) t (total quadratic g (part_of_section m g x)) e in record {
        rest = next-rest;
        passed = all_more count sound_at r.passed (sym (next-tested true (sym (true_of _ p.0.0))));
        filled = filled_next r.filled is_next (p.1 ∙ next-held);
      }

      pub next-sound : field_sound quadratic g (parts_of_sections m g bytes) ≡ true → sound quadratic g (part_of_section m g x) ≡ true
      unfolding field_sound
      next-sound t = next-tested _ refl ∙ true_of _ (all-at g.tracers sound_at (subst T (sym t) tt) count is_next)

      -- its part ends within the field
      pub next-room : (to : ℕ) → to ≡ count * part_length quadratic g → to + part_length quadratic g ≤ field_length quadratic g
      next-room to p = omega (arith, p, tracer-room g count is_next)

      pub next-read : {field₀ : List ℕ} {to : ℕ} {field : List ℕ} (w k : ℕ) (y : List ℕ) → TracersRead field₀ count left to field → w ≡ part_length quadratic g → k ≡ w → y ≡ part_of_section m g x
          → TracersRead field₀ (count + 1) left' (to + w) (take to field ++ (y ++ drop k (drop to field)))
      next-read w k y r ew ek ey = record {
        place = omega (arith, ew, r.place, count_more count (part_length quadratic g));
        rest = next-rest;
        filled = blocks-next each-part r.filled is_next r.place (ek ∙ ew) (ey ∙ ap (part_of_section m g) section-is);
      }

    pub all-sound : {totals₀ totals : List ℕ} → TracersSummed totals₀ count left totals → length left < n → true ≡ field_sound quadratic g (parts_of_sections m g bytes)
    unfolding field_sound
    all-sound r l = sym (ap (λ k. all k sound_at) (sym (none-left l)) ∙ r.passed)

    pub all-summed : {totals₀ totals : List ℕ} → TracersSummed totals₀ count left totals → length left < n → AreTotals g (parts_of_sections m g bytes) totals
    all-summed {totals₀} r l s h =
        let i : s < count = omega (arith, none-left l) in
        ap (λ y. get_or y s 0) r.filled.same ∙ get_or-append (table count held_at) (drop count totals₀) 0 s (omega (arith, length-table count held_at)) ∙ get_d-table count held_at s 0 i

    pub all-read : {field₀ : List ℕ} {to : ℕ} {field : List ℕ} → TracersRead field₀ count left to field → length left < n → field ≡ overwrite 0 (parts_of_sections m g bytes) field₀
    all-read {field₀} r l = blocks-all r.filled (omega (arith, none-left l)) each-part ∙ ap (λ y. overwrite 0 y field₀) (sym parts-are)

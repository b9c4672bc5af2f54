-- The stretches of a file: the numbers that a reader finds there are those of the whole file.
use mathlib.Core.Path.{◌≡◌, refl, sym, ap, ◌∙◌}
use mathlib.Core.Bool.{Bool, false}
use mathlib.Core.List.{List, ◌++◌}
use Prim.Native.Nat.{ℕ, ◌+◌, ◌-◌, ◌*◌, ◌/◌, ◌≤◌, ◌<◌}
use native.Mathlib.Nat.{zero-add}
use native.Mathlib.Omega.{arith}
use borrow.Author.Tests.{eq-eqb, ne_eqb}
use lib.Dec.{eqb}
use lib.ListN.{length, take, drop}
use Rattle.std.proofs.lemmas.List.{take-take, drop-take}
use lib.Seq.{length-take-le}
use Rattle.whole.specs.Sum.{all}
use Rattle.whole.specs.Table.{table, overwrite}
use Rattle.whole.proofs.TableLaws.{get_d-table, table-cong, blocks-cong}
use Rattle.whole.proofs.SumLaws.{all-cong}
use Rattle.whole.proofs.OverwriteLaws.{part_room, filled-front}
use Rattle.rules.specs.declared.Shape.{Shape}
use Rattle.rules.specs.declared.Mark.{Mark}
use Rattle.rules.specs.Field.{quadratic, faces, wind_in_range}
use Rattle.rules.specs.Calls.{wind_sound}
use Rattle.rules.specs.Bytes.{number32, number16}
use Rattle.rules.specs.FieldFile.{section_length, section_start, table_start, file_length, offsets_right, file_wind, section_numbers, part_from, file_field}
use Rattle.file_numbers.specs.Laws.{laws32, laws16}
use Rattle.file_numbers.proofs.PlaceLaws.{read-at, number-part}
use Rattle.file_sections.specs.Numbers.{numbers_of, winds_of, part_of_section, parts_of_sections}
use Rattle.file_layout.proofs.LayoutLaws.{tracer-start}
use Rattle.file_layout.proofs.FileLaws.{Places, places}

-- ---- where the stretches stand, in a file of the right length
module _ (m : Mark) (g : Shape) (file : List ℕ) (long : length file ≡ file_length quadratic m g) (tracers table : ℕ) (ht : tracers ≡ section_start quadratic m g 1) (hb : table ≡ table_start quadratic m g) where
  here : Places quadratic m g tracers table
  here = places quadratic m g tracers table ht hb

  pub room : table ≤ length file
  room = let p = here in omega (arith, p.whole, long)

  -- the numbers of the part before the table, cut at the tracers' start
  pub winds-are : (w : List ℕ) → w ≡ take tracers (take table file) → winds_of w (faces g) ≡ file_wind g file
  unfolding winds_of file_wind
  winds-are w e = let p = here in
      let q : w ≡ take tracers file = e ∙ take-take tracers table file (omega arith) in
      ap (λ l. winds_of l (faces g)) q ∙ table-cong (faces g) (λ f. number16 (take tracers file) (2 * f)) (λ f. number16 file (2 * f)) (λ f h. number-part laws16 file 0 tracers (2 * f) (omega arith) ∙ ap (number16 file) (zero-add (2 * f)))

  abbrev section_bytes : ℕ
  section_bytes = 4 * section_length quadratic m g

  -- number i of tracer s's section, cut out behind the tracers' start
  section-number : (s i : ℕ) → s < g.tracers → i < section_length quadratic m g
      → number32 (take section_bytes (drop (s * section_bytes) (take (table - tracers) (drop tracers file)))) (4 * i) ≡ number32 file (section_start quadratic m g (s + 1) + 4 * i)
  section-number s i hs hi =
      let p = here in
      number-part laws32 (take (table - tracers) (drop tracers file)) (s * section_bytes) section_bytes (4 * i) (omega arith)
      ∙ number-part laws32 file tracers (table - tracers) (s * section_bytes + 4 * i) (omega (arith, p.sections, part_room section_bytes hs))
      ∙ ap (number32 file) (omega (arith, p.winds, tracer-start quadratic m g s))

  pub tracers-are : (r : List ℕ) → r ≡ drop tracers (take table file) → parts_of_sections m g r ≡ file_field quadratic m g file
  unfolding parts_of_sections part_of_section numbers_of file_field section_numbers
  tracers-are r e =
      let q : r ≡ take (table - tracers) (drop tracers file) = e ∙ ap (λ k. drop tracers (take k file)) (omega (arith, here.sections)) ∙ drop-take tracers (table - tracers) file in
      ap (parts_of_sections m g) q ∙ blocks-cong g.tracers _ _ (λ s h. ap (part_from quadratic m g) (table-cong (section_length quadratic m g) _ _ (λ i l. section-number s i h l)))

-- ---- tests of the stretches
-- the winds
pub winds-tested : (g : Shape) (s : List ℕ) → length s ≡ 2 * faces g → all (length s / 2) (λ f. wind_in_range (number16 s (2 * f))) ≡ wind_sound g (winds_of s (faces g))
unfolding wind_sound winds_of
winds-tested g s e =
    let n : length s / 2 ≡ faces g = omega (arith, e) in
    rw n (all-cong (faces g) _ _ (λ f h. ap wind_in_range (sym (get_d-table (faces g) (λ f. number16 s (2 * f)) f _ h))))

-- ---- numbers that are read into the front of a buffer
pub front-filled : {A : Type 0} (k n : ℕ) (f : ℕ → A) (t p l : List A) → k ≡ n → n ≤ length l → p ≡ table (length (take k l)) f → table n f ≡ t → p ++ drop k l ≡ overwrite 0 t l
front-filled k n f t p l q h e w =
    let size : length (take k l) ≡ n = ap (λ m. length (take m l)) q ∙ length-take-le n l h in
    (λ i. (e ∙ ap (λ m. table m f) size) i ++ drop (q i) l) ∙ filled-front n f l ∙ ap (λ x. overwrite 0 x l) w

-- ---- the test of length and offsets
-- a number, read from its place on
pub place-at : (file : List ℕ) (at : ℕ) → number32 (take (length file - at) (drop at file)) 0 ≡ number32 file at
place-at file at = read-at laws32 file at _ refl

module _ (m : Mark) (g : Shape) (file : List ℕ) where
  abbrev pub offset : ℕ → Bool
  offset i = eqb (number32 file (table_start quadratic m g + 4 * i)) (section_start quadratic m g i)

  -- entry k of the table's n bytes, with its section
  pub entry-right : (table n : ℕ) → table ≡ table_start quadratic m g → (i k : ℕ) (x : List ℕ) (b : Bool) → k * 4 + 4 ≤ n → i ≡ k → x ≡ take 4 (drop (k * 4) (take n (drop table file)))
      → b ≡ eqb (number32 x 0) (section_start quadratic m g i) → b ≡ offset k
  entry-right table n hb i k x b h e q t =
      let l = take n (drop table file) in
      let there : number32 x 0 ≡ number32 file (table_start quadratic m g + 4 * k) = ap (λ y. number32 y 0) q ∙ laws32.cut l (k * 4) ∙ number-part laws32 file table n (k * 4) h ∙ ap (number32 file) (omega (arith, hb)) in
      t ∙ (λ j. eqb (there j) (section_start quadratic m g (e j)))

  pub wrong-length : (length file ≡ file_length quadratic m g → ⊥) → false ≡ offsets_right quadratic m g file
  unfolding offsets_right
  wrong-length e = rw (ne_eqb (length file) (file_length quadratic m g) e)

  pub wrong-table : length file ≡ file_length quadratic m g → (number32 file (length file - 8) ≡ table_start quadratic m g → ⊥) → false ≡ offsets_right quadratic m g file
  unfolding offsets_right
  wrong-table l e = rw (eq-eqb (length file) (file_length quadratic m g) l, ne_eqb (number32 file (length file - 8)) (table_start quadratic m g) e)

  pub by-offsets : length file ≡ file_length quadratic m g → number32 file (length file - 8) ≡ table_start quadratic m g → (b : Bool) → all (g.tracers + 1) offset ≡ b → b ≡ offsets_right quadratic m g file
  unfolding offsets_right
  by-offsets l e b h = rw (eq-eqb (length file) (file_length quadratic m g) l, eq-eqb (number32 file (length file - 8)) (table_start quadratic m g) e) (sym h)

-- The parts that the sections of a file make, and the field of these parts.
use mathlib.Core.Path.{◌≡◌, refl, ap, ◌∙◌}
use mathlib.Core.List.{List, [], ◌∷◌}
use Prim.Native.Nat.{ℕ, ◌+◌, ◌*◌, ◌<◌}
use native.Mathlib.Omega.{arith}
use lib.ListN.{length, get_or, get_or-append}
use Rattle.whole.proofs.ListParts.{part-of-blocks}
use Rattle.whole.proofs.TableLaws.{length-table, get_d-table, length-blocks}
use Rattle.rules.specs.declared.Shape.{Shape}
use Rattle.rules.specs.declared.Mark.{Mark}
use Rattle.rules.specs.declared.Mark.TheVariants.{Plum, Plu2}
use Rattle.rules.specs.Field.{Kind, faces, part_length, field_length, part, part_of, total}
use Rattle.rules.specs.Bytes.{number32}
use Rattle.rules.specs.FieldFile.{section_length, section_start, section_numbers, part_from, file_field}
use Rattle.file_layout.proofs.LayoutLaws.{tracer-start, length-part_from}

-- ---- the numbers x of a section are the first ones of the part that they make
module _ (κ : Kind) (g : Shape) (x : List ℕ) where
  part_from-number : (m : Mark) (i : ℕ) → length x ≡ section_length κ m g → i < section_length κ m g → get_or (part_from κ m g x) i 0 ≡ get_or x i 0
  unfolding part_from part_of
  part_from-number Plum i e h = get_or-append x (total κ g x ∷ []) 0 i (omega (arith, e))
  part_from-number Plu2 i e h = refl

-- ---- the parts of a file
module _ (κ : Kind) (m : Mark) (g : Shape) (file : List ℕ) where
  length-section : (s : ℕ) → length (section_numbers κ m g file s) ≡ section_length κ m g
  unfolding section_numbers
  length-section s = length-table (section_length κ m g) (λ i. number32 file (section_start κ m g (s + 1) + 4 * i))

  abbrev part-read : ℕ → List ℕ
  part-read s = part_from κ m g (section_numbers κ m g file s)

  length-part-read : (s : ℕ) → length (part-read s) ≡ part_length κ g
  length-part-read s = length-part_from κ g (section_numbers κ m g file s) m (length-section s)

  pub length-file_field : length (file_field κ m g file) ≡ field_length κ g
  unfolding file_field field_length
  length-file_field = length-blocks (part_length κ g) part-read length-part-read g.tracers

  part-of-file : (s : ℕ) → s < g.tracers → part κ g s (file_field κ m g file) ≡ part-read s
  unfolding file_field part
  part-of-file s h = part-of-blocks (part_length κ g) part-read length-part-read g.tracers s h

  -- number i of tracer s, by its place in the file
  pub number-of-file : (s i : ℕ) → s < g.tracers → i < section_length κ m g → get_or (part κ g s (file_field κ m g file)) i 0 ≡ number32 file (2 * faces g + s * (4 * section_length κ m g) + 4 * i)
  unfolding section_numbers
  number-of-file s i hs hi = ap (λ p. get_or p i 0) (part-of-file s hs) ∙ part_from-number κ g (section_numbers κ m g file s) m i (length-section s) hi
      ∙ get_d-table (section_length κ m g) (λ i. number32 file (section_start κ m g (s + 1) + 4 * i)) i 0 hi ∙ ap (λ a. number32 file (a + 4 * i)) (tracer-start κ m g s)

-- Where the sections of a file stand, and how large an admitted shape's file is.
use mathlib.Core.Path.{◌≡◌, refl, ap, ◌∙◌}
use mathlib.Core.List.{List}
use Prim.Native.Nat.{ℕ, zero, suc, ◌+◌, ◌-◌, ◌*◌, ◌≤◌, ◌<◌}
use native.Mathlib.Nat.{mul-pos, mul-le-mul, mul-add}
use native.Mathlib.Omega.{arith}
use lib.ListN.{length}
use borrow.Author.Tests.{ne_eqb}
use Rattle.rules.specs.declared.Shape.{Shape}
use Rattle.rules.specs.declared.Mark.{Mark}
use Rattle.rules.specs.declared.Mark.TheVariants.{Plum, Plu2}
use Rattle.rules.specs.Field.{Kind, quadratic, elements_length, part_length, faces, total, Admitted}
use Rattle.rules.specs.FieldFile.{section_length, section_start, table_start, file_length, part_from}
use Rattle.rules.proofs.StoredLaws.{length-part_of}
use Rattle.rules.proofs.ShapeLaws.{elements-le}
use Rattle.field_layout.proofs.PlaceLaws.{elements-are, part-is, part-le}

-- ---- any kind of element
module _ (κ : Kind) (g : Shape) where
  pub plum-length : section_length κ Plum g ≡ elements_length κ g
  unfolding section_length
  plum-length = refl

  pub plu2-length : section_length κ Plu2 g ≡ part_length κ g
  unfolding section_length
  plu2-length = refl

  -- the numbers x of a section make a part
  pub length-part_from : (x : List ℕ) (m : Mark) → length x ≡ section_length κ m g → length (part_from κ m g x) ≡ part_length κ g
  unfolding part_from
  length-part_from x Plum e = length-part_of κ g x (total κ g x) (e ∙ plum-length)
  length-part_from x Plu2 e = e ∙ plu2-length

part-more : (κ : Kind) (g : Shape) → part_length κ g ≡ elements_length κ g + 1
unfolding part_length
part-more κ g = refl

module _ (κ : Kind) (m : Mark) (g : Shape) where
  pub wind-start : section_start κ m g 0 ≡ 0
  unfolding section_start
  wind-start = refl

  pub start_of : (i : ℕ) → 0 < i → section_start κ m g i ≡ 2 * faces g + (i - 1) * (4 * section_length κ m g)
  unfolding section_start
  start_of i h = rw (ne_eqb i 0 (λ e. omega arith))

  pub tracer-start : (s : ℕ) → section_start κ m g (s + 1) ≡ 2 * faces g + s * (4 * section_length κ m g)
  tracer-start s = let e : s + 1 - 1 ≡ s = omega arith in rw (start_of (s + 1) (omega arith), e)

  pub table_is : table_start κ m g ≡ section_start κ m g (g.tracers + 1)
  unfolding table_start
  table_is = refl

  pub length-is : file_length κ m g ≡ table_start κ m g + 4 * (g.tracers + 1) + 12
  unfolding file_length
  length-is = refl

-- a file without totals is shorter
pub plum-shorter : (κ : Kind) (g : Shape) → 0 < g.tracers → file_length κ Plum g < file_length κ Plu2 g
plum-shorter κ g h =
    let e = elements_length κ g in
    let more : g.tracers * (4 * (e + 1)) ≡ g.tracers * (4 * e) + g.tracers * 4 = ap (λ n. g.tracers * n) (mul-add 4 e 1) ∙ mul-add g.tracers (4 * e) 4 in
    let old = tracer-start κ Plum g g.tracers ∙ ap (λ n. 2 * faces g + g.tracers * (4 * n)) (plum-length κ g) in
    let new = tracer-start κ Plu2 g g.tracers ∙ ap (λ n. 2 * faces g + g.tracers * (4 * n)) (plu2-length κ g ∙ part-more κ g) in
    omega (arith, length-is κ Plum g, length-is κ Plu2 g, table_is κ Plum g, table_is κ Plu2 g, old, new)

-- ---- quadratic elements
module _ (g : Shape) where
  -- a tracer's section has numbers, and at most those of its part
  pub section-within : (m : Mark) → Admitted g → (0 < section_length quadratic m g) × (section_length quadratic m g ≤ part_length quadratic g)
  section-within Plum h = (omega (arith, plum-length quadratic g, elements-are g, mul-pos h.nx-above h.ny-above), omega (arith, plum-length quadratic g, elements-are g, part-is g))
  section-within Plu2 h = (omega (arith, plu2-length quadratic g, part-is g), omega (arith, plu2-length quadratic g))

  -- k tracers take at most this much
  pub tracers-le : (m : Mark) (k : ℕ) → Admitted g → k ≤ 8 → k * (4 * section_length quadratic m g) ≤ 1310752
  tracers-le m k h l = let w : 4 * section_length quadratic m g ≤ 163844 = omega (arith, (section-within m h).1, part-le g h) in mul-le-mul l w

  -- an offset fits a u32
  pub section-le : (m : Mark) (i : ℕ) → Admitted g → i ≤ g.tracers + 1 → section_start quadratic m g i ≤ 1327136
  section-le m zero h l = omega (arith, wind-start quadratic m g)
  section-le m (suc i) h l = omega (arith, start_of quadratic m g (suc i) (omega arith), tracers-le m (suc i - 1) h (omega (arith, h.tracers-small)), elements-le g h)

  pub length-le : (m : Mark) → Admitted g → file_length quadratic m g ≤ 1327184
  length-le m h = omega (arith, length-is quadratic m g, table_is quadratic m g, section-le m (g.tracers + 1) h (omega arith), h.tracers-small)

-- Lengths, starts and rooms of an admitted shape, with numerals: each is a product of factors that the shape bounds.
use mathlib.Core.Path.{◌≡◌, refl, sym, ap, ◌∙◌}
use mathlib.Core.Bool.{true, false}
use Prim.Native.Nat.{ℕ, suc, ◌+◌, ◌*◌, ◌≤◌, ◌<◌}
use native.Mathlib.Nat.{mul-le-mul}
use native.Mathlib.Omega.{arith}
use borrow.Author.Tests.{lt-leb, le-leb, ltb-true, ltb-false}
use lib.IntN.{ℤ, pos, negsuc}
use lib.Signed.{lt_z, le_z}
use Rattle.whole.proofs.OverwriteLaws.{part_room}
use Rattle.rules.specs.declared.Shape.{Shape}
use Rattle.rules.specs.Field.{quadratic, admitted, elements, element, element_length, part_length, field_length, Admitted, elements_length, wind_in_range}
use Rattle.rules.proofs.GridLaws.{element-lt}
use Rattle.rules.proofs.ShapeLaws.{elements-le}
use Rattle.field_layout.specs.Places.{Inside, element_start, most_part, most_field}

pub ten : element_length quadratic ≡ 10
unfolding element_length quadratic
ten = refl

module _ (g : Shape) where
  pub elements-are : elements_length quadratic g ≡ elements g * 10
  unfolding elements_length
  elements-are = ap (λ n. elements g * n) ten

  -- a tracer's part is its elements and one number more
  pub part-is-more : part_length quadratic g ≡ elements_length quadratic g + 1
  unfolding part_length
  part-is-more = refl

  pub part-is : part_length quadratic g ≡ elements g * 10 + 1
  part-is = part-is-more ∙ ap (λ n. n + 1) elements-are

  pub field_is : field_length quadratic g ≡ g.tracers * part_length quadratic g
  unfolding field_length
  field_is = refl

  -- the test on a shape whose bounds are known
  pub is-admitted : Admitted g → admitted g ≡ true
  unfolding admitted
  is-admitted h = rw (le-leb 1 g.nx h.nx-above, le-leb g.nx 64 h.nx-small, le-leb 1 g.ny h.ny-above, le-leb g.ny 64 h.ny-small, le-leb 1 g.tracers h.tracers-above, le-leb g.tracers 8 h.tracers-small) refl

  pub part-le : Admitted g → part_length quadratic g ≤ most_part
  part-le h = omega (arith, part-is, elements-le g h)

  pub field-le : Admitted g → g.tracers * part_length quadratic g ≤ most_field
  field-le h = mul-le-mul h.tracers-small (part-le h)

  -- a tracer's part ends within the field
  pub tracer-room : (s : ℕ) → s < g.tracers → s * part_length quadratic g + part_length quadratic g ≤ field_length quadratic g
  tracer-room s h = omega (arith, part_room (part_length quadratic g) h, field_is)

  pub start-le : (s : ℕ) → Admitted g → s < g.tracers → s * part_length quadratic g ≤ most_field
  start-le s z h = omega (arith, tracer-room s h, field_is, field-le z)

  -- its stored total stands within the field
  pub total-room : (s : ℕ) → s < g.tracers → s * part_length quadratic g + elements_length quadratic g < field_length quadratic g
  total-room s h = omega (arith, tracer-room s h, part-is-more)

  -- an element's numbers end within the field
  pub element-room : (s i j : ℕ) → Inside g s i j → element_start g s i j + 10 ≤ field_length quadratic g
  unfolding element_start
  element-room s i j h = omega (arith, tracer-room s h.tracer, part-is, ap (λ n. element g i j * n) ten, element-lt g i j h.column h.row)

  pub element-small : (s i j : ℕ) → Admitted g → Inside g s i j → element_start g s i j + 10 ≤ most_field
  element-small s i j z h = omega (arith, element-room s i j h, field_is, field-le z)

  pub start_is : (s i j : ℕ) → element_start g s i j ≡ s * part_length quadratic g + element g i j * 10
  unfolding element_start
  start_is s i j = ap (λ n. s * part_length quadratic g + element g i j * n) ten

-- ---- a wind number's range by two tests
pub wind-low : (z : ℤ) → lt_z z (negsuc 1023) ≡ true → wind_in_range z ≡ false
wind-low (pos a) h = let x : ◌≡◌ {A = ℕ} 0 1 = cc in absurd (omega arith)
wind-low (negsuc a) h = lt-leb (suc a) 1024 (omega (arith, ltb-true 1023 a h))

pub wind-high : (z : ℤ) → lt_z z (negsuc 1023) ≡ false → le_z z (pos 1024) ≡ wind_in_range z
wind-high (pos a) h = refl
wind-high (negsuc a) h = sym (le-leb (suc a) 1024 (omega (arith, ltb-false 1023 a h)))

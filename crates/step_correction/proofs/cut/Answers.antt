use mathlib.Core.Path.{sym, ap₂, ◌∙◌}
use Prim.Native.Nat.{◌<◌}
use native.Mathlib.Omega.{arith}
use lib.IntN.{◌*ℤ◌}
use lib.Signed.{le_z, quot_z}
use mir.Facts.{to_z-of_z}
use Rattle.whole.specs.Parts.{positive}
use Rattle.whole.proofs.FloorLaws.{bits_above}
use Rattle.whole.proofs.Sizes.{sizes, sizes-wide, exacts-wide, fits, exact, are-eq}
use Rattle.whole.proofs.WholeLaws.{above-positive}
use Rattle.step_correction.proofs.Laws.{cut_keeps, cut-divides, cut-within, test-yes, test-no, at_least_one}
use Rattle.step_correction.proofs.cut.Goals as goal
use Rattle.step_correction.proofs.cut.Goals.{Else-out-mass}

pub returns-then-out-mass : goal.returns-then-out-mass
returns-then-out-mass c =
    let a = c.args in
    let t = ap₂ le_z (sym (to_z-of_z c.ranges.out)) (sym (to_z-of_z c.ranges.mass)) ∙ c.if-out-mass.true in
    let h = c.requires.within in
    are-eq (record { same = to_z-of_z c.ranges.flux; bound = h }) (cut_keeps a.flux (positive a.out) (positive a.mass) (test-yes a.out a.mass c.requires.not_negative.above c.requires.not_negative_2.above t))

pub overflow_mul-result : goal.overflow_mul-result
overflow_mul-result c = let h = c.requires in let x = h.not_negative_2.small in fits (search sizes depth 20) tt

-- the outflow is above the mass
above : (c : Else-out-mass) → positive c.args.mass < positive c.args.out
above c =
    let a = c.args in
    test-no a.out a.mass c.requires.not_negative.above c.requires.not_negative_2.above (ap₂ le_z (sym (to_z-of_z c.ranges.out)) (sym (to_z-of_z c.ranges.mass)) ∙ c.if-out-mass.false)

pub nonzero_div-result : goal.nonzero_div-result
nonzero_div-result c = let h = c.requires in let x = h.not_negative_2.small in (bits_above c.args.out (at_least_one c.args.out (omega (arith, above (goal.at.nonzero_div-result c).Else-out-mass))), fits (search sizes-wide depth 20) tt)

pub returns : goal.returns
returns c =
    let a = c.args in
    let h = c.requires.within in
    let x = c.requires.not_negative_2.small in
    let y = c.requires.not_negative.small in
    record {
      same = exact (search exacts-wide depth 20) tt ∙ ap₂ (λ m o. quot_z (a.flux *ℤ m) o) (above-positive a.mass c.requires.not_negative_2.above) (above-positive a.out c.requires.not_negative.above) ∙ cut-divides a.flux (positive a.out) (positive a.mass) (above (goal.at.returns c).Else-out-mass);
      bound = cut-within a.flux (positive a.out) (positive a.mass) h;
    }

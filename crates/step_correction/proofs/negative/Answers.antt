use mathlib.Core.Path.{◌≡◌, ap, ◌∙◌}
use native.Mathlib.Omega.{arith}
use lib.IntN.{pos, ◌-ℤ◌}
use mir.Syntax.{w64}
use mir.Val.{to_z, of_z}
use mir.Facts.{to_z-of_z}
use Rattle.std.specs.Int.{int_max}
use Rattle.whole.proofs.Sizes.{exacts, exact}
use Rattle.whole.proofs.WholeLaws.{negative-le, max-negative}
use Rattle.step_correction.proofs.negative.Goals as goal

pub returns : goal.returns
returns c =
    let x = c.args.x in
    let h = c.requires in
    let e : to_z w64 (of_z w64 (pos 0 -ℤ to_z w64 (of_z w64 x))) ≡ pos 0 -ℤ x = exact (search exacts depth 20) tt in
    record {
      same = to_z-of_z {w = w64} (record { sfits = c.max.type_inv }) ∙ c.max.ensures.value ∙ ap (λ z. int_max z (pos 0)) e ∙ max-negative x;
      bound = record { within = omega (arith, negative-le x, c.requires.within) };
    }

use mathlib.Core.Path.{◌≡◌, ap, ◌∙◌}
use native.Mathlib.Omega.{arith}
use lib.IntN.{pos}
use mir.Syntax.{w64}
use mir.Val.{to_z, of_z}
use mir.Facts.{to_z-of_z}
use Rattle.std.specs.Int.{int_max}
use Rattle.whole.proofs.WholeLaws.{positive-le, max-positive}
use Rattle.step_correction.proofs.positive.Goals as goal

pub returns : goal.returns
returns c =
    let x = c.args.x in
    let e : to_z w64 (of_z w64 x) ≡ x = to_z-of_z {w = w64} c.ranges.x in
    record {
      same = to_z-of_z {w = w64} (record { sfits = c.max.type_inv }) ∙ c.max.ensures.value ∙ ap (λ z. int_max z (pos 0)) e ∙ max-positive x;
      bound = record { within = omega (arith, positive-le x, c.requires.within) };
    }

use mathlib.Core.Path.{◌∙◌}
use native.Mathlib.Omega.{arith}
use Rattle.whole.proofs.BoundLaws.{within-le, within-sub}
use Rattle.whole.proofs.Sizes.{exacts-wide, exact}
use Rattle.rules.specs.Field.{quadratic}
use Rattle.rules.proofs.HeldLaws.{node_rise-within}
use Rattle.step_correction.proofs.HeldLaws.{rise-divides, six}
use Rattle.step_correction.proofs.held.node_rise.Goals as goal

pub returns : goal.returns
returns c =
    let a = c.args in
    let h = c.requires.within in
    let k = c.requires.within_2 in
    record {
      same = exact (search exacts-wide depth 20) tt ∙ rise-divides a.flux a.limited;
      bound = node_rise-within quadratic _ a.flux a.limited (omega (arith, six)) (within-le (within-sub h k) (omega (arith, six)));
    }

use Rattle.std.proofs.Common.{sym, subst}
use mir.Syntax.{w64}
use Rattle.whole.specs.Bound.{Within}
use Rattle.whole.proofs.Sizes.{read_back}
use Rattle.step_upwind.proofs.FaceProducts.side.Goals as goal

pub invariant_of-result : goal.invariant_of-result
invariant_of-result c =
    let w = c.args.self.stage.winds.in_range.small c.args.face c.requires in
    record { in_range = subst (Within 1024) (sym (read_back w64 c.at_face.ensures tt)) w; small = c.at_face-2.ensures.small }

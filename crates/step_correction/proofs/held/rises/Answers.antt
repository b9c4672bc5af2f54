use Rattle.std.proofs.Common.{◌≡◌, ap, subst, sym, ◌∙◌, arith}
use lib.IntN.{pos}
use mir.Syntax.{w32, w64}
use mir.Val.{to_z, of_z}
use Rattle.whole.specs.Bound.{Within}
use Rattle.whole.specs.Table.{at}
use Rattle.whole.proofs.Sizes.{back_is, read_back}
use Rattle.whole.proofs.FillLaws.{filled_none, filled_next, filled-rest}
use Rattle.rules.specs.Field.{quadratic}
use Rattle.rules.specs.HeldFlux.{node_rise}
use Rattle.rules.specs.Sizes.{flux_size}
use Rattle.step_correction.proofs.held.rises.Goals as goal
use Rattle.step_correction.proofs.held.rises.Goals.{In-loop-f, After-from}

pub loop-f-init : goal.loop-f-init
loop-f-init c = filled_none (omega arith)

-- the flux that a turn reads
flux_is : (c : In-loop-f) → at c.loop-f.fluxes c.loop-f.f ≡ at c.args.fluxes.now c.loop-f.f
flux_is c = filled-rest c.loop-f.invariant c.loop-f.f (pos 0) (omega arith)

-- as it is read
read : (c : In-loop-f) → to_z w64 (of_z w64 (at c.loop-f.fluxes c.loop-f.f)) ≡ at c.args.fluxes.now c.loop-f.f
read c = ap (λ z. to_z w64 (of_z w64 z)) (flux_is c) ∙ back_is w64 _ (c.requires.all_within.all c.loop-f.f) tt

-- the limited flux that a turn reads
limited_is : (c : After-from) → to_z w64 (of_z w64 c.from.result) ≡ at c.args.report.now c.loop-f.f
limited_is c =
    let h = c.requires.all_within_2.all c.loop-f.f in
    ap (λ z. to_z w64 (of_z w64 z)) (c.from.ensures ∙ back_is w32 _ h tt) ∙ back_is w64 _ h tt

pub node_rise-requires-clause-within : goal.node_rise-requires-clause-within
node_rise-requires-clause-within c = subst (Within flux_size) (sym (read (goal.at.node_rise-requires-clause-within c).In-loop-f)) (c.requires.all_within.all c.loop-f.f)

pub loop-f-preserved : goal.loop-f-preserved
loop-f-preserved c =
    let x = (goal.at.loop-f-preserved c).In-loop-f in
    let y = (goal.at.loop-f-preserved c).After-from in
    filled_next c.loop-f.invariant (omega arith) (read_back w64 c.node_rise.ensures tt ∙ (λ i. node_rise quadratic (read x i) (limited_is y i)))

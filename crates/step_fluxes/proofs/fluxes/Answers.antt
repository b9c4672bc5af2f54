use Rattle.std.proofs.Common.{◌≡◌, sym, subst, ap, ◌∙◌, pos, arith}
use mir.Syntax.{w64}
use mir.Val.{to_z, of_z}
use Rattle.whole.specs.Bound.{Within}
use Rattle.whole.specs.Table.{at}
use Rattle.whole.proofs.FillLaws.{filled_none, filled_next, filled-rest}
use Rattle.whole.proofs.Sizes.{back_is, read_back}
use Rattle.step_fluxes.specs.Amount.{amount_size, rounded}
use Rattle.step_fluxes.proofs.fluxes.Goals as goal
use Rattle.step_fluxes.proofs.fluxes.Goals.{In-loop-amount}

pub loop-amount-init : goal.loop-amount-init
loop-amount-init c = filled_none (omega arith)

-- the sum that a turn reads
sum_is : (c : In-loop-amount) → to_z w64 (of_z w64 (at c.loop-amount.amounts c.loop-amount.amount-index)) ≡ at c.args.amounts.now c.loop-amount.amount-index
sum_is c = let i = c.loop-amount.amount-index in
    ap (λ z. to_z w64 (of_z w64 z)) (filled-rest c.loop-amount.invariant i (pos 0) (omega arith)) ∙ back_is w64 (at c.args.amounts.now i) (c.requires.all i) tt

pub rounded-requires : goal.rounded-requires
rounded-requires c = subst (Within amount_size) (sym (sum_is (goal.at.rounded-requires c).In-loop-amount)) (c.requires.all c.loop-amount.amount-index)

pub loop-amount-preserved : goal.loop-amount-preserved
loop-amount-preserved c = filled_next c.loop-amount.invariant (omega arith) (read_back w64 c.rounded.ensures tt ∙ ap rounded (sum_is (goal.at.loop-amount-preserved c).In-loop-amount))

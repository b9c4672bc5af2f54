use mathlib.Core.Path.{◌≡◌, ap, ◌∙◌}
use Prim.Native.Nat.{◌-◌}
use native.Mathlib.Omega.{arith}
use Rattle.whole.specs.Table.{at}
use Rattle.rules.specs.Field.{quadratic}
use Rattle.rules.specs.Limiter.{closed_unlevelled}
use Rattle.rules.specs.Calls.{withdrawn}
use Rattle.field_elements.proofs.LoadLaws.{own-within, withdrawn-is}
use Rattle.field_elements.proofs.element.withdraw.Goals as goal
use Rattle.field_elements.proofs.element.withdraw.Goals.{After-close_unlevelled}

pub invariant_of-close_unlevelled-clause-all_within : goal.invariant_of-close_unlevelled-clause-all_within
invariant_of-close_unlevelled-clause-all_within c = rw c.values-psi.ensures (own-within c.args.part.now (omega (arith, c.requires)))

-- what the closing gives
closed-is : (c : After-close_unlevelled) → closed_unlevelled quadratic (at c.values-psi.result) (c.mass.result - c.args.q) ≡ withdrawn quadratic 0 c.args.q c.args.part.now
closed-is c = rw (c.values-psi.ensures, c.mass.ensures) (withdrawn-is c.args.part.now c.args.q)

pub returns-clause-numbers : goal.returns-clause-numbers
returns-clause-numbers c = c.close_unlevelled.ensures.numbers ∙ ap (λ x. x.numbers) (closed-is (goal.at.returns-clause-numbers c).After-close_unlevelled)

pub returns-clause-clipped : goal.returns-clause-clipped
returns-clause-clipped c = c.close_unlevelled.ensures.clipped ∙ ap (λ x. x.clipped) (closed-is (goal.at.returns-clause-clipped c).After-close_unlevelled)

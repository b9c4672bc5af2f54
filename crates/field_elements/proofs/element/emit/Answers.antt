use mathlib.Core.Path.{◌≡◌, ap, ◌∙◌}
use Prim.Native.Nat.{◌+◌}
use native.Mathlib.Omega.{arith}
use Rattle.whole.specs.Table.{at}
use Rattle.rules.specs.Field.{quadratic}
use Rattle.rules.specs.Limiter.{closed}
use Rattle.rules.specs.Calls.{emitted}
use Rattle.field_elements.proofs.LoadLaws.{own-within, emitted-is}
use Rattle.field_elements.proofs.element.emit.Goals as goal
use Rattle.field_elements.proofs.element.emit.Goals.{After-close}

pub invariant_of-close-clause-all_within : goal.invariant_of-close-clause-all_within
invariant_of-close-clause-all_within c = rw c.values-psi.ensures (own-within c.args.part.now (omega (arith, c.requires)))

-- what the closing gives
closed-is : (c : After-close) → closed quadratic (at c.values-psi.result) (c.mass.result + c.args.q) ≡ emitted quadratic 0 c.args.q c.args.part.now
closed-is c = rw (c.values-psi.ensures, c.mass.ensures) (emitted-is c.args.part.now c.args.q)

pub returns-clause-numbers : goal.returns-clause-numbers
returns-clause-numbers c = c.close.ensures.numbers ∙ ap (λ x. x.numbers) (closed-is (goal.at.returns-clause-numbers c).After-close)

pub returns-clause-clipped : goal.returns-clause-clipped
returns-clause-clipped c = c.close.ensures.clipped ∙ ap (λ x. x.clipped) (closed-is (goal.at.returns-clause-clipped c).After-close)

use mathlib.Core.Path.{◌≡◌, sym, ap, subst, ◌∙◌}
use lib.IntN.{pos, ◌+ℤ◌, ◌*ℤ◌}
use mir.Syntax.{w64}
use mir.Val.{to_z, of_z}
use Rattle.whole.specs.Table.{at}
use Rattle.whole.specs.Bound.{Within}
use Rattle.whole.proofs.Sizes.{exacts, exact, back_is, read_back}
use Rattle.rules.specs.Field.{quadratic}
use Rattle.rules.specs.Limiter.{signed_sum, mean_shift, closed, adjusted, closed_unlevelled}
use Rattle.rules.specs.Sizes.{shift_size}
use Rattle.limiter.specs.Shifted.{shifted}
use Rattle.limiter.proofs.Laws.{sum-shifted}
use Rattle.limiter.proofs.Closing.close.Goals as goal
use Rattle.limiter.proofs.Closing.close.Goals.{After-mean_shift-shift}

pub mean_shift-shift-requires : goal.mean_shift-shift-requires
mean_shift-shift-requires c = read_back w64 c.weighted_sum-sum.ensures tt

-- what levelling adds is small
shift_small : (c : After-mean_shift-shift) → Within shift_size c.mean_shift-shift.result
shift_small c = subst (Within shift_size) (sym c.mean_shift-shift.ensures.same) c.mean_shift-shift.ensures.bound

-- the shift as it is read back
shift_is : (c : After-mean_shift-shift) → to_z w64 (of_z w64 c.mean_shift-shift.result) ≡ mean_shift quadratic (at c.args.self.psi.now) c.args.self.target
shift_is c = back_is w64 _ (shift_small c) tt ∙ c.mean_shift-shift.ensures.same

pub invariant_of-raised : goal.invariant_of-raised
invariant_of-raised c =
    let b = (goal.at.invariant_of-raised c).After-mean_shift-shift in
    let p = c.args.self.psi.now in
    let w = c.weighted_sum-sum.ensures in
    let s = c.mean_shift-shift.ensures in
    let sum : to_z w64 (of_z w64 (to_z w64 (of_z w64 c.weighted_sum-sum.result) +ℤ to_z w64 (of_z w64 (pos 36 *ℤ to_z w64 (of_z w64 c.mean_shift-shift.result)))))
    ≡ signed_sum quadratic (at p) +ℤ pos 36 *ℤ mean_shift quadratic (at p) c.args.self.target = exact (search exacts depth 20) tt in
    record {
      small = subst (Within shift_size) (sym (shift_is b)) s.bound;
      sum_is = sum ∙ ap (λ z. signed_sum quadratic (at p) +ℤ pos 36 *ℤ z) (sym (shift_is b)) ∙ sum-shifted p _;
    }

-- what the closing of raised values gives is what the closing gives
closed-is : (c : After-mean_shift-shift) → let a = c.args.self in closed_unlevelled quadratic (shifted a.psi.now (to_z w64 (of_z w64 c.mean_shift-shift.result))) a.target ≡ closed quadratic (at a.psi.now) a.target
unfolding closed adjusted
closed-is c = let a = c.args.self in ap (λ z. closed_unlevelled quadratic (shifted a.psi.now z) a.target) (shift_is c)

pub returns-clause-numbers : goal.returns-clause-numbers
returns-clause-numbers c = c.close.ensures.numbers ∙ ap (λ x. x.numbers) (closed-is (goal.at.returns-clause-numbers c).After-mean_shift-shift)

pub returns-clause-clipped : goal.returns-clause-clipped
returns-clause-clipped c = c.close.ensures.clipped ∙ ap (λ x. x.clipped) (closed-is (goal.at.returns-clause-clipped c).After-mean_shift-shift)

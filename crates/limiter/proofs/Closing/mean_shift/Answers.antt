use mathlib.Core.Path.{◌≡◌, ap, ◌∙◌}
use Prim.Native.Nat.{◌*◌}
use native.Mathlib.Omega.{arith}
use lib.IntN.{pos, ◌-ℤ◌}
use mir.Syntax.{w64}
use mir.Val.{to_z, of_z}
use mir.Facts.{to_z_pos}
use Rattle.whole.specs.Table.{at}
use Rattle.whole.specs.Bound.{Within, Are, floor_div}
use Rattle.whole.specs.Sum.{sum}
use Rattle.whole.proofs.BoundLaws.{within-le, within-sub, within-floor}
use Rattle.whole.proofs.Sizes.{sizes, exacts, exact, fits, within, back_is}
use Rattle.rules.specs.Field.{quadratic, weight_sum}
use Rattle.rules.specs.Limiter.{signed_sum, mean_shift}
use Rattle.rules.specs.Sizes.{shift_size, target_size, closing_size}
use Rattle.limiter.proofs.Laws.{sum-within}
use Rattle.limiter.proofs.Closing.mean_shift.Goals as goal
use Rattle.limiter.proofs.Closing.mean_shift.Goals.{Start}

-- the target as a signed number, and the values' sum
target_is : (c : Start) → Are target_size (to_z w64 c.args.self.target) (pos c.args.self.target)
target_is c = record { same = to_z_pos w64 (omega (arith, c.args.self.target_le_target_size)); bound = record { within = c.args.self.target_le_target_size } }

sum_is : (c : Start) → Are (36 * closing_size) c.args.sum (signed_sum quadratic (at c.args.self.psi.now))
sum_is c = record { same = c.requires; bound = sum-within c.args.self.psi.now c.args.self.all_within }

pub overflow_sub-self : goal.overflow_sub-self
overflow_sub-self c = let t = target_is (goal.at.overflow_sub-self c).Start in let s = sum_is (goal.at.overflow_sub-self c).Start in fits (search sizes depth 20) tt

-- the difference that is divided
difference : (c : Start) → to_z w64 (of_z w64 (to_z w64 c.args.self.target -ℤ to_z w64 (of_z w64 c.args.sum))) ≡ pos c.args.self.target -ℤ signed_sum quadratic (at c.args.self.psi.now)
difference c = let t = target_is c in let s = sum_is c in exact (search exacts depth 20) tt

pub floor_div-requires-clause-within : goal.floor_div-requires-clause-within
floor_div-requires-clause-within c = let t = target_is (goal.at.floor_div-requires-clause-within c).Start in let s = sum_is (goal.at.floor_div-requires-clause-within c).Start in within (search sizes depth 20) tt

pub returns : goal.returns
unfolding mean_shift weight_sum quadratic sum
returns c =
    let b = (goal.at.returns c).Start in
    let d = pos b.args.self.target -ℤ signed_sum quadratic (at b.args.self.psi.now) in
    let small : Within shift_size (floor_div d 36) = within-floor d 36 shift_size (omega arith) (within-le (within-sub (target_is b).bound (sum_is b).bound) (omega arith)) in
    let e : c.floor_div.result ≡ floor_div d 36 = c.floor_div.ensures ∙ ap (λ z. floor_div z 36) (difference b) in
    record { same = ap (λ z. to_z w64 (of_z w64 z)) e ∙ back_is w64 (floor_div d 36) small tt; bound = small }

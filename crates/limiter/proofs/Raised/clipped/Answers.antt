use mathlib.Core.Path.{◌≡◌, sym, ap, ◌∙◌}
use Prim.Native.Nat.{◌*◌}
use native.Mathlib.Omega.{arith}
use lib.IntN.{pos, nat_abs, ◌-ℤ◌}
use mir.Syntax.{w64}
use mir.Val.{to_z, of_z}
use mir.Facts.{to_z_pos}
use Rattle.whole.specs.Bound.{Are}
use Rattle.whole.proofs.Sizes.{sizes, exacts, exact, fits}
use Rattle.rules.specs.Field.{quadratic, weighted}
use Rattle.rules.specs.Limiter.{signed_sum, clipped}
use Rattle.rules.specs.Sizes.{levelled_size}
use Rattle.rules.proofs.ClippedLaws.{clipped-difference}
use Rattle.limiter.specs.Shifted.{shifted}
use Rattle.limiter.proofs.Laws.{cut_value, cut_sum, sum-shifted-within, clipped-le_size}
use Rattle.limiter.proofs.Raised.clipped.Goals as goal
use Rattle.limiter.proofs.Raised.clipped.Goals.{Start}

-- P as a signed number, and the sum of the values before truncation
p-is : (c : Start) → let a = c.args.self in Are (36 * levelled_size) (to_z w64 c.args.p) (pos (weighted quadratic (cut_value a.closing.psi.now a.shift)))
p-is c =
    let a = c.args.self in
    let small = cut_sum a.closing.psi.now a.shift a.closing.all_within a.small in
    record { same = to_z_pos w64 (omega (arith, c.requires, small)) ∙ ap pos c.requires; bound = record { within = small } }

sum_is : (c : Start) → let a = c.args.self in Are (36 * levelled_size) a.sum (signed_sum quadratic (shifted a.closing.psi.now a.shift))
sum_is c = let a = c.args.self in record { same = a.sum_is; bound = sum-shifted-within a.closing.psi.now a.shift a.closing.all_within a.small }

pub overflow_cast-p : goal.overflow_cast-p
overflow_cast-p c = let a = c.args.self in record { sfits = omega (arith, c.requires, cut_sum a.closing.psi.now a.shift a.closing.all_within a.small) }

pub overflow_sub-p : goal.overflow_sub-p
overflow_sub-p c = let p = p-is (goal.at.overflow_sub-p c).Start in let s = sum_is (goal.at.overflow_sub-p c).Start in fits (search sizes depth 20) tt

difference : (c : Start) → let a = c.args.self in to_z w64 (of_z w64 (to_z w64 c.args.p -ℤ to_z w64 (of_z w64 a.sum))) ≡ pos (clipped quadratic (shifted a.closing.psi.now a.shift))
difference c =
    let a = c.args.self in
    let v = shifted a.closing.psi.now a.shift in
    let p = p-is c in
    let s = sum_is c in
    let d : to_z w64 (of_z w64 (to_z w64 c.args.p -ℤ to_z w64 (of_z w64 a.sum))) ≡ pos (weighted quadratic (cut_value a.closing.psi.now a.shift)) -ℤ signed_sum quadratic v = exact (search exacts depth 20) tt in
    d ∙ sym (clipped-difference quadratic v)

pub returns-clause-value : goal.returns-clause-value
returns-clause-value c = c.unsigned_abs.ensures.value ∙ ap nat_abs (difference (goal.at.returns-clause-value c).Start)

pub returns-clause-upper_bound : goal.returns-clause-upper_bound
returns-clause-upper_bound c =
    let b = (goal.at.returns-clause-upper_bound c).Start in
    let a = b.args.self in
    omega (arith, c.unsigned_abs.ensures.value, ap nat_abs (difference b), clipped-le_size a.closing.psi.now a.shift a.closing.all_within a.small)

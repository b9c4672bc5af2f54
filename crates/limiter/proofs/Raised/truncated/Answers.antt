use mathlib.Core.Path.{◌≡◌, refl, subst, ◌∙◌}
use Prim.Native.Nat.{ℕ, ◌^◌, ◌<◌}
use native.Mathlib.Omega.{arith}
use lib.IntN.{ℤ, pos, negsuc, nat_abs, ◌+ℤ◌}
use mir.Syntax.{w64}
use mir.Val.{to_z, of_z}
use Rattle.std.specs.Prelude.{Result, Ok, Err}
use Rattle.std.specs.Int.{FitsUnsignedBits}
use Rattle.std.specs.Result.{OkIff, result_unwrap_or}
use Rattle.whole.specs.Parts.{positive}
use Rattle.whole.specs.Table.{at}
use Rattle.rules.specs.Limiter.{truncated}
use Rattle.whole.proofs.BoundLaws.{within-add}
use Rattle.whole.proofs.Sizes.{exacts, exact}
use Rattle.limiter.proofs.Raised.truncated.Goals as goal

-- the u64 of a number, or 0 where there is none
as-positive : {E : Type 0} (r : Result ℕ E) (z : ℤ) → nat_abs z < 2 ^ 64 → OkIff r (FitsUnsignedBits 64 z) (nat_abs z) → result_unwrap_or r 0 ≡ positive z
unfolding positive
as-positive (Ok x) (pos n) l h = h.1
as-positive (Ok x) (negsuc n) l h = absurd h.0
as-positive (Err e) (pos n) l h = absurd (h l)
as-positive (Err e) (negsuc n) l h = refl

pub returns-clause-value : goal.returns-clause-value
unfolding truncated
returns-clause-value c =
    let a = c.args.self in
    let h = a.closing.all_within.all c.args.k in
    let b = a.small in
    let z = at a.closing.psi.now c.args.k +ℤ a.shift in
    let sum : to_z w64 (of_z w64 (to_z w64 (of_z w64 (at a.closing.psi.now c.args.k)) +ℤ to_z w64 (of_z w64 a.shift))) ≡ z = exact (search exacts depth 20) tt in
    c.unwrap_or.ensures ∙ as-positive c.try_from.result z (omega (arith, (within-add h b).within)) (subst (λ y. OkIff c.try_from.result (FitsUnsignedBits 64 y) (nat_abs y)) sum c.try_from.ensures)

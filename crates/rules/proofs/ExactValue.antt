-- The exact value of an f64 by its bits is the value that the toolchain's meaning of f64 gives it.
use mathlib.Core.Path.{◌≡◌, subst}
use mathlib.Core.Bool.{Bool, cond}
use Prim.Native.Nat.{ℕ, zero, suc, ◌+◌, ◌*◌, ◌-◌, ◌^◌}
use borrow.Author.Tests.{ne_eqb, eqb-false, not-true}
use native.Mathlib.Nat.{mul-one}
use native.Mathlib.Omega.{arith}
use lib.Dec.{T, eqb}
use lib.Ieee.{binary64, of_fields, of_bits}
use lib.Ieee.Exact.{HasValue, odd_sign}
use Rattle.whole.proofs.Cases.{true_of}
use Rattle.rules.specs.WindRecords.{sign_bit, exponent, fraction, finite, magnitude}

fields : (s : Bool) (e f : ℕ) → (e ≡ 2047 → ⊥) → HasValue (of_fields binary64 s e f) s (cond (eqb e 0) f ((2 ^ 52 + f) * 2 ^ (e - 1))) (2 ^ 1074)
unfolding of_fields
fields s zero f h = subst (λ n. HasValue (of_fields binary64 s 0 f) s n (2 ^ 1074)) (mul-one f) (odd_sign 53 s f 0 1074)
fields s (suc e) f h = let d : suc e - 1 ≡ e = omega arith in rw (ne_eqb (suc e) 2047 h, ne_eqb (suc e) 0 (λ z. omega arith), d) (odd_sign 53 s (2 ^ 52 + f) e 1074)

-- a finite f64 of these bits has this sign and the size magnitude / 2^1074
pub exact-value : (bits : ℕ) → T (finite bits) → HasValue (of_bits binary64 bits) (sign_bit bits) (magnitude bits) (2 ^ 1074)
unfolding of_bits magnitude
exact-value bits t = fields (sign_bit bits) (exponent bits) (fraction bits) (eqb-false (exponent bits) 2047 (not-true (eqb (exponent bits) 2047) (true_of (finite bits) t)))

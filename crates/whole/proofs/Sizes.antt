-- Bounds that a search computes along an expression.
-- `Sized z` is a number with a proof that z is within it. `Exact r z` says that r, as the machine reads it back after each
-- operation, is z, under a test that computes. So every overflow need is `fits (search sizes depth 20) tt`, and every signed
-- result `exact (search exacts depth 20) tt`. A search takes the shallowest proof: the sets are small, and layered.
use mathlib.Core.Path.{◌≡◌, refl, sym, ap, subst, ◌∙◌}
use mathlib.Core.Bool.{Bool, true, ◌&&◌}
use mathlib.Core.List.{List}
use Prim.Native.Nat.{ℕ, suc, ◌+◌, ◌*◌, ◌/◌, ◌%◌, ◌^◌, ◌<◌}
use native.Mathlib.Nat.{le_trans, le_of_lt, lt_of_le_of_lt}
use native.Mathlib.Omega.{arith}
use lib.Bits.{bit_and}
use lib.Dec.{T, ltb, leb, leb→le, ltb→lt}
use lib.IntN.{ℤ, pos, negsuc, neg_ℤ, nat_abs, ◌+ℤ◌, ◌*ℤ◌}
use lib.ListN.{get_or}
use lib.Signed.{mag, quot_z, rem_z, lt_z, le_z}
use mir.Syntax.{Width, w32, w64}
use mir.Val.{SFits, Fits, bits, hbits, to_z, of_z}
use mir.Facts.{to_z-of_z, and_yes, to_z_pos}
use Rattle.whole.specs.Bound.{Within, Are, AllWithin, floor_div}
use Rattle.whole.proofs.BoundLaws.{within-le, within-add, within-mul, within-neg, within-pos, within-neg-suc, within-floor-any, within-rem, within-quot, within-mag, within-back, mag-le, low_bit, parity-bit}

pub record Sized (z : ℤ) : Type 0 where
  pub size : ℕ
  pub small : Within size z

pub record Exact (r z : ℤ) : Type 0 where
  pub size : ℕ
  pub small : Within size r
  pub good : Bool
  pub same : T good → r ≡ z

-- ---- the answers
pub fits : {w : Width} {z : ℤ} (p : Sized z) → T (ltb p.size (2 ^ hbits w)) → SFits w z
fits {w} {z} p t = record { sfits = lt_of_le_of_lt (le_trans (mag-le z) p.small.within) (ltb→lt p.size (2 ^ hbits w) t) }

pub within : {n : ℕ} {z : ℤ} (p : Sized z) → T (leb p.size n) → Within n z
within {n} p t = within-le p.small (leb→le p.size n t)

-- a number that fits, written and read back
pub back_is : {n : ℕ} (w : Width) (z : ℤ) → Within n z → T (ltb n (2 ^ hbits w)) → to_z w (of_z w z) ≡ z
back_is {n} w z p t = to_z-of_z (fits (record { size = n; small = p }) t)

-- what a call gave, written and read back
pub read_back : {n : ℕ} {r z : ℤ} (w : Width) → Are n r z → T (ltb n (2 ^ hbits w)) → to_z w (of_z w r) ≡ z
read_back {n} {r} w p t = back_is w r (subst (λ (x : ℤ). Within n x) (sym p.same) p.bound) t ∙ p.same

pub exact : {r z : ℤ} (p : Exact r z) → T p.good → r ≡ z
exact p t = p.same t

pub are-eq : {n : ℕ} {r z z' : ℤ} → Are n r z → z ≡ z' → Are n r z'
are-eq {n} p e = record { same = p.same ∙ e; bound = subst (λ (x : ℤ). Within n x) e p.bound }

pub bounded : {n : ℕ} {r z z' : ℤ} (p : Exact r z) → T p.good → T (leb p.size n) → z ≡ z' → Are n r z'
bounded {n} p g t e = are-eq (record { same = p.same g; bound = subst (λ (x : ℤ). Within n x) (p.same g) (within-le p.small (leb→le p.size n t)) }) e

-- ---- rules for sizes
abbrev pub s-leaf : (z : ℤ) (n : ℕ) → Within n z → Sized z
s-leaf z n p = record { size = n; small = p }

abbrev pub s-pos : (k : ℕ) → Sized (pos k)
s-pos k = record { size = k; small = within-pos k }

abbrev pub s-neg-suc : (k : ℕ) → Sized (negsuc k)
s-neg-suc k = record { size = suc k; small = within-neg-suc k }

abbrev pub s-add : (a b : ℤ) → Sized a → Sized b → Sized (a +ℤ b)
s-add a b p q = record { size = p.size + q.size; small = within-add p.small q.small }

abbrev pub s-mul : (a b : ℤ) → Sized a → Sized b → Sized (a *ℤ b)
s-mul a b p q = record { size = p.size * q.size; small = within-mul p.small q.small }

abbrev pub s-neg : (a : ℤ) → Sized a → Sized (neg_ℤ a)
s-neg a p = record { size = p.size; small = within-neg p.small }

abbrev pub s-floor : (a : ℤ) (k : ℕ) → Sized a → Sized (floor_div a k)
s-floor a k p = record { size = p.size / k + 1; small = within-floor-any a k p.size p.small }

abbrev pub s-back : (w : Width) (z : ℤ) → Sized z → Sized (to_z w (of_z w z))
s-back w z p = record { size = p.size; small = within-back w z p.small }

abbrev pub s-quot : (a b : ℤ) → Sized a → Sized (quot_z a b)
s-quot a b p = record { size = p.size; small = within-quot a b p.small }

abbrev pub s-rem : (a b : ℤ) → Sized a → Sized (rem_z a b)
s-rem a b p = record { size = p.size; small = within-rem a b p.small }

-- the lowest bit
abbrev pub s-parity : (w : Width) (z : ℤ) → Sized (to_z w (bit_and (of_z w z) 1))
s-parity w z = record { size = 1; small = subst (Within 1) (sym (low_bit w z)) (record { within = omega arith }) }

-- what a call gave, or a list whose numbers are bounded holds
abbrev pub s_call : (r z : ℤ) (n : ℕ) → Are n r z → Sized r
s_call r z n p = record { size = n; small = subst (λ (x : ℤ). Within n x) (sym p.same) p.bound }

abbrev pub s-at : (l : List ℤ) (i : ℕ) (n : ℕ) → AllWithin n l → Sized (get_or l i (pos 0))
s-at l i n h = record { size = n; small = h.all i }

-- a number of a narrower type
abbrev pub s-i16 : (z : ℤ) → mag z < 2 ^ 15 → Sized z
s-i16 z h = record { size = 2 ^ 15; small = within-mag z (2 ^ 15) h }

abbrev pub s-i32 : (z : ℤ) → mag z < 2 ^ 31 → Sized z
s-i32 z h = record { size = 2 ^ 31; small = within-mag z (2 ^ 31) h }

abbrev pub s-u32 : (n : ℕ) → Fits w32 n → Sized (pos n)
s-u32 n f = record { size = 2 ^ 32; small = record { within = le_of_lt f.fits } }

-- ---- rules for values
abbrev pub e-leaf : (z : ℤ) (n : ℕ) → Within n z → Exact z z
e-leaf z n p = record { size = n; small = p; good = true; same = λ t. refl }

abbrev pub e-pos : (k : ℕ) → Exact (pos k) (pos k)
e-pos k = record { size = k; small = within-pos k; good = true; same = λ t. refl }

abbrev pub e-neg-suc : (k : ℕ) → Exact (negsuc k) (negsuc k)
e-neg-suc k = record { size = suc k; small = within-neg-suc k; good = true; same = λ t. refl }

abbrev pub e-back : (w : Width) (r z : ℤ) → Exact r z → Exact (to_z w (of_z w r)) z
e-back w r z p = record {
  size = p.size;
  small = within-back w r p.small;
  good = p.good && ltb p.size (2 ^ hbits w);
  same = λ t. let y = and_yes p.good (ltb p.size (2 ^ hbits w)) t in
      to_z-of_z (fits (record { size = p.size; small = p.small }) y.1) ∙ p.same y.0;
}

-- two operands, each exact
pub both-same : {A : Type 0} (f : ℤ → ℤ → A) {r s a b : ℤ} (p : Exact r a) (q : Exact s b) → T (p.good && q.good) → f r s ≡ f a b
both-same f p q t = let y = and_yes p.good q.good t in λ i. f (p.same y.0 i) (q.same y.1 i)

abbrev pub e_add : (r s a b : ℤ) → Exact r a → Exact s b → Exact (r +ℤ s) (a +ℤ b)
e_add r s a b p q = record { size = p.size + q.size; small = within-add p.small q.small; good = p.good && q.good; same = λ t. both-same ◌+ℤ◌ p q t }

abbrev pub e_mul : (r s a b : ℤ) → Exact r a → Exact s b → Exact (r *ℤ s) (a *ℤ b)
e_mul r s a b p q = record { size = p.size * q.size; small = within-mul p.small q.small; good = p.good && q.good; same = λ t. both-same ◌*ℤ◌ p q t }

abbrev pub e-neg : (r z : ℤ) → Exact r z → Exact (neg_ℤ r) (neg_ℤ z)
e-neg r z p = record { size = p.size; small = within-neg p.small; good = p.good; same = λ t. ap neg_ℤ (p.same t) }

abbrev pub e-floor : (r a : ℤ) (k : ℕ) → Exact r a → Exact (floor_div r k) (floor_div a k)
e-floor r a k p = record { size = p.size / k + 1; small = within-floor-any r k p.size p.small; good = p.good; same = λ t. ap (λ (x : ℤ). floor_div x k) (p.same t) }

abbrev pub e-quot : (r s a b : ℤ) → Exact r a → Exact s b → Exact (quot_z r s) (quot_z a b)
e-quot r s a b p q = record { size = p.size; small = within-quot r s p.small; good = p.good && q.good; same = λ t. both-same quot_z p q t }

abbrev pub e-rem : (r s a b : ℤ) → Exact r a → Exact s b → Exact (rem_z r s) (rem_z a b)
e-rem r s a b p q = record { size = p.size; small = within-rem r s p.small; good = p.good && q.good; same = λ t. both-same rem_z p q t }

abbrev pub e-parity : (w : Width) (r z : ℤ) → Exact r z → Exact (to_z w (bit_and (of_z w r) 1)) (pos (nat_abs z % 2))
e-parity w r z p = record {
  size = 1;
  small = (s-parity w r).small;
  good = p.good && ltb p.size (2 ^ bits w);
  same = λ t. let y = and_yes p.good (ltb p.size (2 ^ bits w)) t in
      parity-bit w r (lt_of_le_of_lt p.small.within (ltb→lt p.size (2 ^ bits w) y.1)) ∙ ap (λ (x : ℤ). pos (nat_abs x % 2)) (p.same y.0);
}

-- what a call gave, or a list holds
abbrev pub e-call : (r z : ℤ) (n : ℕ) → Are n r z → Exact r z
e-call r z n p = record { size = n; small = subst (λ (x : ℤ). Within n x) (sym p.same) p.bound; good = true; same = λ t. p.same }

abbrev pub e-at : (l : List ℤ) (i : ℕ) (n : ℕ) → AllWithin n l → Exact (get_or l i (pos 0)) (get_or l i (pos 0))
e-at l i n h = record { size = n; small = h.all i; good = true; same = λ t. refl }

-- an unsigned number, cast
pub u32-back : (n : ℕ) → Fits w32 n → to_z w64 n ≡ pos n
u32-back n f = to_z_pos w64 (omega (arith, f.fits))

abbrev pub e-u32 : (n : ℕ) → Fits w32 n → Exact (to_z w64 n) (pos n)
e-u32 n f = record { size = 2 ^ 32; small = subst (λ (x : ℤ). Within (2 ^ 32) x) (sym (u32-back n f)) (s-u32 n f).small; good = true; same = λ t. u32-back n f }

-- ---- rules for tests
pub record ExactTest (t t' : Bool) : Type 0 where
  pub goodt : Bool
  pub samet : T goodt → t ≡ t'

pub exact-test : {t t' : Bool} (p : ExactTest t t') → T p.goodt → t ≡ t'
exact-test p t = p.samet t

abbrev pub t-lt : (r s a b : ℤ) → Exact r a → Exact s b → ExactTest (lt_z r s) (lt_z a b)
t-lt r s a b p q = record { goodt = p.good && q.good; samet = λ t. both-same lt_z p q t }

abbrev pub t-le : (r s a b : ℤ) → Exact r a → Exact s b → ExactTest (le_z r s) (le_z a b)
t-le r s a b p q = record { goodt = p.good && q.good; samet = λ t. both-same le_z p q t }

-- ---- the sets: take the smallest that serves
pub ruleset sizes = (s-leaf, s-pos, s-neg-suc, s-at, s_call, s-add, s-mul, s-neg, s-floor, s-back)

pub ruleset exacts = (e-leaf, e-pos, e-neg-suc, e-at, e-call, e-back, e_add, e_mul, e-neg, e-floor)

pub ruleset sizes-wide = (sizes, s-i16, s-i32, s-u32, s-quot, s-rem)

pub ruleset exacts-wide = (exacts, e-quot, e-rem, e-u32, t-lt, t-le)

pub ruleset sizes-parity = (sizes, s-parity)

pub ruleset exacts-parity = (exacts, e-parity)

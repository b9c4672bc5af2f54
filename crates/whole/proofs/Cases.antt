-- Case splits on a test that keep what the test says.
use mathlib.Core.Path.{◌≡◌, refl, subst}
use mathlib.Core.Bool.{Bool, true, false, not, ◌&&◌, cond}
use mathlib.Core.Logic.{◌≢◌}
use Prim.Native.Nat.{ℕ}
use lib.Dec.{T, T_not, eqb, eqb→eq, eqb_refl}

-- a test that holds
pub true_of : (b : Bool) → T b → b ≡ true
true_of true t = refl
true_of false t = absurd t

pub cond_ind {ℓ κ} : {A : Type ℓ} (c : Bool) (x y : A) (P : A → Type κ) → (T c → P x) → (T (not c) → P y) → P (cond c x y)
cond_ind true x y P f g = f tt
cond_ind false x y P f g = g tt

pub cond_yes {ℓ} : {A : Type ℓ} (c : Bool) (x y : A) → T c → cond c x y ≡ x
cond_yes true x y t = refl
cond_yes false x y t = absurd t

pub cond_no {ℓ} : {A : Type ℓ} (c : Bool) (x y : A) → T (not c) → cond c x y ≡ y
cond_no true x y t = absurd t
cond_no false x y t = refl

pub cond_same {ℓ} : {A : Type ℓ} (c : Bool) (x : A) → cond c x x ≡ x
cond_same true x = refl
cond_same false x = refl

-- a goal that holds by either outcome of a test
pub either {ℓ} : {P : Type ℓ} (c : Bool) → (T c → P) → (T (not c) → P) → P
either true f g = f tt
either false f g = g tt

pub eqb_of : {a b : ℕ} → a ≡ b → T (eqb a b)
eqb_of {a} e = subst (λ z. T (eqb a z)) e (eqb_refl a)

pub neqb→ne : (a b : ℕ) → T (not (eqb a b)) → a ≢ b
neqb→ne a b t e = T_not (eqb a b) t (eqb_of e)

pub ne→neqb : (a b : ℕ) → a ≢ b → T (not (eqb a b))
ne→neqb a b h = either (eqb a b) (λ t. absurd (h (eqb→eq a b t))) (λ t. t)

pub both : (a b : Bool) → T a → T b → T (a && b)
both true b s t = t
both false b s t = absurd s

pub both_yes : (a b : Bool) → T (a && b) → T a × T b
both_yes true b t = (tt, t)
both_yes false b t = absurd t

pub and-true : (b : Bool) → (b && true) ≡ b
and-true true = refl
and-true false = refl

pub and-false : (b : Bool) → (b && false) ≡ false
and-false true = refl
and-false false = refl

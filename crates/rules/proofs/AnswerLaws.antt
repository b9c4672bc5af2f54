-- An answer from checks: refused, or accepted with every check passed.
use mathlib.Core.Path.{◌≡◌, refl, ap, subst, ◌∙◌}
use mathlib.Core.Bool.{Bool, true, false, cond}
use mathlib.Core.List.{List, [], ◌∷◌, ◌++◌}
use mathlib.Core.Logic.{◌≢◌}
use Prim.Native.Nat.{ℕ, zero, suc, ◌≤◌}
use native.Mathlib.Omega.{arith}
use lib.Dec.{T, eqb}
use Rattle.whole.specs.Table.{blocks}
use Rattle.whole.proofs.Cases.{cond_yes, eqb_of}
use Rattle.std.specs.Prelude.{Result}
use Rattle.std.specs.Result.{IsErrAnd}
use Rattle.std.proofs.lemmas.Result.{err_from_is_err_and}
use Rattle.rules.specs.declared.Refusal.{Refusal}
use Rattle.rules.specs.Answers.{Answer, accepted, refused, Check, answer, answered, number, after, mapped, plain, AtMost}

-- every check of the list is passed
abbrev pub Passed : List Check → Type 0
Passed [] = Unit {0}
Passed (c ∷ cs) = T c.passes × Passed cs

pub answer-ind {ℓ} : {A : Type 0} (P : Answer A → Type ℓ) (cs : List Check) (x : A) → ((n : ℕ) → P (refused n)) → (Passed cs → P (accepted x)) → P (answer cs x)
unfolding answer
answer-ind P [] x no' yes' = yes' tt
answer-ind P (c ∷ cs) x no' yes' = go c.passes (λ t. answer-ind P cs x no' (λ ps. yes' (t, ps)))
  where
    go : (b : Bool) → (T b → P (answer cs x)) → P (cond b (answer cs x) (refused c.number))
    go true f = f tt
    go false f = no' c.number

-- an accepted answer has passed every check, and is what was to be answered
pub accepted-is : {A : Type 0} (cs : List Check) (x y : A) → accepted x ≡ answer cs y → Passed cs × (x ≡ y)
accepted-is cs x y = answer-ind (λ a. accepted x ≡ a → Passed cs × (x ≡ y)) cs y (λ n e. let z : ◌≡◌ {A = ℕ} 0 1 = cc in absurd (omega arith)) (λ ps e. (ps, cc))

pub passed-accepts : {A : Type 0} (cs : List Check) (x : A) → Passed cs → answer cs x ≡ accepted x
unfolding answer
passed-accepts [] x ps = refl
passed-accepts (c ∷ cs) x ps = cond_yes c.passes _ _ ps.0 ∙ passed-accepts cs x ps.1

-- ---- answers of a list of checks that another list goes on
pub prefix-refused : {A B : Type 0} (cs ds : List Check) (x : A) (y : B) (n : ℕ) → answer cs x ≡ refused n → answer (cs ++ ds) y ≡ refused n
unfolding answer
prefix-refused [] ds x y n e = let z : ◌≡◌ {A = ℕ} 0 1 = cc in absurd (omega arith)
prefix-refused (c ∷ cs) ds x y n e = go c.passes (prefix-refused cs ds x y n) e
  where
    go : (b : Bool) → (answer cs x ≡ refused n → answer (cs ++ ds) y ≡ refused n) → cond b (answer cs x) (refused c.number) ≡ refused n
        → cond b (answer (cs ++ ds) y) (refused c.number) ≡ refused n
    go true ih h = ih h
    go false ih h = cc

pub prefix-accepted : {A B : Type 0} (cs ds : List Check) (x z : A) (y : B) → answer cs x ≡ accepted z → answer (cs ++ ds) y ≡ answer ds y
unfolding answer
prefix-accepted [] ds x z y e = refl
prefix-accepted (c ∷ cs) ds x z y e = go c.passes (prefix-accepted cs ds x z y) e
  where
    go : (b : Bool) → (answer cs x ≡ accepted z → answer (cs ++ ds) y ≡ answer ds y) → cond b (answer cs x) (refused c.number) ≡ accepted z
        → cond b (answer (cs ++ ds) y) (refused c.number) ≡ answer ds y
    go true ih h = ih h
    go false ih h = let w : ◌≡◌ {A = ℕ} 0 1 = cc in absurd (omega arith)

-- the first list passed: the second one decides
pub passed-prefix : {A : Type 0} (cs ds : List Check) (x : A) → Passed cs → answer (cs ++ ds) x ≡ answer ds x
passed-prefix cs ds x ps = prefix-accepted cs ds x x x (passed-accepts cs x ps)

pub passed-both : (cs ds : List Check) → Passed cs → Passed ds → Passed (cs ++ ds)
passed-both [] ds ps qs = qs
passed-both (c ∷ cs) ds ps qs = (ps.0, passed-both cs ds ps.1 qs)

-- ---- an answer that is no refusal by n
-- every check of number n is passed
abbrev pub PassedAt : ℕ → List Check → Type 0
PassedAt n [] = Unit {0}
PassedAt n (c ∷ cs) = T (cond (eqb c.number n) c.passes true) × PassedAt n cs

pub not-refused : {A : Type 0} (n : ℕ) (cs : List Check) (x : A) → PassedAt n cs → answer cs x ≢ refused n
unfolding answer
not-refused n [] x ps e = let z : ◌≡◌ {A = ℕ} 0 1 = cc in absurd (omega arith)
not-refused n (c ∷ cs) x ps e = go c.passes ps.0 (not-refused n cs x ps.1) e
  where
    go : (b : Bool) → T (cond (eqb c.number n) b true) → answer cs x ≢ refused n → cond b (answer cs x) (refused c.number) ≢ refused n
    go true t ih h = ih h
    go false t ih h = let q : c.number ≡ n = cc in subst T (cond_yes (eqb c.number n) false true (eqb_of q)) t

pub passed_at-append : (n : ℕ) (cs ds : List Check) → PassedAt n cs → PassedAt n ds → PassedAt n (cs ++ ds)
passed_at-append n [] ds ps qs = qs
passed_at-append n (c ∷ cs) ds ps qs = (ps.0, passed_at-append n cs ds ps.1 qs)

pub passed_at-blocks : (n k : ℕ) (f : ℕ → List Check) → ((i : ℕ) → PassedAt n (f i)) → PassedAt n (blocks k f)
unfolding blocks
passed_at-blocks n zero f h = tt
passed_at-blocks n (suc k) f h = passed_at-append n (blocks k f) (f k) (passed_at-blocks n k f h) (h k)

-- ---- an answer of which f is told
module _ {A B : Type 0} (f : A → B) where
  pub mapped-answer : (cs : List Check) (x : A) → mapped f (answer cs x) ≡ answer cs (f x)
  unfolding mapped answer
  mapped-answer [] x = refl
  mapped-answer (c ∷ cs) x = go c.passes (mapped-answer cs x)
    where
      go : (b : Bool) → mapped f (answer cs x) ≡ answer cs (f x) → mapped f (cond b (answer cs x) (refused c.number)) ≡ cond b (answer cs (f x)) (refused c.number)
      go true ih = ih
      go false ih = refl

  pub mapped-refused : (a : Answer A) (n : ℕ) → mapped f a ≡ refused n → a ≡ refused n
  unfolding mapped
  mapped-refused (accepted x) n e = let w : ◌≡◌ {A = ℕ} 0 1 = cc in absurd (omega arith)
  mapped-refused (refused m) n e = cc

  pub mapped-accepted : (a : Answer A) (y : B) → mapped f a ≡ accepted y → plain a ≡ accepted tt
  unfolding mapped
  mapped-accepted (accepted x) y e = refl
  mapped-accepted (refused n) y e = let w : ◌≡◌ {A = ℕ} 0 1 = cc in absurd (omega arith)

-- ---- the bound of an answered number, which a refusal has none of
pub refused-at-most : {a : Answer ℕ} (m n : ℕ) → a ≡ refused n → AtMost m a
refused-at-most m n e = record { small = λ k q. let w : ◌≡◌ {A = ℕ} 0 1 = cc in absurd (omega arith) }

pub accepted-at-most : (m n : ℕ) → n ≤ m → AtMost m (accepted n)
accepted-at-most m n h = record { small = λ k q. let e : n ≡ k = cc in omega arith }

pub answer-at-most : (m n : ℕ) (cs : List Check) → n ≤ m → AtMost m (answer cs n)
answer-at-most m n cs h = answer-ind (AtMost m) cs n (λ k. refused-at-most m k refl) (λ _. accepted-at-most m n h)

-- ---- what a call leaves, by its answer
pub after-refused : {A B : Type 0} (a : Answer A) (n : ℕ) (x y : B) → a ≡ refused n → after a x y ≡ y
unfolding after
after-refused a n x y e = ap (λ z. after z x y) e

pub after-accepted : {A B : Type 0} (a : Answer A) (r : A) (x y : B) → a ≡ accepted r → after a x y ≡ x
unfolding after
after-accepted a r x y e = ap (λ z. after z x y) e

-- what a call answers that passes another's refusal on
pub passed_on : {A : Type 0} (r : Result A Refusal) (x : Refusal) → IsErrAnd r (λ y. y ≡ x) → answered r ≡ refused (number x)
passed_on r x h = let p = err_from_is_err_and r h in rw (p.1, p.2) refl

-- The ledger's own sums: going through the faces adds up what each face moves, keeps the sum over all elements, and reads
-- the numbers before at one element only.
use mathlib.Core.Path.{◌≡◌, refl, sym, ap, ◌∙◌}
use Prim.Native.Nat.{ℕ, zero, suc, ◌≤◌, ◌<◌}
use native.Mathlib.Omega.{arith}
use lib.Dec.{eqb}
use lib.IntN.{ℤ, pos, neg_ℤ, ◌+ℤ◌, ◌-ℤ◌, +ℤ_idr, -ℤ-+ℤ_cancel}
use lib.ListN.{get_or}
use Rattle.whole.specs.Sum.{sum_ℤ}
use Rattle.whole.proofs.WholeLaws.{add_parts, eq-parts}
use Rattle.whole.proofs.SumLaws.{sum_ℤ-add, sum_ℤ-cong, sum_ℤ-single}
use Rattle.rules.specs.declared.Shape.{Shape}
use Rattle.rules.specs.Answers.{Answer, accepted, refused}
use Rattle.rules.specs.Field.{Kind, elements, element, faces}
use Rattle.rules.specs.Grid.{behind, ahead}
use Rattle.rules.specs.Calls.{Operation, load, emission, withdrawal, step, Reply}
use Rattle.rules.specs.Ledger.{only, carried, entry}
use Rattle.rules.proofs.GridLaws.{moved, only_yes, only_no, only-neg, behind-lt, ahead-lt}

arrange : (l s a b : ℤ) → l +ℤ s +ℤ a +ℤ b ≡ l +ℤ (s +ℤ (b +ℤ a))
arrange l s a b = eq-parts (omega (arith, add_parts (l +ℤ s +ℤ a) b, add_parts (l +ℤ s) a, add_parts l s, add_parts l (s +ℤ (b +ℤ a)), add_parts s (b +ℤ a), add_parts b a))

pub carried-sum : (g : Shape) (x held : ℕ → ℤ) (n e : ℕ) → carried g x n held e ≡ held e +ℤ sum_ℤ n (moved g x e)
unfolding carried sum_ℤ moved
carried-sum g x held zero e = sym (+ℤ_idr (held e))
carried-sum g x held (suc f) e = ap (λ y. y -ℤ only (eqb (behind g f) e) (x f) +ℤ only (eqb (ahead g f) e) (x f)) (carried-sum g x held f e)
    ∙ arrange (held e) (sum_ℤ f (moved g x e)) (neg_ℤ (only (eqb (behind g f) e) (x f))) (only (eqb (ahead g f) e) (x f))

-- "where both are the same element nothing changes"
pub carried_same : (g : Shape) (x held : ℕ → ℤ) (f e : ℕ) → behind g f ≡ ahead g f → carried g x (suc f) held e ≡ carried g x f held e
unfolding carried
carried_same g x held f e h = ap (λ b. carried g x f held e -ℤ only (eqb b e) (x f) +ℤ only (eqb (ahead g f) e) (x f)) h
    ∙ -ℤ-+ℤ_cancel (carried g x f held e) (only (eqb (ahead g f) e) (x f))

-- ---- an amount at one element changes the sum by that amount
pub sum-plus : (n t : ℕ) (x : ℤ) (held : ℕ → ℤ) → t < n → sum_ℤ n (λ e. held e +ℤ only (eqb t e) x) ≡ sum_ℤ n held +ℤ x
sum-plus n t x held h = sum_ℤ-add n held (λ e. only (eqb t e) x)
    ∙ ap (λ y. sum_ℤ n held +ℤ y) (sum_ℤ-single n (λ e. only (eqb t e) x) t h (λ e _ ne. only_no t e x (λ z. ne (sym z))) ∙ only_yes t t x refl)

pub sum-minus : (n t : ℕ) (x : ℤ) (held : ℕ → ℤ) → t < n → sum_ℤ n (λ e. held e -ℤ only (eqb t e) x) ≡ sum_ℤ n held -ℤ x
sum-minus n t x held h = sum_ℤ-cong n (λ e. held e -ℤ only (eqb t e) x) (λ e. held e +ℤ only (eqb t e) (neg_ℤ x)) (λ e _. ap (λ y. held e +ℤ y) (only-neg (eqb t e) x))
    ∙ sum-plus n t (neg_ℤ x) held h

-- going through the faces keeps the sum: what comes off one element is added to another
pub carried_keeps : (g : Shape) (hx : 0 < g.nx) (hy : 0 < g.ny) (x held : ℕ → ℤ) (n : ℕ) → n ≤ faces g → sum_ℤ (elements g) (carried g x n held) ≡ sum_ℤ (elements g) held
unfolding carried
carried_keeps g hx hy x held zero h = refl
carried_keeps g hx hy x held (suc f) h =
    sum-plus (elements g) (ahead g f) (x f) (λ e. carried g x f held e -ℤ only (eqb (behind g f) e) (x f)) (ahead-lt g hx hy f (omega arith))
    ∙ ap (λ y. y +ℤ x f) (sum-minus (elements g) (behind g f) (x f) (carried g x f held) (behind-lt g hx hy f (omega arith)))
    ∙ -ℤ-+ℤ_cancel (sum_ℤ (elements g) (carried g x f held)) (x f)
    ∙ carried_keeps g hx hy x held f (omega arith)

-- a line reads the ledger at its own element only
pub entry-cong : {A : Type 0} (κ : Kind) (g : Shape) (op : Operation A) (a : Answer Reply) (x y : ℕ → ℤ) (e : ℕ) → x e ≡ y e → entry κ g op a x e ≡ entry κ g op a y e
unfolding entry
entry-cong κ g op (refused n) x y e h = h
entry-cong κ g (load l) (accepted r) x y e h = refl
entry-cong κ g (emission i j q) (accepted r) x y e h = ap (λ z. z +ℤ only (eqb (element g i j) e) (pos q)) h
entry-cong κ g (withdrawal i j q) (accepted r) x y e h = ap (λ z. z -ℤ only (eqb (element g i j) e) (pos q)) h
entry-cong κ g (step l) (accepted r) x y e h =
    let f : ℕ → ℤ = λ i. get_or r.report i (pos 0) in
    carried-sum g f x (faces g) e ∙ ap (λ z. z +ℤ sum_ℤ (faces g) (moved g f e)) h ∙ sym (carried-sum g f y (faces g) e)

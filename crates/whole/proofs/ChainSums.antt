-- What std's `sum` gives of a chain that gives known items: the sum over their places, which fits where that sum does.
use Rattle.std.proofs.Common.{◌≡◌, refl, sym, ap, subst, ◌∙◌, ℕ, ◌+◌, ◌^◌, ◌<◌, ◌≤◌, map, List, [], ◌∷◌, length, get_or, Option, zero, suc, arith}
use Rattle.std.specs.Bool.{⊤}
use Rattle.std.specs.List.{fold, sum_by, enumerate_from, range_with_len}
use Rattle.std.specs.Iterator.{Drains, CallableAtEachTurn, AlwaysYields, Yields}
use Rattle.std.specs.Iterator.Runs.{EachRunFrom, YieldsRun}
use Rattle.std.proofs.lemmas.Iterator.{YieldsList, YieldsList-from_slice, YieldsList-from_range, YieldsList-from_map}
use Rattle.std.proofs.lemmas.Iterator.Adapters.{serves_from_places, total_from_yields_List}
use Rattle.std.proofs.lemmas.Iterator.Consumers.{YieldsList-at, YieldsList-from_enumerate, sum_by_from_yields_List, fits_by_from_yields_list}
use Rattle.std.proofs.lemmas.List.FromFn.{length-enumerate_from, get_or-enumerate_from, get_or-range_with_len, length-range_with_len, length-map-range_with_len, get_or-map-range_with_len}
use Rattle.std.proofs.lemmas.List.Sums.{sum_by-cons}
use Rattle.std.specs.Fn.{Called}
use denote.Param.Members.{Mut}
use Rattle.std.specs.declared.iter.Enumerate.{Enumerate}
use Rattle.std.specs.declared.iter.Map.{Map}
use Rattle.std.proofs.Common.{Iter}
use Rattle.std.specs.Slice.Iter.{iter_rest}
use Rattle.std.specs.declared.ops.Range.{Range}
use Rattle.std.specs.Iterator.Adapters.{enumerate_source, enumerate_count, enumerate_steps, map_source, map_callee, map_steps}
use Rattle.std.proofs.iter.Yields.{fronts, nat_range_steps, gives_along}
use mathlib.Core.List.{◌++◌, append-nil, map-id}
use lib.IntN.{ℤ, pos, ◌+ℤ◌, +ℤ_idl, +ℤ_idr, +ℤ_assoc}
use lib.ListN.{length-append}
use mir.Syntax.{w64}
use Rattle.std.proofs.lemmas.List.{get_or_append_left}
use Rattle.std.specs.Prelude.{FitsSigned}
use Rattle.whole.specs.Sum.{sum, sum_ℤ}
use Rattle.whole.proofs.SumLaws.{sum-cong, sum_ℤ-cong}

-- a sum with its first term apart
first : (n : ℕ) (f : ℕ → ℕ) → sum (suc n) f ≡ f 0 + sum n (λ k. f (suc k))
unfolding sum
first zero f = omega arith
first (suc n) f = omega (arith, first n f)

first_ℤ : (n : ℕ) (f : ℕ → ℤ) → sum_ℤ (suc n) f ≡ f 0 +ℤ sum_ℤ n (λ k. f (suc k))
unfolding sum_ℤ
first_ℤ zero f = +ℤ_idl (f 0) ∙ sym (+ℤ_idr (f 0))
first_ℤ (suc n) f = ap (λ s. s +ℤ f (suc n)) (first_ℤ n f) ∙ +ℤ_assoc (f 0) (sum_ℤ n (λ k. f (suc k))) (f (suc n))

-- the sum over a list, by places
pub sum_by-places : {A : Type 0} (f : A → ℕ) (l : List A) (d : A) → sum_by f l ≡ sum (length l) (λ k. f (get_or l k d))
unfolding sum
sum_by-places f [] d = refl
sum_by-places f (x ∷ xs) d = sum_by-cons f x xs ∙ ap (λ s. f x + s) (sum_by-places f xs d) ∙ sym (first (length xs) (λ k. f (get_or (x ∷ xs) k d)))

-- the same with the places' numbers
pub sum_by-numbered : {A : Type 0} (f : ℕ × A → ℕ) (l : List A) (d : A) → sum_by f (enumerate_from 0 l) ≡ sum (length l) (λ k. f (k, get_or l k d))
sum_by-numbered f l d =
    sum_by-places f (enumerate_from 0 l) (0, d)
    ∙ ap (λ m. sum m (λ k. f (get_or (enumerate_from 0 l) k (0, d)))) (length-enumerate_from 0 l)
    ∙ sum-cong (length l) (λ k. f (get_or (enumerate_from 0 l) k (0, d))) (λ k. f (k, get_or l k d)) (λ k h. ap f (get_or-enumerate_from 0 l k (0, d) h ∙ (let e : 0 + k ≡ k = omega arith in ap (λ m. (m, get_or l k d)) e)))

-- the sum over the numbers below n
pub sum_by-below : (f : ℕ → ℕ) (n : ℕ) → sum_by f (range_with_len 0 n) ≡ sum n f
sum_by-below f n =
    sum_by-places f (range_with_len 0 n) 0
    ∙ ap (λ m. sum m (λ k. f (get_or (range_with_len 0 n) k 0))) (length-range_with_len 0 n)
    ∙ sum-cong n (λ k. f (get_or (range_with_len 0 n) k 0)) f (λ k h. ap f (get_or-range_with_len 0 n k 0 h ∙ omega arith))

-- the items of a slice, with their places
pub numbered-items : {A : Type 0} (l : List A) {i : Iter A} {s t : Enumerate (Iter A)} → iter_rest i ≡ l → enumerate_source s ≡ i → enumerate_count s ≡ 0 → t ≡ s
    → YieldsList (enumerate_steps fronts) (λ p. (p.0, p.1.now)) t (enumerate_from 0 l)
numbered-items l rest source count same = YieldsList-at same (YieldsList-from_enumerate (YieldsList-at source (YieldsList-from_slice l rest)) count)

-- a chain that ends in `map`, whose source gives ys, and whose closure makes h of each
module _ {S A B F : Type 0} {steps : S → Option A → S → Type 0} {v : A → B} {ys : List B} {s : Map S F} {f : F} (g : Mut F (A × Unit {0}) ℕ) (h : B → ℕ) (source : YieldsList steps v (map_source s) ys)
    (callee : map_callee s ≡ f) (each : (x : A) (r : ℕ) (q : F) → Called g f (x, tt) r q → (q ≡ f) × (r ≡ h (v x))) where
  pub mapped-sum : {r : ℕ} → ((xs : List ℕ) × (⊤ → Drains (map_steps steps g) s xs) × (r ≡ fold (λ a x. a + x) 0 xs)) → r ≡ sum_by h ys
  mapped-sum {r} ran = sum_by_from_yields_List h ys s r ran (YieldsList-from_map g h source callee each)

  pub mapped-fits : sum_by h ys < 2 ^ 64 → EachRunFrom (map_steps steps g) s (λ p. fold (λ a x. a + x) 0 p.items < 2 ^ 64)
  mapped-fits l = fits_by_from_yields_list h ys s (2 ^ 64) (YieldsList-from_map g h source callee each) l

-- ---- a chain that ends in `map`, whose source is the numbers below n, and whose closure makes h of each
module _ {F R : Type 0} (g : Mut F (ℕ × Unit {0}) R) (h : ℕ → R) (f : F) (n : ℕ) (each : (x : ℕ) (r : R) (q : F) → x < n → Called g f (x, tt) r q → (q ≡ f) × (r ≡ h x)) where
  made : (m a : ℕ) (s : Map (Range ℕ) F) → a + m ≤ n → map_callee s ≡ f → AlwaysYields nat_range_steps (λ x. x) (map_source s) (range_with_len a m) → AlwaysYields (map_steps nat_range_steps g) (λ r. r) s (map h (range_with_len a m))
  made zero a s l c e = λ y j p. e p.0 (map_source j) p.1
  made (suc m) a s l c e = (
    (λ j p. e.0 (map_source j) p.0),
    λ y j p.
        let t = e.1 p.0 (map_source j) p.1 in
        let k = each p.0 y (map_callee j) (omega (arith, t.0)) (subst (λ w. Called g w (p.0, tt) y (map_callee j)) c p.2) in
        (k.1 ∙ ap h t.0, made m (a + 1) j (omega arith) k.0 t.1),
  )

  pub below-items : {s : Map (Range ℕ) F} → map_source s ≡ record { start = 0; end = n } → map_callee s ≡ f → YieldsList (map_steps nat_range_steps g) (λ r. r) s (map h (range_with_len 0 n))
  below-items {s} source callee = record { runs = made n 0 s (omega arith) callee (YieldsList-from_range 0 n n source (omega arith)).runs }

-- summed, as numbers that are not negative
module _ {S : Type 0} {steps : S → Option ℕ → S → Type 0} {s : S} (h : ℕ → ℕ) (n : ℕ) (items : YieldsList steps (λ x. x) s (map h (range_with_len 0 n))) where
  pub below-sum : {r : ℕ} → ((xs : List ℕ) × (⊤ → Drains steps s xs) × (r ≡ fold (λ a x. a + x) 0 xs)) → r ≡ sum n h
  below-sum {r} ran = sum_by_from_yields_List h (range_with_len 0 n) s r ran items ∙ sum_by-below h n

  pub below-fits : sum n h < 2 ^ 64 → EachRunFrom steps s (λ p. fold (λ a x. a + x) 0 p.items < 2 ^ 64)
  below-fits l = fits_by_from_yields_list h (range_with_len 0 n) s (2 ^ 64) items (rw sum_by-below l)

-- summed, as signed numbers: there every part of the sum has to fit
fold-places : (a : ℤ) (l : List ℤ) → fold ◌+ℤ◌ a l ≡ a +ℤ sum_ℤ (length l) (λ k. get_or l k (pos 0))
unfolding sum_ℤ
fold-places a [] = sym (+ℤ_idr a)
fold-places a (x ∷ xs) =
    fold-places (a +ℤ x) xs ∙ +ℤ_assoc a x (sum_ℤ (length xs) (λ k. get_or xs k (pos 0))) ∙ ap (λ z. a +ℤ z) (sym (first_ℤ (length xs) (λ k. get_or (x ∷ xs) k (pos 0))))

module _ {S : Type 0} {steps : S → Option ℤ → S → Type 0} {s : S} (h : ℕ → ℤ) (n : ℕ) (items : YieldsList steps (λ x. x) s (map h (range_with_len 0 n))) where
  -- what the first items are
  front : (seen more : List ℤ) → map h (range_with_len 0 n) ≡ seen ++ more → (length seen ≤ n) × (fold ◌+ℤ◌ (pos 0) seen ≡ sum_ℤ (length seen) h)
  front seen more e =
      let long : length seen ≤ n = omega (arith, ap length e, length-append seen more, length-map-range_with_len h 0 n) in (
        long,
        fold-places (pos 0) seen ∙ +ℤ_idl _ ∙ sum_ℤ-cong (length seen) (λ k. get_or seen k (pos 0)) h
            (λ k l. sym (get_or_append_left seen more (pos 0) k l) ∙ ap (λ z. get_or z k (pos 0)) (sym e) ∙ get_or-map-range_with_len h 0 n k k (pos 0) (omega arith) (omega arith)),
      )

  pub below-sum_ℤ : {r : ℤ} → ((xs : List ℤ) × (⊤ → Drains steps s xs) × (r ≡ fold ◌+ℤ◌ (pos 0) xs)) → r ≡ sum_ℤ n h
  below-sum_ℤ {r} ran =
      let all = map h (range_with_len 0 n) in
      total_from_yields_List ◌+ℤ◌ (pos 0) r ran items ∙ (front all [] (sym (append-nil all))).1 ∙ ap (λ m. sum_ℤ m h) (length-map-range_with_len h 0 n)

  pub below-fits_ℤ : ((m : ℕ) → m ≤ n → FitsSigned w64 (sum_ℤ m h)) → EachRunFrom steps s (λ p. FitsSigned w64 (fold ◌+ℤ◌ (pos 0) p.items))
  unfolding YieldsRun
  below-fits_ℤ small = λ p _ at.
      gives_along steps (λ x. x) (λ xs. FitsSigned w64 (fold ◌+ℤ◌ (pos 0) xs)) (map h (range_with_len 0 n)) s items.runs
      (λ seen more e. let t = front seen more (e ∙ ap (λ z. z ++ more) (map-id seen)) in subst (FitsSigned w64) (sym t.1) (small (length seen) t.0))
      p.items p.gave.0.0 (subst (λ u. Yields steps u p.items p.gave.0.0) at p.gave.0.1)

-- what a closure may be asked at each number below n
pub serves-below : {F : Type 0} {R : F → ℕ → F → Type 0} {Q : F → ℕ → Type 0} {f : F} {s : Range ℕ} (n : ℕ) → s ≡ record { start = 0; end = n } → ((x : ℕ) (q : F) → R f x q → q ≡ f) → ((k : ℕ) → k < n → Q f k)
    → CallableAtEachTurn nat_range_steps R Q s f
serves-below {Q = Q} {f = f} n source stays h =
    serves_from_places (YieldsList-from_range 0 n n source (omega arith)) stays
    (λ x k l e.
    let m : k < n = omega (arith, l, length-range_with_len 0 n) in
    subst (Q f) (sym (e ∙ get_or-range_with_len 0 n k x m ∙ omega arith)) (h k m))

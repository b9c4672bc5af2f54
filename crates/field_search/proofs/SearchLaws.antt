-- The search of a tracer's numbers, wherever they are read from: what holds between and within elements, as records that a turn of each
-- loop keeps, and what every way out says; a break is one of every longer part, because masses only add.
use mathlib.Core.Path.{◌≡◌, refl, sym, ap, subst, ◌∙◌}
use mathlib.Core.Bool.{Bool, true, false, ◌&&◌, ◌||◌, cond}
use mathlib.Core.List.{List, [], ◌∷◌}
use mathlib.Core.Logic.{◌⊎◌, inl, inr, ⊎_elim, ◌≢◌}
use Prim.Native.Nat.{ℕ, ◌+◌, ◌*◌, ◌≤◌, ◌<◌}
use native.Mathlib.Nat.{zero-mul}
use native.Mathlib.Omega.{arith}
use borrow.Author.Tests.{lt-leb, le-leb, lt-ltb, le-ltb, ltb-true, ltb-false, eqb-true, eq-eqb, ne_eqb}
use lib.Dec.{eqb, ltb}
use lib.ListN.{get_or}
use Rattle.whole.specs.Sum.{sum, all}
use Rattle.whole.proofs.Cases.{and-false}
use Rattle.whole.proofs.SumLaws.{sum_more, sum_mono, all_more, all-fails}
use Rattle.rules.specs.declared.Shape.{Shape}
use Rattle.std.specs.Prelude.{Result, Ok, Err, is_ok}
use Rattle.rules.specs.declared.Refusal.{Refusal}
use Rattle.rules.specs.Answers.{accepted, refused, check, answer, answered, number}
use Rattle.rules.specs.Field.{quadratic, elements, element_length, elements_length, weight_sum, cell, remainder, mass, total, limit, sum_sound, sound, stored_total, Admitted}
use Rattle.rules.specs.Sizes.{most_elements}
use Rattle.rules.proofs.QuadraticLaws.{weights-36}
use Rattle.rules.proofs.ShapeLaws.{elements-le}
use Rattle.field_layout.proofs.PlaceLaws.{elements-are}
use Rattle.field_elements.specs.Weighing.{number_weight, weighed}
use Rattle.field_elements.proofs.ElementLaws.{mass-ten, weighed-more}
use Rattle.field_search.specs.Search.{breaks, searched, compared}

-- ---- the two breaks
module _ (v x t : ℕ) where
  pub break-is : breaks v x t ≡ true → ((v ≡ 9) × (35 < x)) ⊎ (limit < t)
  unfolding breaks
  break-is h = ⊎_elim (λ w. inl (eqb-true v 9 w.0, ltb-true 35 x w.1)) (λ w. inr (ltb-true limit t w)) (go (eqb v 9) (ltb 35 x) h)
    where
      go : (a b : Bool) → (a && b) || ltb limit t ≡ true → ((a ≡ true) × (b ≡ true)) ⊎ (ltb limit t ≡ true)
      go true true e = inl (refl, refl)
      go true false e = inr e
      go false b e = inr e

  pub no-break : breaks v x t ≡ false → (v ≡ 9 → x ≤ 35) × (t ≤ limit)
  unfolding breaks
  no-break h = let w = go (eqb v 9) (ltb 35 x) h in (λ e. ltb-false 35 x (w.0 (eq-eqb v 9 e)), ltb-false limit t w.1)
    where
      go : (a b : Bool) → (a && b) || ltb limit t ≡ false → (a ≡ true → b ≡ false) × (ltb limit t ≡ false)
      go true true e = let z : ◌≡◌ {A = ℕ} 0 1 = cc in absurd (omega arith)
      go true false e = (λ _. refl, e)
      go false b e = (λ q. let z : ◌≡◌ {A = ℕ} 0 1 = cc in absurd (omega arith), e)

-- ---- the first n elements: no remainder is above 35, and the sum of their masses
unfoldable pub sound_to : List ℕ → ℕ → Bool
sound_to p n = all n (λ e. ltb (remainder quadratic p e) (weight_sum quadratic))

unfoldable pub total_to : List ℕ → ℕ → ℕ
total_to p n = sum n (mass quadratic p)

remainder_is : (p : List ℕ) (e : ℕ) → remainder quadratic p e ≡ get_or p (e * 10 + 9) 0
unfolding remainder cell element_length quadratic
remainder_is p e = refl

total-more : (p : List ℕ) (n : ℕ) → total_to p (n + 1) ≡ total_to p n + weighed quadratic p (n * 10) 10
unfolding total_to
total-more p n = sum_more n (mass quadratic p) ∙ ap (λ m. sum n (mass quadratic p) + m) (mass-ten p n)

-- ---- what the loops keep
-- between elements, and between rows: n elements are passed
pub record BetweenElements (p : List ℕ) (n start sum : ℕ) (unbroken : Bool) : Type 0 where
  pub going : unbroken ≡ true
  pub remainders : sound_to p n ≡ true
  pub masses : sum ≡ total_to p n
  pub small : sum ≤ limit
  pub place : start ≡ n * 10

-- within element n: v of its numbers are added
pub record WithinElement (p : List ℕ) (n start v sum : ℕ) (unbroken : Bool) : Type 0 where
  pub going : unbroken ≡ true
  pub masses : sum ≡ total_to p n + weighed quadratic p start v
  pub small : sum ≤ limit
  pub numbers : v ≤ 10
  pub last : v ≡ 10 → get_or p (start + 9) 0 ≤ 35

-- before the first row; a row's start and end, whose count of elements is written in two ways; an element's start
pub search-starts : (p : List ℕ) (nx : ℕ) → BetweenElements p (0 * nx) 0 0 true
unfolding sound_to total_to all sum
search-starts p nx = record { going = refl; remainders = rw zero-mul; masses = rw zero-mul; small = omega arith; place = omega (arith, zero-mul nx) }

module _ {p : List ℕ} {n start : ℕ} where
  pub at-element : {m s : ℕ} {b : Bool} → m ≡ n → BetweenElements p m start s b → BetweenElements p n start s b
  at-element {m} {s} {b} e h = subst (λ k. BetweenElements p k start s b) e h

  pub element-starts : {s : ℕ} {b : Bool} → BetweenElements p n start s b → WithinElement p n start 0 s b
  unfolding weighed sum
  element-starts h = record { going = h.going; masses = omega (arith, h.masses); small = h.small; numbers = omega arith; last = λ e. omega arith }

  -- a number that is no break is added, and after ten the element is passed
  pub number-added : {v s w x : ℕ} {b : Bool} → WithinElement p n start v s b → v < 10 → w ≡ number_weight quadratic v → x ≡ get_or p (start + v) 0
      → breaks v x (s + w * x) ≡ false → WithinElement p n start (v + 1) (s + w * x) b
  number-added {v} {s} {w} {x} h l e q t =
      let a = no-break v x (s + w * x) t in
      record {
        going = h.going;
        masses = rw (weighed-more quadratic p start v, e, q) (omega (arith, h.masses));
        small = a.1;
        numbers = omega arith;
        last = λ z. let k : v ≡ 9 = omega arith in rw (← k, ← q) (a.0 k);
      }

  pub element-ends : {v s r : ℕ} {b d : Bool} → BetweenElements p n start r d → WithinElement p n start v s b → 10 ≤ v → BetweenElements p (n + 1) (start + 10) s b
  unfolding sound_to
  element-ends {v} {s} h k l =
      let full : v ≡ 10 = omega (arith, k.numbers) in
      record {
        going = k.going;
        remainders = all_more n (λ e. ltb (remainder quadratic p e) (weight_sum quadratic)) h.remainders
            (rw (remainder_is p n, weights-36, ← h.place) (lt-ltb (get_or p (start + 9) 0) 36 (omega (arith, k.last full))));
        masses = rw (total-more p n, ← h.place) (rw full at k.masses);
        small = k.small;
        place = omega (arith, h.place);
      }

-- ---- the ways out
module _ (g : Shape) {p : List ℕ} {n start s : ℕ} {b : Bool} (h : BetweenElements p n start s b) where
  -- an element of the grid has its numbers within its tracer's
  pub numbers-room : Admitted g → n < elements g → (start + 10 ≤ elements_length quadratic g) × (start + 10 ≤ 10 * most_elements)
  numbers-room a q = (omega (arith, h.place, elements-are g), omega (arith, h.place, elements-le g a))

  -- every element is passed
  pub sound-all : n ≡ elements g → sum_sound quadratic g p ≡ true
  unfolding sum_sound total sound_to total_to
  sound-all e = rw (← e, h.remainders, ← h.masses, le-leb s limit h.small)

  pub total-all : n ≡ elements g → total quadratic g p ≡ s
  unfolding total total_to
  total-all e = rw (← e) (sym h.masses)

  -- a number is a break
  pub broken : {v t w x : ℕ} {d : Bool} → n < elements g → WithinElement p n start v t d → v < 10 → w ≡ number_weight quadratic v → x ≡ get_or p (start + v) 0
      → breaks v x (t + w * x) ≡ true → sum_sound quadratic g p ≡ false
  unfolding sum_sound total total_to sound_to weighed
  broken {v} {t} {w} {x} r k l e q y = ⊎_elim (λ z. remainder-breaks z.0 z.1) (λ z. total-breaks z) (break-is v x (t + w * x) y)
    where
      remainder-breaks : v ≡ 9 → 35 < x → sum_sound quadratic g p ≡ false
      remainder-breaks c d = let at : get_or p (n * 10 + 9) 0 ≡ x = rw (← h.place, ← c) (sym q) in
          rw (all-fails (elements g) (λ e. ltb (remainder quadratic p e) (weight_sum quadratic)) n r (rw (remainder_is p n, weights-36, at) (le-ltb x 36 d)))

      total-breaks : limit < t + w * x → sum_sound quadratic g p ≡ false
      total-breaks c =
          let here : total_to p n + weighed quadratic p start (v + 1) ≡ t + w * x = rw (weighed-more quadratic p start v, ← e, ← q) (omega (arith, k.masses)) in
          let more : weighed quadratic p start (v + 1) ≤ weighed quadratic p start 10 = sum_mono (λ v. number_weight quadratic v * get_or p (start + v) 0) (v + 1) 10 (omega arith) in
          let all = rw (← h.place) at (total-more p n) in
          rw (lt-leb (total quadratic g p) limit (omega (arith, sum_mono (mass quadratic p) (n + 1) (elements g) (omega arith))), and-false)

-- ---- what the search answers, by whether the elements are sound
pub searched-is : (g : Shape) (p : List ℕ) → searched g p ≡ cond (sum_sound quadratic g p) (accepted (total quadratic g p)) (refused 6)
unfolding searched answer
searched-is g p = refl

-- an answer of one test is accepted exactly where it is passed
module _ (b : Bool) (t : ℕ) where
  tested-yes : (u : ℕ) → answer (check 6 b ∷ []) t ≡ accepted u → (b ≡ true) × (t ≡ u)
  unfolding answer
  tested-yes u = go b
    where
      go : (b : Bool) → cond b (accepted t) (refused 6) ≡ accepted u → (b ≡ true) × (t ≡ u)
      go true e = (refl, cc)
      go false e = let z : ◌≡◌ {A = ℕ} 0 1 = cc in absurd (omega arith)

  tested-no : (n : ℕ) → answer (check 6 b ∷ []) t ≡ refused n → (b ≡ false) × (n ≡ 6)
  unfolding answer
  tested-no n = go b
    where
      go : (b : Bool) → cond b (accepted t) (refused 6) ≡ refused n → (b ≡ false) × (n ≡ 6)
      go true e = let z : ◌≡◌ {A = ℕ} 0 1 = cc in absurd (omega arith)
      go false e = (refl, cc)

  pub is-tested : (r : Result ℕ Refusal) → answered r ≡ answer (check 6 b ∷ []) t → is_ok r ≡ b
  is-tested (Ok u) e = sym (tested-yes u (sym e)).0
  is-tested (Err x) e = sym (tested-no (number x) (sym e)).0

-- a search and a sum accept exactly sound numbers
module _ (g : Shape) (p : List ℕ) (r : Result ℕ Refusal) where
  pub is-elements-sound : answered r ≡ searched g p → is_ok r ≡ sum_sound quadratic g p
  unfolding searched
  is-elements-sound e = is-tested (sum_sound quadratic g p) (total quadratic g p) r e

  pub is-sound : answered r ≡ compared g p → is_ok r ≡ sound quadratic g p
  unfolding compared
  is-sound e = is-tested (sound quadratic g p) (total quadratic g p) r e

-- ---- the sum, by what the search answers and by whether it is the stored total
module _ (g : Shape) (p : List ℕ) where
  pub sum-refused : (n : ℕ) → searched g p ≡ refused n → compared g p ≡ refused n
  unfolding searched compared sound answer
  sum-refused n e = let h = tested-no (sum_sound quadratic g p) (total quadratic g p) n e in rw (h.0, h.1) refl

  pub sum-is : (t : ℕ) → searched g p ≡ accepted t → stored_total quadratic g p ≡ t → compared g p ≡ accepted t
  unfolding searched compared sound answer
  sum-is t e s = let h = tested-yes (sum_sound quadratic g p) (total quadratic g p) t e in rw (h.0, s, h.1, eq-eqb t t refl) refl

  pub sum-differs : (t : ℕ) → searched g p ≡ accepted t → stored_total quadratic g p ≢ t → compared g p ≡ refused 6
  unfolding searched compared sound answer
  sum-differs t e s = let h = tested-yes (sum_sound quadratic g p) (total quadratic g p) t e in rw (h.0, h.1, ne_eqb t (stored_total quadratic g p) (λ q. s (sym q))) refl

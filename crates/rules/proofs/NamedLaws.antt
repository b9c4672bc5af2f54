-- "Emission, withdrawal and the readings look at the named element and the stored total only." (document 02, 2026-06): where these are the same in two
-- fields, such a call answers the same, whatever else the fields hold; what is left of the element is the same, too (`emitted-alike`, `withdrawn-alike`).
use mathlib.Core.Path.{◌≡◌, sym, ap, ◌∙◌}
use mathlib.Core.Bool.{true, false, ◌&&◌}
use mathlib.Core.List.{List, [], ◌∷◌}
use Prim.Native.Nat.{ℕ, ◌+◌, ◌-◌, ◌≤◌, ◌<◌}
use native.Mathlib.Omega.{arith}
use lib.Dec.{leb, ltb, le→leb}
use lib.IntN.{pos}
use lib.ListN.{length}
use Rattle.whole.proofs.Cases.{true_of, and-true}
use Rattle.rules.specs.declared.Shape.{Shape}
use Rattle.rules.specs.Answers.{check, answer}
use Rattle.rules.specs.Field.{Kind, admitted, element, on_grid, element_length, field_length, part, stored_total, cell, remainder, weight_sum, mass, limit, stored_sound, element_sound, named_sound, if_there}
use Rattle.rules.specs.Limiter.{closed, closed_unlevelled}
use Rattle.rules.specs.Calls.{emission, withdrawal, emitted, withdrawn, no_report, lent_enough, checks, done, call, total_reading, mass_reading}
use Rattle.rules.proofs.LimiterLaws.{weighted-cong, closed-cong, unlevelled-cong}
use Rattle.rules.proofs.PartLaws.{node-lt}

-- ---- two elements with the same numbers
module _ (κ : Kind) (p p' : List ℕ) (e e' : ℕ) (same : (k : ℕ) → k < element_length κ → cell κ p e k ≡ cell κ p' e' k) where
  values : (k : ℕ) → k < κ.nodes → cell κ p e k ≡ cell κ p' e' k
  values k h = same k (node-lt κ k (omega arith))

  pub remainder-alike : remainder κ p e ≡ remainder κ p' e'
  unfolding remainder
  remainder-alike = same κ.nodes (node-lt κ κ.nodes (omega arith))

  pub mass-alike : mass κ p e ≡ mass κ p' e'
  unfolding mass
  mass-alike = λ i. weighted-cong κ (cell κ p e) (cell κ p' e') values i + remainder-alike i

  pub emitted-alike : (q : ℕ) → emitted κ e q p ≡ emitted κ e' q p'
  unfolding emitted
  emitted-alike q = closed-cong κ (λ k. pos (cell κ p e k)) (λ k. pos (cell κ p' e' k)) (mass κ p e + q) (λ k h. ap pos (values k h))
      ∙ ap (λ m. closed κ (λ k. pos (cell κ p' e' k)) (m + q)) mass-alike

  pub withdrawn-alike : (q : ℕ) → withdrawn κ e q p ≡ withdrawn κ e' q p'
  unfolding withdrawn
  withdrawn-alike q = unlevelled-cong κ (λ k. pos (cell κ p e k)) (λ k. pos (cell κ p' e' k)) (mass κ p e - q) (λ k h. ap pos (values k h))
      ∙ ap (λ m. closed_unlevelled κ (λ k. pos (cell κ p' e' k)) (m - q)) mass-alike

-- off the grid the stored total alone is looked at
pub off-grid-by-total : (κ : Kind) (g : Shape) (i j : ℕ) (p : List ℕ) → on_grid g i j ≡ false → named_sound κ g i j p ≡ stored_sound κ g p
unfolding named_sound if_there
off-grid-by-total κ g i j p off = rw off (and-true (stored_sound κ g p))

-- ---- two fields that are long enough, and have the same stored total of tracer s and the same numbers of its element (i, j)
module _ (κ : Kind) (g : Shape) (s i j : ℕ) (f f' : List ℕ) (room : field_length κ g ≤ length f) (room' : field_length κ g ≤ length f')
    (total-same : stored_total κ g (part κ g s f) ≡ stored_total κ g (part κ g s f'))
    (same : (k : ℕ) → k < element_length κ → cell κ (part κ g s f) (element g i j) k ≡ cell κ (part κ g s f') (element g i j) k) where
  abbrev e : ℕ
  e = element g i j

  abbrev p : List ℕ
  p = part κ g s f

  abbrev p' : List ℕ
  p' = part κ g s f'

  enough : leb (field_length κ g) (length f) ≡ leb (field_length κ g) (length f')
  enough = true_of (leb (field_length κ g) (length f)) (le→leb _ _ room) ∙ sym (true_of (leb (field_length κ g) (length f')) (le→leb _ _ room'))

  mass_same : mass κ p e ≡ mass κ p' e
  mass_same = mass-alike κ p p' e e same

  test-same : named_sound κ g i j p ≡ named_sound κ g i j p'
  unfolding named_sound stored_sound element_sound
  test-same = λ n. leb (total-same n) limit && if_there (on_grid g i j) (ltb (remainder-alike κ p p' e e same n) (weight_sum κ) && leb (mass_same n) (total-same n))

  pub emission-reply-same : (q : ℕ) → (call κ g s (emission i j q) f).reply ≡ (call κ g s (emission i j q) f').reply
  unfolding call checks lent_enough done
  emission-reply-same q = λ n. answer (check 2 (admitted g) ∷ check 4 (enough n && true) ∷ check 6 (if_there (ltb s g.tracers) (test-same n)) ∷ check 7 (ltb s g.tracers) ∷ check 8 (on_grid g i j)
      ∷ check 9 (leb (total-same n + q) limit) ∷ []) (no_report (emitted-alike κ p p' e e same q n).clipped)

  pub withdrawal-reply-same : (q : ℕ) → (call κ g s (withdrawal i j q) f).reply ≡ (call κ g s (withdrawal i j q) f').reply
  unfolding call checks lent_enough done
  withdrawal-reply-same q = λ n. answer (check 2 (admitted g) ∷ check 4 (enough n && true) ∷ check 6 (if_there (ltb s g.tracers) (test-same n)) ∷ check 7 (ltb s g.tracers) ∷ check 8 (on_grid g i j)
      ∷ check 10 (leb q (mass_same n)) ∷ []) (no_report (withdrawn-alike κ p p' e e same q n).clipped)

  pub mass-reading-same : mass_reading κ g s i j f ≡ mass_reading κ g s i j f'
  unfolding mass_reading
  mass-reading-same = λ n. answer (check 2 (admitted g) ∷ check 4 (enough n) ∷ check 6 (if_there (ltb s g.tracers) (test-same n)) ∷ check 7 (ltb s g.tracers) ∷ check 8 (on_grid g i j) ∷ []) (mass_same n)

  pub total-reading-same : total_reading κ g s f ≡ total_reading κ g s f'
  unfolding total_reading stored_sound
  total-reading-same = λ n. answer (check 2 (admitted g) ∷ check 4 (enough n) ∷ check 6 (if_there (ltb s g.tracers) (leb (total-same n) limit)) ∷ check 7 (ltb s g.tracers) ∷ []) (total-same n)

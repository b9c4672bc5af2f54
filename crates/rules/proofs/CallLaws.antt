-- One law for each operation on a tracer: an accepted one leaves a good part good, and the ledger's line agrees with it.
use mathlib.Core.Path.{◌≡◌, refl, sym, ap, ◌∙◌, subst}
use mathlib.Core.Bool.{Bool}
use mathlib.Core.List.{List}
use mathlib.Core.Logic.{◌≢◌}
use Prim.Native.Nat.{ℕ, ◌+◌, ◌-◌, ◌≤◌, ◌<◌}
use native.Mathlib.Omega.{arith}
use lib.Dec.{T, ltb, eqb, eqb→eq, leb→le, ltb→lt}
use lib.IntN.{ℤ, pos, neg_ℤ, ◌+ℤ◌, ◌-ℤ◌, +ℤ_idr}
use lib.ListN.{length, get_or}
use Rattle.whole.proofs.Cases.{both_yes, either, neqb→ne}
use Rattle.whole.proofs.WholeLaws.{positive-pos, negative-pos, sub-parts-of, eq-parts, pos-injective}
use Rattle.rules.specs.declared.Shape.{Shape}
use Rattle.rules.specs.Answers.{accepted}
use Rattle.rules.specs.Field.{Kind, elements, element, on_grid, element_length, part_length, stored_total, with_stored_total, cell, remainder, mass, total, limit, weight_sum}
use Rattle.rules.specs.Limiter.{closing_remainder}
use Rattle.rules.specs.Step.{tracer_step}
use Rattle.rules.specs.Calls.{Operation, load, emission, withdrawal, step, Lent, loaded, with_element, emitted, withdrawn, Done, no_report, closed_in, done, checks}
use Rattle.rules.specs.Ledger.{only, entry}
use Rattle.rules.proofs.AnswerLaws.{Passed}
use Rattle.rules.proofs.LimiterLaws.{closed-length, closed-remainder, withdrawal-remainder, truncated-pos}
use Rattle.rules.proofs.GridLaws.{only_yes, only_no, only-neg, element-lt}
use Rattle.rules.proofs.PartLaws.{Good, held, length-with_element, mass-there, mass-elsewhere, remainder-there, remainder-elsewhere, total-pos, total-by, mass-le-total}
use Rattle.rules.proofs.StoredLaws.{masses-as, remainders-as, length-with_stored_total, cell-with_stored_total, stored-with_stored_total, length-loaded, mass-loaded, remainder-loaded, stored-loaded}
use Rattle.rules.proofs.LedgerLaws.{sum-plus}
use Rattle.rules.proofs.StepLaws.{held-closed, held-unlevelled, length-closed, remainder-closed, length-after, good-after, entries-after}

-- element (i, j) of a grid has an index below the number of elements
pub on-grid-lt : (g : Shape) (i j : ℕ) → T (on_grid g i j) → element g i j < elements g
on-grid-lt g i j t =
    let b = both_yes (ltb i g.nx) (ltb j g.ny) t in
    element-lt g i j (ltb→lt i g.nx b.0) (ltb→lt j g.ny b.1)

-- ---- the numbers of an element after an emission and after a withdrawal
module _ (κ : Kind) (e q : ℕ) (p : List ℕ) where
  pub length-emitted : length (emitted κ e q p).numbers ≡ element_length κ
  unfolding emitted
  length-emitted = length-closed κ (λ k. pos (cell κ p e k)) (mass κ p e + q)

  held-emitted : held κ (emitted κ e q p).numbers ≡ mass κ p e + q
  unfolding emitted
  held-emitted = held-closed κ (λ k. pos (cell κ p e k)) (mass κ p e + q)

  remainder-emitted : 0 < weight_sum κ → get_or (emitted κ e q p).numbers κ.nodes 0 < weight_sum κ
  unfolding emitted
  remainder-emitted hw = remainder-closed κ (λ k. pos (cell κ p e k)) (mass κ p e + q) hw

  pub length-withdrawn : length (withdrawn κ e q p).numbers ≡ element_length κ
  unfolding withdrawn
  length-withdrawn = closed-length κ (λ k. pos (cell κ p e k)) (mass κ p e - q)

  held-withdrawn : held κ (withdrawn κ e q p).numbers ≡ mass κ p e - q
  unfolding withdrawn
  held-withdrawn = held-unlevelled κ (λ k. pos (cell κ p e k)) (mass κ p e - q)

  remainder-withdrawn : q ≤ mass κ p e → remainder κ p e < weight_sum κ → get_or (withdrawn κ e q p).numbers κ.nodes 0 < weight_sum κ
  unfolding withdrawn mass
  remainder-withdrawn b l = subst (λ y. y < weight_sum κ)
      (sym (closed-remainder κ (λ k. pos (cell κ p e k)) (mass κ p e - q) ∙ ap (λ v. closing_remainder κ v (mass κ p e - q)) (truncated-pos (cell κ p e))))
      (withdrawal-remainder κ (cell κ p e) (remainder κ p e) q l b)

-- an accepted operation keeps the length of a part, whatever its numbers are
pub done-length : (κ : Kind) (g : Shape) (hx : 0 < g.nx) (hy : 0 < g.ny) (op : Operation Lent) (there : Bool) (p : List ℕ) → length p ≡ part_length κ g → Passed (checks κ g op there p)
    → length (done κ g op p).part ≡ part_length κ g
unfolding done checks tracer_step
done-length κ g hx hy (load l) there p h c = length-loaded κ g l
done-length κ g hx hy (emission i j q) there p h c =
    length-with_stored_total κ g _ _ (length-with_element κ g (element g i j) (emitted κ (element g i j) q p).numbers p (on-grid-lt g i j c.1.1.0) (length-emitted κ (element g i j) q p) h)
done-length κ g hx hy (withdrawal i j q) there p h c =
    length-with_stored_total κ g _ _ (length-with_element κ g (element g i j) (withdrawn κ (element g i j) q p).numbers p (on-grid-lt g i j c.1.1.0) (length-withdrawn κ (element g i j) q p) h)
done-length κ g hx hy (step l) there p h c = length-after κ g p _ _

-- what an operation leaves of a part p, and the ledger's line for it
pub record Kept (κ : Kind) (g : Shape) (op : Operation Lent) (p : List ℕ) (d : Done) : Type 0 where
  pub good : Good κ g d.part
  pub entries : (e : ℕ) → e < elements g → entry κ g op (accepted d.reply) (λ e. pos (mass κ p e)) e ≡ pos (mass κ d.part e)

-- ---- one element replaced by numbers x that hold its mass and z, which may be negative, and the stored total by t
module _ (κ : Kind) (g : Shape) (e : ℕ) (x p : List ℕ) (he : e < elements g) (width : length x ≡ element_length κ) (h : Good κ g p) (small : get_or x κ.nodes 0 < weight_sum κ) (z : ℤ) (holds : pos (held κ x) ≡ pos (mass κ p e) +ℤ z) where
  abbrev replaced : List ℕ
  replaced = with_element κ e x p

  size : length replaced ≡ part_length κ g
  size = length-with_element κ g e x p he width h.size

  abbrev new : ℕ → List ℕ
  new t = with_stored_total κ g t replaced

  as_replaced : (t e' k : ℕ) → e' < elements g → k < element_length κ → cell κ (new t) e' k ≡ cell κ replaced e' k
  as_replaced t = cell-with_stored_total κ g t replaced size

  -- the ledger's line
  entries-of : (t e' : ℕ) → e' < elements g → pos (mass κ p e') +ℤ only (eqb e e') z ≡ pos (mass κ (new t) e')
  entries-of t e' l = either (eqb e e')
      (λ t. let q : e ≡ e' = eqb→eq e e' t in subst (λ y. pos (mass κ p y) +ℤ only (eqb e y) z ≡ pos (mass κ replaced y)) q
      (ap (λ y. pos (mass κ p e) +ℤ y) (only_yes e e z refl) ∙ sym holds ∙ ap pos (sym (mass-there κ g e x p he width h.size))))
      (λ t. let ne : e ≢ e' = neqb→ne e e' t in
      ap (λ y. pos (mass κ p e') +ℤ y) (only_no e e' z ne) ∙ +ℤ_idr (pos (mass κ p e')) ∙ ap pos (sym (mass-elsewhere κ g e x p he width h.size e' ne)))
      ∙ ap pos (sym (masses-as κ g (new t) replaced (as_replaced t) e' l))

  total_of : (t : ℕ) → pos (total κ g (new t)) ≡ pos (total κ g p) +ℤ z
  total_of t = total-by κ g (new t) (λ e'. pos (mass κ p e') +ℤ only (eqb e e') z) (entries-of t) ∙ sum-plus (elements g) e z (λ e. pos (mass κ p e)) he ∙ ap (λ y. y +ℤ z) (total-pos κ g p)

  good_of : (t : ℕ) → total κ g (new t) ≤ limit → t ≡ total κ g (new t) → Good κ g (new t)
  good_of t b is = record {
    size = length-with_stored_total κ g t replaced size;
    bounded = b;
    stored = stored-with_stored_total κ g t replaced size ∙ is;
    small = λ e' l. subst (λ y. y < weight_sum κ) (sym (remainders-as κ g (new t) replaced (as_replaced t) e' l)) (either (eqb e e')
        (λ t. let q : e ≡ e' = eqb→eq e e' t in subst (λ y. remainder κ replaced y < weight_sum κ) q (subst (λ y. y < weight_sum κ) (sym (remainder-there κ g e x p he width h.size)) small))
        (λ t. subst (λ y. y < weight_sum κ) (sym (remainder-elsewhere κ g e x p he width h.size e' (neqb→ne e e' t))) (h.small e' l)));
  }

-- ---- the operations
load-law : (κ : Kind) (g : Shape) (hw : 0 < weight_sum κ) (l p : List ℕ) → total κ g (loaded κ g l) ≤ limit → Kept κ g (load l) p (record { part = loaded κ g l; reply = no_report 0 })
unfolding entry
load-law κ g hw l p b = record {
  good = record { size = length-loaded κ g l; bounded = b; stored = stored-loaded κ g l; small = λ e h. subst (λ x. x < weight_sum κ) (sym (remainder-loaded κ g l e h)) hw };
  entries = λ e h. ap pos (sym (mass-loaded κ g l e h));
}

emission-law : (κ : Kind) (g : Shape) (hw : 0 < weight_sum κ) (i j q : ℕ) (p : List ℕ) → Good κ g p → T (on_grid g i j) → stored_total κ g p + q ≤ limit
    → Kept κ g (emission i j q) p (closed_in κ g (element g i j) (emitted κ (element g i j) q p) (stored_total κ g p + q) p)
unfolding entry
emission-law κ g hw i j q p h on b =
    let e = element g i j in
    let he = on-grid-lt g i j on in
    let x = (emitted κ e q p).numbers in
    let t = stored_total κ g p + q in
    let width = length-emitted κ e q p in
    let small = remainder-emitted κ e q p hw in
    let holds = ap pos (held-emitted κ e q p) in
    let sum_is : total κ g (with_stored_total κ g t (with_element κ e x p)) ≡ total κ g p + q = pos-injective (total_of κ g e x p he width h small (pos q) holds t) in
    record { good = good_of κ g e x p he width h small (pos q) holds t (omega (arith, h.stored)) (omega (arith, h.stored)); entries = entries-of κ g e x p he width h small (pos q) holds t }

sub-pos : (m q : ℕ) → q ≤ m → pos (m - q) ≡ pos m -ℤ pos q
sub-pos m q h = eq-parts (omega (arith, sub-parts-of (pos m) (pos q), positive-pos m, negative-pos m, positive-pos q, negative-pos q, positive-pos (m - q), negative-pos (m - q)))

withdrawal-law : (κ : Kind) (g : Shape) (i j q : ℕ) (p : List ℕ) → Good κ g p → T (on_grid g i j) → q ≤ mass κ p (element g i j)
    → Kept κ g (withdrawal i j q) p (closed_in κ g (element g i j) (withdrawn κ (element g i j) q p) (stored_total κ g p - q) p)
unfolding entry
withdrawal-law κ g i j q p h on b =
    let e = element g i j in
    let he = on-grid-lt g i j on in
    let x = (withdrawn κ e q p).numbers in
    let t = stored_total κ g p - q in
    let width = length-withdrawn κ e q p in
    let small = remainder-withdrawn κ e q p b (h.small e he) in
    let holds = ap pos (held-withdrawn κ e q p) ∙ sub-pos (mass κ p e) q b in
    let within = mass-le-total κ g p e he in
    let sum_is : total κ g (with_stored_total κ g t (with_element κ e x p)) ≡ total κ g p - q =
    pos-injective (total_of κ g e x p he width h small (neg_ℤ (pos q)) holds t ∙ sym (sub-pos (total κ g p) q (omega arith))) in
    record {
      good = good_of κ g e x p he width h small (neg_ℤ (pos q)) holds t (omega (arith, h.bounded)) (omega (arith, h.stored));
      entries = λ e' l. ap (λ y. pos (mass κ p e') +ℤ y) (only-neg (eqb e e') (pos q)) ∙ entries-of κ g e x p he width h small (neg_ℤ (pos q)) holds t e' l;
    }

step-law : (κ : Kind) (g : Shape) (hw : 0 < weight_sum κ) (hx : 0 < g.nx) (hy : 0 < g.ny) (l : Lent) (p : List ℕ) → Good κ g p → Kept κ g (step l) p (done κ g (step l) p)
unfolding entry done tracer_step
step-law κ g hw hx hy l p h = record { good = good-after κ g p _ _ hx hy hw h.bounded h.stored; entries = entries-after κ g p _ _ hx hy }

pub operation-law : (κ : Kind) (g : Shape) (hw : 0 < weight_sum κ) (hx : 0 < g.nx) (hy : 0 < g.ny) (op : Operation Lent) (there : Bool) (p : List ℕ) → Good κ g p → Passed (checks κ g op there p)
    → Kept κ g op p (done κ g op p)
unfolding done checks tracer_step
operation-law κ g hw hx hy (load l) there p h c = load-law κ g hw l p (leb→le _ _ c.1.0)
operation-law κ g hw hx hy (emission i j q) there p h c = emission-law κ g hw i j q p h c.1.1.0 (leb→le _ _ c.1.1.1.0)
operation-law κ g hw hx hy (withdrawal i j q) there p h c = withdrawal-law κ g i j q p h c.1.1.0 (leb→le _ _ c.1.1.1.0)
operation-law κ g hw hx hy (step l) there p h c = step-law κ g hw hx hy l p h

-- Refusal 6 (document 02, 2026-06): a good part passes every test for it, so that no call on a good part is refused by 6, nor is one on the wind.
use mathlib.Core.Path.{sym}
use mathlib.Core.Bool.{Bool, true, false}
use mathlib.Core.List.{List}
use mathlib.Core.Logic.{◌≢◌}
use Prim.Native.Nat.{ℕ, ◌<◌}
use native.Mathlib.Omega.{arith}
use lib.Dec.{T, eqb, leb, ltb, le→leb, lt→ltb, ltb→lt}
use lib.IntN.{ℤ}
use Rattle.whole.specs.Sum.{all}
use Rattle.whole.proofs.Cases.{eqb_of, both}
use Rattle.whole.proofs.SumLaws.{all_of}
use Rattle.rules.specs.declared.Shape.{Shape}
use Rattle.rules.specs.Answers.{refused}
use Rattle.rules.specs.Field.{Kind, elements, element, on_grid, part, stored_total, mass, total, limit, remainder_sound, sum_sound, sound, stored_sound, element_sound, named_sound, if_there}
use Rattle.rules.specs.Calls.{Operation, load, emission, withdrawal, step, Lent, checks, call_checks, call, WindCall, one_face, from_records, own_checks, wind_checks, wind_reply}
use Rattle.rules.specs.WindRecords.{record_checks, reading_checks, record_start, all_record_checks}
use Rattle.rules.proofs.AnswerLaws.{PassedAt, passed_at-append, passed_at-blocks, not-refused}
use Rattle.rules.proofs.PartLaws.{Good, mass-le-total}
use Rattle.rules.proofs.CallLaws.{on-grid-lt}

-- of what may not be there: passed where it is there
pub where_there : (there test : Bool) → (T there → T test) → T (if_there there test)
unfolding if_there
where_there true test h = h tt
where_there false test h = tt

-- ---- a good part
module _ (κ : Kind) (g : Shape) (p : List ℕ) (h : Good κ g p) where
  -- of all numbers
  pub good-sound : T (sound κ g p)
  unfolding sound sum_sound
  good-sound = both (sum_sound κ g p) (eqb (total κ g p) (stored_total κ g p))
      (both (all (elements g) (remainder_sound κ p)) (leb (total κ g p) limit) (all_of (elements g) (remainder_sound κ p) (λ e l. lt→ltb _ _ (h.small e l))) (le→leb _ _ h.bounded))
      (eqb_of (sym h.stored))

  -- of the stored total, and of an element of the grid
  pub good-stored : T (stored_sound κ g p)
  unfolding stored_sound
  good-stored = le→leb _ _ (omega (arith, h.stored, h.bounded))

  good-element : (e : ℕ) → e < elements g → T (element_sound κ g p e)
  unfolding element_sound
  good-element e l = both (remainder_sound κ p e) (leb (mass κ p e) (stored_total κ g p)) (lt→ltb _ _ (h.small e l)) (le→leb _ _ (omega (arith, h.stored, mass-le-total κ g p e l)))

  pub good-named : (i j : ℕ) → T (named_sound κ g i j p)
  unfolding named_sound
  good-named i j = both (stored_sound κ g p) (if_there (on_grid g i j) (element_sound κ g p (element g i j))) good-stored
      (where_there (on_grid g i j) (element_sound κ g p (element g i j)) (λ t. good-element (element g i j) (on-grid-lt g i j t)))

-- ---- the calls: only emission, withdrawal and step have a check of number 6
module _ (κ : Kind) (g : Shape) (s : ℕ) (field : List ℕ) (good : s < g.tracers → Good κ g (part κ g s field)) where
  of-the-tracer : (test : Bool) → (Good κ g (part κ g s field) → T test) → T (if_there (ltb s g.tracers) test)
  of-the-tracer test h = where_there (ltb s g.tracers) test (λ t. h (good (ltb→lt _ _ t)))

  own-passed : (op : Operation Lent) → PassedAt 6 (checks κ g op (ltb s g.tracers) (part κ g s field))
  unfolding checks
  own-passed (load numbers) = (tt, (tt, tt))
  own-passed (emission i j q) = (of-the-tracer (named_sound κ g i j (part κ g s field)) (λ h. good-named κ g (part κ g s field) h i j), (tt, (tt, (tt, tt))))
  own-passed (withdrawal i j q) = (of-the-tracer (named_sound κ g i j (part κ g s field)) (λ h. good-named κ g (part κ g s field) h i j), (tt, (tt, (tt, tt))))
  own-passed (step l) = (tt, (of-the-tracer (sound κ g (part κ g s field)) (good-sound κ g (part κ g s field)), (tt, tt)))

  pub call-never-6 : (op : Operation Lent) → (call κ g s op field).reply ≢ refused 6
  unfolding call
  call-never-6 op = not-refused 6 (call_checks κ g s op field) _ (tt, (tt, own-passed op))

module _ (g : Shape) where
  record-passed : (records : List ℕ) (p : ℕ) → PassedAt 6 (record_checks records p)
  unfolding record_checks reading_checks
  record-passed records p = (tt, (tt, (tt, tt)))

  wind-passed : (c : WindCall) → PassedAt 6 (own_checks g c)
  unfolding all_record_checks
  wind-passed (one_face f) = (tt, (tt, tt))
  wind-passed (from_records records) = passed_at-append 6 _ _ (passed_at-blocks 6 (elements g) (λ e. record_checks records (record_start records e)) (λ e. record-passed records (record_start records e))) (tt, tt)

  pub wind-never-6 : (c : WindCall) (wind : List ℤ) → wind_reply g c wind ≢ refused 6
  unfolding wind_reply
  wind-never-6 c wind = not-refused 6 (wind_checks g c wind) _ (tt, (tt, wind-passed c))

-- A row of calls that keep their contracts is the list performed: the same answers, and the same state after it.
use mathlib.Core.Path.{◌≡◌, refl, sym, ap, ap₂, subst, ◌∙◌}
use mathlib.Core.List.{List, [], ◌∷◌}
use Prim.Native.Nat.{ℕ, ◌≤◌, ◌<◌}
use native.Mathlib.Omega.{arith}
use lib.Dec.{leb, leb→le}
use lib.IntN.{ℤ, pos}
use lib.ListN.{length, take, drop}
use lib.Seq.{take_at}
use Rattle.whole.specs.Sum.{sum_ℤ}
use Rattle.whole.proofs.Cases.{both_yes}
use Rattle.whole.proofs.OverwriteLaws.{front-is}
use Rattle.rules.specs.declared.Shape.{Shape}
use Rattle.std.specs.Prelude.{Ok}
use Rattle.rules.specs.Answers.{Answer, accepted, refused, mapped, plain, answers}
use Rattle.rules.specs.Field.{quadratic, elements, faces, field_length, part, remainder, mass, total, stored_total, sound, limit}
use Rattle.rules.specs.Calls.{Operation, load, emission, withdrawal, step, Lent, lengths_lent, lent, Reply, no_report, done, call, fresh_reply, fresh_field, fresh_wind, zero_field, zero_wind, clipped_mass, report_after, FreshGives, fresh_checks}
use Rattle.rules.specs.Step.{tracer_step}
use Rattle.rules.proofs.AnswerLaws.{answer-ind, after-accepted}
use Rattle.rules.proofs.FieldLaws.{call-ind}
use Rattle.rules.proofs.StepLaws.{report-length}
use Rattle.ledger.specs.Lists.{Call, on_wind, on, State, Buffers, fresh, lend, unreported, perform, run, NeverRefused, ledger, strike, replies_left}
use Rattle.ledger.specs.Demand3.{Demand3}
use Rattle.ledger.specs.OverCalls.{Given, Made, Row, reported, told, all_told, AfterRow}
use Rattle.ledger.proofs.Theorem.{demand-3}

-- ---- one answer
-- with no report and nothing clipped: what the code answers is all that there is
no-report : (a : Answer Reply) (o : Answer (Unit {0})) → ((r : Reply) → a ≡ accepted r → r ≡ no_report 0) → o ≡ plain a → unreported o ≡ a
unfolding unreported mapped
no-report (accepted r) o h e = ap unreported e ∙ ap accepted (sym (h r refl))
no-report (refused n) o h e = ap unreported e

-- with a clipped mass, which the code answers: with the report it is all that there is
with-report : (a : Answer Reply) (o : Answer ℕ) (l : List ℤ) → ((r : Reply) → a ≡ accepted r → r.report ≡ l) → o ≡ clipped_mass a → reported o l ≡ a
unfolding reported mapped
with-report (accepted r) o l h e = ap (λ x. reported x l) e ∙ ap (λ l. accepted (record { report = l; clipped = r.clipped })) (sym (h r refl))
with-report (refused n) o l h e = ap (λ x. reported x l) e

-- a report of n numbers is the front of what the report buffer holds then
report-left : (n : ℕ) (a : Answer Reply) (r : Reply) (old new : List ℤ) → a ≡ accepted r → length r.report ≡ n → new ≡ report_after a old → take n new ≡ r.report
unfolding report_after
report-left n a r old new e h f = ap (take n) (f ∙ ap (λ y. report_after y old) e ∙ front-is r.report old) ∙ take_at r.report (drop (length r.report) old) n h

module _ (g : Shape) (s : ℕ) (op : Operation Lent) (field : List ℕ) where
  -- an accepted answer holds the operation's reply
  reply-of : (r : Reply) → (call quadratic g s op field).reply ≡ accepted r → r ≡ (done quadratic g op (part quadratic g s field)).reply
  reply-of r = call-ind quadratic g s op field (λ a x. a ≡ accepted r → r ≡ (done quadratic g op (part quadratic g s field)).reply)
      (λ n e. let z : ◌≡◌ {A = ℕ} 0 1 = cc in absurd (omega arith)) (λ _ e. cc)

-- a step's report has a number for each face
report-long : (g : Shape) (p : List ℕ) (l : Lent) → length (done quadratic g (step l) p).reply.report ≡ faces g
unfolding done tracer_step
report-long g p l = report-length quadratic g p _

-- ---- one call
module _ (g : Shape) (b : Buffers) where
  -- a step that is lent report and work of the lengths b is lent what the list's is
  lent_is : (x : State) (d : Given) → length d.lent_report ≡ b.report_length → length d.lent_work ≡ b.work_length
      → lent x.wind d.lent_report d.lent_work ≡ lengths_lent x.wind b.report_length b.work_length
  lent_is x d r w = λ i. lengths_lent x.wind (r i) (w i)

  told_is : (c : Call) (x : State) (d : Given) → Made g b c x d → told g c d ≡ (perform quadratic g b c x).reply
  unfolding told perform lend done
  told_is (on_wind c) x d h = ap unreported h.0.0
  told_is (on s (load numbers)) x d h = no-report _ _ (reply-of g s (load numbers) x.field) h.0.0
  told_is (on s (emission i j q)) x d h = with-report _ _ [] (λ r e. ap (λ y. y.report) (reply-of g s (emission i j q) x.field r e)) h.0.0
  told_is (on s (withdrawal i j q)) x d h = with-report _ _ [] (λ r e. ap (λ y. y.report) (reply-of g s (withdrawal i j q) x.field r e)) h.0.0
  told_is (on s (step u)) x d h =
      let l = lent x.wind d.lent_report d.lent_work in
      let a = (call quadratic g s (step l) x.field).reply in
      let long = λ (r : Reply) (e : a ≡ accepted r). ap (λ y. length y.report) (reply-of g s (step l) x.field r e) ∙ report-long g (part quadratic g s x.field) l in
      with-report a _ _ (λ r e. sym (report-left (faces g) a r d.lent_report d.left_report e (long r e) h.0.1.1.0)) h.0.0
      ∙ ap (λ y. (call quadratic g s (step y) x.field).reply) (lent_is x d h.1.1.0 h.1.1.1)

  state-is : (c : Call) (x : State) (d : Given) → Made g b c x d → d.state ≡ (perform quadratic g b c x).state
  unfolding perform lend
  state-is (on_wind c) x d h = λ i. record { field = h.1 i; wind = h.0.1 i }
  state-is (on s (load numbers)) x d h = λ i. record { field = h.0.1 i; wind = h.1 i }
  state-is (on s (emission i j q)) x d h = λ k. record { field = h.0.1 k; wind = h.1 k }
  state-is (on s (withdrawal i j q)) x d h = λ k. record { field = h.0.1 k; wind = h.1 k }
  state-is (on s (step u)) x d h =
      let f = h.0.1.0 ∙ ap (λ y. (call quadratic g s (step y) x.field).field) (lent_is x d h.1.1.0 h.1.1.1) in
      λ i. record { field = f i; wind = h.1.0 i }

  -- ---- a row
  pub record Same (calls : List Call) (x : State) (ds : List Given) (z : State) : Type 0 where
    pub replies : all_told g calls ds ≡ (run quadratic g b calls x).replies
    pub end : z ≡ (run quadratic g b calls x).end

  pub row_is : (calls : List Call) (x : State) (ds : List Given) (z : State) → Row g b calls x ds z → Same calls x ds z
  unfolding all_told run
  row_is [] x [] z h = record { replies = refl; end = sym h }
  row_is [] x (d ∷ ds) z h = absurd h
  row_is (c ∷ cs) x [] z h = absurd h
  row_is (c ∷ cs) x (d ∷ ds) z h =
      let r = row_is cs d.state ds z h.1 in
      let e = state-is c x d h.0 in
      record { replies = ap₂ ◌∷◌ (told_is c x d h.0) (r.replies ∙ ap (λ y. (run quadratic g b cs y).replies) e); end = r.end ∙ ap (λ y. (run quadratic g b cs y).end) e }

-- ---- the start: what an accepted call `fresh` gives
never : (n : ℕ) → ◌≡◌ {A = Answer (Unit {0})} (accepted tt) (refused n) → ⊥
never n e = let z : ◌≡◌ {A = ℕ} 0 1 = cc in omega arith

module _ (g : Shape) (field : List ℕ) (wind : List ℤ) (x : State) (h : FreshGives quadratic g field wind (answers (Ok tt)) x.field x.wind) where
  fresh-room : field_length quadratic g ≤ length field
  unfolding fresh_reply
  fresh-room = answer-ind (λ a. accepted tt ≡ a → field_length quadratic g ≤ length field)
      (fresh_checks quadratic g field wind) tt
      (λ n e. absurd (never n e))
      (λ c e. leb→le _ _ (both_yes (leb (field_length quadratic g) (length field)) (leb (faces g) (length wind)) c.1.0).0) h.0

  fresh-is : x ≡ fresh quadratic g field wind
  unfolding fresh fresh_field fresh_wind
  fresh-is =
      let f = h.1.0 ∙ after-accepted (fresh_reply quadratic g field wind) tt (zero_field quadratic g field) field (sym h.0) in
      let w = h.1.1 ∙ after-accepted (fresh_reply quadratic g field wind) tt (zero_wind g wind) wind (sym h.0) in
      λ i. record { field = f i; wind = w i }

-- DEMAND 3 over the calls: a call `fresh` that was accepted, and then every row of calls that keep their contracts
pub demand-3-over-calls : (g : Shape) (b : Buffers) (field : List ℕ) (wind : List ℤ) (x : State) → FreshGives quadratic g field wind (answers (Ok tt)) x.field x.wind
    → (calls : List Call) (ds : List Given) (z : State) → Row g b calls x ds z → AfterRow g b x calls ds z
demand-3-over-calls g b field wind x started calls ds z row =
    let h = subst (λ y. Demand3 quadratic g b y 36 limit calls) (sym (fresh-is g field wind x started)) (demand-3 g b field wind (fresh-room g field wind x started) calls) in
    let w = row_is g b calls x ds z row in
    record {
      ledger-agrees = λ s hs e he. ap (λ l. ledger quadratic g calls l s e) w.replies ∙ h.ledger-agrees s hs e he ∙ ap (λ y. pos (mass quadratic (part quadratic g s y.field) e)) (sym w.end);
      remainders = λ s hs e he. subst (λ y. remainder quadratic (part quadratic g s y.field) e < 36) (sym w.end) (h.remainders s hs e he);
      totals = λ s hs. subst (λ y. total quadratic g (part quadratic g s y.field) ≤ limit) (sym w.end) (h.totals s hs);
      stored = λ s hs. ap (λ y. pos (stored_total quadratic g (part quadratic g s y.field))) w.end ∙ h.stored s hs ∙ ap (λ l. sum_ℤ (elements g) (ledger quadratic g calls l s)) (sym w.replies);
      never-6 = subst (NeverRefused 6) (sym w.replies) h.never-6;
      sound-parts = λ s hs. ap (λ y. sound quadratic g (part quadratic g s y.field)) w.end ∙ h.sound-parts s hs;
      replies-stay = λ s hs ds' z' row'. (row_is g b (strike s calls) x ds' z' row').replies ∙ h.replies-stay s hs ∙ ap (replies_left s calls) (sym w.replies);
      part_stays = λ s hs ds' z' row'. ap (λ y. part quadratic g s y.field) (row_is g b (strike s calls) x ds' z' row').end ∙ h.part_stays s hs ∙ ap (λ y. part quadratic g s y.field) (sym w.end);
    }

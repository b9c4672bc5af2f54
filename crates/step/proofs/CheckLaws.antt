-- The step's checks: what each refusal and an accepted step have shown.
use mathlib.Core.Path.{◌≡◌, refl, sym, ap, subst, ◌∙◌}
use mathlib.Core.Bool.{Bool, true, false, ◌&&◌}
use mathlib.Core.List.{List, [], ◌∷◌, ◌++◌}
use Prim.Native.Nat.{ℕ, ◌*◌, ◌≤◌, ◌<◌}
use native.Mathlib.Omega.{arith}
use lib.Dec.{T, leb, ltb, leb→le, ltb→lt}
use lib.IntN.{ℤ, nat_abs}
use lib.ListN.{length, take, drop}
use lib.Seq.{drop_at}
use Rattle.whole.specs.Table.{overwrite}
use Rattle.whole.proofs.Cases.{both_yes, true_of}
use Rattle.whole.proofs.OverwriteLaws.{front-is}
use Rattle.whole.proofs.SumLaws.{all-at}
use Rattle.rules.specs.declared.Shape.{Shape}
use Rattle.rules.specs.Answers.{Answer, accepted, refused, Check, check, answer, mapped, plain}
use Rattle.rules.specs.Field.{quadratic, admitted, faces, work_needed, field_length, part_length, part, with_part, total, sound, if_there, Admitted, wind_in_range}
use Rattle.rules.specs.Step.{tracer_step}
use Rattle.rules.specs.Calls.{Operation, step, Lent, lengths_lent, wind_at, wind_sound, lent_enough, checks, done, call, clipped_mass, report_after, WorkAfter, Reply}
use Rattle.rules.proofs.AnswerLaws.{Passed, answer-ind, prefix-refused, prefix-accepted}
use Rattle.rules.proofs.FieldLaws.{tested}
use Rattle.rules.proofs.ShapeLaws.{ranges}
use Rattle.field.specs.Leaves.{sum_reading}
use Rattle.field.proofs.CheckLaws.{call-refused}
use Rattle.step_upwind.specs.Upwind.{WindsInRange}

-- ---- the call's answer, by its tests
module _ (g : Shape) (s : ℕ) (f : List ℕ) (wind : List ℤ) (rl wl : ℕ) where
  abbrev op : Operation Lent
  op = step (lengths_lent wind rl wl)

  abbrev p : List ℕ
  p = part quadratic g s f

  -- the buffers are long enough
  abbrev pub enough : Bool
  enough = leb (field_length quadratic g) (length f) && (leb (faces g) (length wind) && (leb (faces g) rl && leb (work_needed g) wl))

  -- 6 and 7
  abbrev last-two : List Check
  last-two = check 6 (if_there (ltb s g.tracers) (sound quadratic g p)) ∷ check 7 (ltb s g.tracers) ∷ []

  abbrev r : Reply
  r = let d = tracer_step quadratic g (wind_at wind) p in record { report = d.report; clipped = d.clipped }

  pub step-2 : admitted g ≡ false → (call quadratic g s op f).reply ≡ refused 2
  unfolding call answer
  step-2 a = rw a

  pub step-4 : admitted g ≡ true → enough ≡ false → (call quadratic g s op f).reply ≡ refused 4
  unfolding call answer lent_enough
  step-4 a e = rw (a, e)

  pub step-5 : admitted g ≡ true → enough ≡ true → wind_sound g wind ≡ false → (call quadratic g s op f).reply ≡ refused 5
  unfolding call answer lent_enough checks
  step-5 a e w = rw (a, e, w)

  rest : admitted g ≡ true → enough ≡ true → wind_sound g wind ≡ true → (call quadratic g s op f).reply ≡ answer last-two r
  unfolding call answer lent_enough checks done
  rest a e w = rw (a, e, w)

  field-enough : (a b : Bool) → (a && b) ≡ true → a ≡ true
  field-enough true b e = refl
  field-enough false b e = e

  reading : admitted g ≡ true → enough ≡ true → sum_reading g s f ≡ answer last-two (total quadratic g p)
  unfolding sum_reading answer
  reading a e = rw (a, field-enough (leb (field_length quadratic g) (length f)) _ e)

  pub step-refused : (n : ℕ) → admitted g ≡ true → enough ≡ true → wind_sound g wind ≡ true → sum_reading g s f ≡ refused n → (call quadratic g s op f).reply ≡ refused n
  step-refused n a e w t = rest a e w ∙ prefix-refused last-two [] (total quadratic g p) r n (sym (reading a e) ∙ t)

  pub step-accepted : (t : ℕ) → admitted g ≡ true → enough ≡ true → wind_sound g wind ≡ true → sum_reading g s f ≡ accepted t → (call quadratic g s op f).reply ≡ accepted r
  unfolding answer
  step-accepted t a e w q = rest a e w ∙ prefix-accepted last-two [] (total quadratic g p) t r (sym (reading a e) ∙ q)

  -- what an accepted step has shown
  pub record Stepping : Type 0 where
    pub shape : Admitted g
    pub room : field_length quadratic g ≤ length f
    pub tracer : s < g.tracers
    pub wind-range : WindsInRange g wind
    pub reports : faces g ≤ rl
    pub works : work_needed g ≤ wl
    pub part-sound : sound quadratic g p ≡ true
    pub answers : (call quadratic g s op f).reply ≡ accepted r

  winds-ranged : faces g ≤ length wind → T (wind_sound g wind) → WindsInRange g wind
  unfolding wind_sound
  winds-ranged long t = record { long = long; small = λ f l. record { within = leb→le (nat_abs (wind_at wind f)) 1024 (all-at (faces g) (λ f. wind_in_range (wind_at wind f)) t f l) } }

  abbrev all-checks : List Check
  all-checks = check 2 (admitted g) ∷ check 4 enough ∷ check 5 (wind_sound g wind) ∷ last-two

  reply-is : (call quadratic g s op f).reply ≡ answer all-checks r
  unfolding call lent_enough checks done
  reply-is = refl

  stepping-of : Passed all-checks → (call quadratic g s op f).reply ≡ accepted r → Stepping
  stepping-of c e =
      let shape = ranges g c.0 in
      let b = both_yes (leb (field_length quadratic g) (length f)) _ c.1.0 in
      let w = both_yes (leb (faces g) (length wind)) _ b.1 in
      let q = both_yes (leb (faces g) rl) (leb (work_needed g) wl) w.1 in
      record {
        shape = shape;
        room = leb→le _ _ b.0;
        tracer = ltb→lt _ _ c.1.1.1.1.0;
        wind-range = winds-ranged (leb→le _ _ w.0) c.1.1.0;
        reports = leb→le _ _ q.0;
        works = leb→le _ _ q.1;
        part-sound = true_of (sound quadratic g p) (tested (ltb s g.tracers) (sound quadratic g p) c.1.1.1.1.0 c.1.1.1.0);
        answers = e;
      }

  pub stepping : plain (call quadratic g s op f).reply ≡ accepted tt → Stepping
  unfolding mapped
  stepping e = answer-ind (λ a. (call quadratic g s op f).reply ≡ a → plain a ≡ accepted tt → Stepping) all-checks r
      (λ n q z. let w : ◌≡◌ {A = ℕ} 0 1 = cc in absurd (omega arith)) (λ c q z. stepping-of c q) reply-is (ap plain (sym reply-is) ∙ e)

-- ---- what a call leaves of report and work
pub report-refused : (a : Answer Reply) (n : ℕ) (old : List ℤ) → a ≡ refused n → old ≡ report_after a old
unfolding report_after
report-refused a n old e = sym (ap (λ x. report_after x old) e)

pub report-accepted : (a : Answer Reply) (r : Reply) (old : List ℤ) → a ≡ accepted r → overwrite 0 r.report old ≡ report_after a old
unfolding report_after
report-accepted a r old e = sym (ap (λ x. report_after x old) e)

pub work-refused : (g : Shape) (a : Answer Reply) (n : ℕ) (old : List ℤ) → a ≡ refused n → WorkAfter g a old old
work-refused g a n old e = subst (λ x. WorkAfter g x old old) (sym e) refl

-- the numbers that are needed were lent and came back as x; the rest is the old surplus
pub work-accepted : (g : Shape) (a : Answer Reply) (r : Reply) (old x new : List ℤ) → a ≡ accepted r → new ≡ x ++ drop (work_needed g) old → length x ≡ work_needed g → length new ≡ length old → WorkAfter g a old new
work-accepted g a r old x new e q l h = subst (λ y. WorkAfter g y old new) (sym e) (h, ap (drop (work_needed g)) q ∙ drop_at x (drop (work_needed g) old) (work_needed g) l)

-- the numbers of the report that were lent and written, before the rest
pub report-back : (n : ℕ) {x : List ℤ} (new old : List ℤ) → n ≡ length new → x ≡ new → x ++ drop n old ≡ overwrite 0 new old
report-back n new old en ex = (λ i. ex i ++ drop (en i) old) ∙ sym (front-is new old)

-- the part that was lent and written, back in its place
pub part-back : (g : Shape) (s at k : ℕ) (x new f : List ℕ) → at ≡ s * part_length quadratic g → k ≡ part_length quadratic g → x ≡ new → length new ≡ part_length quadratic g
    → take at f ++ (x ++ drop k (drop at f)) ≡ with_part quadratic g s new f
unfolding with_part overwrite
part-back g s at k x new f ea ek ex size = rw (ea, ek ∙ sym size, ex)

-- what a step on the grid of a shape gives is what it gives on the shape
pub on_shape : {a : Answer ℕ} {f' : List ℕ} {r' : List ℤ} (w' : List ℤ) {g h : Shape} (s : ℕ) (o : Operation Lent) (f : List ℕ) (r w : List ℤ) → g ≡ h
    → (a ≡ clipped_mass (call quadratic g s o f).reply) × ((f' ≡ (call quadratic g s o f).field) × ((r' ≡ report_after (call quadratic g s o f).reply r) × WorkAfter g (call quadratic g s o f).reply w w'))
    → (a ≡ clipped_mass (call quadratic h s o f).reply) × ((f' ≡ (call quadratic h s o f).field) × ((r' ≡ report_after (call quadratic h s o f).reply r) × WorkAfter h (call quadratic h s o f).reply w w'))
on_shape {a} {f'} {r'} w' s o f r w e h =
    subst (λ k. (a ≡ clipped_mass (call quadratic k s o f).reply) × ((f' ≡ (call quadratic k s o f).field) × ((r' ≡ report_after (call quadratic k s o f).reply r) × WorkAfter k (call quadratic k s o f).reply w w'))) e h

-- a refused step leaves every buffer
pub left : (g : Shape) (s : ℕ) (o : Operation Lent) (f : List ℕ) (r w : List ℤ) (n : ℕ) → (call quadratic g s o f).reply ≡ refused n
    → (refused n ≡ clipped_mass (call quadratic g s o f).reply) × ((f ≡ (call quadratic g s o f).field) × ((r ≡ report_after (call quadratic g s o f).reply r) × WorkAfter g (call quadratic g s o f).reply w w))
left g s o f r w n e = let q = call-refused (λ x. x.clipped) g s o f n e in (q.0, (q.1, (report-refused _ n r e, work-refused g _ n w e)))

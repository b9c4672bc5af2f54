-- Laws of what is printed: one tracer's lines after its step, and the whole text.
use mathlib.Core.Path.{◌≡◌, sym, ap, subst, ◌∙◌}
use mathlib.Core.List.{List, [], ◌++◌, append-nil, append_assoc}
use Prim.Native.Nat.{ℕ, ◌+◌, ◌*◌, ◌≤◌, ◌<◌}
use native.Mathlib.Nat.{zero-add, suc-mul}
use native.Mathlib.Decide.{le_ind}
use native.Mathlib.Numerals.{add-one}
use native.Mathlib.Omega.{arith}
use lib.IntN.{ℤ, pos}
use lib.ListN.{length}
use Rattle.whole.specs.Table.{overwrite, at}
use Rattle.whole.proofs.TableLaws.{blocks-cong}
use Rattle.whole.proofs.OverwriteLaws.{overwrite-inside}
use Rattle.rules.specs.declared.Shape.{Shape}
use Rattle.rules.specs.declared.Refusal.{Refusal}
use Rattle.rules.specs.declared.Way.{Way}
use Rattle.rules.specs.declared.Way.TheVariants.{East, North}
use Rattle.std.specs.Prelude.{Result}
use Rattle.std.specs.Result.{IsErrAnd}
use Rattle.std.proofs.lemmas.Result.{err_from_is_err_and}
use Rattle.rules.specs.Answers.{Answer, accepted, refused, mapped, number}
use Rattle.rules.specs.Field.{quadratic, faces, part}
use Rattle.rules.specs.Grid.{face_index}
use Rattle.rules.specs.Step.{Stepped, tracer_step}
use Rattle.rules.specs.Calls.{step, lengths_lent, Called, call, wind_at, total_reading, report_after, Reply, clipped_mass}
use Rattle.rules.specs.Program.{grid_line, face_line, face_row, face_lines, total_line, tracer_lines, next, Printed, report_lent, work_lent, stepped, up_to}
use Rattle.rules.proofs.AnswerLaws.{mapped-refused, mapped-accepted}
use Rattle.rules.proofs.StepLaws.{report-length}
use Rattle.text.specs.declared.Text.{Text}
use Rattle.text.specs.Adds.{Adds, HasRoom}
use Rattle.text.proofs.AddsLaws.{none-added, wider, then}
use Rattle.rules.proofs.GridLaws.{face-lt}
use Rattle.output.specs.AddedLines.{tracer_room, LinesAdded, AddedOrRefused}
use Rattle.step.proofs.CheckLaws.{Stepping, stepping, report-accepted}

-- ---- the lines of a report that stands at the front of a longer buffer
module _ (g : Shape) (s t n : ℕ) (rep old : List ℤ) (size : length rep ≡ faces g) (room : faces g ≤ length old) where
  value : (way : Way) (i j : ℕ) → i < g.nx → j < g.ny → at (overwrite 0 rep old) (face_index g way i j) ≡ at rep (face_index g way i j)
  value way i j hi hj = ap (at (overwrite 0 rep old)) (sym (zero-add (face_index g way i j))) ∙ overwrite-inside 0 rep old (omega (arith, size)) (pos 0) (face_index g way i j) (omega (arith, size, face-lt g way i j hi hj))

  row : (way : Way) (j : ℕ) → j < g.ny → face_row g s way (overwrite 0 rep old) j ≡ face_row g s way rep j
  unfolding face_row
  row way j hj = blocks-cong g.nx (λ i. face_line s way i j (at (overwrite 0 rep old) (face_index g way i j))) (λ i. face_line s way i j (at rep (face_index g way i j)))
      (λ i hi. ap (face_line s way i j) (value way i j hi hj))

  rows : (way : Way) → face_lines g s way (overwrite 0 rep old) ≡ face_lines g s way rep
  unfolding face_lines
  rows way = blocks-cong g.ny (face_row g s way (overwrite 0 rep old)) (face_row g s way rep) (λ j hj. row way j hj)

  pub lines-kept : tracer_lines g s (overwrite 0 rep old) t n ≡ tracer_lines g s rep t n
  unfolding tracer_lines
  lines-kept = λ k. rows East k ++ (rows North k ++ total_line s t n)

-- ---- one tracer: a step with report and work of these lengths, and then the reading of its total
module _ (g : Shape) (wind : List ℤ) (s : ℕ) (field : List ℕ) (rl wl : ℕ) (er : rl ≡ report_lent) (ew : wl ≡ work_lent) where
  abbrev c : Called
  c = call quadratic g s (step (lengths_lent wind rl wl)) field

  -- what `stepped` goes on with
  abbrev rest : List ℕ → Reply → Answer Printed
  rest after r = next (total_reading quadratic g s after) (λ total. accepted (record { text = tracer_lines g s r.report total r.clipped; field = after }))

  stepped-is : stepped g wind s field ≡ next c.reply (rest c.field)
  unfolding stepped
  stepped-is = λ i. let d = call quadratic g s (step (lengths_lent wind (sym er i) (sym ew i))) field in next d.reply (rest d.field)

  pub step-refused : (n : ℕ) → clipped_mass c.reply ≡ refused n → stepped g wind s field ≡ refused n
  step-refused n e = stepped-is ∙ ap (λ a. next a (rest c.field)) (mapped-refused (λ r. r.clipped) c.reply n e)

  module _ (n : ℕ) (e : clipped_mass c.reply ≡ accepted n) where
    -- what the accepted step has shown
    shown : Stepping g s field wind rl wl
    shown = stepping g s field wind rl wl (mapped-accepted (λ r. r.clipped) c.reply n e)

    -- what it leaves and gives; its clipped mass is n
    abbrev outcome : Stepped
    outcome = tracer_step quadratic g (wind_at wind) (part quadratic g s field)

    clipped-is : outcome.clipped ≡ n
    unfolding mapped
    clipped-is = let q : accepted outcome.clipped ≡ accepted n = sym (ap clipped_mass shown.answers) ∙ e in cc

    -- what is printed, for a total and the field after the step
    abbrev lines : List ℕ → ℕ → Answer Printed
    lines after total = accepted (record { text = tracer_lines g s outcome.report total n; field = after })

    answers : (after : List ℕ) → after ≡ c.field → stepped g wind s field ≡ next (total_reading quadratic g s after) (lines after)
    answers after f = stepped-is ∙ ap (λ a. next a (rest c.field)) shown.answers ∙ (λ i. rest (sym f i) (record { report = outcome.report; clipped = clipped-is i }))

    -- the report has room for its lines
    pub reports : faces g ≤ rl
    reports = shown.reports

    pub total-refused : (m : ℕ) (after : List ℕ) → after ≡ c.field → total_reading quadratic g s after ≡ refused m → stepped g wind s field ≡ refused m
    total-refused m after f q = answers after f ∙ ap (λ a. next a (lines after)) q

    pub lines-accepted : (t : ℕ) (after : List ℕ) → after ≡ c.field → total_reading quadratic g s after ≡ accepted t → stepped g wind s field ≡ lines after t
    lines-accepted t after f q = answers after f ∙ ap (λ a. next a (lines after)) q

    -- the lines that are printed from the report buffer
    pub lines_are : (t : ℕ) (old new : List ℤ) → new ≡ report_after c.reply old → faces g ≤ length old → tracer_lines g s new t n ≡ tracer_lines g s outcome.report t n
    unfolding tracer_step
    lines_are t old new q room =
        ap (λ l. tracer_lines g s l t n) (q ∙ sym (report-accepted c.reply (record { report = outcome.report; clipped = outcome.clipped }) old shown.answers))
        ∙ lines-kept g s t n outcome.report old (report-length quadratic g (part quadratic g s field) _) room

-- ---- all tracers: after the line of the grid, the lines of the first s of them are added
pub record TracersAdded (g : Shape) (wind : List ℤ) (s : ℕ) (first now' : List ℕ) (old new : Text) : Type 0 where
  pub text : List ℕ
  pub is : up_to g wind s first ≡ accepted (record { text = grid_line g ++ text; field = now' })
  pub added : Adds (s * tracer_room g) text old new

module _ (g : Shape) (wind : List ℤ) (first : List ℕ) where
  pub tracers-none : (t : Text) → HasRoom 0 t → TracersAdded g wind 0 first first t t
  unfolding up_to
  tracers-none t h = record { text = []; is = ap (λ l. accepted (record { text = l; field = first })) (sym (append-nil (grid_line g))); added = wider (none-added t h) (0 * tracer_room g) (omega arith) }

  -- one tracer more
  more : (s : ℕ) → up_to g wind (s + 1) first ≡ next (up_to g wind s first) (λ p. next (stepped g wind s p.field) (λ q. accepted (record { text = p.text ++ q.text; field = q.field })))
  unfolding up_to
  more s = rw (add-one s)

  module _ {s : ℕ} {field' : List ℕ} {old mid : Text} (p : TracersAdded g wind s first field' old mid) where
    joined : up_to g wind (s + 1) first ≡ next (stepped g wind s field') (λ q. accepted (record { text = (grid_line g ++ p.text) ++ q.text; field = q.field }))
    joined = more s ∙ ap (λ a. next a (λ p. next (stepped g wind s p.field) (λ q. accepted (record { text = p.text ++ q.text; field = q.field })))) p.is

    pub tracers-next : {new : Text} {after : List ℕ} → LinesAdded (tracer_room g) (stepped g wind s field') after mid new → TracersAdded g wind (s + 1) first after old new
    tracers-next {new} {after} t = record {
      text = p.text ++ t.text;
      is = joined ∙ ap (λ a. next a (λ q. accepted (record { text = (grid_line g ++ p.text) ++ q.text; field = q.field }))) t.is
          ∙ ap (λ l. accepted (record { text = l; field = after })) (append_assoc (grid_line g) p.text t.text);
      added = let k : (s + 1) * tracer_room g ≡ s * tracer_room g + tracer_room g = rw (add-one s) (suc-mul s (tracer_room g)) in wider (then p.added t.added) ((s + 1) * tracer_room g) (omega (arith, k));
    }

    pub tracers-refused : (n : ℕ) → stepped g wind s field' ≡ refused n → up_to g wind (s + 1) first ≡ refused n
    tracers-refused n e = joined ∙ ap (λ a. next a (λ q. accepted (record { text = (grid_line g ++ p.text) ++ q.text; field = q.field }))) e

  -- a refusal stays
  pub stays-refused : (n s m : ℕ) → up_to g wind s first ≡ refused n → s ≤ m → up_to g wind m first ≡ refused n
  stays-refused n s m e h = le_ind (λ k. up_to g wind k first ≡ refused n) e (λ k _ q. ap (λ j. up_to g wind j first) (sym (add-one k)) ∙ more k ∙ ap (λ a. next a (λ p. next (stepped g wind k p.field) (λ q. accepted (record { text = p.text ++ q.text; field = q.field })))) q) m h

-- ---- in the code's terms
-- where a refusal is passed on
pub passed : (n : ℕ) (a : Answer Printed) (field' : List ℕ) (old new : Text) (r : Result (Unit {0}) Refusal) (q : Refusal) → IsErrAnd r (λ y. y ≡ q) → a ≡ refused (number q) → AddedOrRefused n a field' old new r
passed n a field' old new r q h e =
    let p = err_from_is_err_and r h in
    subst (λ (x : Result (Unit {0}) Refusal). AddedOrRefused n a field' old new x) (sym p.1) (e ∙ ap (λ z. refused (number z)) (sym p.2))

-- where a tracer is refused, the run is
pub all-refused : (g : Shape) (wind : List ℤ) (first : List ℕ) (k : ℕ) (y : List ℕ) (z new : Text) {s n : ℕ} {field' : List ℕ} {old mid : Text} → TracersAdded g wind s first field' old mid → s < n
    → (r : Result (Unit {0}) Refusal) (q : Refusal) → IsErrAnd r (λ y. y ≡ q) → stepped g wind s field' ≡ refused (number q) → AddedOrRefused k (up_to g wind n first) y z new r
all-refused g wind first k y z new {s = s} {n = n} p h r q i e =
    passed k (up_to g wind n first) y z new r q i (stays-refused g wind first (number q) (s + 1) n (tracers-refused g wind first p (number q) e) (omega arith))

-- the whole text
pub all-added : (g : Shape) (wind : List ℤ) (n : ℕ) (first now' : List ℕ) {old mid new : Text} → Adds 68 (grid_line g) old mid → TracersAdded g wind n first now' mid new
    → LinesAdded (68 + n * tracer_room g) (up_to g wind n first) now' old new
all-added g wind n first now' a p = record { text = grid_line g ++ p.text; is = p.is; added = then a p.added }

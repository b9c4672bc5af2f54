-- Document 01, "Calls on a field" and "Who meets which refusal", and of document 02 the import of 2026-01, the clipped mass of 2026-04 and the stored
-- total of 2026-06: what each call answers, and what it leaves in its buffers.
use Rattle.std.specs.Prelude.{◌≡◌, Bool, ◌&&◌, ℕ, ◌+◌, ◌*◌, ◌-◌, leb, ltb, ℤ, length, get_or, replicate, drop}
use Rattle.std.proofs.Math.Bool.{true}
use mathlib.Core.List.{List, [], ◌∷◌, ◌++◌}
use Rattle.std.proofs.Math.IntN.{pos}
use Rattle.std.proofs.Math.ListN.{set}
use Rattle.whole.specs.Sum.{all}
use Rattle.whole.specs.Table.{table, blocks, overwrite}
use Rattle.rules.specs.declared.Shape.{Shape}
use Rattle.rules.specs.declared.Face.{Face}
use Rattle.rules.specs.Answers.{Answer, accepted, refused, Check, check, answer, after, mapped}
use Rattle.rules.specs.Field.{Kind, admitted, elements, faces, work_needed, element, on_grid, element_length, field_length, part, with_part, stored_total, part_of, with_stored_total, cell, mass, total, limit, sound, stored_sound, named_sound, if_there, wind_in_range}
use Rattle.rules.specs.WindRecords.{all_record_checks, record_winds}
use Rattle.rules.specs.Limiter.{Closed, closed, closed_unlevelled}
use Rattle.rules.specs.Grid.{face_index}
use Rattle.rules.specs.Step.{tracer_step}

-- the stored wind of face f
abbrev pub wind_at : List ℤ → ℕ → ℤ
wind_at w f = get_or w f (pos 0)

-- 5, of "any stored one"
unfoldable pub wind_sound : Shape → List ℤ → Bool
unfolding all
wind_sound g w = all (faces g) (λ f. wind_in_range (wind_at w f))

-- zeros over the winds of the shape, as Fresh writes them; surplus stays
unfoldable pub zero_wind : Shape → List ℤ → List ℤ
unfolding overwrite
zero_wind g wind = overwrite 0 (replicate (faces g) (pos 0)) wind

-- ---- calls on a tracer
-- An operation on one tracer. A step also takes what it is lent beside the field (A).
pub data Operation (A : Type 0) : Type 0 where
  -- the nodal numbers of all elements
  load : List ℕ → Operation A
  -- element (i, j) and the amount q
  emission : ℕ → ℕ → ℕ → Operation A
  withdrawal : ℕ → ℕ → ℕ → Operation A
  step : A → Operation A

-- what a step is lent beside the field: the wind, and how long report and work are
pub record Lent : Type 0 where
  pub wind : List ℤ
  pub report_length : ℕ
  pub work_length : ℕ

-- the same from its three items, and from the buffers themselves
abbrev pub lengths_lent : List ℤ → ℕ → ℕ → Lent
lengths_lent wind report work = record { wind = wind; report_length = report; work_length = work }

abbrev pub lent : List ℤ → List ℤ → List ℤ → Lent
lent wind report work = lengths_lent wind (length report) (length work)

-- what an accepted call answers beside that: "An accepted step's answer there includes the report as that step left it", others have none; and the
-- clipped mass of a step, an emission or a withdrawal (document 02, 2026-04), others clip nothing
pub record Reply : Type 0 where
  pub report : List ℤ
  pub clipped : ℕ

-- no report, and this clipped mass
abbrev pub no_report : ℕ → Reply
no_report clipped = record { report = []; clipped = clipped }

-- the clipped mass alone
abbrev pub clipped_mass : Answer Reply → Answer ℕ
clipped_mass a = mapped (λ r. r.clipped) a

-- What the caller is told of an accepted call's reply: a load "answers only that it was accepted"; an emission, a withdrawal and a step give the
-- clipped mass, document 02, 2026-04: "A step gives the sum of this over its elements, in its result. Emission and withdrawal pass on their
-- closing's figure". A report is in a buffer of the caller's.
abbrev pub Told : {A : Type 0} → Operation A → Type 0
Told (load numbers) = Unit {0}
Told (emission i j q) = ℕ
Told (withdrawal i j q) = ℕ
Told (step l) = ℕ

abbrev pub tell : {A : Type 0} (op : Operation A) → Reply → Told op
tell (load numbers) r = tt
tell (emission i j q) r = r.clipped
tell (withdrawal i j q) r = r.clipped
tell (step l) r = r.clipped

-- what an accepted operation leaves: the tracer's part, and the call's reply
pub record Done : Type 0 where
  pub part : List ℕ
  pub reply : Reply

-- what a call on a tracer answers, and the field after it
pub record Called : Type 0 where
  pub reply : Answer Reply
  pub field : List ℕ

module _ (κ : Kind) where
  -- the number that a load lays at node k of element e: "elements and nodes in field order"
  unfoldable pub loaded_value : List ℕ → ℕ → ℕ → ℕ
  loaded_value numbers e k = get_or numbers (e * κ.nodes + k) 0

  -- the numbers of element e after a load: "nine u32 per element .. and ρ becomes 0"
  unfoldable pub loaded_element : List ℕ → ℕ → List ℕ
  unfolding loaded_value table
  loaded_element numbers e = table κ.nodes (loaded_value numbers e) ++ (0 ∷ [])

  -- a part with the numbers of element e replaced
  unfoldable pub with_element : ℕ → List ℕ → List ℕ → List ℕ
  unfolding overwrite element_length
  with_element e numbers p = overwrite (e * element_length κ) numbers p

  -- element e after an emission of q: "closing with ψ = φ, T = M + q"
  unfoldable pub emitted : ℕ → ℕ → List ℕ → Closed
  unfolding closed mass cell
  emitted e q p = closed κ (λ k. pos (cell κ p e k)) (mass κ p e + q)

  -- and after a withdrawal of q: "T = M − q, closing without levelling". Check 10 has shown that q is at most M
  unfoldable pub withdrawn : ℕ → ℕ → List ℕ → Closed
  unfolding closed_unlevelled mass cell
  withdrawn e q p = closed_unlevelled κ (λ k. pos (cell κ p e k)) (mass κ p e - q)

module _ (κ : Kind) (g : Shape) where
  -- "Load: nine u32 per element for one smoke .. every element is replaced and ρ becomes 0"; document 02, 2026-06: the stored total becomes "the new
  -- sum"
  unfoldable pub loaded : List ℕ → List ℕ
  unfolding loaded_element blocks part_of total
  loaded numbers =
      let laid = blocks (elements g) (loaded_element κ numbers) in
      part_of laid (total κ g laid)

  -- element e of a part replaced by what its closing gives, and the stored total by t: "Emission and withdrawal pass on their closing's figure"
  abbrev pub closed_in : ℕ → Closed → ℕ → List ℕ → Done
  closed_in e c t p = record { part = with_stored_total κ g t (with_element κ e c.numbers p); reply = no_report c.clipped }

  -- an accepted operation on a tracer's part; of the stored total, document 02, 2026-06: "emission adds q, withdrawal takes q off". A withdrawal's q is at
  -- most M by 10, and M at most the stored total by 6
  unfoldable pub done : Operation Lent → List ℕ → Done
  unfolding loaded with_element with_stored_total stored_total emitted withdrawn tracer_step
  done (load numbers) p = record { part = loaded numbers; reply = no_report 0 }
  done (emission i j q) p = closed_in (element g i j) (emitted κ (element g i j) q p) (stored_total κ g p + q) p
  done (withdrawal i j q) p = closed_in (element g i j) (withdrawn κ (element g i j) q p) (stored_total κ g p - q) p
  done (step l) p =
      let d = tracer_step κ g (wind_at l.wind) p in
      record { part = d.part; reply = record { report = d.report; clipped = d.clipped } }

  -- 4, "a lent slice is shorter than needed", of what an operation is lent beside the field
  unfoldable pub lent_enough : Operation Lent → Bool
  lent_enough (load numbers) = leb (elements g * κ.nodes) (length numbers)
  lent_enough (emission i j q) = true
  lent_enough (withdrawal i j q) = true
  lent_enough (step l) = leb (faces g) (length l.wind) && (leb (faces g) l.report_length && leb (work_needed g) l.work_length)

  -- 5 to 10, for the part p of a tracer that is there or not: one that is not there "has no numbers to search, so it passes here and meets 7". 9 of an
  -- emission counts from the stored total, that of a load from the sum that it lays
  unfoldable pub checks : Operation Lent → Bool → List ℕ → List Check
  unfolding loaded total if_there sound named_sound stored_total mass wind_sound
  checks (load numbers) there p = check 7 there ∷ check 9 (leb (total κ g (loaded numbers)) limit) ∷ []
  checks (emission i j q) there p =
      check 6 (if_there there (named_sound κ g i j p)) ∷ check 7 there ∷ check 8 (on_grid g i j) ∷ check 9 (leb (stored_total κ g p + q) limit) ∷ []
  checks (withdrawal i j q) there p =
      check 6 (if_there there (named_sound κ g i j p)) ∷ check 7 there ∷ check 8 (on_grid g i j) ∷ check 10 (leb q (mass κ p (element g i j))) ∷ []
  checks (step l) there p = check 5 (wind_sound g l.wind) ∷ check 6 (if_there there (sound κ g p)) ∷ check 7 there ∷ []

  -- all checks of a call on tracer s
  abbrev pub call_checks : ℕ → Operation Lent → List ℕ → List Check
  call_checks s op field = check 2 (admitted g) ∷ check 4 (leb (field_length κ g) (length field) && lent_enough op) ∷ checks op (ltb s g.tracers) (part κ g s field)

  -- a call on tracer s
  unfoldable pub call : ℕ → Operation Lent → List ℕ → Called
  unfolding answer after admitted field_length lent_enough checks done part with_part
  call s op field =
      let d = done op (part κ g s field) in
      let a = answer (call_checks s op field) d.reply in
      record { reply = a; field = after a (with_part κ g s d.part field) field }

  -- "Readings: an element's M; a smoke's total." 2, 4, 6 and 7, of which 6 asks `test` of tracer s's part
  abbrev pub part_checks : (List ℕ → Bool) → ℕ → List ℕ → List Check
  part_checks test s field =
      check 2 (admitted g) ∷ check 4 (leb (field_length κ g) (length field)) ∷ check 6 (if_there (ltb s g.tracers) (test (part κ g s field))) ∷ check 7 (ltb s g.tracers) ∷ []

  -- a tracer's total, as it is stored
  unfoldable pub total_reading : ℕ → List ℕ → Answer ℕ
  unfolding answer admitted field_length if_there part stored_sound stored_total
  total_reading s field = answer (part_checks (stored_sound κ g) s field) (stored_total κ g (part κ g s field))

  abbrev pub mass_checks : ℕ → ℕ → ℕ → List ℕ → List Check
  mass_checks s i j field = part_checks (named_sound κ g i j) s field ++ (check 8 (on_grid g i j) ∷ [])

  unfoldable pub mass_reading : ℕ → ℕ → ℕ → List ℕ → Answer ℕ
  unfolding answer admitted field_length if_there part named_sound mass
  mass_reading s i j field = answer (mass_checks s i j field) (mass κ (part κ g s field) (element g i j))

  -- "Fresh: writes zeros to field and wind."
  abbrev pub fresh_checks : List ℕ → List ℤ → List Check
  fresh_checks field wind = check 2 (admitted g) ∷ check 4 (leb (field_length κ g) (length field) && leb (faces g) (length wind)) ∷ []

  unfoldable pub fresh_reply : List ℕ → List ℤ → Answer (Unit {0})
  unfolding answer admitted field_length
  fresh_reply field wind = answer (fresh_checks field wind) tt

  -- zeros over the numbers of the shape, the stored totals among them: document 02, 2026-06, "Fresh sets it to 0"; surplus stays
  unfoldable pub zero_field : List ℕ → List ℕ
  unfolding overwrite field_length
  zero_field field = overwrite 0 (replicate (field_length κ g) 0) field

  -- field and wind after it
  unfoldable pub fresh_field : List ℕ → List ℤ → List ℕ
  unfolding fresh_reply zero_field after
  fresh_field field wind = after (fresh_reply field wind) (zero_field field) field

  unfoldable pub fresh_wind : List ℕ → List ℤ → List ℤ
  unfolding fresh_reply zero_wind after
  fresh_wind field wind = after (fresh_reply field wind) (zero_wind g wind) wind

-- ---- calls on the wind
-- "Wind: one face (east or north, i, j) gets a new C."; an import, whose records stand in the call, gives every face one (document 02, 2026-01)
pub data WindCall : Type 0 where
  one_face : Face → WindCall
  from_records : List ℕ → WindCall

module _ (g : Shape) where
  -- after 2 and 4: of a wind call 5 and 8; of an import "then records in order"
  abbrev pub own_checks : WindCall → List Check
  own_checks (one_face f) = check 5 (wind_in_range f.wind) ∷ check 8 (on_grid g f.i f.j) ∷ []
  own_checks (from_records records) = all_record_checks records (elements g)

  -- of an import: "the old 2, then 4 for the wind buffer"
  abbrev pub wind_checks : WindCall → List ℤ → List Check
  wind_checks c wind = check 2 (admitted g) ∷ check 4 (leb (faces g) (length wind)) ∷ own_checks c

  unfoldable pub wind_reply : WindCall → List ℤ → Answer (Unit {0})
  unfolding answer admitted all_record_checks
  wind_reply c wind = answer (wind_checks c wind) tt

  -- the winds that an accepted one leaves; surplus stays
  unfoldable pub new_wind : WindCall → List ℤ → List ℤ
  unfolding overwrite record_winds
  new_wind (one_face f) wind = set wind (face_index g f.way f.i f.j) f.wind
  new_wind (from_records records) wind = overwrite 0 (record_winds records (elements g)) wind

  -- the winds after it
  unfoldable pub wind_after : WindCall → List ℤ → List ℤ
  unfolding wind_reply new_wind after
  wind_after c wind = after (wind_reply c wind) (new_wind c wind) wind

-- ---- what each call gives: what is told of its answer, and every buffer that it was lent for writing, at exit, from what all its buffers
-- held at entry. The contracts of the code cite these, and so do the theorems over rows of calls.
-- What is told: the answer itself (`answers`), or, for C, its number.

-- the report buffer after a step: the report written over its front, "Surplus is left alone"
unfoldable pub report_after : Answer Reply → List ℤ → List ℤ
unfolding overwrite
report_after (accepted r) old = overwrite 0 r.report old
report_after (refused n) old = old

-- work after a step on a shape g: "An accepted step leaves work free: any content" in the numbers that are needed, and "Surplus is left
-- alone"; a refused one leaves it as it was
abbrev pub WorkAfter : Shape → Answer Reply → List ℤ → List ℤ → Type 0
WorkAfter g (accepted r) old new = (length new ≡ length old) × (drop (work_needed g) new ≡ drop (work_needed g) old)
WorkAfter g (refused n) old new = new ≡ old

module _ (κ : Kind) (g : Shape) where
  -- a call on tracer s
  abbrev pub CallGives : (s : ℕ) (op : Operation Lent) → List ℕ → (Answer (Told op) → Type 0) → List ℕ → Type 0
  CallGives s op field told field' = told (mapped (tell op) (call κ g s op field).reply) × (field' ≡ (call κ g s op field).field)

  -- a step of tracer s, which is lent report and work, too
  abbrev pub StepGives : ℕ → List ℕ → List ℤ → List ℤ → List ℤ → (Answer ℕ → Type 0) → List ℕ → List ℤ → List ℤ → Type 0
  StepGives s field wind report work told field' report' work' =
      let op : Operation Lent = step (lent wind report work) in
      let a = (call κ g s op field).reply in
      told (mapped (tell op) a) × ((field' ≡ (call κ g s op field).field) × ((report' ≡ report_after a report) × WorkAfter g a work work'))

  abbrev pub FreshGives : List ℕ → List ℤ → (Answer (Unit {0}) → Type 0) → List ℕ → List ℤ → Type 0
  FreshGives field wind told field' wind' = told (fresh_reply κ g field wind) × ((field' ≡ fresh_field κ g field wind) × (wind' ≡ fresh_wind κ g field wind))

abbrev pub WindGives : Shape → WindCall → List ℤ → (Answer (Unit {0}) → Type 0) → List ℤ → Type 0
WindGives g c wind told wind' = told (wind_reply g c wind) × (wind' ≡ wind_after g c wind)

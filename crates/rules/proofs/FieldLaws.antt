-- A call on the field reads and writes one tracer's part and nothing else.
use mathlib.Core.Path.{◌≡◌, refl, sym, ◌∙◌}
use mathlib.Core.Bool.{Bool, true, false, ◌&&◌}
use mathlib.Core.List.{List, ◌∷◌}
use mathlib.Core.Logic.{◌≢◌}
use Prim.Native.Nat.{ℕ, ◌+◌, ◌*◌, ◌≤◌, ◌<◌}
use native.Mathlib.Omega.{arith}
use lib.Dec.{T, eqb, leb, ltb, eqb→eq, leb→le, le→leb, ltb→lt}
use lib.ListN.{length}
use Rattle.whole.specs.Sum.{all}
use Rattle.whole.proofs.Cases.{true_of, both_yes}
use Rattle.whole.proofs.OverwriteLaws.{part_room, length-replaced, part_same, part-other}
use Rattle.rules.specs.declared.Shape.{Shape}
use Rattle.rules.specs.Answers.{Answer, accepted, refused, check, answer, after}
use Rattle.rules.specs.Field.{Kind, admitted, elements, part_length, field_length, part, with_part, element, on_grid, stored_total, remainder, weight_sum, mass, total, limit, remainder_sound, sum_sound, sound, stored_sound, element_sound, named_sound, if_there, Admitted}
use Rattle.rules.specs.Calls.{Operation, load, emission, withdrawal, step, Lent, lent_enough, Reply, Done, done, checks, call, call_checks}
use Rattle.rules.proofs.AnswerLaws.{Passed, answer-ind}
use Rattle.rules.proofs.PartLaws.{length-part}
use Rattle.rules.proofs.CallLaws.{done-length}
use Rattle.rules.proofs.ShapeLaws.{ranges}

-- a test of what is there has been made
pub tested : (there test : Bool) → T there → T (if_there there test) → T test
unfolding if_there
tested true test t h = h
tested false test t h = absurd t

-- ---- what the tests for 6 say
module _ (κ : Kind) (g : Shape) (p : List ℕ) where
  pub elements-small : T (sum_sound κ g p) → total κ g p ≤ limit
  unfolding sum_sound
  elements-small t = leb→le _ _ (both_yes (all (elements g) (remainder_sound κ p)) (leb (total κ g p) limit) t).1

  -- of all numbers: the sum is the stored total
  pub summed : T (sound κ g p) → (total κ g p ≤ limit) × (total κ g p ≡ stored_total κ g p)
  unfolding sound
  summed t =
      let b = both_yes (sum_sound κ g p) (eqb (total κ g p) (stored_total κ g p)) t in
      (elements-small b.0, eqb→eq _ _ b.1)

  pub total-small : T (sound κ g p) → total κ g p ≤ limit
  total-small t = (summed t).0

  -- of the stored total, and of an element that is there
  pub stored-small : T (stored_sound κ g p) → stored_total κ g p ≤ limit
  unfolding stored_sound
  stored-small t = leb→le _ _ t

  pub named : (i j : ℕ) → T (named_sound κ g i j p) → T (on_grid g i j)
      → (stored_total κ g p ≤ limit) × (remainder κ p (element g i j) < weight_sum κ) × (mass κ p (element g i j) ≤ stored_total κ g p)
  unfolding named_sound element_sound
  named i j t on =
      let e = element g i j in
      let b = both_yes (stored_sound κ g p) (if_there (on_grid g i j) (element_sound κ g p e)) t in
      let d = both_yes (remainder_sound κ p e) (leb (mass κ p e) (stored_total κ g p)) (tested (on_grid g i j) (element_sound κ g p e) on b.1) in
      (stored-small b.0, ltb→lt _ _ d.0, leb→le _ _ d.1)

-- an operation that passes names a tracer that is there
there-of : (κ : Kind) (g : Shape) (op : Operation Lent) (there : Bool) (p : List ℕ) → Passed (checks κ g op there p) → T there
unfolding checks
there-of κ g (load l) there p c = c.0
there-of κ g (emission i j q) there p c = c.1.0
there-of κ g (withdrawal i j q) there p c = c.1.0
there-of κ g (step l) there p c = c.1.1.0

module _ (κ : Kind) (g : Shape) (s : ℕ) (op : Operation Lent) (field : List ℕ) where
  abbrev p : List ℕ
  p = part κ g s field

  abbrev d : Done
  d = done κ g op p

  -- what an accepted call has shown
  pub record Accepted : Type 0 where
    pub shape : Admitted g
    pub room : field_length κ g ≤ length field
    pub tracer : s < g.tracers
    pub passed : Passed (checks κ g op (ltb s g.tracers) p)
    pub end : s * part_length κ g + part_length κ g ≤ length field
    pub size : length d.part ≡ part_length κ g

  accepted-of : Passed (call_checks κ g s op field) → Accepted
  unfolding field_length
  accepted-of c = record {
    shape = shape;
    room = room;
    tracer = tracer;
    passed = c.1.1;
    end = omega (arith, room, part_room (part_length κ g) tracer);
    size = done-length κ g shape.nx-above shape.ny-above op (ltb s g.tracers) p (length-part κ g s field tracer room) c.1.1;
  }
    where
      shape : Admitted g
      shape = ranges g c.0

      room : field_length κ g ≤ length field
      room = leb→le _ _ (both_yes (leb (field_length κ g) (length field)) _ c.1.0).0

      tracer : s < g.tracers
      tracer = ltb→lt _ _ (there-of κ g op (ltb s g.tracers) p c.1.1)

  -- a call is refused and changes nothing, or is accepted and writes the part that the operation leaves
  pub call-ind {ℓ} : (P : Answer Reply → List ℕ → Type ℓ) → ((n : ℕ) → P (refused n) field) → (Accepted → P (accepted d.reply) (with_part κ g s d.part field))
      → P (call κ g s op field).reply (call κ g s op field).field
  unfolding call after
  call-ind P no' yes' = answer-ind (λ a. P a (after a (with_part κ g s d.part field) field)) (call_checks κ g s op field) d.reply no' (λ c. yes' (accepted-of c))

  pub call_length : length (call κ g s op field).field ≡ length field
  unfolding with_part
  call_length = call-ind (λ a f. length f ≡ length field) (λ n. refl) (λ h. length-replaced (part_length κ g) s d.part field h.size h.end)

  -- the part of the tracer that the call names
  pub call-part : part κ g s (call κ g s op field).field ≡ after (call κ g s op field).reply d.part p
  unfolding after part with_part
  call-part = call-ind (λ a f. part κ g s f ≡ after a d.part p) (λ n. refl) (λ h. part_same (part_length κ g) s d.part field h.size h.end)

  -- and of any other
  pub call-other : (t : ℕ) → s ≢ t → part κ g t (call κ g s op field).field ≡ part κ g t field
  unfolding part with_part
  call-other t ne = call-ind (λ a f. part κ g t f ≡ part κ g t field) (λ n. refl) (λ h. part-other (part_length κ g) s d.part field h.size h.end 0 t ne)

-- two fields that are long enough and have the same part of the tracer give the same answer, and the same part after it
module _ (κ : Kind) (g : Shape) (s : ℕ) (op : Operation Lent) (f f' : List ℕ) (room : field_length κ g ≤ length f) (room' : field_length κ g ≤ length f') (same : part κ g s f ≡ part κ g s f') where
  enough : leb (field_length κ g) (length f) ≡ leb (field_length κ g) (length f')
  enough = true_of (leb (field_length κ g) (length f)) (le→leb _ _ room) ∙ sym (true_of (leb (field_length κ g) (length f')) (le→leb _ _ room'))

  pub reply-same : (call κ g s op f).reply ≡ (call κ g s op f').reply
  unfolding call
  reply-same = λ i. answer (check 2 (admitted g) ∷ check 4 (enough i && lent_enough κ g op) ∷ checks κ g op (ltb s g.tracers) (same i)) (done κ g op (same i)).reply

  pub part-after-same : part κ g s (call κ g s op f).field ≡ part κ g s (call κ g s op f').field
  part-after-same = call-part κ g s op f ∙ (λ i. after (reply-same i) (done κ g op (same i)).part (same i)) ∙ sym (call-part κ g s op f')

-- The calls' checks: 4 and 7, with which all begin that look at one tracer; the readings of a total and of a sum; the reading of an element and the
-- stored total, with which emission, withdrawal and the reading of a mass begin; and what a call gives.
use mathlib.Core.Path.{◌≡◌, refl, sym, ap, subst, ◌∙◌}
use mathlib.Core.Bool.{Bool, true, false, ◌&&◌}
use mathlib.Core.List.{List, [], ◌∷◌, ◌++◌}
use Prim.Native.Nat.{ℕ, ◌+◌, ◌≤◌, ◌<◌}
use native.Mathlib.Omega.{arith}
use borrow.Author.Tests.{lt-leb, le-leb, lt-ltb, le-ltb}
use lib.Dec.{T, leb, ltb, leb→le, ltb→lt}
use lib.ListN.{length}
use Rattle.whole.proofs.Cases.{both_yes, and-true}
use Rattle.rules.specs.declared.Shape.{Shape}
use Rattle.rules.specs.Answers.{Answer, accepted, refused, Check, check, answer, mapped}
use Rattle.rules.specs.Field.{quadratic, admitted, element, on_grid, field_length, part, with_part, stored_total, remainder, weight_sum, mass, total, limit, sound, stored_sound, element_sound, named_sound, if_there, Admitted}
use Rattle.rules.specs.Calls.{Operation, emission, withdrawal, emitted, withdrawn, Lent, lent_enough, checks, done, call, part_checks, mass_checks, mass_reading, total_reading, Reply, no_report}
use Rattle.field_layout.specs.Places.{Inside}
use Rattle.field_search.specs.Search.{compared}
use Rattle.rules.proofs.AnswerLaws.{Passed, answer-ind, prefix-refused, prefix-accepted, mapped-answer, after-refused, after-accepted}
use Rattle.rules.proofs.FieldLaws.{tested, stored-small, named, total-small}
use Rattle.rules.proofs.QuadraticLaws.{weights-36}
use Rattle.rules.proofs.ShapeLaws.{ranges}
use Rattle.field.specs.declared.readings.MassAndTotal.{MassAndTotal}
use Rattle.field.specs.Leaves.{there_reply, sum_reading, mass_and_total_reading}

-- ---- 4 and 7, and the checks of a part, of which 6 is its own
module _ (g : Shape) (s : ℕ) (f : List ℕ) where
  abbrev p : List ℕ
  p = part quadratic g s f

  pub there-short : length f < field_length quadratic g → there_reply g s (length f) ≡ refused 4
  unfolding there_reply answer
  there-short r = rw (lt-leb _ _ r)

  pub there-none : field_length quadratic g ≤ length f → g.tracers ≤ s → there_reply g s (length f) ≡ refused 7
  unfolding there_reply answer
  there-none r t = rw (le-leb _ _ r, le-ltb _ _ t)

  pub there-passes : field_length quadratic g ≤ length f → s < g.tracers → there_reply g s (length f) ≡ accepted tt
  unfolding there_reply answer
  there-passes r t = rw (le-leb _ _ r, lt-ltb _ _ t)

  pub record There : Type 0 where
    pub room : field_length quadratic g ≤ length f
    pub tracer : s < g.tracers

  pub there : there_reply g s (length f) ≡ accepted tt → There
  unfolding there_reply
  there = answer-ind (λ a. ◌≡◌ {A = Answer (Unit {0})} a (accepted tt) → There) (check 4 (leb (field_length quadratic g) (length f)) ∷ check 7 (ltb s g.tracers) ∷ []) tt
      (λ n e. let z : ◌≡◌ {A = ℕ} 0 1 = cc in absurd (omega arith))
      (λ c e. record { room = leb→le _ _ c.0; tracer = ltb→lt _ _ c.1.0 })

  module _ (test : List ℕ → Bool) {A : Type 0} (x : A) where
    part-bad-shape : admitted g ≡ false → answer (part_checks quadratic g test s f) x ≡ refused 2
    unfolding answer
    part-bad-shape a = rw a

    -- a tracer that is not there has no numbers, so that 6 is passed
    part-refused : (n : ℕ) → admitted g ≡ true → there_reply g s (length f) ≡ refused n → answer (part_checks quadratic g test s f) x ≡ refused n
    unfolding there_reply answer if_there
    part-refused n a = rw a (go (leb (field_length quadratic g) (length f)) (ltb s g.tracers))
      where
        go : (b c : Bool) → ◌≡◌ {A = Answer (Unit {0})} (answer (check 4 b ∷ check 7 c ∷ []) tt) (refused n) → answer (check 4 b ∷ check 6 (if_there c (test p)) ∷ check 7 c ∷ []) x ≡ refused n
        go true true e = let z : ◌≡◌ {A = ℕ} 0 1 = cc in absurd (omega arith)
        go true false e = cc
        go false c e = cc

    part-there : admitted g ≡ true → there_reply g s (length f) ≡ accepted tt → answer (part_checks quadratic g test s f) x ≡ answer (check 6 (test p) ∷ []) x
    unfolding answer if_there
    part-there a e = let h = there e in rw (a, le-leb _ _ h.room, lt-ltb _ _ h.tracer)

  -- what an accepted reading of t has shown, which is x
  pub record Found (x t : ℕ) : Type 0 where
    pub shape : Admitted g
    pub room : field_length quadratic g ≤ length f
    pub tracer : s < g.tracers
    pub is : t ≡ x
    pub small : t ≤ limit

  found-by : (test : List ℕ → Bool) (x t : ℕ) → (T (test p) → x ≤ limit) → answer (part_checks quadratic g test s f) x ≡ accepted t → Found x t
  found-by test x t bound = answer-ind (λ a. a ≡ accepted t → Found x t) (part_checks quadratic g test s f) x
      (λ n e. let z : ◌≡◌ {A = ℕ} 0 1 = cc in absurd (omega arith))
      (λ c e. let q : x ≡ t = cc in record {
        shape = ranges g c.0;
        room = leb→le _ _ c.1.0;
        tracer = ltb→lt _ _ c.1.1.1.0;
        is = sym q;
        small = omega (arith, bound (tested (ltb s g.tracers) (test p) c.1.1.1.0 c.1.1.0));
      })

  -- ---- the reading of a total
  pub total-bad-shape : admitted g ≡ false → total_reading quadratic g s f ≡ refused 2
  unfolding total_reading
  total-bad-shape a = part-bad-shape (stored_sound quadratic g) (stored_total quadratic g p) a

  pub total-refused : (n : ℕ) → admitted g ≡ true → there_reply g s (length f) ≡ refused n → total_reading quadratic g s f ≡ refused n
  unfolding total_reading
  total-refused n a e = part-refused (stored_sound quadratic g) (stored_total quadratic g p) n a e

  total-there : admitted g ≡ true → there_reply g s (length f) ≡ accepted tt → total_reading quadratic g s f ≡ answer (check 6 (stored_sound quadratic g p) ∷ []) (stored_total quadratic g p)
  unfolding total_reading
  total-there a e = part-there (stored_sound quadratic g) (stored_total quadratic g p) a e

  pub total-above : admitted g ≡ true → there_reply g s (length f) ≡ accepted tt → limit < stored_total quadratic g p → total_reading quadratic g s f ≡ refused 6
  unfolding answer stored_sound
  total-above a e h = total-there a e ∙ rw (lt-leb _ _ h)

  pub total-passes : admitted g ≡ true → there_reply g s (length f) ≡ accepted tt → stored_total quadratic g p ≤ limit → total_reading quadratic g s f ≡ accepted (stored_total quadratic g p)
  unfolding answer stored_sound
  total-passes a e h = total-there a e ∙ rw (le-leb _ _ h)

  pub found : (t : ℕ) → total_reading quadratic g s f ≡ accepted t → Found (stored_total quadratic g p) t
  unfolding total_reading
  found t = found-by (stored_sound quadratic g) (stored_total quadratic g p) t (stored-small quadratic g p)

  -- ---- and of a sum
  pub sum-refused : (n : ℕ) → admitted g ≡ true → there_reply g s (length f) ≡ refused n → sum_reading g s f ≡ refused n
  unfolding sum_reading
  sum-refused n a e = part-refused (sound quadratic g) (total quadratic g p) n a e

  -- what is left is the sum of the tracer's part
  pub sum-there : admitted g ≡ true → there_reply g s (length f) ≡ accepted tt → sum_reading g s f ≡ compared g p
  unfolding sum_reading compared
  sum-there a e = part-there (sound quadratic g) (total quadratic g p) a e

  pub sum-found : (t : ℕ) → sum_reading g s f ≡ accepted t → Found (total quadratic g p) t
  unfolding sum_reading
  sum-found t = found-by (sound quadratic g) (total quadratic g p) t (total-small quadratic g p)

-- ---- the reading of element (i, j) and the stored total, which goes on from that of the total
module _ (g : Shape) (s i j : ℕ) (f : List ℕ) where
  abbrev m : ℕ
  m = mass quadratic (part quadratic g s f) (element g i j)

  -- 2, 4, 6, 7 and 8
  abbrev five : List Check
  five = mass_checks quadratic g s i j f

  abbrev both : MassAndTotal
  both = record { total = stored_total quadratic g (part quadratic g s f); mass = m }

  -- what of 6 is the element's own
  abbrev own : Bool
  own = element_sound quadratic g (part quadratic g s f) (element g i j)

  pub named-refused : (n : ℕ) → total_reading quadratic g s f ≡ refused n → mass_and_total_reading g s i j f ≡ refused n
  unfolding total_reading mass_and_total_reading named_sound answer if_there
  named-refused n = go (admitted g) (leb (field_length quadratic g) (length f)) (ltb s g.tracers) (stored_sound quadratic g (part quadratic g s f))
    where
      go : (a b c d : Bool) → answer (check 2 a ∷ check 4 b ∷ check 6 (if_there c d) ∷ check 7 c ∷ []) (stored_total quadratic g (part quadratic g s f)) ≡ refused n
          → answer (check 2 a ∷ check 4 b ∷ check 6 (if_there c (d && if_there (on_grid g i j) own)) ∷ check 7 c ∷ check 8 (on_grid g i j) ∷ []) both ≡ refused n
      go false b c d e = cc
      go true false c d e = cc
      go true true false d e = cc
      go true true true false e = cc
      go true true true true e = let z : ◌≡◌ {A = ℕ} 0 1 = cc in absurd (omega arith)

  module _ (t : ℕ) (e : total_reading quadratic g s f ≡ accepted t) where
    rest : mass_and_total_reading g s i j f ≡ answer (check 6 (if_there (on_grid g i j) own) ∷ check 8 (on_grid g i j) ∷ []) both
    unfolding total_reading mass_and_total_reading named_sound answer if_there
    rest = go (admitted g) (leb (field_length quadratic g) (length f)) (ltb s g.tracers) (stored_sound quadratic g (part quadratic g s f)) e
      where
        go : (a b c d : Bool) → answer (check 2 a ∷ check 4 b ∷ check 6 (if_there c d) ∷ check 7 c ∷ []) (stored_total quadratic g (part quadratic g s f)) ≡ accepted t
            → answer (check 2 a ∷ check 4 b ∷ check 6 (if_there c (d && if_there (on_grid g i j) own)) ∷ check 7 c ∷ check 8 (on_grid g i j) ∷ []) both
            ≡ answer (check 6 (if_there (on_grid g i j) own) ∷ check 8 (on_grid g i j) ∷ []) both
        go false b c d e = let z : ◌≡◌ {A = ℕ} 0 1 = cc in absurd (omega arith)
        go true false c d e = let z : ◌≡◌ {A = ℕ} 0 1 = cc in absurd (omega arith)
        go true true false d e = let z : ◌≡◌ {A = ℕ} 0 1 = cc in absurd (omega arith)
        go true true true false e = let z : ◌≡◌ {A = ℕ} 0 1 = cc in absurd (omega arith)
        go true true true true e = refl

    -- an element off the grid "has no numbers"
    pub named-off-grid : on_grid g i j ≡ false → mass_and_total_reading g s i j f ≡ refused 8
    unfolding answer if_there
    named-off-grid o = rest ∙ rw o

    module _ (o : on_grid g i j ≡ true) where
      pub inside : Inside g s i j
      inside =
          let b = both_yes (ltb i g.nx) (ltb j g.ny) (rw o tt) in
          record { tracer = (found g s f t e).tracer; column = ltb→lt _ _ b.0; row = ltb→lt _ _ b.1 }

      pub named-remainder : 35 < remainder quadratic (part quadratic g s f) (element g i j) → mass_and_total_reading g s i j f ≡ refused 6
      unfolding answer if_there element_sound
      named-remainder h = rest ∙ rw (o, le-ltb (remainder quadratic (part quadratic g s f) (element g i j)) (weight_sum quadratic) (omega (arith, weights-36)))

      module _ (r : remainder quadratic (part quadratic g s f) (element g i j) ≤ 35) where
        remainder-small : ltb (remainder quadratic (part quadratic g s f) (element g i j)) (weight_sum quadratic) ≡ true
        remainder-small = lt-ltb _ _ (omega (arith, weights-36))

        pub named-over : t < m → mass_and_total_reading g s i j f ≡ refused 6
        unfolding answer if_there element_sound
        named-over h = rest ∙ rw (o, remainder-small, lt-leb m (stored_total quadratic g (part quadratic g s f)) (omega (arith, (found g s f t e).is)))

        pub named-passes : m ≤ t → mass_and_total_reading g s i j f ≡ accepted (record { total = t; mass = m })
        unfolding answer if_there element_sound
        named-passes h = rest ∙ (rw (o, remainder-small, le-leb m (stored_total quadratic g (part quadratic g s f)) (omega (arith, (found g s f t e).is)), (found g s f t e).is))

  -- what an accepted one has shown
  pub record Held (h : MassAndTotal) : Type 0 where
    pub shape : Admitted g
    pub within : Inside g s i j
    pub room : field_length quadratic g ≤ length f
    pub stored : h.total ≡ stored_total quadratic g (part quadratic g s f)
    pub small : h.total ≤ limit
    pub is : h.mass ≡ m
    pub most : h.mass ≤ h.total

  shown : Passed five → Held both
  shown c =
      let b = both_yes (ltb i g.nx) (ltb j g.ny) c.1.1.1.1.0 in
      let k = named quadratic g (part quadratic g s f) i j (tested (ltb s g.tracers) (named_sound quadratic g i j (part quadratic g s f)) c.1.1.1.0 c.1.1.0) c.1.1.1.1.0 in
      record {
        shape = ranges g c.0;
        within = record { tracer = ltb→lt _ _ c.1.1.1.0; column = ltb→lt _ _ b.0; row = ltb→lt _ _ b.1 };
        room = leb→le _ _ c.1.0;
        stored = refl;
        small = k.0;
        is = refl;
        most = k.2;
      }

  pub held : (h : MassAndTotal) → mass_and_total_reading g s i j f ≡ accepted h → Held h
  unfolding mass_and_total_reading
  held h = answer-ind (λ a. a ≡ accepted h → Held h) five both
      (λ n e. let z : ◌≡◌ {A = ℕ} 0 1 = cc in absurd (omega arith))
      (λ c e. let q : both ≡ h = cc in subst Held q (shown c))

  -- ---- the reading of a mass
  pub mass-bad-shape : admitted g ≡ false → mass_reading quadratic g s i j f ≡ refused 2
  unfolding mass_reading answer
  mass-bad-shape a = rw a

  pub mass-small : (n : ℕ) → mass_reading quadratic g s i j f ≡ accepted n → n ≤ limit
  unfolding mass_reading
  mass-small n = answer-ind (λ a. a ≡ accepted n → n ≤ limit) five m
      (λ k e. let z : ◌≡◌ {A = ℕ} 0 1 = cc in absurd (omega arith))
      (λ c e. let q : m ≡ n = cc in let h = shown c in omega (arith, h.small, h.most))

  mass-named : mass_reading quadratic g s i j f ≡ mapped (λ h. h.mass) (mass_and_total_reading g s i j f)
  unfolding mass_reading mass_and_total_reading
  mass-named = sym (mapped-answer (λ h. h.mass) five both)

  pub mass-refused : (n : ℕ) → mass_and_total_reading g s i j f ≡ refused n → mass_reading quadratic g s i j f ≡ refused n
  unfolding mapped
  mass-refused n e = mass-named ∙ ap (mapped (λ h. h.mass)) e

  pub mass-passes : (h : MassAndTotal) → mass_and_total_reading g s i j f ≡ accepted h → mass_reading quadratic g s i j f ≡ accepted h.mass
  unfolding mapped
  mass-passes h e = mass-named ∙ ap (mapped (λ h. h.mass)) e

  -- ---- emission and withdrawal of q go on from it
  module _ (q : ℕ) where
    -- what an accepted one answers
    abbrev pub added : Reply
    added = no_report (emitted quadratic (element g i j) q (part quadratic g s f)).clipped

    abbrev pub taken : Reply
    taken = no_report (withdrawn quadratic (element g i j) q (part quadratic g s f)).clipped

    -- 9 and 10
    abbrev nine : Check
    nine = check 9 (leb (stored_total quadratic g (part quadratic g s f) + q) limit)

    abbrev ten : Check
    ten = check 10 (leb q m)

    -- they are lent nothing beside the field
    going_on : (c : Check) (r : Reply) → ◌≡◌ {A = Answer Reply}
        (answer (check 2 (admitted g) ∷ check 4 (leb (field_length quadratic g) (length f) && true) ∷ check 6 (if_there (ltb s g.tracers) (named_sound quadratic g i j (part quadratic g s f))) ∷ check 7 (ltb s g.tracers) ∷ check 8 (on_grid g i j) ∷ c ∷ []) r)
        (answer (five ++ (c ∷ [])) r)
    going_on c r = λ k. answer (check 2 (admitted g) ∷ check 4 (and-true (leb (field_length quadratic g) (length f)) k) ∷ check 6 (if_there (ltb s g.tracers) (named_sound quadratic g i j (part quadratic g s f))) ∷ check 7 (ltb s g.tracers) ∷ check 8 (on_grid g i j) ∷ c ∷ []) r

    emission-reply : (call quadratic g s (emission i j q) f).reply ≡ answer (five ++ (nine ∷ [])) added
    unfolding call checks lent_enough done
    emission-reply = going_on nine added

    withdrawal-reply : (call quadratic g s (withdrawal i j q) f).reply ≡ answer (five ++ (ten ∷ [])) taken
    unfolding call checks lent_enough done
    withdrawal-reply = going_on ten taken

    module _ (n : ℕ) (e : mass_and_total_reading g s i j f ≡ refused n) where
      pub emission-refused : (call quadratic g s (emission i j q) f).reply ≡ refused n
      unfolding mass_and_total_reading
      emission-refused = emission-reply ∙ prefix-refused five (nine ∷ []) both added n e

      pub withdrawal-refused : (call quadratic g s (withdrawal i j q) f).reply ≡ refused n
      unfolding mass_and_total_reading
      withdrawal-refused = withdrawal-reply ∙ prefix-refused five (ten ∷ []) both taken n e

    module _ (h : MassAndTotal) (e : mass_and_total_reading g s i j f ≡ accepted h) where
      last-nine : (call quadratic g s (emission i j q) f).reply ≡ answer (nine ∷ []) added
      unfolding mass_and_total_reading
      last-nine = emission-reply ∙ prefix-accepted five (nine ∷ []) both h added e

      last-ten : (call quadratic g s (withdrawal i j q) f).reply ≡ answer (ten ∷ []) taken
      unfolding mass_and_total_reading
      last-ten = withdrawal-reply ∙ prefix-accepted five (ten ∷ []) both h taken e

      pub emission-above : limit < h.total + q → (call quadratic g s (emission i j q) f).reply ≡ refused 9
      unfolding answer
      emission-above b = last-nine ∙ rw (lt-leb (stored_total quadratic g (part quadratic g s f) + q) limit (omega (arith, (held h e).stored)))

      pub emission-accepted : h.total + q ≤ limit → (call quadratic g s (emission i j q) f).reply ≡ accepted added
      unfolding answer
      emission-accepted b = last-nine ∙ rw (le-leb (stored_total quadratic g (part quadratic g s f) + q) limit (omega (arith, (held h e).stored)))

      pub withdrawal-over : h.mass < q → (call quadratic g s (withdrawal i j q) f).reply ≡ refused 10
      unfolding answer
      withdrawal-over b = last-ten ∙ rw (lt-leb q m (omega (arith, (held h e).is)))

      pub withdrawal-accepted : q ≤ h.mass → (call quadratic g s (withdrawal i j q) f).reply ≡ accepted taken
      unfolding answer
      withdrawal-accepted b = last-ten ∙ rw (le-leb q m (omega (arith, (held h e).is)))

-- ---- what a call gives, of whose reply `told` is answered
module _ {A : Type 0} (told : Reply → A) where
  -- what a call on the grid of a shape gives is what it gives on the shape
  pub on_shape : {a : Answer A} {field : List ℕ} {g h : Shape} (s : ℕ) (op : Operation Lent) (f : List ℕ) → g ≡ h
      → (a ≡ mapped told (call quadratic g s op f).reply) × (field ≡ (call quadratic g s op f).field) → (a ≡ mapped told (call quadratic h s op f).reply) × (field ≡ (call quadratic h s op f).field)
  on_shape {a} {field} s op f e p = subst (λ k. (a ≡ mapped told (call quadratic k s op f).reply) × (field ≡ (call quadratic k s op f).field)) e p

  -- what a refused and an accepted call leave
  module _ (g : Shape) (s : ℕ) (op : Operation Lent) (f : List ℕ) where
    pub call-refused : (n : ℕ) → (call quadratic g s op f).reply ≡ refused n → (refused n ≡ mapped told (call quadratic g s op f).reply) × (f ≡ (call quadratic g s op f).field)
    unfolding call mapped
    call-refused n e = (sym (ap (mapped told) e), sym (after-refused (call quadratic g s op f).reply n _ f e))

    pub call-accepted : (r : Reply) → (call quadratic g s op f).reply ≡ accepted r
        → (accepted (told r) ≡ mapped told (call quadratic g s op f).reply) × (with_part quadratic g s (done quadratic g op (part quadratic g s f)).part f ≡ (call quadratic g s op f).field)
    unfolding call mapped
    call-accepted r e = (sym (ap (mapped told) e), sym (after-accepted (call quadratic g s op f).reply r _ f e))

  -- a call that its grid refuses
  pub grid-refused : {g h : Shape} {f : List ℕ} {n : ℕ} (s : ℕ) (op : Operation Lent) → g ≡ h → (call quadratic g s op f).reply ≡ refused n
      → (refused n ≡ mapped told (call quadratic h s op f).reply) × (f ≡ (call quadratic h s op f).field)
  grid-refused {g} {h} {f} {n} s op e r = on_shape s op f e (call-refused g s op f n r)

-- 2 is the first check of every call on a tracer
pub call-bad-shape : (g : Shape) (s : ℕ) (op : Operation Lent) (f : List ℕ) → admitted g ≡ false → (call quadratic g s op f).reply ≡ refused 2
unfolding call answer
call-bad-shape g s op f e = rw e

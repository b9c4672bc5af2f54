-- After every list of calls from a fresh field the ledger agrees with the field, every tracer's part is good, and no call was refused by 6.
use mathlib.Core.Path.{◌≡◌, refl, sym, ap, ap₂, ◌∙◌, subst}
use mathlib.Core.List.{List, [], ◌∷◌}
use mathlib.Core.Logic.{◌≢◌}
use Prim.Native.Nat.{ℕ, ◌+◌, ◌*◌, ◌≤◌, ◌<◌}
use native.Mathlib.Nat.{mul-zero, zero-add}
use native.Mathlib.Omega.{arith}
use lib.Dec.{eqb, eqb→eq}
use lib.IntN.{ℤ, pos}
use lib.ListN.{length, get_or, replicate, drop, length-replicate, get_or-replicate}
use lib.Seq.{get_or-take, get_or-drop}
use Rattle.whole.specs.Sum.{sum_ℤ}
use Rattle.whole.proofs.Cases.{cond_yes, cond_no, cond_same, either, neqb→ne}
use Rattle.whole.proofs.SumLaws.{sum-zero}
use Rattle.whole.proofs.OverwriteLaws.{part_room, length-overwrite, overwrite-inside, length-replaced, part_same, part-other}
use Rattle.rules.specs.declared.Shape.{Shape}
use Rattle.rules.specs.Answers.{Answer, accepted, refused}
use Rattle.rules.specs.Field.{Kind, elements, element_length, elements_length, part_length, field_length, part, with_part, stored_total, cell, remainder, weighted, mass, total, weight_sum}
use Rattle.rules.specs.Calls.{Operation, load, emission, withdrawal, step, Lent, Reply, call, done, zero_field, wind_reply}
use Rattle.rules.specs.Ledger.{entry}
use Rattle.rules.proofs.PartLaws.{node-lt, Good, length-part, total-by}
use Rattle.rules.proofs.StoredLaws.{cell-before}
use Rattle.rules.proofs.SoundLaws.{call-never-6, wind-never-6}
use Rattle.rules.proofs.LedgerLaws.{entry-cong}
use Rattle.rules.proofs.CallLaws.{Kept, operation-law}
use Rattle.rules.proofs.FieldLaws.{Accepted, call-ind}
use Rattle.ledger.specs.Lists.{Call, on_wind, on, State, Buffers, fresh, lend, unreported, perform, run, NeverRefused, line, ledger_from, ledger}

-- a refusal of a wind call is what is told of it
unreported-refused : (a : Answer (Unit {0})) (n : ℕ) → unreported a ≡ refused n → a ≡ refused n
unfolding unreported
unreported-refused (accepted u) n e = let z : ◌≡◌ {A = ℕ} 0 1 = cc in absurd (omega arith)
unreported-refused (refused m) n e = cc

module _ (κ : Kind) (g : Shape) where
  -- the field is long enough, every part is good, and the ledger's numbers are the masses
  pub record Agreeing (field : List ℕ) (held : ℕ → ℕ → ℤ) : Type 0 where
    pub room : field_length κ g ≤ length field
    pub good : (s : ℕ) → s < g.tracers → Good κ g (part κ g s field)
    pub agree : (s : ℕ) → s < g.tracers → (e : ℕ) → e < elements g → held s e ≡ pos (mass κ (part κ g s field) e)

  -- then every stored total is the sum of the ledger's numbers
  pub stored-agrees : (field : List ℕ) (held : ℕ → ℕ → ℤ) → Agreeing field held → (s : ℕ) → s < g.tracers → pos (stored_total κ g (part κ g s field)) ≡ sum_ℤ (elements g) (held s)
  stored-agrees field held f s hs = ap pos (f.good s hs).stored ∙ total-by κ g (part κ g s field) (held s) (f.agree s hs)

  -- what is lent does not enter the ledger
  entry-lend : (b : Buffers) (w : List ℤ) (op : Operation (Unit {0})) (a : Answer Reply) (held : ℕ → ℤ) (e : ℕ) → entry κ g (lend b w op) a held e ≡ entry κ g op a held e
  unfolding entry lend
  entry-lend b w (load l) (refused n) held e = refl
  entry-lend b w (emission i j q) (refused n) held e = refl
  entry-lend b w (withdrawal i j q) (refused n) held e = refl
  entry-lend b w (step u) (refused n) held e = refl
  entry-lend b w (load l) (accepted r) held e = refl
  entry-lend b w (emission i j q) (accepted r) held e = refl
  entry-lend b w (withdrawal i j q) (accepted r) held e = refl
  entry-lend b w (step u) (accepted r) held e = refl

  module _ (hw : 0 < weight_sum κ) (b : Buffers) where
    -- a call on tracer s
    module _ (s : ℕ) (op : Operation (Unit {0})) (w : List ℤ) (field : List ℕ) (held : ℕ → ℕ → ℤ) (f : Agreeing field held) where
      abbrev lent : Operation Lent
      lent = lend b w op

      refused-agrees : (n : ℕ) → Agreeing field (line κ g (on s op) (refused n) held)
      unfolding line entry
      refused-agrees n = record { room = f.room; good = f.good; agree = λ t h e l. cond_same (eqb s t) (held t e) ∙ f.agree t h e l }

      abbrev new : List ℕ
      new = with_part κ g s (done κ g lent (part κ g s field)).part field

      there : Accepted κ g s lent field → part κ g s new ≡ (done κ g lent (part κ g s field)).part
      unfolding part with_part
      there a = part_same (part_length κ g) s (done κ g lent (part κ g s field)).part field a.size a.end

      elsewhere : Accepted κ g s lent field → (t : ℕ) → s ≢ t → part κ g t new ≡ part κ g t field
      unfolding part with_part
      elsewhere a t ne = part-other (part_length κ g) s (done κ g lent (part κ g s field)).part field a.size a.end 0 t ne

      long : Accepted κ g s lent field → length new ≡ length field
      unfolding with_part
      long a = length-replaced (part_length κ g) s (done κ g lent (part κ g s field)).part field a.size a.end

      kept : Accepted κ g s lent field → Kept κ g lent (part κ g s field) (done κ g lent (part κ g s field))
      kept a = operation-law κ g hw a.shape.nx-above a.shape.ny-above lent _ (part κ g s field) (f.good s a.tracer) a.passed

      -- of the named tracer: the operation's law; of any other: nothing changed
      accepted-agrees : (a : Accepted κ g s lent field) → Agreeing new (line κ g (on s op) (accepted (done κ g lent (part κ g s field)).reply) held)
      unfolding line
      accepted-agrees a = record {
        room = subst (λ x. field_length κ g ≤ x) (sym (long a)) f.room;
        good = λ t h. either (eqb s t)
            (λ y. subst (λ z. Good κ g (part κ g z new)) (eqb→eq s t y) (subst (Good κ g) (sym (there a)) (kept a).good))
            (λ y. subst (Good κ g) (sym (elsewhere a t (neqb→ne s t y))) (f.good t h));
        agree = λ t h e l. either (eqb s t)
            (λ y. cond_yes (eqb s t) _ _ y ∙ subst (λ z. entry κ g op r (held z) e ≡ pos (mass κ (part κ g z new) e)) (eqb→eq s t y) (same e l))
            (λ y. cond_no (eqb s t) _ _ y ∙ f.agree t h e l ∙ ap (λ x. pos (mass κ x e)) (sym (elsewhere a t (neqb→ne s t y))));
      }
        where
          r : Answer Reply
          r = accepted (done κ g lent (part κ g s field)).reply

          same : (e : ℕ) → e < elements g → entry κ g op r (held s) e ≡ pos (mass κ (part κ g s new) e)
          same e l = sym (entry-lend b w op r (held s) e) ∙ entry-cong κ g lent r (held s) (λ e. pos (mass κ (part κ g s field) e)) e (f.agree s a.tracer e l)
              ∙ (kept a).entries e l ∙ ap (λ x. pos (mass κ x e)) (sym (there a))

      call-agrees : Agreeing (call κ g s lent field).field (line κ g (on s op) (call κ g s lent field).reply held)
      call-agrees = call-ind κ g s lent field (λ a x. Agreeing x (line κ g (on s op) a held)) refused-agrees accepted-agrees

    -- and no call is refused by 6
    perform-never-6 : (c : Call) (st : State) (held : ℕ → ℕ → ℤ) → Agreeing st.field held → (perform κ g b c st).reply ≢ refused 6
    unfolding perform unreported
    perform-never-6 (on_wind c) st held f = λ e. wind-never-6 g c st.wind (unreported-refused (wind_reply g c st.wind) 6 e)
    perform-never-6 (on s op) st held f = call-never-6 κ g s st.field (f.good s) (lend b st.wind op)

    perform-agrees : (c : Call) (st : State) (held : ℕ → ℕ → ℤ) → Agreeing st.field held → Agreeing (perform κ g b c st).state.field (line κ g c (perform κ g b c st).reply held)
    unfolding perform line
    perform-agrees (on_wind c) st held f = f
    perform-agrees (on s op) st held f = call-agrees s op st.wind st.field held f

    pub run-agrees : (cs : List Call) (st : State) (held : ℕ → ℕ → ℤ) → Agreeing st.field held → Agreeing (run κ g b cs st).end.field (ledger_from κ g held cs (run κ g b cs st).replies)
    unfolding run ledger_from
    run-agrees [] st held f = f
    run-agrees (c ∷ cs) st held f = run-agrees cs (perform κ g b c st).state (line κ g c (perform κ g b c st).reply held) (perform-agrees c st held f)

    pub run-never-6 : (cs : List Call) (st : State) (held : ℕ → ℕ → ℤ) → Agreeing st.field held → NeverRefused 6 (run κ g b cs st).replies
    unfolding run
    run-never-6 [] st held f = tt
    run-never-6 (c ∷ cs) st held f =
        (perform-never-6 c st held f, run-never-6 cs (perform κ g b c st).state (line κ g c (perform κ g b c st).reply held) (perform-agrees c st held f))

-- ---- the fresh field
module _ (κ : Kind) (g : Shape) (hw : 0 < weight_sum κ) (field : List ℕ) (wind : List ℤ) (room : field_length κ g ≤ length field) where
  abbrev zeros : List ℕ
  zeros = zero_field κ g field

  zeros-room : 0 + length {A = ℕ} (replicate (field_length κ g) 0) ≤ length field
  zeros-room = omega (arith, length-replicate {A = ℕ} (field_length κ g) 0)

  pub zeros-length : length zeros ≡ length field
  unfolding zero_field
  zeros-length = length-overwrite 0 (replicate (field_length κ g) 0) field zeros-room

  zero-at : (i : ℕ) → i < field_length κ g → get_or zeros i 0 ≡ 0
  unfolding zero_field
  zero-at i h = ap (λ x. get_or zeros x 0) (sym (zero-add i)) ∙ overwrite-inside 0 (replicate (field_length κ g) 0) field zeros-room 0 i (omega (arith, length-replicate {A = ℕ} (field_length κ g) 0))
      ∙ get_or-replicate (field_length κ g) i 0 0 h

  zero-number : (s i : ℕ) → s < g.tracers → i < part_length κ g → get_or (part κ g s zeros) i 0 ≡ 0
  unfolding part field_length
  zero-number s i hs h = get_or-take (part_length κ g) (drop (s * part_length κ g) zeros) i 0 h
      ∙ get_or-drop (s * part_length κ g) zeros i 0 ∙ zero-at (s * part_length κ g + i) (omega (arith, part_room (part_length κ g) hs))

  zero-cell : (s e k : ℕ) → s < g.tracers → e < elements g → k < element_length κ → cell κ (part κ g s zeros) e k ≡ 0
  unfolding cell part_length
  zero-cell s e k hs he hk = zero-number s (e * element_length κ + k) hs (omega (arith, cell-before κ g e k he hk))

  -- "Fresh sets it to 0"
  zero-stored : (s : ℕ) → s < g.tracers → stored_total κ g (part κ g s zeros) ≡ 0
  unfolding stored_total part_length
  zero-stored s hs = zero-number s (elements_length κ g) hs (omega arith)

  zero-mass : (s e : ℕ) → s < g.tracers → e < elements g → mass κ (part κ g s zeros) e ≡ 0
  unfolding mass weighted remainder
  zero-mass s e hs he = ap₂ ◌+◌ (sum-zero κ.nodes (λ k. κ.weight k * cell κ (part κ g s zeros) e k)
      (λ k l. ap (λ x. κ.weight k * x) (zero-cell s e k hs he (node-lt κ k (omega arith))) ∙ mul-zero (κ.weight k))) (zero-cell s e κ.nodes hs he (node-lt κ κ.nodes (omega arith)))

  zero-total : (s : ℕ) → s < g.tracers → total κ g (part κ g s zeros) ≡ 0
  unfolding total
  zero-total s hs = sum-zero (elements g) (mass κ (part κ g s zeros)) (λ e he. zero-mass s e hs he)

  zero-good : (s : ℕ) → s < g.tracers → Good κ g (part κ g s zeros)
  unfolding remainder
  zero-good s hs = record {
    size = length-part κ g s zeros hs (subst (λ x. field_length κ g ≤ x) (sym zeros-length) room);
    small = λ e he. subst (λ x. x < weight_sum κ) (sym (zero-cell s e κ.nodes hs he (node-lt κ κ.nodes (omega arith)))) hw;
    bounded = omega (arith, zero-total s hs);
    stored = zero-stored s hs ∙ sym (zero-total s hs);
  }

  pub fresh-agrees : Agreeing κ g (fresh κ g field wind).field (λ s e. pos 0)
  unfolding fresh
  fresh-agrees = record { room = subst (λ x. field_length κ g ≤ x) (sym zeros-length) room; good = zero-good; agree = λ s hs e he. ap pos (sym (zero-mass s e hs he)) }

  -- the ledger agrees after every list
  pub list-agrees : (b : Buffers) (cs : List Call) → Agreeing κ g (run κ g b cs (fresh κ g field wind)).end.field (ledger κ g cs (run κ g b cs (fresh κ g field wind)).replies)
  unfolding ledger
  list-agrees b cs = run-agrees κ g hw b cs (fresh κ g field wind) (λ s e. pos 0) fresh-agrees

  -- and no list meets refusal 6
  pub list-never-6 : (b : Buffers) (cs : List Call) → NeverRefused 6 (run κ g b cs (fresh κ g field wind)).replies
  list-never-6 b cs = run-never-6 κ g hw b cs (fresh κ g field wind) (λ s e. pos 0) fresh-agrees

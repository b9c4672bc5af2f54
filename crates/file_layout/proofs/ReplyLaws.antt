-- What an accepted reading and an accepted writing have shown; what is so is accepted.
use mathlib.Core.Path.{◌≡◌, sym, ap, subst, ◌∙◌}
use mathlib.Core.Bool.{◌&&◌}
use mathlib.Core.List.{List, [], ◌∷◌}
use Prim.Native.Nat.{ℕ, ◌≤◌}
use native.Mathlib.Omega.{arith}
use lib.Dec.{T, leb, leb→le, le→leb}
use lib.IntN.{ℤ}
use lib.ListN.{length}
use Rattle.whole.specs.Table.{overwrite}
use Rattle.whole.proofs.Cases.{both, both_yes}
use Rattle.rules.specs.declared.Shape.{Shape}
use Rattle.rules.specs.declared.Mark.{Mark}
use Rattle.rules.specs.declared.Mark.TheVariants.{Plu2}
use Rattle.rules.specs.Answers.{accepted, refused, Check, check, answer}
use Rattle.rules.specs.Field.{Kind, admitted, faces, field_length}
use Rattle.rules.specs.Calls.{wind_sound}
use Rattle.rules.specs.FieldFile.{file_length, file_of, tail_shape, tail_mark, tail_right, offsets_right, file_wind, file_field, field_sound, read_reply, read_field, read_wind, write_reply, write_file}
use Rattle.rules.proofs.AnswerLaws.{Passed, answer-ind, passed-accepts, after-accepted, after-refused}

-- a call that is accepted has passed every check
accepted-passed : {A : Type 0} (cs : List Check) (x y : A) → answer cs x ≡ accepted y → Passed cs × (x ≡ y)
accepted-passed cs x y = answer-ind (λ a. a ≡ accepted y → Passed cs × (x ≡ y)) cs x
    (λ n e. let z : ◌≡◌ {A = ℕ} 0 1 = cc in absurd (omega arith)) (λ p e. (p, cc))

module _ (κ : Kind) (g : Shape) where
  -- ---- reading
  -- the checks, of the mark m and the shape h
  abbrev read-checks : Mark → Shape → List ℕ → List ℕ → List ℤ → List Check
  read-checks m h file field wind =
      check 1 (tail_right file) ∷ check 2 (admitted h) ∷ check 3 (offsets_right κ m h file) ∷ check 4 (leb (field_length κ h) (length field) && leb (faces h) (length wind))
      ∷ check 5 (wind_sound h (file_wind h file)) ∷ check 6 (field_sound κ h (file_field κ m h file)) ∷ []

  module _ (file field : List ℕ) (wind : List ℤ) where
    -- the file's mark
    abbrev m : Mark
    m = tail_mark file

    pub record Readable : Type 0 where
      pub tail : T (tail_right file)
      pub shape : tail_shape file ≡ g
      pub ranges : T (admitted g)
      pub offsets : T (offsets_right κ m g file)
      pub field_room : field_length κ g ≤ length field
      pub wind-room : faces g ≤ length wind
      pub winds : T (wind_sound g (file_wind g file))
      pub tracers : T (field_sound κ g (file_field κ m g file))

    pub read-shown : read_reply κ file field wind ≡ accepted g → Readable
    unfolding read_reply
    read-shown e =
        let s = accepted-passed (read-checks m (tail_shape file) file field wind) (tail_shape file) g e in
        let c = subst (λ h. Passed (read-checks m h file field wind)) s.1 s.0 in
        let room = both_yes (leb (field_length κ g) (length field)) (leb (faces g) (length wind)) c.1.1.1.0 in
        record { tail = c.0; shape = s.1; ranges = c.1.0; offsets = c.1.1.0; field_room = leb→le _ _ room.0; wind-room = leb→le _ _ room.1; winds = c.1.1.1.1.0; tracers = c.1.1.1.1.1.0 }

    module _ (r : Readable) where
      pub read-accepted : read_reply κ file field wind ≡ accepted g
      unfolding read_reply
      read-accepted = (λ i. answer (read-checks m (r.shape i) file field wind) (r.shape i)) ∙ passed-accepts (read-checks m g file field wind) g
          (r.tail, (r.ranges, (r.offsets, (both (leb (field_length κ g) (length field)) (leb (faces g) (length wind)) (le→leb _ _ r.field_room) (le→leb _ _ r.wind-room), (r.winds, (r.tracers, tt))))))

      pub field-read : read_field κ file field wind ≡ overwrite 0 (file_field κ m g file) field
      unfolding read_field
      field-read = after-accepted (read_reply κ file field wind) g _ field read-accepted ∙ ap (λ h. overwrite 0 (file_field κ m h file) field) r.shape

      pub wind-read : read_wind κ file field wind ≡ overwrite 0 (file_wind g file) wind
      unfolding read_wind
      wind-read = after-accepted (read_reply κ file field wind) g _ wind read-accepted ∙ ap (λ h. overwrite 0 (file_wind h file) wind) r.shape

  -- ---- writing
  module _ (field : List ℕ) (wind : List ℤ) (out : List ℕ) where
    pub record Writable : Type 0 where
      pub ranges : T (admitted g)
      pub field_room : field_length κ g ≤ length field
      pub wind-room : faces g ≤ length wind
      pub out-room : file_length κ Plu2 g ≤ length out
      pub winds : T (wind_sound g wind)
      pub tracers : T (field_sound κ g field)

    abbrev write-checks : List Check
    write-checks = check 2 (admitted g) ∷ check 4 (leb (field_length κ g) (length field) && (leb (faces g) (length wind) && leb (file_length κ Plu2 g) (length out)))
        ∷ check 5 (wind_sound g wind) ∷ check 6 (field_sound κ g field) ∷ []

    pub write-shown : (n : ℕ) → write_reply κ g field wind out ≡ accepted n → Writable × (file_length κ Plu2 g ≡ n)
    unfolding write_reply
    write-shown n e =
        let s = accepted-passed write-checks (file_length κ Plu2 g) n e in
        let c = s.0 in
        let room = both_yes (leb (field_length κ g) (length field)) _ c.1.0 in
        let rest = both_yes (leb (faces g) (length wind)) (leb (file_length κ Plu2 g) (length out)) room.1 in
        (record { ranges = c.0; field_room = leb→le _ _ room.0; wind-room = leb→le _ _ rest.0; out-room = leb→le _ _ rest.1; winds = c.1.1.0; tracers = c.1.1.1.0 }, s.1)

    module _ (w : Writable) where
      pub write-accepted : write_reply κ g field wind out ≡ accepted (file_length κ Plu2 g)
      unfolding write_reply
      write-accepted = passed-accepts write-checks (file_length κ Plu2 g) (
        w.ranges,
        (
          both (leb (field_length κ g) (length field)) _ (le→leb _ _ w.field_room)
              (both (leb (faces g) (length wind)) (leb (file_length κ Plu2 g) (length out)) (le→leb _ _ w.wind-room) (le→leb _ _ w.out-room)),
          (w.winds, (w.tracers, tt)),
        ),
      )

      pub file-written : write_file κ g field wind out ≡ overwrite 0 (file_of κ Plu2 g field wind) out
      unfolding write_file
      file-written = after-accepted (write_reply κ g field wind out) (file_length κ Plu2 g) _ out write-accepted

    -- a refused writing leaves the file as it was
    pub file-kept : (n : ℕ) → write_reply κ g field wind out ≡ refused n → out ≡ write_file κ g field wind out
    unfolding write_file
    file-kept n e = sym (after-refused (write_reply κ g field wind out) n _ out e)

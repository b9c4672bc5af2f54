-- The checks of file reading: which tests lead to which answer, and what an accepted reading has shown.
use mathlib.Core.Path.{◌≡◌, refl, sym, ap, subst, ◌∙◌}
use mathlib.Core.Bool.{true, false}
use mathlib.Core.List.{List, [], ◌++◌}
use Prim.Native.Nat.{ℕ, ◌≤◌, ◌<◌}
use native.Mathlib.Omega.{arith}
use borrow.Author.Tests.{lt-leb, le-leb}
use lib.Dec.{T, eqb, leb, eqb→eq, leb→le}
use lib.IntN.{ℤ}
use lib.ListN.{length}
use Rattle.whole.specs.Table.{overwrite}
use Rattle.whole.proofs.Cases.{true_of, both_yes}
use Rattle.rules.specs.declared.Shape.{Shape}
use Rattle.rules.specs.declared.Mark.{Mark}
use Rattle.rules.specs.Answers.{Answer, accepted, refused, answer}
use Rattle.rules.specs.Field.{quadratic, faces, field_length, Admitted}
use Rattle.rules.specs.Calls.{wind_sound}
use Rattle.rules.specs.FieldFile.{file_length, tail_shape, tail_mark, tail_right, offsets_right, file_wind, file_field, field_sound, read_reply, read_field, read_wind}
use Rattle.rules.proofs.AnswerLaws.{answer-ind, prefix-refused, prefix-accepted, after-refused, after-accepted}
use Rattle.rules.proofs.ShapeLaws.{ranges}
use Rattle.file_reading.specs.Reading.{tail_checks, tail_reply, shape_checks, shape_reply}

-- ---- 3 to 6
module _ (m : Mark) (g : Shape) (file : List ℕ) (field wind : ℕ) where
  abbrev Answered : Answer (Unit {0}) → Type 0
  Answered a = a ≡ shape_reply m g file field wind

  pub check-3 : offsets_right quadratic m g file ≡ false → Answered (refused 3)
  unfolding shape_reply shape_checks answer
  check-3 o = rw o

  pub check-4-field : offsets_right quadratic m g file ≡ true → field < field_length quadratic g → Answered (refused 4)
  unfolding shape_reply shape_checks answer
  check-4-field o f = rw (o, lt-leb (field_length quadratic g) field f)

  pub check-4-wind : offsets_right quadratic m g file ≡ true → field_length quadratic g ≤ field → wind < faces g → Answered (refused 4)
  unfolding shape_reply shape_checks answer
  check-4-wind o f w = rw (o, le-leb (field_length quadratic g) field f, lt-leb (faces g) wind w)

  pub check-5 : offsets_right quadratic m g file ≡ true → field_length quadratic g ≤ field → faces g ≤ wind → wind_sound g (file_wind g file) ≡ false → Answered (refused 5)
  unfolding shape_reply shape_checks answer
  check-5 o f w s = rw (o, le-leb (field_length quadratic g) field f, le-leb (faces g) wind w, s)

  pub check-6 : offsets_right quadratic m g file ≡ true → field_length quadratic g ≤ field → faces g ≤ wind → wind_sound g (file_wind g file) ≡ true → field_sound quadratic g (file_field quadratic m g file) ≡ false → Answered (refused 6)
  unfolding shape_reply shape_checks answer
  check-6 o f w s t = rw (o, le-leb (field_length quadratic g) field f, le-leb (faces g) wind w, s, t)

  pub check_done : offsets_right quadratic m g file ≡ true → field_length quadratic g ≤ field → faces g ≤ wind → wind_sound g (file_wind g file) ≡ true → field_sound quadratic g (file_field quadratic m g file) ≡ true → Answered (accepted tt)
  unfolding shape_reply shape_checks answer
  check_done o f w s t = rw (o, le-leb (field_length quadratic g) field f, le-leb (faces g) wind w, s, t)

  -- the length of a file whose offsets are right
  pub right-length : T (offsets_right quadratic m g file) → length file ≡ file_length quadratic m g
  unfolding offsets_right
  right-length t = eqb→eq _ _ (both_yes (eqb (length file) (file_length quadratic m g)) _ t).0

  -- what passed checks have shown
  pub record Fitting : Type 0 where
    pub long : length file ≡ file_length quadratic m g
    pub fields : field_length quadratic g ≤ field
    pub winds : faces g ≤ wind
    pub tracers : field_sound quadratic g (file_field quadratic m g file) ≡ true

  pub fitting : shape_reply m g file field wind ≡ accepted tt → Fitting
  unfolding shape_reply shape_checks
  fitting = answer-ind (λ (a : Answer (Unit {0})). a ≡ accepted tt → Fitting) (shape_checks m g file field wind) tt
      (λ n e. let z : ◌≡◌ {A = ℕ} 0 1 = cc in absurd (omega arith))
      (λ c e. let b = both_yes (leb (field_length quadratic g) field) (leb (faces g) wind) c.1.0 in
      record { long = right-length c.0; fields = leb→le _ _ b.0; winds = leb→le _ _ b.1; tracers = true_of _ c.1.1.1.0 })

-- ---- what a tail that gives a shape has shown
pub record Given (file : List ℕ) (g : Shape) : Type 0 where
  pub long : 12 ≤ length file
  pub same : tail_shape file ≡ g
  pub sizes : Admitted g

right-tail : (file : List ℕ) → T (tail_right file) → 12 ≤ length file
unfolding tail_right
right-tail file t = leb→le _ _ (both_yes (leb 12 (length file)) _ t).0

pub given : (file : List ℕ) (g : Shape) → tail_reply file ≡ accepted g → Given file g
unfolding tail_reply
given file g = answer-ind (λ a. a ≡ accepted g → Given file g) (tail_checks file) (tail_shape file)
    (λ n e. let z : ◌≡◌ {A = ℕ} 0 1 = cc in absurd (omega arith))
    (λ c e. let q : tail_shape file ≡ g = cc in record { long = right-tail file c.0; same = q; sizes = subst Admitted q (ranges (tail_shape file) c.1.0) })

-- ---- the call
module _ (file field : List ℕ) (wind : List ℤ) where
  -- an answer of the call, and what field and wind are after it
  abbrev Read : Answer Shape → List ℕ → List ℤ → Type 0
  Read a f w = (a ≡ read_reply quadratic file field wind) × ((f ≡ read_field quadratic file field wind) × (w ≡ read_wind quadratic file field wind))

  reply-is : read_reply quadratic file field wind ≡ answer (tail_checks file ++ shape_checks (tail_mark file) (tail_shape file) file (length field) (length wind)) (tail_shape file)
  unfolding read_reply shape_checks
  reply-is = refl

  refusing : (n : ℕ) → read_reply quadratic file field wind ≡ refused n → Read (refused n) field wind
  unfolding read_field read_wind
  refusing n e = (sym e, (sym (after-refused _ n _ field e), sym (after-refused _ n _ wind e)))

  pub read-no-tail : (n : ℕ) → tail_reply file ≡ refused n → Read (refused n) field wind
  unfolding tail_reply
  read-no-tail n e = refusing n (reply-is ∙ prefix-refused (tail_checks file) _ (tail_shape file) (tail_shape file) n e)

  module _ (m : Mark) (mark : m ≡ tail_mark file) where
    rest : (g : Shape) → tail_reply file ≡ accepted g → read_reply quadratic file field wind ≡ answer (shape_checks m g file (length field) (length wind)) g
    unfolding tail_reply
    rest g e =
        let s = (given file g e).same in
        reply-is ∙ prefix-accepted (tail_checks file) _ (tail_shape file) g (tail_shape file) e ∙ (λ i. answer (shape_checks (sym mark i) (s i) file (length field) (length wind)) (s i))

    pub read-refused : (g : Shape) (n : ℕ) → tail_reply file ≡ accepted g → shape_reply m g file (length field) (length wind) ≡ refused n → Read (refused n) field wind
    unfolding shape_reply shape_checks
    read-refused g n e q = refusing n (rest g e ∙ prefix-refused (shape_checks m g file (length field) (length wind)) [] tt g n q)

    pub read_done : (g : Shape) → tail_reply file ≡ accepted g → shape_reply m g file (length field) (length wind) ≡ accepted tt
        → Read (accepted g) (overwrite 0 (file_field quadratic m g file) field) (overwrite 0 (file_wind g file) wind)
    unfolding shape_reply shape_checks read_field read_wind
    read_done g e q =
        let a : read_reply quadratic file field wind ≡ accepted g = rest g e ∙ prefix-accepted (shape_checks m g file (length field) (length wind)) [] tt tt g q in
        let s = sym (given file g e).same in (
          sym a,
          (
            (λ i. overwrite 0 (file_field quadratic (mark i) (s i) file) field) ∙ sym (after-accepted _ g _ field a),
            ap (λ h. overwrite 0 (file_wind h file) wind) s ∙ sym (after-accepted _ g _ wind a),
          ),
        )

-- The checks of file writing: the answer, by the tests.
use mathlib.Core.Path.{◌≡◌, subst}
use mathlib.Core.Bool.{Bool, true, false, ◌&&◌}
use mathlib.Core.List.{List}
use Prim.Native.Nat.{ℕ}
use lib.Dec.{leb}
use lib.IntN.{ℤ}
use lib.ListN.{length}
use Rattle.rules.specs.declared.Shape.{Shape}
use Rattle.rules.specs.declared.Mark.TheVariants.{Plu2}
use Rattle.rules.specs.Answers.{Answer, accepted, refused, answer}
use Rattle.rules.specs.Field.{quadratic, admitted, faces, field_length}
use Rattle.rules.specs.Calls.{wind_sound}
use Rattle.rules.specs.FieldFile.{file_length, field_sound, write_reply, write_file}

module _ (g : Shape) (field : List ℕ) (wind : List ℤ) (file : List ℕ) where
  -- the buffers are long enough
  abbrev pub enough : Bool
  enough = leb (field_length quadratic g) (length field) && (leb (faces g) (length wind) && leb (file_length quadratic Plu2 g) (length file))

  pub write-2 : admitted g ≡ false → write_reply quadratic g field wind file ≡ refused 2
  unfolding write_reply answer
  write-2 a = rw a

  module _ (a : admitted g ≡ true) where
    pub write-4 : enough ≡ false → write_reply quadratic g field wind file ≡ refused 4
    unfolding write_reply answer
    write-4 e = rw (a, e)

    module _ (e : enough ≡ true) where
      pub write-5 : wind_sound g wind ≡ false → write_reply quadratic g field wind file ≡ refused 5
      unfolding write_reply answer
      write-5 w = rw (a, e, w)

      module _ (w : wind_sound g wind ≡ true) where
        pub write-6 : field_sound quadratic g field ≡ false → write_reply quadratic g field wind file ≡ refused 6
        unfolding write_reply answer
        write-6 t = rw (a, e, w, t)

        pub write-passed : field_sound quadratic g field ≡ true → write_reply quadratic g field wind file ≡ accepted (file_length quadratic Plu2 g)
        unfolding write_reply answer
        write-passed t = rw (a, e, w, t)

-- what a writing on the grid of a shape gives is what it gives on the shape
pub on_shape : {a : Answer ℕ} {new : List ℕ} {g h : Shape} (field : List ℕ) (wind : List ℤ) (file : List ℕ) → g ≡ h
    → (a ≡ write_reply quadratic g field wind file) × (new ≡ write_file quadratic g field wind file) → (a ≡ write_reply quadratic h field wind file) × (new ≡ write_file quadratic h field wind file)
on_shape {a} {new} field wind file e p = subst (λ k. (a ≡ write_reply quadratic k field wind file) × (new ≡ write_file quadratic k field wind file)) e p

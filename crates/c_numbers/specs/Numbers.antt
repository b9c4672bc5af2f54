-- Shapes, faces and answers as the C interface passes them.
use Rattle.std.specs.Prelude.{◌≡◌, ℕ, zero, suc, ◌+◌, ◌*◌, ℤ, pos, neg_ℤ}
use Rattle.rules.specs.declared.Shape.{Shape}
use Rattle.rules.specs.declared.Face.{Face}
use Rattle.rules.specs.declared.Way.TheVariants.{East, North}
use Rattle.rules.specs.Answers.{Answer, accepted, refused}
use Rattle.rules.specs.Field.{Admitted}
use Rattle.rules.specs.Sizes.{step_clipped_size}

-- a shape from its three numbers
abbrev pub shape_of : ℕ → ℕ → ℕ → Shape
shape_of nx ny smokes = record { nx = nx; ny = ny; tracers = smokes }

-- the face of element (i, j) that looks east (way 0) or north (way 1), and its new wind. Any other way is no face: column 64, which
-- no admitted grid has, stands for it, so that it meets refusal 8
abbrev pub face_of : ℕ → ℕ → ℕ → ℤ → Face
face_of zero i j c = record { way = East; i = i; j = j; wind = c }
face_of (suc zero) i j c = record { way = North; i = i; j = j; wind = c }
face_of (suc (suc n)) i j c = record { way = East; i = 64; j = 0; wind = c }

-- 0 for an accepted call, else the refusal's number
unfoldable pub code : Answer (Unit {0}) → ℕ
code (accepted x) = 0
code (refused n) = n

-- the number that is answered, or the refusal's number negated
unfoldable pub number_or : Answer ℕ → ℤ
number_or (accepted n) = pos n
number_or (refused n) = neg_ℤ (pos n)

-- the shape that is answered, as one number, or the refusal's number negated
abbrev pub shape_number : Shape → ℕ
shape_number g = g.nx + 256 * g.ny + 65536 * g.tracers

unfoldable pub shape_or : Answer Shape → ℤ
shape_or (accepted g) = pos (shape_number g)
shape_or (refused n) = neg_ℤ (pos n)

-- an answered shape is an admitted one
pub record AdmittedShape (a : Answer Shape) : Type 0 where
  pub small : (g : Shape) → a ≡ accepted g → Admitted g

-- the most that a call answers: a step's clipped mass
abbrev pub most_answered : ℕ
most_answered = step_clipped_size

-- what is told of an answer by its number
abbrev pub coded : ℕ → Answer (Unit {0}) → Type 0
coded r a = r ≡ code a

abbrev pub numbered : ℤ → Answer ℕ → Type 0
numbered r a = r ≡ number_or a

abbrev pub shaped : ℤ → Answer Shape → Type 0
shaped r a = r ≡ shape_or a

-- Document 01, "Field": neighbours, which wrap, and the two ends of a face.
use Rattle.std.specs.Prelude.{Bool, cond, ℕ, ◌+◌, ◌-◌, ◌/◌, ◌%◌, ltb}
use Rattle.rules.specs.declared.Shape.{Shape}
use Rattle.rules.specs.declared.Way.{Way}
use Rattle.rules.specs.declared.Way.TheVariants.{East, North}
use Rattle.rules.specs.Field.{elements, element, north_face}

-- "Neighbours wrap, so with nx = 1 an element is its own east neighbour."
unfoldable pub east : Shape → ℕ → ℕ
east g e = element g ((e % g.nx + 1) % g.nx) (e / g.nx)

unfoldable pub west : Shape → ℕ → ℕ
west g e = element g ((e % g.nx + (g.nx - 1)) % g.nx) (e / g.nx)

unfoldable pub north : Shape → ℕ → ℕ
north g e = element g (e % g.nx) ((e / g.nx + 1) % g.ny)

unfoldable pub south : Shape → ℕ → ℕ
south g e = element g (e % g.nx) ((e / g.nx + (g.ny - 1)) % g.ny)

-- whether face f is an east face; the element west or south of it, which owns it, and the one east or north of it
abbrev pub looks_east : Shape → ℕ → Bool
looks_east g f = ltb f (elements g)

unfoldable pub behind : Shape → ℕ → ℕ
behind g f = cond (looks_east g f) f (f - elements g)

unfoldable pub ahead : Shape → ℕ → ℕ
unfolding east north
ahead g f = cond (looks_east g f) (east g f) (north g (f - elements g))

-- "Which way a face looks is part of the call's record": where the face of element (i, j) that looks that way stands
abbrev pub face_index : Shape → Way → ℕ → ℕ → ℕ
face_index g East i j = element g i j
face_index g North i j = north_face g (element g i j)

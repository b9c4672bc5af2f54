-- What the leaves of the calls on a field answer: the checks that several calls begin with, and what these calls go on with.
use Rattle.std.specs.Prelude.{List, [], ◌∷◌, ℕ, leb, ltb}
use Rattle.rules.specs.declared.Shape.{Shape}
use Rattle.rules.specs.Answers.{Answer, check, answer}
use Rattle.rules.specs.Field.{quadratic, element, field_length, part, stored_total, mass, total, sound}
use Rattle.rules.specs.Calls.{part_checks, mass_checks}
use Rattle.field.specs.declared.readings.MassAndTotal.{MassAndTotal}

-- 4 and 7, for a field of this length
unfoldable pub there_reply : Shape → ℕ → ℕ → Answer (Unit {0})
unfolding answer
there_reply g s room = answer (check 4 (leb (field_length quadratic g) room) ∷ check 7 (ltb s g.tracers) ∷ []) tt

-- the sum of a tracer of which all numbers are looked at: 2, 4, 6 and 7, as a map and, after 5, a step meet them
unfoldable pub sum_reading : Shape → ℕ → List ℕ → Answer ℕ
unfolding answer sound total
sum_reading g s field = answer (part_checks quadratic g (sound quadratic g) s field) (total quadratic g (part quadratic g s field))

-- the stored total and the mass of element (i, j), with the checks of an emission and a withdrawal before 9 and 10
unfoldable pub mass_and_total_reading : Shape → ℕ → ℕ → ℕ → List ℕ → Answer MassAndTotal
unfolding answer mass stored_total
mass_and_total_reading g s i j field =
    let p = part quadratic g s field in
    answer (mass_checks quadratic g s i j field) (record { total = stored_total quadratic g p; mass = mass quadratic p (element g i j) })

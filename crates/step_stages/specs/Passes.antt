-- The stages by number: stage m + 1 is stage 0 and the sum of the tendencies of stages 0 .. m, each by its factor, divided.
-- Document 01's φ1, φ2 and ψ are stages 1, 2 and 3; `StagesLaws` says so.
use Rattle.std.specs.Prelude.{List, [], ◌∷◌, ℕ, ◌+◌, ◌*◌, ℤ, pos, ◌+ℤ◌, ◌*ℤ◌, get_or}
use Rattle.whole.specs.Bound.{floor_div}
use Rattle.rules.specs.declared.Shape.{Shape}
use Rattle.rules.specs.Field.{quadratic}
use Rattle.rules.specs.Stages.{tendency}
use Rattle.step_upwind.specs.Upwind.{as_stage}
use Rattle.step_stages.specs.declared.Pass.{Pass}
use Rattle.step_stages.specs.declared.Pass.TheVariants.{First, Second, Third}

-- the number of the stage that a pass begins at
abbrev pub from_stage : Pass → ℕ
from_stage First = 0
from_stage Second = 1
from_stage Third = 2

-- "t0", "t0 + t1", "t0 + t1 + 4·t2"; "floor(.. / 4)", "floor(.. / 6)"
abbrev pub factor : ℕ → ℕ
factor m = get_or (1 ∷ 1 ∷ 4 ∷ []) m 0

abbrev pub divisor : ℕ → ℕ
divisor m = get_or (1 ∷ 4 ∷ 6 ∷ []) m 1

-- the sum with a tendency t of stage m, and stage m + 1 from the stored value v and that sum
abbrev pub new_sum : ℕ → ℤ → ℤ → ℤ
new_sum m s t = s +ℤ pos (factor m) *ℤ t

abbrev pub new_value : ℕ → ℤ → ℤ → ℤ
new_value m v s = v +ℤ floor_div s (divisor m)

-- the sum at node k of element e, for the sums so far and stage m as lists
abbrev pub new_sums : Shape → (ℕ → ℤ) → ℕ → List ℤ → List ℤ → ℕ → ℕ → ℤ
new_sums g c m sums from e k = new_sum m (as_stage sums e k) (tendency quadratic g c (as_stage from) e k)

-- the same at node k of element i of row j, for the sums of the row, with `times` in the place of the factor
abbrev pub row_sum : Shape → (ℕ → ℤ) → ℤ → List ℤ → List ℤ → ℕ → ℕ → ℕ → ℤ
row_sum g c times sums from j i k = as_stage sums i k +ℤ times *ℤ tendency quadratic g c (as_stage from) (j * g.nx + i) k

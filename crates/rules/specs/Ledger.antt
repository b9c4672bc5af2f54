-- Document 01, "Ledger": what one call does to the ledger's numbers of its tracer, one whole number per element.
-- It is fed the call's arguments and its answer, of which it reads the report alone, and nothing from the field.
use Rattle.std.specs.Prelude.{Bool, cond, ℕ, zero, suc, eqb, ℤ, pos, ◌+ℤ◌, ◌-ℤ◌, get_or}
use Rattle.rules.specs.declared.Shape.{Shape}
use Rattle.rules.specs.Answers.{Answer, accepted, refused}
use Rattle.rules.specs.Field.{Kind, element, faces, weighted}
use Rattle.rules.specs.Grid.{behind, ahead}
use Rattle.rules.specs.Calls.{Operation, load, emission, withdrawal, step, Reply, loaded_value}

-- x where the test holds, else nothing
abbrev pub only : Bool → ℤ → ℤ
only b x = cond b x (pos 0)

-- "An accepted step goes through all faces ..: the reported number, sign kept, comes off the west or south element and is
-- added to the other": the numbers after the first n faces
unfoldable pub carried : Shape → (ℕ → ℤ) → ℕ → (ℕ → ℤ) → ℕ → ℤ
unfolding behind ahead
carried g flux zero held e = held e
carried g flux (suc f) held e = carried g flux f held e -ℤ only (eqb (behind g f) e) (flux f) +ℤ only (eqb (ahead g f) e) (flux f)

-- the ledger's number of element e after a call on its tracer, from the numbers `held` before it
unfoldable pub entry : {A : Type 0} → Kind → Shape → Operation A → Answer Reply → (ℕ → ℤ) → ℕ → ℤ
unfolding weighted loaded_value carried
-- "refused calls change nothing"
entry κ g op (refused n) held e = held e
-- "An accepted load sets every element of its smoke to the sum of ωaωb times the nodal numbers it lays there."
entry κ g (load numbers) (accepted r) held e = pos (weighted κ (loaded_value κ numbers e))
-- "An accepted emission of q adds q to its element of its smoke; an accepted withdrawal of q takes q off."
entry κ g (emission i j q) (accepted r) held e = held e +ℤ only (eqb (element g i j) e) (pos q)
entry κ g (withdrawal i j q) (accepted r) held e = held e -ℤ only (eqb (element g i j) e) (pos q)
-- "An accepted step goes through all faces": `carried` over its report
entry κ g (step l) (accepted r) held e = carried g (λ f. get_or r.report f (pos 0)) (faces g) held e

-- What the search of a tracer's part answers, and where it ends.
use Rattle.std.specs.Prelude.{Bool, ◌&&◌, ◌||◌, List, [], ◌∷◌, ℕ, eqb, ltb}
use Rattle.rules.specs.declared.Shape.{Shape}
use Rattle.rules.specs.Answers.{Answer, check, answer}
use Rattle.rules.specs.Field.{quadratic, sum_sound, sound, total, limit}

-- the sum where elements are sound, else document 01's refusal 6
unfoldable pub searched : Shape → List ℕ → Answer ℕ
unfolding answer
searched g p = answer (check 6 (sum_sound quadratic g p) ∷ []) (total quadratic g p)

-- the same; 6 also where the stored total is not that sum (document 02, 2026-06)
unfoldable pub compared : Shape → List ℕ → Answer ℕ
unfolding answer
compared g p = answer (check 6 (sound quadratic g p) ∷ []) (total quadratic g p)

-- "The search by rows, elements and numbers ends at the first break": at number v of an element, x, with which the total is t
unfoldable pub breaks : ℕ → ℕ → ℕ → Bool
breaks v x t = (eqb v 9 && ltb 35 x) || ltb limit t

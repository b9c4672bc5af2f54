-- Where a shape has no grid, the call answers 2.
use mathlib.Core.Path.{◌≡◌, ap, ◌∙◌}
use Rattle.std.specs.Prelude.{Result, Err}
use Rattle.std.specs.Result.{IsErrAnd}
use Rattle.rules.specs.declared.Shape.{Shape}
use Rattle.rules.specs.declared.Refusal.{Refusal}
use Rattle.rules.specs.Answers.{answered, refused, number}
use Rattle.rules.proofs.AnswerLaws.{passed_on}
use Rattle.field_layout.specs.Grids.{IsGridOf}

-- the refusal of a shape, passed on by ?
pub refused-2 : {A : Type 0} (g : Shape) (r : Result A Refusal) (x : Refusal) → IsErrAnd r (λ y. y ≡ x) → IsGridOf g (Err x) → answered r ≡ refused 2
refused-2 g r x h e = passed_on r x h ∙ ap (λ z. refused (number z)) e.1

-- What the functions that print tracers leave: lines added to the text, or a refusal.
use Rattle.std.specs.Prelude.{◌≡◌, List, ℕ, ◌+◌, ◌*◌, Result, Ok, Err}
use Rattle.rules.specs.declared.Shape.{Shape}
use Rattle.rules.specs.Answers.{Answer, accepted, refused, number}
use Rattle.rules.specs.Program.{Printed, refused_line}
use Rattle.text.specs.declared.Text.{Text}
use Rattle.text.specs.Adds.{Adds}
use Rattle.rules.specs.declared.Refusal.{Refusal}

-- the bytes that the lines of one tracer take at most
abbrev pub tracer_room : Shape → ℕ
tracer_room g = 2 * (g.ny * (g.nx * 96)) + 69

-- lines of at most n bytes are added to the text, and `field` is what the steps have left
pub record LinesAdded (n : ℕ) (a : Answer Printed) (field : List ℕ) (old new : Text) : Type 0 where
  pub text : List ℕ
  pub is : a ≡ accepted (record { text = text; field = field })
  pub added : Adds n text old new

-- the same, or the refusal's number
abbrev pub AddedOrRefused : ℕ → Answer Printed → List ℕ → Text → Text → Result (Unit {0}) Refusal → Type 0
AddedOrRefused n a field old new (Ok _) = LinesAdded n a field old new
AddedOrRefused n a field old new (Err r) = a ≡ refused (number r)

-- all lines are added, or the refusal's line is the whole text
abbrev pub LinesOrRefused : List ℕ → Text → Text → Result (Unit {0}) Refusal → Type 0
LinesOrRefused text old new (Ok _) = Adds 200000 text old new
LinesOrRefused text old new (Err r) = refused_line (number r) ≡ text

use mathlib.Core.Path.{sym, ap, ◌∙◌}
use Rattle.rules.specs.Answers.{answered}
use Rattle.c_numbers.specs.Numbers.{code}
use Rattle.c_numbers.proofs.code.Goals as goal

-- the check finds both by itself; they stand here since an edit of the definition is judged by the fact that fails in them
pub returns-in-Ok : goal.returns-in-Ok
unfolding code
returns-in-Ok c = sym (ap (λ a. code (answered a)) c.in-Ok.is)

pub returns-in-Err : goal.returns-in-Err
unfolding code
returns-in-Err c = c.into.ensures ∙ sym (ap (λ a. code (answered a)) c.in-Err.is)

use Rattle.rules.specs.Field.{quadratic}
use Rattle.rules.specs.Calls.{loaded_element}
use Rattle.whole.proofs.FillLaws.{BlocksFilled}
use Rattle.field_elements.proofs.fill.lay.Given as goal

abbrev pub invariant-loop-e : goal.invariant-loop-e
invariant-loop-e l = BlocksFilled 10 (loaded_element quadratic l.fn.numbers) l.initial.part l.fn.n l.e l.part

-- The first walk: at each turn one more record has passed.
use Rattle.wind_import.proofs.ImportLaws.{Walked}
use Rattle.wind_import.proofs.check.Given as goal

abbrev pub invariant-loop : goal.invariant-loop
invariant-loop l = Walked l.records l.counter l.left

-- The second walk: at each turn the winds of one more record stand in their faces' places.
use lib.ListN.{length}
use Rattle.rules.specs.WindRecords.{east_wind, north_wind}
use Rattle.whole.proofs.FillLaws.{Filled}
use Rattle.wind_import.proofs.ImportLaws.{Walked}
use Rattle.wind_import.proofs.lay.Given as goal

abbrev pub invariant-loop-e : goal.invariant-loop-e
invariant-loop-e l = record {
  walked : Walked l.records l.e l.left;
  east : Filled (east_wind l.records) l.initial.easts (length l.initial.easts) l.e l.easts;
  north : Filled (north_wind l.records) l.initial.norths (length l.initial.easts) l.e l.norths;
}

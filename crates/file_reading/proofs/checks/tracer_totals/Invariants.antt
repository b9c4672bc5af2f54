use Rattle.std.proofs.Common.{◌≡◌, ◌*◌, ◌≤◌, refl}
use Rattle.rules.specs.Field.{quadratic}
use Rattle.rules.specs.FieldFile.{section_length}
use Rattle.file_reading.proofs.PartLaws.{TracersSummed}
use Rattle.file_reading.proofs.checks.tracer_totals.Given as goal

abbrev pub invariant-loop-s : goal.invariant-loop-s
invariant-loop-s l =
    let it = l.s-iterator in
    let m = l.fn.layout.mark in
    let g = l.fn.layout.grid.shape in
    let n = 4 * section_length quadratic m g in
    (goal.iterator-loop-s).can_next it × (goal.iterator-loop-s).is_finite it × (it.iter.size ≡ n) × (it.count ≤ g.tracers)
    × TracersSummed m g l.fn.sections n refl l.initial.totals it.count it.iter.rest.now l.totals

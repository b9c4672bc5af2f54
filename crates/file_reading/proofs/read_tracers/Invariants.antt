use Rattle.std.proofs.Common.{◌≡◌, ◌*◌, ◌≤◌, refl}
use Rattle.rules.specs.Field.{quadratic}
use Rattle.rules.specs.FieldFile.{section_length}
use Rattle.file_reading.proofs.PartLaws.{TracersRead}
use Rattle.file_reading.proofs.read_tracers.Given as goal

abbrev pub invariant-loop-s : goal.invariant-loop-s
invariant-loop-s l =
    let it = l.s-iterator in
    let m = l.fn.layout.mark in
    let g = l.fn.layout.grid.shape in
    let n = 4 * section_length quadratic m g in
    (goal.iterator-loop-s).can_next it × (goal.iterator-loop-s).is_finite it × (it.iter.size ≡ n) × (it.count ≤ g.tracers)
    × TracersRead m g l.sections n refl l.initial.field it.count it.iter.rest.now l.to l.field

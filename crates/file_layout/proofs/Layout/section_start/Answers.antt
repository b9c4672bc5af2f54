use mathlib.Core.Path.{sym}
use native.Mathlib.Omega.{arith}
use Prim.Native.Nat.{◌-◌, ◌*◌, ◌≤◌}
use Rattle.rules.specs.Field.{quadratic}
use Rattle.rules.proofs.ShapeLaws.{elements-le}
use Rattle.field_layout.proofs.PlaceLaws.{part-le}
use Rattle.file_layout.proofs.LayoutLaws.{wind-start, start_of, tracers-le, section-within}
use Rattle.file_layout.proofs.Layout.section_start.Goals as goal
use Rattle.file_layout.proofs.Layout.section_start.Goals.{After-section_length}

pub returns-then-i-eq0 : goal.returns-then-i-eq0
returns-then-i-eq0 c = rw c.if-i-eq0.true (sym (wind-start quadratic c.args.self.mark c.args.self.grid.shape))

pub overflow_mul-result-2 : goal.overflow_mul-result-2
overflow_mul-result-2 c = record { fits = omega (arith, c.section_length.ensures, (section-within c.args.self.grid.shape c.args.self.mark c.args.self.grid.admitted).1, part-le c.args.self.grid.shape c.args.self.grid.admitted) }

-- the tracers before section i
before : (c : After-section_length) → (c.args.i - 1) * (4 * c.section_length.result) ≤ 1310752
before c = rw c.section_length.ensures (tracers-le c.args.self.grid.shape c.args.self.mark (c.args.i - 1) c.args.self.grid.admitted (omega (arith, c.requires, c.args.self.grid.admitted.tracers-small)))

pub overflow_mul-result-3 : goal.overflow_mul-result-3
overflow_mul-result-3 c = record { fits = omega (arith, before (goal.at.overflow_mul-result-3 c).After-section_length) }

pub overflow_add-result : goal.overflow_add-result
overflow_add-result c = record { fits = omega (arith, before (goal.at.overflow_add-result c).After-section_length, c.faces.ensures, elements-le c.args.self.grid.shape c.args.self.grid.admitted) }

pub returns : goal.returns
returns c =
    rw (c.faces.ensures, c.section_length.ensures) (sym (start_of quadratic c.args.self.mark c.args.self.grid.shape c.args.i (omega (arith, c.if-i-eq0.false))))

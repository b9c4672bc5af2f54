use mathlib.Core.Path.{sym, ap, ◌∙◌}
use native.Mathlib.Omega.{arith}
use Prim.Native.Nat.{◌+◌, ◌*◌}
use Rattle.rules.specs.Field.{element}
use Rattle.field_layout.proofs.PlaceLaws.{element-room, element-small, start_is}
use Rattle.field_layout.proofs.grid.Grid.element_start.Goals as goal

pub overflow_add-result-2 : goal.overflow_add-result-2
overflow_add-result-2 c =
    let a = c.args in
    let g = a.self.shape in
    record { fits = omega (arith, c.tracer_start.ensures, start_is g a.tracer a.i a.j, element-small g a.tracer a.i a.j a.self.admitted c.requires) }

pub returns : goal.returns
returns c =
    let a = c.args in
    let g = a.self.shape in
    let e = ap (λ n. n + element g a.i a.j * 10) c.tracer_start.ensures ∙ sym (start_is g a.tracer a.i a.j) in
    record { start = e; room = omega (arith, e, element-room g a.tracer a.i a.j c.requires); small = omega (arith, e, element-small g a.tracer a.i a.j a.self.admitted c.requires) }

-- The mass of an element, lent as a part of the field, is the element's in its tracer's part.
use mathlib.Core.Path.{◌∙◌}
use Prim.Native.Nat.{◌+◌, ◌-◌}
use native.Mathlib.Nat.{add-sub_cancel_left}
use Rattle.field.proofs.InPlaceLaws.{mass-lent}
use Rattle.field.proofs.readings.element_mass.Goals as goal
use Rattle.field.proofs.readings.element_mass.Goals.{After-element_start-at}

pub returns : goal.returns
returns c =
    let a = c.args in
    let at = c.element_start-at.result in
    c.mass.ensures ∙ mass-lent a.grid.shape a.tracer a.i a.j a.field.now c.requires.inside c.requires.shape_in_bounds at c.element_start-at.ensures.start (at + 10 - at) (add-sub_cancel_left at 10)

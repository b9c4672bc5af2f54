use native.Mathlib.Omega.{arith}
use Rattle.field_layout.proofs.PlaceLaws.{field_is, field-le}
use Rattle.field.proofs.store_total.Goals as goal

pub offset_bounds-field-total_at : goal.offset_bounds-field-total_at
offset_bounds-field-total_at c = let g = c.args.grid in record { fits = omega (arith, c.total_at.ensures.room, field_is g.shape, field-le g.shape g.admitted) }

-- 4 and 7, by the two tests.
use mathlib.Core.Path.{sym}
use native.Mathlib.Omega.{arith}
use Rattle.field.proofs.CheckLaws.{there-short, there-none, there-passes}
use Rattle.field.proofs.readings.there.Goals as goal

pub returns-then-field-field_length : goal.returns-then-field-field_length
returns-then-field-field_length c = let a = c.args in sym (there-short a.grid.shape a.tracer a.field.now (omega (arith, c.field_length.ensures)))

pub returns-then-grid-tracer : goal.returns-then-grid-tracer
returns-then-grid-tracer c = let a = c.args in sym (there-none a.grid.shape a.tracer a.field.now (omega (arith, c.field_length.ensures)) c.if-grid-tracer.true)

pub returns : goal.returns
returns c = let a = c.args in sym (there-passes a.grid.shape a.tracer a.field.now (omega (arith, c.field_length.ensures)) c.if-grid-tracer.false)

-- The reading of an element and the stored total: the refusals of the total's reading, then the grid's test, and of an element on it the two tests
-- that are left of 6.
use mathlib.Core.Path.{◌≡◌, sym, ap, ◌∙◌}
use mathlib.Core.Bool.{true}
use Prim.Native.Nat.{◌≤◌}
use native.Mathlib.Omega.{arith}
use lib.ListN.{length}
use Rattle.rules.specs.Answers.{accepted}
use Rattle.rules.specs.Field.{quadratic, element, on_grid, field_length, part, remainder}
use Rattle.rules.proofs.AnswerLaws.{passed_on}
use Rattle.field_layout.specs.Places.{Inside}
use Rattle.field.proofs.CheckLaws.{found, inside, named-refused, named-off-grid, named-remainder, named-over, named-passes}
use Rattle.field.proofs.InPlaceLaws.{number_at}
use Rattle.field.proofs.readings.mass_and_total.Goals as goal
use Rattle.field.proofs.readings.mass_and_total.Goals.{After-from, Else-from-gt-LARGEST_REMAINDER, Else-not-on_grid}

pub returns-in_err-total : goal.returns-in_err-total
returns-in_err-total c =
    let a = c.args in
    let r = c.from_residual in
    passed_on r.result _ r.ensures.1 ∙ sym (named-refused a.grid.shape a.tracer a.i a.j a.field.now _ (sym c.in_err-total.ensures))

pub returns-then-not-on_grid : goal.returns-then-not-on_grid
returns-then-not-on_grid c = let a = c.args in sym (named-off-grid a.grid.shape a.tracer a.i a.j a.field.now _ (sym c.in_ok-total.ensures) (sym c.on_grid.ensures ∙ c.if-not-on_grid.true))

-- what the tests before say
grid : (c : Else-not-on_grid) → on_grid c.args.grid.shape c.args.i c.args.j ≡ true
grid c = sym c.on_grid.ensures ∙ c.if-not-on_grid.false

within : (c : Else-not-on_grid) → Inside c.args.grid.shape c.args.tracer c.args.i c.args.j
within c = let a = c.args in inside a.grid.shape a.tracer a.i a.j a.field.now _ (sym c.in_ok-total.ensures) (grid c)

room : (c : Else-not-on_grid) → field_length quadratic c.args.grid.shape ≤ length c.args.field.now
room c = let a = c.args in (found a.grid.shape a.tracer a.field.now _ (sym c.in_ok-total.ensures)).room

pub element_start-start-requires : goal.element_start-start-requires
element_start-start-requires c = within (goal.at.element_start-start-requires c).Else-not-on_grid

pub bounds-field-start : goal.bounds-field-start
bounds-field-start c = omega (arith, c.element_start-start.ensures.room, room (goal.at.bounds-field-start c).Else-not-on_grid)

-- what is compared first is the element's remainder
held : (c : After-from) → Inside c.args.grid.shape c.args.tracer c.args.i c.args.j → field_length quadratic c.args.grid.shape ≤ length c.args.field.now
    → c.from.result ≡ remainder quadratic (part quadratic c.args.grid.shape c.args.tracer c.args.field.now) (element c.args.grid.shape c.args.i c.args.j)
unfolding remainder quadratic
held c w r = let a = c.args in c.from.ensures ∙ number_at a.grid.shape a.tracer a.i a.j a.field.now w r c.element_start-start.result c.element_start-start.ensures.start 9 (omega arith)

pub returns-then-from-gt-LARGEST_REMAINDER : goal.returns-then-from-gt-LARGEST_REMAINDER
returns-then-from-gt-LARGEST_REMAINDER c =
    let a = c.args in
    let at = goal.at.returns-then-from-gt-LARGEST_REMAINDER c in
    let e = at.Else-not-on_grid in
    sym (named-remainder a.grid.shape a.tracer a.i a.j a.field.now _ (sym c.in_ok-total.ensures) (grid e) (omega (arith, c.if-from-gt-LARGEST_REMAINDER.true, held at.After-from (within e) (room e))))

pub element_mass-mass-requires-clause-inside : goal.element_mass-mass-requires-clause-inside
element_mass-mass-requires-clause-inside c = within (goal.at.element_mass-mass-requires-clause-inside c).Else-not-on_grid

pub element_mass-mass-requires-clause-shape_in_bounds : goal.element_mass-mass-requires-clause-shape_in_bounds
element_mass-mass-requires-clause-shape_in_bounds c = room (goal.at.element_mass-mass-requires-clause-shape_in_bounds c).Else-not-on_grid

pub returns-then-total-mass : goal.returns-then-total-mass
returns-then-total-mass c =
    let a = c.args in
    let at = goal.at.returns-then-total-mass c in
    let e = at.Else-not-on_grid in
    let r : remainder quadratic (part quadratic a.grid.shape a.tracer a.field.now) (element a.grid.shape a.i a.j) ≤ 35 = omega (arith, c.if-from-gt-LARGEST_REMAINDER.false, held at.After-from (within e) (room e)) in
    sym (named-over a.grid.shape a.tracer a.i a.j a.field.now _ (sym c.in_ok-total.ensures) (grid e) r (omega (arith, c.if-total-mass.true, c.element_mass-mass.ensures)))

pub returns : goal.returns
returns c =
    let a = c.args in
    let at = goal.at.returns c in
    let e = at.Else-not-on_grid in
    let r : remainder quadratic (part quadratic a.grid.shape a.tracer a.field.now) (element a.grid.shape a.i a.j) ≤ 35 = omega (arith, c.if-from-gt-LARGEST_REMAINDER.false, held at.After-from (within e) (room e)) in
    ap (λ m. accepted (record { total = c.in_ok-total.total; mass = m })) c.element_mass-mass.ensures
    ∙ sym (named-passes a.grid.shape a.tracer a.i a.j a.field.now _ (sym c.in_ok-total.ensures) (grid e) r (omega (arith, c.if-total-mass.false, c.element_mass-mass.ensures)))

-- A step's passes: each section is the rules' list after its call (`TracerLaws`), so that what the next call asks holds.
use mathlib.Core.Path.{◌≡◌, ◌∙◌}
use native.Mathlib.Omega.{arith}
use Rattle.rules.specs.Step.{finish, tracer_step}
use Rattle.field_layout.proofs.PlaceLaws.{part-is}
use Rattle.step.proofs.TracerLaws.{Given, given-of, mass-small, fluxes-lent, masses, outflows, weighed, drained, limited, reported-over, limited-over, limited-lent, rise_list, raised, values-of, amounts-of, balance-of, all_closed, all_clipped}
use Rattle.step.proofs.tracer.step.Goals as goal
use Rattle.step.proofs.tracer.step.Goals.{After-masses, After-outflows, After-limit, After-rises, Start}

given : (c : Start) → Given c.args.winds.grid.shape c.args.winds.wind.now c.args.part.now
given c = given-of c.args.winds.grid.admitted c.args.winds.in_range c.requires.part_len c.requires.part_sound

-- ---- what the passes after the stages make
weighed-at : (c : After-masses) (h : Given c.args.winds.grid.shape c.args.winds.wind.now c.args.part.now) → c.masses.new.masses ≡ masses h
weighed-at c h = weighed h (c.split_at_mut-masses.ensures.front_len ∙ c.elements-n.ensures) c.masses.ensures

drained-at : (c : After-outflows) (h : Given c.args.winds.grid.shape c.args.winds.wind.now c.args.part.now) → c.outflows.new.outflows ≡ outflows h
drained-at c h = drained h c.stages.ensures.amounts_after c.outflows.ensures

reported-at : (c : After-limit) (h : Given c.args.winds.grid.shape c.args.winds.wind.now c.args.part.now) → c.limit.new.report ≡ limited h
reported-at c h =
    let x = goal.at-After-limit c in
    reported-over h c.args.report.now c.stages.ensures.amounts_after (drained-at x.After-outflows h) (weighed-at x.After-masses h) c.limit.ensures ∙ limited-over h c.args.report.now c.requires.report_len

raised-at : (c : After-rises) (h : Given c.args.winds.grid.shape c.args.winds.wind.now c.args.part.now) → c.rises.new.fluxes ≡ rise_list h
raised-at c h = let x = goal.at-After-rises c in raised h c.stages.ensures.amounts_after (reported-at x.After-limit h) c.rises.ensures

-- ---- what they ask
pub masses-requires-clause-part_len : goal.masses-requires-clause-part_len
masses-requires-clause-part_len c = omega (arith, c.requires.part_len, part-is c.args.winds.grid.shape, c.split_at_mut-masses.ensures.front_len, c.elements-n.ensures)

pub masses-requires-clause-within_limit : goal.masses-requires-clause-within_limit
masses-requires-clause-within_limit c =
    let h = given (goal.at.masses-requires-clause-within_limit c).Start in
    λ e l. mass-small h e (omega (arith, l, c.split_at_mut-masses.ensures.front_len, c.elements-n.ensures))

pub outflows-requires-clause-all_within : goal.outflows-requires-clause-all_within
outflows-requires-clause-all_within c = let x = goal.at.outflows-requires-clause-all_within c in let h = given x.Start in fluxes-lent h c.stages.ensures.amounts_after

pub limit-requires-clause-amounts : goal.limit-requires-clause-amounts
limit-requires-clause-amounts c =
    let x = goal.at.limit-requires-clause-amounts c in
    let h = given x.Start in
    amounts-of h c.stages.ensures.amounts_after (drained-at x.After-outflows h) (weighed-at x.After-masses h)

pub rises-requires-clause-all_within : goal.rises-requires-clause-all_within
rises-requires-clause-all_within c = let x = goal.at.rises-requires-clause-all_within c in let h = given x.Start in fluxes-lent h c.stages.ensures.amounts_after

pub rises-requires-clause-all_within_2 : goal.rises-requires-clause-all_within_2
rises-requires-clause-all_within_2 c = let x = goal.at.rises-requires-clause-all_within_2 c in let h = given x.Start in limited-lent h (reported-at x.After-limit h)

pub finish-requires-clause-values : goal.finish-requires-clause-values
finish-requires-clause-values c = let x = goal.at.finish-requires-clause-values c in let h = given x.Start in values-of h c.stages.ensures.psi_after (raised-at x.After-rises h)

pub finish-requires-clause-balance : goal.finish-requires-clause-balance
finish-requires-clause-balance c = let x = goal.at.finish-requires-clause-balance c in let h = given x.Start in balance-of h (weighed-at x.After-masses h) (reported-at x.After-limit h)

pub returns-clause-part_after : goal.returns-clause-part_after
unfolding tracer_step finish
returns-clause-part_after c =
    let x = goal.at.returns-clause-part_after c in
    let h = given x.Start in
    all_closed h c.stages.ensures.psi_after (raised-at x.After-rises h) (weighed-at x.After-masses h) (reported-at x.After-limit h) c.finish.ensures.numbers

pub returns-clause-report_after : goal.returns-clause-report_after
unfolding tracer_step finish
returns-clause-report_after c = let x = goal.at.returns-clause-report_after c in reported-at x.After-limit (given x.Start)

pub returns-clause-clipped_after : goal.returns-clause-clipped_after
unfolding tracer_step finish
returns-clause-clipped_after c =
    let x = goal.at.returns-clause-clipped_after c in
    let h = given x.Start in
    all_clipped h c.stages.ensures.psi_after (raised-at x.After-rises h) (weighed-at x.After-masses h) (reported-at x.After-limit h) c.finish.ensures.clipped

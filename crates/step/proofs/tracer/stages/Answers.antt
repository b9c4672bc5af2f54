-- The stages of a step: after each call the sections are the rules' lists (`TracerLaws`), so that what the next call asks holds.
use mathlib.Core.Path.{◌≡◌, sym, ap, subst, ◌∙◌}
use Prim.Native.Nat.{suc, ◌+◌}
use native.Mathlib.Omega.{arith}
use lib.ListN.{length}
use Rattle.whole.specs.Bound.{AllWithin}
use Rattle.whole.proofs.TableLaws.{length-table}
use Rattle.rules.specs.Field.{faces}
use Rattle.rules.specs.Sizes.{stage_size, earlier_sum_size, sum_size}
use Rattle.field_layout.proofs.PlaceLaws.{part-is-more}
use Rattle.step_fluxes.specs.Amount.{amount_size}
use Rattle.step_stages.proofs.Laws.{pass-at}
use Rattle.step.proofs.TracerLaws.{Given, given-of, phi, sums, face_sums, phi-small, earlier-small, with-small, face_sums-small, stored, zero_sums, zero_face_sums, added, face-added, advanced, fluxed}
use Rattle.step.proofs.tracer.stages.Goals as goal
use Rattle.step.proofs.tracer.stages.Goals.{Start, In-loop-pass, After-loop-pass, After-add_stage}

given : (c : Start) → Given c.args.winds.grid.shape c.args.winds.wind.now c.args.part.now
given c = given-of c.args.winds.grid.admitted c.args.winds.in_range c.requires.part_len c.requires.part_sound

pub start-requires-clause-part_len : goal.start-requires-clause-part_len
start-requires-clause-part_len c = omega (arith, c.requires.part_len, part-is-more c.args.winds.grid.shape)

pub loop-pass-init : goal.loop-pass-init
loop-pass-init c = let h = given (goal.at.loop-pass-init c).Start in (
  stored h c.start.ensures,
  (
    zero_sums h (omega (arith, c.split_at_mut-sums.ensures.front_len, c.elements.ensures)) (c.fill.ensures.after (λ y e. e)),
    zero_face_sums h c.requires.amounts_len (c.fill-2.ensures.after (λ y e. e)),
  ),
)

-- ---- what a turn asks
pub invariant_of-add_stage-clause-small : goal.invariant_of-add_stage-clause-small
invariant_of-add_stage-clause-small c = let h = given (goal.at.invariant_of-add_stage-clause-small c).Start in subst (AllWithin stage_size) (sym c.loop-pass.invariant.0) (phi-small h c.loop-pass.pass-index c.loop-pass-test.true)

pub add_stage-requires-clause-amounts_small : goal.add_stage-requires-clause-amounts_small
add_stage-requires-clause-amounts_small c = let h = given (goal.at.add_stage-requires-clause-amounts_small c).Start in subst (AllWithin amount_size) (sym c.loop-pass.invariant.1.1) (face_sums-small h c.loop-pass.pass-index (omega (arith, c.loop-pass-test.true)))

pub add_stage-requires-clause-sums_small : goal.add_stage-requires-clause-sums_small
add_stage-requires-clause-sums_small c = let h = given (goal.at.add_stage-requires-clause-sums_small c).Start in subst (AllWithin earlier_sum_size) (sym c.loop-pass.invariant.1.0) (earlier-small h c.loop-pass.pass-index c.loop-pass-test.true)

-- the sums with those of a turn
with : (c : After-add_stage) (h : Given c.args.winds.grid.shape c.args.winds.wind.now c.args.part.now) → c.add_stage.new.sums ≡ sums h (suc c.loop-pass.pass-index)
with c h = let m = c.loop-pass.pass-index in let t = c.loop-pass-test.true in added h m t (pass-at m t) c.loop-pass.invariant.0 c.loop-pass.invariant.1.0 c.add_stage.ensures.sums_after

pub set_values-requires-clause-part_len : goal.set_values-requires-clause-part_len
set_values-requires-clause-part_len c = omega (arith, c.requires.part_len, part-is-more c.args.winds.grid.shape)

pub set_values-requires-clause-sums_small : goal.set_values-requires-clause-sums_small
set_values-requires-clause-sums_small c =
    let x = goal.at.set_values-requires-clause-sums_small c in
    let h = given x.Start in
    subst (AllWithin sum_size) (sym (with x.After-add_stage h)) (with-small h c.loop-pass.pass-index c.loop-pass-test.true)

pub loop-pass-preserved : goal.loop-pass-preserved
loop-pass-preserved c =
    let x = goal.at.loop-pass-preserved c in
    let h = given x.Start in
    let m = c.loop-pass.pass-index in
    let t = c.loop-pass-test.true in
    let k = pass-at m t in
    let s = with x.After-add_stage h in
    let next : m + 1 ≡ suc m = omega arith in
    rw next (advanced h m t k s c.set_values.ensures, (s, face-added h m k c.loop-pass.invariant.0 c.loop-pass.invariant.1.1 c.add_stage.ensures.amounts_after))

-- ---- what the turns make
last : (c : After-loop-pass) → c.loop-pass.pass-index ≡ 3
last c = omega (arith, c.loop-pass-test.false, c.loop-pass.auto.pass-index-end)

amounts-at : (c : After-loop-pass) (h : Given c.args.winds.grid.shape c.args.winds.wind.now c.args.part.now) → c.loop-pass.amounts ≡ face_sums h 3
amounts-at c h = c.loop-pass.invariant.1.1 ∙ ap (face_sums h) (last c)

pub fluxes-requires : goal.fluxes-requires
fluxes-requires c =
    let x = goal.at.fluxes-requires c in
    let h = given x.Start in
    subst (AllWithin amount_size) (sym (amounts-at x.After-loop-pass h)) (face_sums-small h 3 (omega arith))

pub returns-clause-psi_after : goal.returns-clause-psi_after
returns-clause-psi_after c =
    let x = goal.at.returns-clause-psi_after c in
    c.loop-pass.invariant.0 ∙ ap (phi (given x.Start)) (last x.After-loop-pass)

pub returns-clause-amounts_after : goal.returns-clause-amounts_after
returns-clause-amounts_after c =
    let x = goal.at.returns-clause-amounts_after c in
    let h = given x.Start in
    let sums = amounts-at x.After-loop-pass h in
    fluxed h (ap length sums ∙ length-table (faces c.args.winds.grid.shape) _) sums c.fluxes.ensures

-- A row's sums with its tendencies: the part that a turn lends is as it was, and comes back with the numbers that the definition gives.
use mathlib.Core.Path.{◌≡◌, refl, sym, ap, subst, ◌∙◌}
use Prim.Native.Nat.{ℕ, ◌-◌, ◌+◌, ◌*◌, ◌<◌}
use native.Mathlib.Nat.{add-sub_cancel_left}
use native.Mathlib.Omega.{arith}
use lib.IntN.{pos, ◌+ℤ◌, ◌*ℤ◌}
use lib.ListN.{drop}
use mir.Syntax.{w64}
use mir.Val.{to_z, of_z}
use Rattle.whole.specs.Bound.{AllWithin}
use Rattle.whole.specs.Table.{table, at}
use Rattle.whole.proofs.TableLaws.{get_d-table, length-table, table-cong}
use Rattle.rules.specs.Field.{quadratic}
use Rattle.rules.specs.Stages.{tendency}
use Rattle.rules.specs.Calls.{wind_at}
use Rattle.rules.specs.Sizes.{tendency_size}
use Rattle.whole.proofs.FillLaws.{blocks-none, blocks-next, blocks-rest}
use Rattle.step_upwind.specs.Upwind.{as_stage}
use Rattle.step_grid.proofs.RowLaws.{element-inside}
use Rattle.step_stages.proofs.Laws.{tendencies-small, lent-at, lent-within}
use Rattle.step_stages.proofs.add_row.Goals as goal
use Rattle.step_stages.proofs.add_row.Goals.{In-loop-column}

pub loop-column-init : goal.loop-column-init
loop-column-init c = blocks-none (omega (arith, c.requires.sums_len))

-- the sums of a turn
lent : (c : In-loop-column) → drop (c.loop-column.column * 9) c.loop-column.sums ≡ drop (c.loop-column.column * 9) c.args.sums.now
lent c = blocks-rest (λ e. length-table 9 _) c.loop-column.invariant

pub add-requires-clause-all_within : goal.add-requires-clause-all_within
add-requires-clause-all_within c = let i = c.loop-column.column in lent-within c.loop-column.sums c.args.sums.now i _ (lent (goal.at.add-requires-clause-all_within c).In-loop-column) (add-sub_cancel_left (i * 9) 9) (omega (arith, c.requires.sums_len)) c.requires.all_within

pub add-requires-clause-all_within_2 : goal.add-requires-clause-all_within_2
add-requires-clause-all_within_2 c =
    let s = c.args.from.stage in
    let g = s.winds.grid.shape in
    subst (AllWithin tendency_size) (sym (c.tendencies-t.ensures ∙ ap (λ e. table 9 (tendency quadratic g (wind_at s.winds.wind.now) (as_stage s.phi.now) e)) c.element.ensures.place))
    (tendencies-small g s.winds.wind.now s.phi.now s.winds.grid.admitted s.winds.in_range s.small _ (element-inside g c.args.index c.loop-column-test.true c.requires.inside))

pub loop-column-preserved : goal.loop-column-preserved
loop-column-preserved c =
    let a = c.args in
    let i = c.loop-column.column in
    let w = a.from.stage in
    let g = w.winds.grid.shape in
    let f = tendency quadratic g (wind_at w.winds.wind.now) (as_stage w.phi.now) in
    let sub = add-sub_cancel_left (i * 9) 9 in
    let t = c.tendencies-t.ensures ∙ ap (λ e. table 9 (f e)) c.element.ensures.place in
    let term = λ (k : ℕ) (l : k < 9). ap (λ x. at x k) t ∙ get_d-table 9 (f (a.index * g.nx + i)) k (pos 0) l in
    let s = λ (k : ℕ) (l : k < 9). lent-at c.loop-column.sums a.sums.now i (i * 9 + 9 - i * 9) (lent (goal.at.loop-column-preserved c).In-loop-column) sub k l in
    let times = to_z w64 (of_z w64 a.times) in
    blocks-next (λ k. length-table 9 _) c.loop-column.invariant (omega arith) refl sub
    (c.add.ensures ∙ table-cong 9 _ _ (λ k l. λ j. s k l j +ℤ times *ℤ term k l j))

use mathlib.Core.Path.{◌≡◌, refl, sym, ap, subst, ◌∙◌}
use mathlib.Core.List.{[]}
use Prim.Native.Nat.{ℕ, ◌*◌, ◌<◌}
use lib.IntN.{pos}
use native.Mathlib.Nat.{add-sub_cancel_left}
use native.Mathlib.Omega.{arith}
use lib.ListN.{length, take, get_or}
use Rattle.whole.specs.Bound.{AllWithin}
use Rattle.whole.specs.Table.{table, at}
use Rattle.whole.proofs.TableLaws.{get_d-table, length-table, table-cong, blocks-table}
use Rattle.rules.specs.Field.{quadratic, elements}
use Rattle.rules.specs.Stages.{stage0}
use Rattle.rules.specs.Sizes.{sum_size}
use Rattle.step_upwind.specs.Upwind.{as_stage}
use Rattle.step_upwind.proofs.ListedLaws.{chunk-of, element-within}
use Rattle.step_stages.specs.Passes.{from_stage, new_value}
use Rattle.whole.proofs.FillLaws.{blocks-none, blocks-next, blocks-whole}
use Rattle.step_stages.proofs.Laws.{all-lent, stored-lent}
use Rattle.step_stages.proofs.set_values.Goals as goal
use Rattle.step_stages.proofs.set_values.Goals.{After-as_chunks, In-loop-index}

lent : (c : After-as_chunks) → length (take c.elements-n.result c.as_chunks.result.0.now) ≡ c.elements-n.result
lent c = all-lent c.args.grid.shape c.args.part.now c.as_chunks.result.0.now c.elements-n.result c.as_chunks.ensures.front_len c.elements-n.ensures c.requires.part_len

pub slice_bounds-numbers-items-end : goal.slice_bounds-numbers-items-end
slice_bounds-numbers-items-end c = sym (lent (goal.at.slice_bounds-numbers-items-end c).After-as_chunks)

pub loop-index-init : goal.loop-index-init
loop-index-init c = blocks-none (omega (arith, c.requires.values_len))

inside : (c : In-loop-index) → c.loop-index.index < elements c.args.grid.shape
inside c = omega (arith, c.loop-index-test.true, lent (goal.at-In-loop-index c).After-as_chunks, c.elements-n.ensures)

-- the sums of a turn
sums-at : (c : In-loop-index) → get_or c.as_chunks-2.result.0.now c.loop-index.index [] ≡ table 9 (as_stage c.args.sums.now c.loop-index.index)
sums-at c = chunk-of c.args.sums.now c.loop-index.index c.as_chunks-2.ensures.front (omega (arith, c.requires.sums_len, inside c))

pub set-requires-clause-sums_small : goal.set-requires-clause-sums_small
set-requires-clause-sums_small c = let x = (goal.at.set-requires-clause-sums_small c).In-loop-index in
    subst (AllWithin sum_size) (sym (sums-at x)) (element-within c.args.sums.now c.loop-index.index c.requires.sums_small)

pub loop-index-preserved : goal.loop-index-preserved
loop-index-preserved c =
    let a = c.args in
    let e = c.loop-index.index in
    let x = goal.at.loop-index-preserved c in
    let l : e < c.elements-n.result = omega (arith, inside x.In-loop-index, c.elements-n.ensures) in
    let v = stored-lent a.grid.shape a.part.now _ c.elements-n.result c.as_chunks.ensures.front_len c.elements-n.ensures c.requires.part_len e l c.as_chunks.ensures.front in
    let s = λ (k : ℕ) (lk : k < 9). ap (λ y. at y k) (sums-at x.In-loop-index) ∙ get_d-table 9 (as_stage a.sums.now e) k (pos 0) lk in
    blocks-next (λ k. length-table 9 _) c.loop-index.invariant (inside x.In-loop-index) refl (add-sub_cancel_left (e * 9) 9)
    (c.set.ensures ∙ table-cong 9 _ _ (λ k lk. λ i. new_value (from_stage a.pass) (v k lk i) (s k lk i)))

pub returns : goal.returns
returns c =
    let a = c.args in
    let l = lent (goal.at.returns c).After-as_chunks in
    blocks-whole c.loop-index.invariant (omega (arith, l, c.elements-n.ensures)) c.requires.values_len ∙ blocks-table 9 (λ e k. new_value (from_stage a.pass) (stage0 quadratic a.part.now e k) (as_stage a.sums.now e k)) (omega arith) (elements a.grid.shape)

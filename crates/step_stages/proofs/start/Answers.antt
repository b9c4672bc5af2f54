use mathlib.Core.Path.{◌≡◌, refl, sym, ◌∙◌}
use Prim.Native.Nat.{◌*◌, ◌<◌}
use native.Mathlib.Nat.{add-sub_cancel_left}
use native.Mathlib.Omega.{arith}
use lib.ListN.{length, take}
use Rattle.whole.proofs.TableLaws.{length-table, table-cong, blocks-table}
use Rattle.rules.specs.Field.{quadratic, elements}
use Rattle.rules.specs.Stages.{stage0}
use Rattle.whole.proofs.FillLaws.{blocks-none, blocks-next, blocks-whole}
use Rattle.step_stages.proofs.Laws.{all-lent, stored-lent}
use Rattle.step_stages.proofs.start.Goals as goal
use Rattle.step_stages.proofs.start.Goals.{After-as_chunks}

-- what is lent of the part is every element
lent : (c : After-as_chunks) → length (take c.elements-n.result c.as_chunks.result.0.now) ≡ c.elements-n.result
lent c = all-lent c.args.grid.shape c.args.part.now c.as_chunks.result.0.now c.elements-n.result c.as_chunks.ensures.front_len c.elements-n.ensures c.requires.part_len

pub slice_bounds-numbers-items-end : goal.slice_bounds-numbers-items-end
slice_bounds-numbers-items-end c = sym (lent (goal.at.slice_bounds-numbers-items-end c).After-as_chunks)

pub loop-index-init : goal.loop-index-init
loop-index-init c = blocks-none (omega (arith, c.requires.stage_len))

pub loop-index-preserved : goal.loop-index-preserved
loop-index-preserved c =
    let e = c.loop-index.index in
    let x = (goal.at.loop-index-preserved c).After-as_chunks in
    let l : e < c.elements-n.result = omega (arith, c.loop-index-test.true, lent x) in
    let s = stored-lent c.args.grid.shape c.args.part.now _ c.elements-n.result c.as_chunks.ensures.front_len c.elements-n.ensures c.requires.part_len e l c.as_chunks.ensures.front in
    blocks-next (λ k. length-table 9 _) c.loop-index.invariant (omega (arith, c.elements-n.ensures)) refl (add-sub_cancel_left (e * 9) 9) (c.store.ensures ∙ table-cong 9 _ _ s)

pub returns : goal.returns
returns c =
    let g = c.args.grid.shape in
    let l = lent (goal.at.returns c).After-as_chunks in
    blocks-whole c.loop-index.invariant (omega (arith, l, c.elements-n.ensures)) c.requires.stage_len ∙ blocks-table 9 (stage0 quadratic c.args.part.now) (omega arith) (elements g)

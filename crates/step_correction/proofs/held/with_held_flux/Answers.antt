-- An element's values and what its four sides add, as they are read: so that each node's value is the rules' (`held-by-sides`).
use mathlib.Core.Path.{◌≡◌, sym, subst, ◌∙◌}
use mathlib.Core.List.{[], ◌∷◌}
use native.Mathlib.Omega.{arith}
use lib.IntN.{pos, neg_ℤ}
use lib.ListN.{get_or}
use Rattle.std.proofs.Common.{rules}
use Rattle.std.proofs.iter.Serving.{serving}
use Rattle.whole.specs.Bound.{AllWithin}
use Rattle.whole.specs.Table.{table}
use Rattle.whole.proofs.FromFn.{table-from_fn}
use Rattle.rules.specs.Sizes.{rise_size, tentative_size, closing_size}
use Rattle.step_upwind.specs.Upwind.{as_stage}
use Rattle.step_upwind.proofs.ListedLaws.{chunk-of}
use Rattle.step_correction.proofs.Laws.{side-read}
use Rattle.step_correction.proofs.HeldLaws.{line-small, values-within, node_values, node_values-within, node_values-are}
use Rattle.step_correction.proofs.held.with_held_flux.Goals as goal
use Rattle.step_correction.proofs.held.with_held_flux.Goals.{After-line_rises-across, After-as_chunks, After-from_fn}

-- the element's nine values
values-are : (c : After-as_chunks) → get_or c.as_chunks.result.0.now c.args.element.index [] ≡ table 9 (as_stage c.args.psi.now c.args.element.index)
values-are c = chunk-of c.args.psi.now c.args.element.index c.as_chunks.ensures.front (omega (arith, c.requires.psi_len, c.args.element.inside))

-- they are small, and what is added along and across the element is
values-small : (c : After-as_chunks) → AllWithin tentative_size (get_or c.as_chunks.result.0.now c.args.element.index [])
values-small c = subst (AllWithin tentative_size) (sym (values-are c)) (values-within c.args.psi.now c.args.element.index c.requires.all_within)

along-small : (c : After-line_rises-across) → AllWithin rise_size c.line_rises-along.result
along-small c = line-small c.args.rises.now _ _ c.requires.all_within_2 c.line_rises-along.ensures

across-small : (c : After-line_rises-across) → AllWithin rise_size c.line_rises-across.result
across-small c = line-small c.args.rises.now _ _ c.requires.all_within_2 c.line_rises-across.ensures

pub from_fn-requires : goal.from_fn-requires
from_fn-requires c =
    let v = values-small (goal.at.from_fn-requires c).After-as_chunks in
    let a = along-small (goal.at.from_fn-requires c).After-line_rises-across in
    let b = across-small (goal.at.from_fn-requires c).After-line_rises-across in
    grind serving

-- the nine values that are made
made : (c : After-from_fn) → c.from_fn.result ≡ table 9 (node_values (get_or c.as_chunks.result.0.now c.args.element.index []) c.line_rises-along.result c.line_rises-across.result)
made c = table-from_fn _ (node_values (get_or c.as_chunks.result.0.now c.args.element.index []) c.line_rises-along.result c.line_rises-across.result) (λ k y q l h. search rules) c.from_fn.ensures.items

pub returns-clause-values : goal.returns-clause-values
returns-clause-values c =
    let x = c.args.element in
    let read = side-read c.args.rises.now x.grid.shape x.index c.requires.all_within_2 tt c.sides.ensures.faces in
    made (goal.at.returns-clause-values c).After-from_fn
    ∙ node_values-are x.grid.shape x.grid.admitted c.args.psi.now c.args.rises.now x.index x.inside (values-are (goal.at.returns-clause-values c).After-as_chunks)
    (c.line_rises-along.ensures ∙ (λ i. neg_ℤ (read 0 i) ∷ pos 0 ∷ read 1 i ∷ []))
    (c.line_rises-across.ensures ∙ (λ i. neg_ℤ (read 2 i) ∷ pos 0 ∷ read 3 i ∷ []))

pub returns-clause-bound : goal.returns-clause-bound
returns-clause-bound c =
    let v = values-small (goal.at.returns-clause-bound c).After-as_chunks in
    let a = along-small (goal.at.returns-clause-bound c).After-line_rises-across in
    let b = across-small (goal.at.returns-clause-bound c).After-line_rises-across in
    subst (AllWithin closing_size) (sym (made (goal.at.returns-clause-bound c).After-from_fn)) (node_values-within _ _ _ v a b)

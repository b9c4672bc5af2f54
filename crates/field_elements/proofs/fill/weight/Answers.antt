use Rattle.std.proofs.Common.{rules, of_calls, tests, ◌∙◌, take, arith, List, ℕ}
use Rattle.std.specs.Iterator.Adapters.{map_source}
use Rattle.std.proofs.iter.Yields.{fronts}
use Rattle.std.proofs.lemmas.Iterator.{YieldsList, YieldsList-from_slice}
use Rattle.std.proofs.lemmas.Iterator.Consumers.{YieldsList-at}
use Rattle.std.proofs.lemmas.Iterator.Adapters.{serves_from_places}
use Rattle.whole.proofs.ChainSums.{mapped-sum, mapped-fits}
use Rattle.field_elements.proofs.LoadLaws.{chunk-weight, weighed-chunks, weighed-small, wide-chunk}
use Rattle.field_elements.proofs.fill.weight.Given.{Over}
use Rattle.field_elements.proofs.fill.weight.Goals as goal
use Rattle.field_elements.proofs.fill.weight.Goals.{After-map}

-- the first n chunks
items : (g : Over) (c : After-map g) → YieldsList {A = _} {B = List ℕ} fronts (λ y. y.now) (map_source c.map.result) (take c.args.n c.as_chunks.result.0.now)
items g c = YieldsList-at c.map.ensures.source (YieldsList-from_slice (take c.args.n c.as_chunks.result.0.now) c.iter.ensures.rest)

pub sum-requires-clause-can : goal.sum-requires-clause-can
sum-requires-clause-can g c = (search of_calls, serves_from_places (items g c) (λ x q k. search rules) (λ x k l e. (omega (arith, c.requires.width_le_10), omega (arith, wide-chunk g.row.WIDTH c.args.numbers.now _ c.args.n c.as_chunks.ensures.front c.as_chunks.ensures.front_len c.requires.n_in_bounds c.requires.width_above k x.now l e, c.requires.width_le_10))))

pub sum-requires-clause-fits : goal.sum-requires-clause-fits
sum-requires-clause-fits g c =
    let h = c.requires in
    mapped-fits _ chunk-weight (items g c) c.map.ensures.closure (λ x r q k. search (rules, tests))
    (omega (arith, weighed-chunks g.row.WIDTH c.args.numbers.now _ c.args.n c.as_chunks.ensures.front c.as_chunks.ensures.front_len h.n_in_bounds h.width_above, weighed-small g.row.WIDTH c.args.numbers.now _ c.args.n c.as_chunks.ensures.front c.as_chunks.ensures.front_len h.n_in_bounds h.width_above h.width_le_10 h.n_le_most_elements c.type_inv.numbers))

pub returns : goal.returns
returns g c =
    mapped-sum _ chunk-weight (items g (goal.at.returns g c).After-map) c.map.ensures.closure (λ x r q k. search (rules, tests)) c.sum.ensures.ran
    ∙ weighed-chunks g.row.WIDTH c.args.numbers.now _ c.args.n c.as_chunks.ensures.front c.as_chunks.ensures.front_len c.requires.n_in_bounds c.requires.width_above

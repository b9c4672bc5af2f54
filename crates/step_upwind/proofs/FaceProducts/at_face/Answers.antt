use Rattle.std.proofs.Common.{rules, ◌≡◌, sym, subst}
use Rattle.whole.specs.Bound.{AllWithin}
use Rattle.whole.specs.Table.{table}
use Rattle.whole.proofs.FromFn.{table-from_fn}
use Rattle.rules.specs.Calls.{wind_at}
use Rattle.step_tendency.specs.Sizes.{product_size}
use Rattle.step_upwind.specs.Upwind.{as_stage, face_product}
use Rattle.step_upwind.proofs.TendencyLaws.{products-small}
use Rattle.step_upwind.proofs.FaceProducts.at_face.Goals as goal
use Rattle.step_upwind.proofs.FaceProducts.at_face.Goals.{After-from_fn}

value_is : (c : After-from_fn) → let s = c.args.self.stage in c.from_fn.result ≡ table 3 (face_product s.winds.grid.shape (wind_at s.winds.wind.now) (as_stage s.phi.now) c.args.face)
value_is c = let s = c.args.self.stage in
    table-from_fn _ (face_product s.winds.grid.shape (wind_at s.winds.wind.now) (as_stage s.phi.now) c.args.face) (λ k y q l h. search rules) c.from_fn.ensures.items

pub returns-clause-value : goal.returns-clause-value
returns-clause-value c = value_is (goal.at.returns-clause-value c).After-from_fn

pub returns-clause-small : goal.returns-clause-small
returns-clause-small c =
    let s = c.args.self.stage in
    subst (AllWithin product_size) (sym (value_is (goal.at.returns-clause-small c).After-from_fn))
    (products-small s.winds.grid.shape (wind_at s.winds.wind.now) s.phi.now c.args.face (s.winds.in_range.small c.args.face c.requires) s.small)

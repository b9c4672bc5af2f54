use Rattle.std.proofs.Common.{◌≡◌, sym, ap, subst, ◌∙◌, arith, length, ◌+◌, ◌*◌}
use mir.Syntax.{w64}
use Rattle.whole.specs.Bound.{Within}
use Rattle.whole.specs.Table.{at}
use Rattle.whole.proofs.Sizes.{back_is}
use Rattle.rules.specs.Calls.{wind_at}
use Rattle.step_tendency.specs.Sizes.{product_size}
use Rattle.step_upwind.specs.Upwind.{as_stage, face_product}
use Rattle.step_upwind.proofs.TendencyLaws.{product-at, product-small, length-products}
use Rattle.step_upwind.proofs.FaceProducts.product.Goals as goal
use Rattle.step_upwind.proofs.FaceProducts.product.Goals.{Start}

pub bounds-self-face : goal.bounds-self-face
bounds-self-face c = let a = c.args.self in let w = a.stage.winds in
    omega (arith, ap length a.of_stage, length-products w.grid.shape (wind_at w.wind.now) a.stage.phi.now, c.requires.face, c.requires.place)

-- the number that is read
read : (c : Start) → let a = c.args in let w = a.self.stage.winds in
    at a.self.products.now (a.face * 3 + a.r) ≡ face_product w.grid.shape (wind_at w.wind.now) (as_stage a.self.stage.phi.now) a.face a.r
read c = let a = c.args in let w = a.self.stage.winds in
    ap (λ l. at l (a.face * 3 + a.r)) a.self.of_stage ∙ product-at w.grid.shape (wind_at w.wind.now) a.self.stage.phi.now a.face c.requires.face a.r c.requires.place

pub returns : goal.returns
returns c =
    let a = c.args in
    let s = a.self.stage in
    let is = read (goal.at.returns c).Start in
    let small = product-small s.winds.grid.shape (wind_at s.winds.wind.now) s.phi.now a.face (s.winds.in_range.small a.face c.requires.face) s.small a.r in
    back_is w64 _ (subst (Within product_size) (sym is) small) tt ∙ is

use Rattle.std.proofs.Common.{sym, subst, ◌∙◌, ap, ℕ, List, get_or}
use Rattle.whole.specs.Bound.{AllWithin}
use Rattle.whole.specs.Table.{table, at}
use Rattle.rules.specs.Calls.{wind_at}
use Rattle.rules.specs.Sizes.{stage_size}
use Rattle.step_grid.specs.Place.{side_faces}
use Rattle.step_tendency.specs.Line.{element_tendency}
use Rattle.step_upwind.specs.Upwind.{as_stage, face_product}
use Rattle.step_upwind.proofs.ListedLaws.{element-within}
use Rattle.step_upwind.proofs.TendencyLaws.{gathered}
use Rattle.step_upwind.proofs.FaceProducts.tendencies.Goals as goal

pub tendencies-requires : goal.tendencies-requires
tendencies-requires c = let a = c.args in subst (AllWithin stage_size) (sym c.values_of.ensures) (element-within a.self.stage.phi.now a.element.index a.self.stage.small)

pub returns : goal.returns
returns c =
    let a = c.args in
    let s = a.self.stage in
    let g = s.winds.grid.shape in
    let w = wind_at s.winds.wind.now in
    let l = s.phi.now in
    let faces = c.sides.ensures.faces ∙ ap (λ g. side_faces g a.element.index) c.requires in
    let p = λ (n : ℕ). ap (λ (x : List ℕ). table 3 (face_product g w (as_stage l) (get_or x n 0))) faces in
    let d = λ (n : ℕ). ap (λ (x : List ℕ). w (get_or x n 0)) faces in
    let p0 = c.side.ensures.products ∙ p 0 in
    let p1 = c.side-2.ensures.products ∙ p 1 in
    let p2 = c.side-3.ensures.products ∙ p 2 in
    let p3 = c.side-4.ensures.products ∙ p 3 in
    let d0 = c.side.ensures.wind ∙ d 0 in
    let d1 = c.side-2.ensures.wind ∙ d 1 in
    let d2 = c.side-3.ensures.wind ∙ d 2 in
    let d3 = c.side-4.ensures.wind ∙ d 3 in
    c.tendencies.ensures ∙ (λ i. table 9 (element_tendency (at (c.values_of.ensures i)) (at (p0 i)) (at (p1 i)) (at (p2 i)) (at (p3 i)) (d0 i) (d1 i) (d2 i) (d3 i))) ∙ gathered g w l a.element.index

use Rattle.std.proofs.Common.{rules, sym, ap, ◌∙◌, cond, ◌+◌, ◌*◌, ◌*ℤ◌}
use mir.Syntax.{w64}
use Rattle.whole.specs.Table.{table, at}
use Rattle.whole.proofs.FromFn.{table-from_fn}
use Rattle.whole.proofs.Sizes.{read_back}
use Rattle.whole.proofs.TableLaws.{table-cong}
use Rattle.rules.specs.Calls.{wind_at}
use Rattle.rules.specs.Grid.{looks_east, behind, ahead}
use Rattle.step_upwind.specs.Upwind.{upwind_start}
use Rattle.step_upwind.proofs.TendencyLaws.{stands}
use Rattle.step_upwind.proofs.Stage.products.Goals as goal

pub returns : goal.returns
returns c =
    let a = c.args in
    let l = a.self.phi.now in
    let f = a.face.index in
    let w = wind_at a.self.winds.wind.now in
    let wind = read_back w64 c.at_face-c.ensures tt in
    let line = c.upwind_line-line.ensures in
    let g = c.requires in
    let start = line.start ∙ (λ i. upwind_start (wind i) (behind (g i) f) (ahead (g i) f) (cond (looks_east (g i) f) 2 6)) in
    let stride = line.stride ∙ ap (λ g. cond (looks_east g f) 3 1) g in
    table-from_fn _ (λ r. c.at_face-c.result *ℤ at l (c.upwind_line-line.result.start + c.upwind_line-line.result.stride * r)) (λ k y q l h. search rules) c.from_fn.ensures.items
    ∙ (λ i. table 3 (λ r. c.at_face-c.ensures.same i *ℤ at l (start i + stride i * r)))
    ∙ table-cong 3 _ _ (λ r _. ap (λ x. w f *ℤ x) (sym (stands a.self.winds.grid.shape w l f r)))

-- One page: the map is lent the buffer, and is accepted.
use mathlib.Core.Path.{sym, ap, ◌∙◌}
use Rattle.rules.specs.Answers.{answered}
use Rattle.output_maps.proofs.PagesLaws.{never-refused, page-in-front}
use Rattle.output_maps.proofs.FieldPages.page.Goals as goal

pub returns : goal.returns
returns c =
    let p = c.args.self.now in
    page-in-front p.grid.shape p.grid.admitted p.field.now p.sound c.args.tracer c.requires.tracer_lt_tracers c.args.out.now c.requires.shape_in_bounds _ _ (sym (ap answered c.in-Ok.is) ∙ c.map.ensures.0) c.map.ensures.1

pub unreachable-requires : goal.unreachable-requires
unreachable-requires c =
    let p = c.args.self.now in
    never-refused p.grid.shape p.grid.admitted p.field.now p.sound c.args.tracer c.requires.tracer_lt_tracers c.args.out.now c.requires.shape_in_bounds _ (sym (ap answered c.in-Err.is) ∙ c.map.ensures.0)

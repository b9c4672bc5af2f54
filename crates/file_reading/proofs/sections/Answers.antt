-- The part of the file before its table, cut where the tracers' sections begin.
use Rattle.std.proofs.Common.{◌≡◌, sym, ◌∙◌, length, take, arith}
use lib.Seq.{length-take-le}
use Rattle.rules.specs.Field.{quadratic}
use Rattle.file_layout.proofs.FileLaws.{Places, places}
use Rattle.file_reading.proofs.ReadLaws.{room, winds-are, tracers-are}
use Rattle.file_reading.proofs.sections.Goals as goal
use Rattle.file_reading.proofs.sections.Goals.{After-table_start-table}

here : (c : After-table_start-table) → Places quadratic c.args.layout.mark c.args.layout.grid.shape c.section_start-tracers.result c.table_start-table.result
here c = places quadratic c.args.layout.mark c.args.layout.grid.shape _ _ c.section_start-tracers.ensures c.table_start-table.ensures

before : (c : After-table_start-table) → c.table_start-table.result ≡ length (take c.table_start-table.result c.args.file.now)
before c = sym (length-take-le c.table_start-table.result c.args.file.now (room c.args.layout.mark c.args.layout.grid.shape c.args.file.now c.requires _ _ c.section_start-tracers.ensures c.table_start-table.ensures))

pub slice_bounds-split_at-end : goal.slice_bounds-split_at-end
slice_bounds-split_at-end c = before (goal.at.slice_bounds-split_at-end c).After-table_start-table

pub split_at-requires : goal.split_at-requires
split_at-requires c = let p = goal.at.split_at-requires c in omega (arith, before p.After-table_start-table, (here p.After-table_start-table).sections)

pub returns-clause-winds_length : goal.returns-clause-winds_length
returns-clause-winds_length c = let p = here (goal.at.returns-clause-winds_length c).After-table_start-table in c.split_at.ensures.front_len ∙ p.winds

pub returns-clause-winds : goal.returns-clause-winds
returns-clause-winds c = winds-are c.args.layout.mark c.args.layout.grid.shape c.args.file.now c.requires _ _ c.section_start-tracers.ensures c.table_start-table.ensures _ c.split_at.ensures.front

pub returns-clause-tracers_length : goal.returns-clause-tracers_length
returns-clause-tracers_length c = let p = (goal.at.returns-clause-tracers_length c).After-table_start-table in omega (arith, c.split_at.ensures.back_len, before p, (here p).sections)

pub returns-clause-tracers : goal.returns-clause-tracers
returns-clause-tracers c = tracers-are c.args.layout.mark c.args.layout.grid.shape c.args.file.now c.requires _ _ c.section_start-tracers.ensures c.table_start-table.ensures _ c.split_at.ensures.back

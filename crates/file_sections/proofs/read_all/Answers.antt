use Rattle.std.proofs.Common.{arith}
use Rattle.whole.proofs.FillLaws.{filled_none, filled_next}
use Rattle.file_sections.proofs.SectionLaws.{read-next}
use Rattle.file_sections.proofs.read_all.Goals as goal

pub loop-i-init : goal.loop-i-init
loop-i-init g c = filled_none (omega arith)

pub loop-i-preserved : goal.loop-i-preserved
loop-i-preserved g c = filled_next c.loop-i.invariant (omega arith) (read-next g.met.T.Stored.laws c.args.section.now c.loop-i.i _ _ c.SIZE.ensures c.read.ensures)

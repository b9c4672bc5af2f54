use Rattle.std.proofs.Common.{sym, ◌∙◌}
use Rattle.file_reading.proofs.TailLaws.{mark-plum, mark-plu2}
use Rattle.file_reading.proofs.tail.read_mark.Goals as goal

pub returns-then-ends_with : goal.returns-then-ends_with
returns-then-ends_with c = mark-plum c.args.file.now (sym c.ends_with.ensures ∙ c.if-ends_with.true)

pub returns-else-ends_with : goal.returns-else-ends_with
returns-else-ends_with c = mark-plu2 c.args.file.now (sym c.ends_with.ensures ∙ c.if-ends_with.false)

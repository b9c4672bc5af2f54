use Rattle.std.proofs.Common.{◌∙◌}
use Rattle.file_reading.proofs.TailLaws.{mark-tested}
use Rattle.file_reading.proofs.tail.ends_with.Goals as goal

pub returns : goal.returns
returns c = c.is_mark.ensures ∙ mark-tested c.args.file.now c.args.mark

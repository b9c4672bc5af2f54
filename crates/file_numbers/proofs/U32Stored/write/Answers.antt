use Rattle.std.proofs.Common.{◌∙◌}
use Rattle.file_numbers.proofs.ByteLaws.{to-32}
use Rattle.file_numbers.proofs.U32Stored.write.Goals as goal

pub returns : goal.returns
returns c = to-32 c.args.to.now _ c.args.self (c.copy_from_slice.ensures.after ∙ c.to_le_bytes.ensures)

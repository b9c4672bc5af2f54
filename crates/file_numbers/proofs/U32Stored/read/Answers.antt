use Rattle.std.proofs.Common.{◌∙◌}
use Rattle.file_numbers.proofs.ByteLaws.{from-32}
use Rattle.file_numbers.proofs.U32Stored.read.Goals as goal

pub returns : goal.returns
returns c =
    let k = rw c.unwrap.ensures at c.first_chunk.ensures.cases in
    c.from_le_bytes.ensures ∙ from-32 c.args.from.now _ 0 k.same

use Rattle.std.proofs.Common.{◌∙◌, w16}
use mir.Facts.{to_z-of_z}
use Rattle.file_numbers.proofs.ByteLaws.{from-16}
use Rattle.file_numbers.proofs.I16Stored.read.Goals as goal

pub returns : goal.returns
returns c =
    let k = rw c.unwrap.ensures at c.first_chunk.ensures.cases in
    to_z-of_z {w = w16} (record { sfits = c.from_le_bytes.type_inv }) ∙ c.from_le_bytes.ensures ∙ from-16 c.args.from.now _ 0 k.same

use Rattle.std.proofs.Common.{◌∙◌, ap, take}
use Rattle.std.proofs.lemmas.List.{take_rest}
use Rattle.file_numbers.proofs.ByteLaws.{from-64}
use Rattle.file_numbers.proofs.number64.Goals as goal

pub returns : goal.returns
returns c =
    let k = rw c.unwrap.ensures at c.first_chunk.ensures.cases in
    c.from_le_bytes.ensures ∙ from-64 c.args.bytes.now _ c.args.at (k.same ∙ ap (take 8) (take_rest c.args.bytes.now c.args.at))

use Rattle.std.proofs.Common.{◌∙◌, ap, w16, of_z}
use Rattle.std.specs.Int.{to_le_bytes}
use mir.Facts.{to_z-of_z}
use Rattle.file_numbers.proofs.ByteLaws.{to-16}
use Rattle.file_numbers.proofs.I16Stored.write.Goals as goal

pub returns : goal.returns
returns c =
    to-16 c.args.to.now _ c.args.self (c.copy_from_slice.ensures.after ∙ c.to_le_bytes.ensures ∙ ap (λ z. to_le_bytes w16 (of_z w16 z)) (to_z-of_z c.ranges.self))

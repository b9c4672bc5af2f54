use Rattle.std.proofs.Common.{◌*◌, arith}
use lib.ListN.{length-drop}
use Rattle.std.proofs.lemmas.List.{take_rest}
use Rattle.file_numbers.proofs.PlaceLaws.{read-at}
use Rattle.file_numbers.specs.Laws.{laws32}
use Rattle.file_sections.proofs.search.number.Goals as goal

pub read-requires : goal.read-requires
read-requires c = rw (take_rest c.args.section.now (4 * c.args.k), length-drop (4 * c.args.k) c.args.section.now) (omega (arith, c.requires))

pub returns : goal.returns
returns c = read-at laws32 c.args.section.now (4 * c.args.k) _ c.read.ensures

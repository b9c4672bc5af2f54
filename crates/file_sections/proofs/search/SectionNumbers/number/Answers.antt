use Rattle.std.proofs.Common.{◌∙◌, ◌/◌, ◌<◌, length, arith}
use Rattle.file_sections.proofs.SectionLaws.{length-numbers, number_at}
use Rattle.file_sections.proofs.search.SectionNumbers.number.Goals as goal
use Rattle.file_sections.proofs.search.SectionNumbers.number.Goals.{Start}

-- the number is one of the section's
inside : (c : Start) → c.args.k < length c.args.self.now.bytes.now / 4
inside c = let l = c.args.self.now.bytes.now in omega (arith, length-numbers l (length l / 4), c.requires)

pub number-requires : goal.number-requires
number-requires c = omega (arith, inside (goal.at.number-requires c).Start)

pub returns : goal.returns
returns c = let l = c.args.self.now.bytes.now in c.number.ensures ∙ number_at l (length l / 4) c.args.k (inside (goal.at.returns c).Start)

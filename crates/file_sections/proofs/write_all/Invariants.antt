use Rattle.std.proofs.Common.{length, get_or}
use Rattle.whole.proofs.FillLaws.{BlocksFilled}
use Rattle.file_sections.proofs.write_all.Given as goal

abbrev pub invariant-loop-i : goal.invariant-loop-i
invariant-loop-i g l = let m = g.T.Stored in (d : _) → BlocksFilled m.SIZE (λ k. m.bytes (get_or l.numbers k d)) l.initial.section (length l.numbers) l.i l.section

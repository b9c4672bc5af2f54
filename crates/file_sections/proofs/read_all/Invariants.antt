use Rattle.std.proofs.Common.{◌*◌, length}
use Rattle.whole.proofs.FillLaws.{Filled}
use Rattle.file_sections.proofs.read_all.Given as goal

abbrev pub invariant-loop-i : goal.invariant-loop-i
invariant-loop-i g l = let m = g.T.Stored in Filled (λ k. m.number l.section (m.SIZE * k)) l.initial.out (length l.initial.out) l.i l.out

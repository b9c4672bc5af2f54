use mathlib.Core.Path.{◌∙◌}
use Rattle.program_file.proofs.PrintedLaws.{long-refused, short-read}
use Rattle.program_file.proofs.read.Goals as goal

pub returns-then-file-gt65536 : goal.returns-then-file-gt65536
returns-then-file-gt65536 c = let a = c.args in long-refused a.file.now a.field.now a.wind.now c.if-file-gt65536.true

pub returns : goal.returns
returns c =
    let a = c.args in
    let s = short-read a.file.now a.field.now a.wind.now c.if-file-gt65536.false in
    (c.read.ensures.0 ∙ s.0, (c.read.ensures.1.0 ∙ s.1.0, c.read.ensures.1.1 ∙ s.1.1))

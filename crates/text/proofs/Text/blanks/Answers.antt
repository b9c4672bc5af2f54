use mathlib.Core.Path.{ap, ◌∙◌}
use native.Mathlib.Omega.{arith}
use lib.ListN.{replicate, length-take, length-drop, length-replicate}
use Rattle.text.proofs.AddsLaws.{written}
use Rattle.text.proofs.Text.blanks.Goals as goal

pub returns : goal.returns
returns c =
    written (c.fill.ensures.after (λ y e. e) ∙ ap (λ k. replicate k 32) (rw (length-take, length-drop) (omega (arith, c.requires)))) (length-replicate c.args.n 32) (omega arith) c.requires

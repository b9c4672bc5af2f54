use mathlib.Core.Path.{sym, ap, ◌∙◌}
use lib.IntN.{pos}
use lib.Signed.{le_z}
use mir.Facts.{to_z-of_z}
use Rattle.step_upwind.proofs.Laws.{sign-is, sign_of, sign_small}
use Rattle.step_upwind.proofs.sign.Goals as goal

pub returns-then-c-ge0 : goal.returns-then-c-ge0
returns-then-c-ge0 c = let z = c.args.c in record { same = sign_of z (sym (sign-is z) ∙ ap (le_z (pos 0)) (sym (to_z-of_z c.ranges.c)) ∙ c.if-c-ge0.true); bound = sign_small z }

pub returns-else-c-ge0 : goal.returns-else-c-ge0
returns-else-c-ge0 c = let z = c.args.c in record { same = sign_of z (sym (sign-is z) ∙ ap (le_z (pos 0)) (sym (to_z-of_z c.ranges.c)) ∙ c.if-c-ge0.false); bound = sign_small z }

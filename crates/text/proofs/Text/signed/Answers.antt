use mathlib.Core.Path.{◌≡◌, ap, ◌∙◌}
use native.Mathlib.Omega.{arith}
use lib.IntN.{nat_abs}
use mir.Facts.{to_z-of_z}
use Rattle.rules.specs.Text.{decimal_by}
use Rattle.text.proofs.AddsLaws.{wider, then}
use Rattle.text.proofs.DecimalLaws.{signed_below, signed_above}
use Rattle.text.proofs.Text.signed.Goals as goal
use Rattle.text.proofs.Text.signed.Goals.{After-from, then-z-lt0, else-z-lt0}

-- the number without its sign
size : (c : After-from) → decimal_by 19 c.from.result ≡ decimal_by 19 (nat_abs c.args.z)
size c = ap (decimal_by 19) (c.from.ensures ∙ c.unsigned_abs.ensures.value ∙ ap nat_abs (to_z-of_z c.ranges.z))

pub returns : goal.returns
returns c =
    let z = c.args.z in
    let f = to_z-of_z c.ranges.z in
    let p = rw (size (goal.at.returns c).After-from) at c.number.ensures in
    elim c.if-z-lt0.branch [
      | then-z-lt0 w ↦ rw (← signed_below z (rw f at w.if-z-lt0.true)) (then w.put.ensures (rw w.self-is at p))
      | else-z-lt0 w ↦ rw (← signed_above z (rw f at w.if-z-lt0.false)) (wider (rw w.self-is at p) 21 (omega arith))
    ]

-- A number right-aligned: the blanks that are missing to the width, then its digits.
use mathlib.Core.Path.{◌≡◌, ap, ◌∙◌}
use Prim.Native.Nat.{◌-◌}
use native.Mathlib.Omega.{arith}
use lib.ListN.{length, take}
use Rattle.rules.specs.Text.{decimal_by}
use Rattle.rules.proofs.TextLaws.{aligned-length}
use Rattle.text.proofs.AddsLaws.{room, aligned-added}
use Rattle.text.proofs.DecimalLaws.{decimal-is}
use Rattle.text.proofs.Text.right_aligned.Goals as goal
use Rattle.text.proofs.Text.right_aligned.Goals.{After-decimal-k}

-- what `io::decimal` wrote, and how many digits there are
digits : (c : After-decimal-k) → take c.decimal-k.result c.decimal-k.new.out ≡ decimal_by 19 c.args.n
digits c = c.decimal-k.ensures.digits ∙ decimal-is c.decimal-k.result c.args.n c.ranges.n.fits c.decimal-k.ensures.len

long : (c : After-decimal-k) → c.decimal-k.result ≡ length (decimal_by 19 c.args.n)
long c = c.decimal-k.ensures.in_bounds.1 ∙ ap length (digits c)

pub blanks-requires : goal.blanks-requires
blanks-requires c = omega (arith, c.requires, c.saturating_sub.ensures, long (goal.at.blanks-requires c).After-decimal-k, aligned-length c.args.width (decimal_by 19 c.args.n))

pub put-requires : goal.put-requires
put-requires c =
    let d = (goal.at.put-requires c).After-decimal-k in
    rw (digits d) (room c.blanks.ensures _ (omega (arith, c.requires, c.saturating_sub.ensures, long d, aligned-length c.args.width (decimal_by 19 c.args.n))))

pub returns : goal.returns
returns c =
    let d = (goal.at.returns c).After-decimal-k in
    aligned-added c.args.width c.saturating_sub.result (decimal_by 19 c.args.n) (c.saturating_sub.ensures ∙ ap (λ k. c.args.width - k) (long d)) c.blanks.ensures (rw (digits d) at c.put.ensures)

-- A number as it stands is one right-aligned in no width.
use Prim.Native.Nat.{◌≤◌}
use native.Mathlib.Omega.{arith}
use lib.ListN.{length}
use Rattle.rules.specs.Text.{decimal_by}
use Rattle.rules.proofs.TextLaws.{decimal-length}
use Rattle.text.proofs.AddsLaws.{wider, unaligned}
use Rattle.text.proofs.Text.number.Goals as goal
use Rattle.text.proofs.Text.number.Goals.{Start}

-- a number of 64 bits has at most 20 digits
few : (c : Start) → length (decimal_by 19 c.args.n) ≤ 20
few c = decimal-length 19 19 c.args.n (omega (arith, c.ranges.n.fits))

pub right_aligned-requires : goal.right_aligned-requires
right_aligned-requires c = rw (unaligned (decimal_by 19 c.args.n)) (omega (arith, c.requires, few (goal.at.right_aligned-requires c).Start))

pub returns : goal.returns
returns c = wider (rw (unaligned (decimal_by 19 c.args.n)) at c.right_aligned.ensures) 20 (few (goal.at.returns c).Start)

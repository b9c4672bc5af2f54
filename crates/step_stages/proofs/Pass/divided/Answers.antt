use mathlib.Core.Path.{◌≡◌, sym, ap, ◌∙◌}
use Prim.Native.Nat.{◌+◌}
use native.Mathlib.Omega.{arith}
use lib.IntN.{ℤ}
use mir.Syntax.{w64}
use mir.Val.{to_z, of_z}
use mir.Facts.{to_z-of_z}
use Rattle.whole.specs.Bound.{Within, floor_div}
use Rattle.whole.proofs.BoundLaws.{within-le, within-floor-any}
use Rattle.whole.proofs.Sizes.{sizes, exacts, within, are-eq, bounded, back_is}
use Rattle.rules.specs.Sizes.{sum_size}
use Rattle.step_stages.specs.declared.Pass.{Pass}
use Rattle.step_stages.specs.Passes.{from_stage, divisor}
use Rattle.step_stages.proofs.Laws.{floor-one}
use Rattle.step_stages.proofs.Pass.divided.Goals as goal

-- the divisor of a pass that is known
by_pass : {p q : Pass} (z : ℤ) → p ≡ q → floor_div z (divisor (from_stage p)) ≡ floor_div z (divisor (from_stage q))
by_pass z e = ap (λ p. floor_div z (divisor (from_stage p))) e

pub returns-in-First : goal.returns-in-First
returns-in-First c = let h = c.requires in bounded (search exacts depth 20) tt tt (sym (floor-one c.args.sum) ∙ sym (by_pass c.args.sum c.in-First.is))

pub returns-in-Second : goal.returns-in-Second
returns-in-Second c = let h = c.requires in bounded (search exacts depth 20) tt tt (sym (by_pass c.args.sum c.in-Second.is))

pub floor_div-requires : goal.floor_div-requires
floor_div-requires c = let h = c.requires in record { within = within (search sizes depth 20) tt; pos_bound = record { le = tt }; within_2 = within (search sizes depth 20) tt }

pub returns-in-Third : goal.returns-in-Third
returns-in-Third c =
    let z = c.args.sum in
    let small : Within (sum_size + 1) (floor_div z 6) = within-le (within-floor-any z 6 sum_size c.requires) (omega arith) in
    let e : c.floor_div.result ≡ floor_div z 6 = c.floor_div.ensures ∙ ap (λ x. floor_div x 6) (to_z-of_z c.ranges.sum) in
    are-eq (record { same = ap (λ x. to_z w64 (of_z w64 x)) e ∙ back_is w64 (floor_div z 6) small tt; bound = small }) (sym (by_pass z c.in-Third.is))

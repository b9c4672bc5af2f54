use mathlib.Core.Path.{◌≡◌, refl, sym, ap, ◌∙◌}
use mathlib.Core.List.{[], ◌∷◌, ◌++◌}
use Prim.Native.Nat.{◌-◌, ◌≤◌, ◌<◌}
use native.Mathlib.Omega.{arith}
use lib.ListN.{length, take}
use lib.Seq.{length-take-le}
use Rattle.whole.proofs.FillLaws.{filled_none, filled_next, filled-whole}
use Rattle.whole.proofs.TableLaws.{fill-last}
use Rattle.rules.specs.Field.{quadratic, weighted}
use Rattle.limiter.specs.Values.{value_of}
use Rattle.limiter.proofs.Laws.{table-self, value-le-sum}
use Rattle.limiter.proofs.put.Goals as goal
use Rattle.limiter.proofs.put.Goals.{Start}

-- the nine numbers that are filled
nine : (c : Start) → length (take 9 c.args.part.now) ≡ 9
nine c = length-take-le 9 c.args.part.now (omega (arith, c.requires.part_len))

pub loop-k-init : goal.loop-k-init
loop-k-init c = filled_none (omega (arith, nine (goal.at.loop-k-init c).Start))

pub overflow_cast-number : goal.overflow_cast-number
overflow_cast-number c =
    let k : c.loop-k.k < 9 = omega (arith, c.loop-k-test.true, nine (goal.at.overflow_cast-number c).Start) in
    record { fits = omega (arith, c.requires, value-le-sum c.args.values.now c.loop-k.k k refl) }

pub loop-k-preserved : goal.loop-k-preserved
loop-k-preserved c = filled_next c.loop-k.invariant (omega (arith, c.loop-k-test.true, nine (goal.at.loop-k-preserved c).Start)) refl

pub returns : goal.returns
returns c =
    let v = value_of c.args.values.now in
    let x = c.args.target - weighted quadratic v in
    let n = nine (goal.at.returns c).Start in
    let end : 9 ≤ c.loop-k.k = omega (arith, c.loop-k-test.false, n) in
    rw (filled-whole c.loop-k.invariant end n, c.weigh.ensures) (fill-last 9 v c.args.part.now x c.requires.part_len ∙ ap (λ l. l ++ (x ∷ [])) (sym (table-self c.told-values)))

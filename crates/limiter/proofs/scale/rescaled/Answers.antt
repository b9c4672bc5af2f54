use mathlib.Core.Path.{ap, sym, ◌∙◌}
use Prim.Native.Nat.{◌/◌}
use native.Mathlib.Omega.{arith}
use Rattle.std.proofs.Common.{rules}
use Rattle.std.proofs.iter.Serving.{serving}
use Rattle.std.proofs.lemmas.Nat.{shl_whole}
use Rattle.whole.proofs.FromFn.{table-from_fn}
use Rattle.whole.proofs.TableLaws.{table-cong}
use Rattle.rules.proofs.RescalingLaws.{rescaled-kept}
use Rattle.rules.specs.Limiter.{rescaled}
use Rattle.rules.specs.Sizes.{levelled_size}
use Rattle.limiter.specs.Values.{value_of}
use Rattle.limiter.proofs.Laws.{value-le-sum, weighted-le, table-self}
use Rattle.limiter.proofs.scale.rescaled.Goals as goal

pub returns-then-sum-target : goal.returns-then-sum-target
returns-then-sum-target c =
    let v = value_of c.args.values.now in
    table-self c.told-values ∙ table-cong 9 v (λ k. rescaled c.args.sum c.args.target (v k)) (λ k h. sym (rescaled-kept _ _ _ c.if-sum-target.true))

pub invariant_of-scale : goal.invariant_of-scale
invariant_of-scale c = record {
  target_lt_sum = c.if-sum-target.false;
  target_le_target_size = c.requires.target_bound;
  sum_le = rw c.requires.sum_is (weighted-le (value_of c.args.values.now) levelled_size (λ k _. c.requires.upper_bound.all k));
  ratio_is = ap (λ t. t / c.args.sum) (shl_whole c.args.target 29 35 64 (omega (arith, c.requires.target_bound)) (omega arith));
}

pub from_fn-requires : goal.from_fn-requires
from_fn-requires c =
    let s = c.requires.sum_is in
    grind (serving, value-le-sum)

pub returns : goal.returns
returns c = let v = value_of c.args.values.now in table-from_fn _ (λ k. rescaled c.args.sum c.args.target (v k)) (λ k y q l h. search rules) c.from_fn.ensures.items

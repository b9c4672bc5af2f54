use mathlib.Core.Path.{◌≡◌, ◌∙◌}
use Prim.Native.Nat.{◌+◌, ◌*◌}
use native.Mathlib.Omega.{arith}
use lib.Dec.{T}
use lib.IntN.{ℤ, ◌+ℤ◌, ◌*ℤ◌}
use mir.Syntax.{w64}
use mir.Val.{to_z, of_z}
use Rattle.whole.specs.Bound.{Within}
use Rattle.whole.specs.Table.{at}
use Rattle.whole.proofs.Sizes.{Exact, sizes, exacts, within, back_is, exact}
use Rattle.step_tendency.specs.Sizes.{product_size}
use Rattle.step_tendency.specs.Line.{place_sums, line_tendency}
use Rattle.step_tendency.proofs.Lines.line.Goals as goal

pub place_sums-requires-clause-first_end_small : goal.place_sums-requires-clause-first_end_small
place_sums-requires-clause-first_end_small c = let h = c.args.self.first.small in within (search sizes depth 20) tt

pub place_sums-requires-clause-last_end_small : goal.place_sums-requires-clause-last_end_small
place_sums-requires-clause-last_end_small c = let h = c.args.self.last.small in within (search sizes depth 20) tt

-- a product, as it is given on
given : {r z z' : ℤ} → r ≡ z → Within product_size r → (p : Exact z z') → T p.good → to_z w64 (of_z w64 r) ≡ z'
given e h p t = back_is w64 _ h tt ∙ e ∙ exact p t

pub returns-clause-value : goal.returns-clause-value
unfolding line_tendency
returns-clause-value c =
    let self = c.args.self in
    let hv = self.values_small in
    let cw = self.first.wind in
    let ce = self.last.wind in
    let hf = self.first.in_range in
    let hl = self.last.in_range in
    let v = self.v.now in
    let start = self.way.step * c.args.b in
    let stride = self.way.stride in
    let e0 : start ≡ start + stride * 0 = omega arith in
    let e1 : start + stride ≡ start + stride * 1 = omega arith in
    let e2 : start + 2 * stride ≡ start + stride * 2 = omega arith in
    let first : to_z w64 (of_z w64 c.product-first.result) ≡ cw *ℤ at v start = given c.product-first.ensures.value c.product-first.ensures.small (search exacts depth 20) tt in
    let middle : to_z w64 (of_z w64 c.product-middle.result) ≡ (cw +ℤ ce) *ℤ at v (start + stride) = given c.product-middle.ensures.value c.product-middle.ensures.small (search exacts depth 20) tt in
    let last : to_z w64 (of_z w64 c.product-last.result) ≡ ce *ℤ at v (start + 2 * stride) = given c.product-last.ensures.value c.product-last.ensures.small (search exacts depth 20) tt in
    let pw = at self.first.products c.args.b in
    let pe = at self.last.products c.args.b in
    let first_end : to_z w64 (of_z w64 pw) ≡ pw = back_is w64 _ (self.first.small.all c.args.b) tt in
    let last_end : to_z w64 (of_z w64 pe) ≡ pe = back_is w64 _ (self.last.small.all c.args.b) tt in
    c.place_sums.ensures.value ∙ (λ i. place_sums (first i) (middle i) (last i) (first_end i) (last_end i))
    ∙ (λ i. place_sums (cw *ℤ at v (e0 i)) ((cw +ℤ ce) *ℤ at v (e1 i)) (ce *ℤ at v (e2 i)) pw pe)

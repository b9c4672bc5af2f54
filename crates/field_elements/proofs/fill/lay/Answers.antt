use mathlib.Core.Path.{◌≡◌, refl, ap, ◌∙◌}
use Prim.Native.Nat.{◌*◌}
use native.Mathlib.Omega.{arith}
use native.Mathlib.Nat.{add-sub_cancel_left}
use Rattle.rules.specs.Field.{quadratic}
use Rattle.rules.specs.Calls.{loaded_element}
use Rattle.whole.proofs.FillLaws.{blocks-none, blocks-next}
use Rattle.field_elements.proofs.LoadLaws.{loaded-part, loaded-length, lent-chunk}
use Rattle.field_elements.proofs.fill.lay.Goals as goal

pub loop-e-init : goal.loop-e-init
loop-e-init c = blocks-none (omega (arith, c.requires.part_len))

pub loop-e-preserved : goal.loop-e-preserved
loop-e-preserved c =
    let l = c.loop-e in
    let n = c.args.numbers.now in
    let k = lent-chunk 9 n _ c.args.n c.as_chunks.ensures.front c.as_chunks.ensures.front_len c.requires.n_in_bounds (omega arith) l.e c.loop-e-test.true in
    let x : c.lay_element.new.part ≡ loaded_element quadratic n l.e = c.lay_element.ensures ∙ ap (λ y. loaded_element quadratic y 0) k.1 ∙ loaded-part n l.e 9 refl in
    blocks-next (loaded-length n) l.invariant k.0 refl (add-sub_cancel_left (l.e * 10) 10) x

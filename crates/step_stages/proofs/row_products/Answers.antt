use Rattle.std.proofs.Common.{refl, ap, ◌∙◌, arith, ◌*◌}
use native.Mathlib.Nat.{add-sub_cancel_left}
use Rattle.whole.specs.Table.{table}
use Rattle.whole.proofs.FillLaws.{blocks-none, blocks-next}
use Rattle.whole.proofs.TableLaws.{length-table}
use Rattle.rules.specs.Calls.{wind_at}
use Rattle.step_upwind.specs.Upwind.{as_stage, face_product}
use Rattle.step_stages.proofs.row_products.Goals as goal

pub loop-column-init : goal.loop-column-init
loop-column-init c = blocks-none (omega (arith, c.requires.products_len))

pub loop-column-preserved : goal.loop-column-preserved
loop-column-preserved c =
    let s = c.args.stage in
    let p = face_product s.winds.grid.shape (wind_at s.winds.wind.now) (as_stage s.phi.now) in
    blocks-next (λ k. length-table 3 _) c.loop-column.invariant (omega arith) refl (add-sub_cancel_left (c.loop-column.column * 3) 3)
    (c.copy_from_slice.ensures.after ∙ c.products.ensures ∙ ap (λ f. table 3 (p f)) c.face.ensures.place)

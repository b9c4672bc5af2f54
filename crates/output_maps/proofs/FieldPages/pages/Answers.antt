use mathlib.Core.Path.{refl}
use native.Mathlib.Omega.{arith}
use Rattle.rules.specs.Map.{page_length}
use Rattle.text.proofs.AddedLaws.{behind, blocks-none, block_more}
use Rattle.output_maps.proofs.FieldPages.pages.Goals as goal

pub loop-s-init : goal.loop-s-init
loop-s-init c =
    (omega arith, blocks-none (page_length c.args.self.now.grid.shape) _ 0 c.args.out.now (omega arith))

pub loop-s-preserved : goal.loop-s-preserved
loop-s-preserved c =
    let p = c.loop-s.invariant.1 in
    (omega arith, block_more (page_length c.args.self.now.grid.shape) _ p (behind refl (omega (arith, p.ends, p.fits, c.loop-s.auto.out)) c.page-end.ensures))

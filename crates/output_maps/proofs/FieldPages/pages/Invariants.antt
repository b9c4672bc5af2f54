-- All pages: after s turns those of the first s tracers.
use Prim.Native.Nat.{◌≤◌, ◌*◌}
use Rattle.whole.specs.Table.{blocks}
use Rattle.rules.specs.Field.{quadratic, part}
use Rattle.rules.specs.Map.{page_text, page_length}
use Rattle.text.specs.Added.{Added}
use Rattle.output_maps.proofs.FieldPages.pages.Given as goal

abbrev pub invariant-loop-s : goal.invariant-loop-s
invariant-loop-s l = (l.s ≤ l.s-end) × Added (l.s * page_length l.self.grid.shape) 0 (blocks l.s (λ k. page_text quadratic l.self.grid.shape (part quadratic l.self.grid.shape k l.self.field.now))) l.initial.out l.out l.end

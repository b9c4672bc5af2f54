use mathlib.Core.Path.{sym, ap, ◌∙◌}
use Prim.Native.Nat.{◌*◌}
use Rattle.field_layout.proofs.PlaceLaws.{elements-are}
use Rattle.field_layout.proofs.grid.Grid.elements_length.Goals as goal

pub returns : goal.returns
returns c = ap (λ n. n * 10) c.elements.ensures ∙ sym (elements-are c.args.self.shape)

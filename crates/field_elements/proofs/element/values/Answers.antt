use Rattle.std.proofs.Common.{rules}
use lib.IntN.{pos}
use lib.ListN.{get_or}
use Rattle.whole.proofs.FromFn.{table-from_fn}
use Rattle.field_elements.proofs.element.values.Goals as goal

pub returns : goal.returns
returns c = table-from_fn _ (λ k. pos (get_or c.args.part.now k 0)) (λ k y q l h. search rules) c.from_fn.ensures.items

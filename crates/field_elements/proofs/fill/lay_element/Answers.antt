use mathlib.Core.Path.{◌≡◌, sym, ap, ◌∙◌}
use mathlib.Core.List.{◌++◌, [], ◌∷◌}
use Prim.Native.Nat.{◌*◌, ◌+◌}
use native.Mathlib.Omega.{arith}
use native.Mathlib.Nat.{zero-add}
use Rattle.std.proofs.Common.{rules}
use lib.ListN.{length, get_or, take}
use lib.Seq.{take-length}
use Rattle.whole.specs.Table.{table}
use Rattle.whole.proofs.TableLaws.{table-cong, table-take, fill-last}
use Rattle.rules.specs.Calls.{loaded_value, loaded_element}
use Rattle.rules.specs.Field.{quadratic}
use Rattle.field_elements.proofs.fill.lay_element.Goals as goal

pub returns : goal.returns
unfolding loaded_element loaded_value quadratic
returns c =
    let n = c.args.numbers.now in
    let nine : length n ≡ 9 = search rules in
    let own : n ≡ table 9 (λ i. get_or n i 0) = sym (table-take 9 n 0 (omega (arith, nine)) ∙ ap (λ k. take k n) (sym nine) ∙ take-length n) in
    rw (c.copy_from_slice.ensures.after ∙ own) (fill-last 9 (λ i. get_or n i 0) c.args.part.now 0 c.requires)
    ∙ ap (λ t. t ++ (0 ∷ [])) (table-cong 9 (λ i. get_or n i 0) (λ i. get_or n (0 * 9 + i) 0) (λ i _. ap (λ m. get_or n m 0) (sym (zero-add i))))

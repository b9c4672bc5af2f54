use Rattle.std.proofs.Common.{◌∙◌, ap, sym, eqb, get_or}
use Rattle.whole.specs.Sum.{all}
use Rattle.rules.specs.FieldFile.{mark_bytes}
use Rattle.file_layout.proofs.MarkLaws.{marked}
use Rattle.file_layout.proofs.is_mark.Goals as goal

pub returns-in-Plum : goal.returns-in-Plum
returns-in-Plum c = let p = c.args.bytes.now in c.starts_with.ensures.value ∙ marked 80 76 85 77 p c.requires ∙ sym (ap (λ m. all 4 (λ i. eqb (get_or p i 0) (get_or (mark_bytes m) i 0))) c.in-Plum.is)

pub returns-in-Plu2 : goal.returns-in-Plu2
returns-in-Plu2 c = let p = c.args.bytes.now in c.starts_with-in-Plu2.ensures.value ∙ marked 80 76 85 50 p c.requires ∙ sym (ap (λ m. all 4 (λ i. eqb (get_or p i 0) (get_or (mark_bytes m) i 0))) c.in-Plu2.is)

use Rattle.std.proofs.Common.{refl, rules, arith}
use Rattle.field_search.proofs.RunLaws.{chunks-all}
use Rattle.file_sections.proofs.SectionLaws.{wind-at}
use Rattle.file_sections.proofs.winds_sound.Goals as goal

pub returns : goal.returns
returns c =
    chunks-all _ _ 2 _ c.args.section.now _ (λ x b k h e q. wind-at c.args.section.now _ b k e (search rules)) c.chunks_exact.result c.all.result (omega arith) refl (λ p e. grind (arith, c.chunks_exact.ensures)) (λ a r q k. search rules) c.all.ensures.runs

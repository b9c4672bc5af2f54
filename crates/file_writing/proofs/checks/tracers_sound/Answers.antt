-- The field, cut where each tracer's part begins.
use Rattle.std.proofs.Common.{◌<◌, take, rules, arith}
use Rattle.rules.specs.Field.{quadratic, sound, part}
use Rattle.rules.specs.FieldFile.{field_sound}
use Rattle.field_search.proofs.RunLaws.{chunks-all}
use Rattle.field_search.proofs.SearchLaws.{is-sound}
use Rattle.field_layout.proofs.PlaceLaws.{part-is}
use Rattle.file_writing.proofs.WritingLaws.{parts-many, part-tested}
use Rattle.file_writing.proofs.checks.tracers_sound.Goals as goal
use Rattle.file_writing.proofs.checks.tracers_sound.Goals.{After-part_length}

-- a part has numbers
above : (c : After-part_length) → 0 < c.part_length.result
above c = omega (arith, c.part_length.ensures, part-is c.args.grid.shape)

pub chunks_exact-requires : goal.chunks_exact-requires
chunks_exact-requires c = above (goal.at.chunks_exact-requires c).After-part_length

pub all-requires-clause-can : goal.all-requires-clause-can
all-requires-clause-can c = omega (arith, above (goal.at.all-requires-clause-can c).After-part_length, c.chunks_exact.ensures.size)

pub returns : goal.returns
unfolding field_sound
returns c =
    let g = c.args.grid.shape in
    let f = c.args.field.now in
    let n = c.field_length in
    let m = c.part_length in
    let h = above (goal.at.returns c).After-part_length in
    chunks-all _ _ m.result g.tracers (take n.result f) (λ k. sound quadratic g (part quadratic g k f)) (λ x b k l q t. part-tested g f n.result m.result k x.now b n.ensures m.ensures l q (search (rules, is-sound)))
    c.chunks_exact.result c.all.result h (parts-many g f n.result m.result n.ensures m.ensures h c.requires) (λ p q. grind (arith, c.chunks_exact.ensures)) (λ a r q k. search rules) c.all.ensures.runs

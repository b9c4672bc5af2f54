use Rattle.std.proofs.Common.{◌∙◌, take, pos, rules, arith}
use Rattle.rules.specs.Field.{wind_in_range}
use Rattle.rules.specs.Calls.{wind_sound}
use Rattle.field_search.proofs.RunLaws.{items-all, all-of-taken}
use Rattle.field_search.proofs.winds_sound.Goals as goal

pub returns : goal.returns
unfolding wind_sound
returns c =
    let wind = c.args.wind.now in
    items-all _ _ (take c.faces.result wind) wind_in_range (pos 0) (λ x b q. search rules) c.iter.result c.all.result (λ q e. grind (arith, c.iter.ensures)) (λ a r q k. search rules) c.all.ensures.runs
    ∙ all-of-taken wind_in_range c.faces.result _ wind (pos 0) c.faces.ensures c.requires

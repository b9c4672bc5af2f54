-- The whole text is the lines, or the refusal alone.
use Rattle.std.proofs.Common.{rules}
use mathlib.Core.Path.{◌∙◌}
use Rattle.text.proofs.AddedLaws.{front-added}
use Rattle.text.proofs.AddsLaws.{given_back}
use Rattle.output.proofs.TextLaws.{lines_at, refusal_at}
use Rattle.output.proofs.Buffers.fill.Goals as goal

pub returns-in-Ok-clause-out_after : goal.returns-in-Ok-clause-out_after
returns-in-Ok-clause-out_after c =
    let n = c.new-text.ensures in
    let t = lines_at _ _ c.in-Ok.is c.lines.ensures in
    front-added (given_back t n.bytes n.empty (search (rules, t.same_buffer, n.same_buffer)) c.len.ensures)

pub returns-in-Err-clause-out_after : goal.returns-in-Err-clause-out_after
returns-in-Err-clause-out_after c = front-added c.refusal.ensures ∙ refusal_at _ _ c.in-Err.is c.lines.ensures

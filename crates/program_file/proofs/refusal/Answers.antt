use Rattle.std.proofs.Common.{rules}
use mathlib.Core.Path.{ap}
use Rattle.rules.specs.Program.{refused_line}
use Rattle.text.proofs.AddsLaws.{same_bytes, given_back}
use Rattle.program_file.proofs.refusal.Goals as goal

pub returns : goal.returns
returns c =
    let line = same_bytes (ap refused_line c.into.ensures) c.refused_line.ensures in
    given_back line c.new-text.ensures.bytes c.new-text.ensures.empty (search (rules, line.same_buffer, c.new-text.ensures.same_buffer)) c.len.ensures

use mathlib.Core.Path.{◌∙◌}
use Prim.Native.Nat.{◌≤◌}
use native.Mathlib.Omega.{arith}
use lib.ListN.{length}
use lib.Seq.{length-take-le}
use Rattle.rules.specs.Program.{field_lent, printed_for, output}
use Rattle.rules.specs.Field.{element_length, quadratic}
use Rattle.program_file.proofs.PrintedLaws.{text-given}
use Rattle.output.proofs.TextLaws.{copied}
use Rattle.output.proofs.print.Goals as goal

pub returns : goal.returns
unfolding output printed_for field_lent element_length quadratic
returns c =
    let n = c.fill-n.result in
    let room : n ≤ length c.args.out.now = omega (arith, c.fill-n.ensures.upper_bound, c.requires) in
    let it = text-given (copied n _ c.copy_from_slice.new.self c.args.out.now (c.copy_from_slice.ensures.after ∙ c.fill-n.ensures.out_after) (c.copy_from_slice.ensures.len ∙ length-take-le n c.args.out.now room) room) in
    record { value = it.0; prefix_len = it.1.0; out_after = it.1.1 }

use Rattle.std.proofs.Common.{ap, ◌*◌, arith}
use Rattle.std.proofs.lemmas.List.{get_or_read}
use native.Mathlib.Nat.{mul_comm}
use Rattle.whole.proofs.FillLaws.{blocks-none, blocks-over, blocks-all}
use Rattle.file_numbers.proofs.PlaceLaws.{write-at}
use Rattle.file_sections.proofs.write_all.Goals as goal

pub loop-i-init : goal.loop-i-init
loop-i-init g c d = blocks-none (omega (arith, mul_comm))

pub loop-i-preserved : goal.loop-i-preserved
loop-i-preserved g c d =
    let m = g.met.T.Stored in
    rw (write-at _ _ _ _ c.write.ensures) (blocks-over (λ k. m.laws.width _) (c.loop-i.invariant d) (omega arith) (ap (λ n. c.loop-i.i * n) c.SIZE.ensures) (ap g.T.Stored.bytes (get_or_read c.args.numbers.now c.loop-i.i _ c.loop-i-test.true c.index-numbers-i.is d)))

pub returns : goal.returns
returns g c d = blocks-all (c.loop-i.invariant d) (omega arith) (λ k. g.met.T.Stored.laws.width _)

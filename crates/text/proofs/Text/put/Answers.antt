use mathlib.Core.Path.{refl}
use native.Mathlib.Omega.{arith}
use Rattle.text.proofs.AddsLaws.{written}
use Rattle.text.proofs.Text.put.Goals as goal

pub returns : goal.returns
returns c = written c.copy_from_slice.ensures.after refl (omega arith) c.requires

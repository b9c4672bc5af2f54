use mathlib.Core.Path.{sym, subst}
use Rattle.c_numbers.specs.Numbers.{AdmittedShape}
use Rattle.plume_c.proofs.Laws.{read-answers}
use Rattle.plume_c.proofs.plume_read.Goals as goal

pub shape_or-requires : goal.shape_or-requires
shape_or-requires c = subst AdmittedShape (sym c.read.ensures.0) (read-answers _ _ _)

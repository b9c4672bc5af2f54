-- The numbers that the calls answer are small.
use mathlib.Core.Path.{sym, subst}
use mathlib.Core.List.{List}
use Prim.Native.Nat.{ℕ}
use native.Mathlib.Omega.{arith}
use lib.IntN.{ℤ}
use Rattle.rules.specs.declared.Shape.{Shape}
use Rattle.rules.specs.declared.Mark.TheVariants.{Plu2}
use Rattle.rules.specs.Field.{quadratic}
use Rattle.rules.specs.Calls.{emission, withdrawal, call, clipped_mass, mass_reading, total_reading}
use Rattle.rules.specs.FieldFile.{read_reply, write_reply}
use Rattle.rules.specs.Map.{map_reading}
use Rattle.rules.specs.Answers.{AtMost}
use Rattle.rules.proofs.AnswerLaws.{answer-at-most}
use Rattle.rules.proofs.ClippedLaws.{emission-answers, withdrawal-answers}
use Rattle.rules.proofs.MapLaws.{map-small}
use Rattle.rules.proofs.ShapeLaws.{ranges}
use Rattle.field.proofs.CheckLaws.{found, mass-small}
use Rattle.file_layout.proofs.LayoutLaws.{length-le}
use Rattle.file_layout.proofs.ReplyLaws.{read-shown, write-shown}
use Rattle.c_numbers.specs.Numbers.{most_answered, AdmittedShape}

-- ---- readings are small
pub total-answers : (g : Shape) (s : ℕ) (f : List ℕ) → AtMost most_answered (total_reading quadratic g s f)
total-answers g s f = record { small = λ n e. omega (arith, (found g s f n e).small) }

pub mass-answers : (g : Shape) (s i j : ℕ) (f : List ℕ) → AtMost most_answered (mass_reading quadratic g s i j f)
mass-answers g s i j f = record { small = λ n e. omega (arith, mass-small g s i j f n e) }

pub map-answers : (g : Shape) (s : ℕ) (f page : List ℕ) → AtMost most_answered (map_reading quadratic g s f page)
map-answers g s f page = record { small = λ n e. omega (arith, map-small quadratic g s f page n e) }

-- ---- an emission's and a withdrawal's clipped mass, which is 0
pub emission-small : (g : Shape) (s i j q : ℕ) (f : List ℕ) → AtMost most_answered (clipped_mass (call quadratic g s (emission i j q) f).reply)
emission-small g s i j q f = subst (AtMost most_answered) (sym (emission-answers quadratic g s f i j q)) (answer-at-most _ 0 _ (omega arith))

pub withdrawal-small : (g : Shape) (s i j q : ℕ) (f : List ℕ) → AtMost most_answered (clipped_mass (call quadratic g s (withdrawal i j q) f).reply)
withdrawal-small g s i j q f = subst (AtMost most_answered) (sym (withdrawal-answers quadratic g s f i j q)) (answer-at-most _ 0 _ (omega arith))

-- ---- the answers of the field file are small
pub read-answers : (file field : List ℕ) (wind : List ℤ) → AdmittedShape (read_reply quadratic file field wind)
read-answers file field wind = record { small = λ g e. ranges g (read-shown quadratic g file field wind e).ranges }

pub write-answers : (g : Shape) (field : List ℕ) (wind : List ℤ) (file : List ℕ) → AtMost most_answered (write_reply quadratic g field wind file)
write-answers g field wind file = record { small = λ n e. let w = write-shown quadratic g field wind file n e in omega (arith, w.1, length-le g Plu2 (ranges g w.0.ranges)) }

-- What a program prints for a file, by the file's length and the answer of its reading; for any text that a program makes.
use mathlib.Core.Path.{◌≡◌, refl, sym, ap, ◌∙◌}
use mathlib.Core.Bool.{Bool, true, false, cond}
use mathlib.Core.List.{List}
use Prim.Native.Nat.{ℕ, ◌≤◌, ◌<◌}
use native.Mathlib.Nat.{zero-add}
use native.Mathlib.Omega.{arith}
use borrow.Author.Tests.{lt-ltb, le-ltb}
use lib.Dec.{ltb}
use lib.IntN.{ℤ}
use lib.ListN.{length}
use lib.Seq.{length-take-le}
use Rattle.rules.specs.declared.Shape.{Shape}
use Rattle.rules.specs.Answers.{Answer, accepted, refused, after}
use Rattle.rules.specs.Field.{quadratic}
use Rattle.rules.specs.FieldFile.{read_reply, read_field, read_wind}
use Rattle.rules.specs.Program.{refused_line, next, file_reply, text_of, printed}
use Rattle.rules.proofs.AnswerLaws.{after-accepted}
use Rattle.io.specs.Counts.{IsPrefixLen}
use Rattle.whole.specs.Table.{overwrite}
use Rattle.text.specs.Added.{Added}
use Rattle.text.proofs.AddedLaws.{end-within}
use Rattle.program_file.specs.FileTaken.{taken_field, taken_wind}

-- a buffer that a call leaves is left by the same call's answer
after-twice : {A B : Type 0} (a : Answer A) (new old : B) → after a new old ≡ after a (after a new old) old
unfolding after
after-twice (accepted x) new old = refl
after-twice (refused n) new old = refl

module _ (file field : List ℕ) (wind : List ℤ) where
  -- "Over 65,536 bytes"
  pub long-refused : 65536 < length file → (refused 3 ≡ file_reply file field wind) × ((field ≡ taken_field file field wind) × (wind ≡ taken_wind file field wind))
  unfolding file_reply taken_field taken_wind after
  long-refused h = rw (lt-ltb 65536 (length file) h) (refl, (refl, refl))

  -- else the reading's answer, and what it leaves
  pub short-read : length file ≤ 65536 → (read_reply quadratic file field wind ≡ file_reply file field wind) × ((read_field quadratic file field wind ≡ taken_field file field wind) × (read_wind quadratic file field wind ≡ taken_wind file field wind))
  unfolding file_reply taken_field taken_wind read_field read_wind
  short-read h = rw (le-ltb 65536 (length file) h) (refl, (after-twice (read_reply quadratic file field wind) _ field, after-twice (read_reply quadratic file field wind) _ wind))

  -- a file that is accepted was read
  module _ (g : Shape) (e : file_reply file field wind ≡ accepted g) where
    pub file-read : read_reply quadratic file field wind ≡ accepted g
    unfolding file_reply
    file-read = go (ltb 65536 (length file)) e
      where
        go : (b : Bool) → cond b (refused 3) (read_reply quadratic file field wind) ≡ accepted g → read_reply quadratic file field wind ≡ accepted g
        go true q = let z : ◌≡◌ {A = ℕ} 0 1 = cc in absurd (omega arith)
        go false q = q

    pub field-taken : taken_field file field wind ≡ read_field quadratic file field wind
    unfolding taken_field
    field-taken = after-accepted (file_reply file field wind) g _ field e

    pub wind-taken : taken_wind file field wind ≡ read_wind quadratic file field wind
    unfolding taken_wind
    wind-taken = after-accepted (file_reply file field wind) g _ wind e

  -- the text of a refused file, and of one that was read
  module _ (made : Shape → List ℕ → List ℤ → Answer (List ℕ)) where
    abbrev goes_on : Shape → Answer (List ℕ)
    goes_on g = made g (read_field quadratic file field wind) (read_wind quadratic file field wind)

    pub refused-printed : (n : ℕ) → file_reply file field wind ≡ refused n → refused_line n ≡ printed made file field wind
    unfolding printed text_of
    refused-printed n e = sym (ap (λ a. text_of (next a goes_on)) e)

    pub text-printed : (g : Shape) (field' : List ℕ) (wind' : List ℤ) → file_reply file field wind ≡ accepted g → field' ≡ taken_field file field wind → wind' ≡ taken_wind file field wind
        → text_of (made g field' wind') ≡ printed made file field wind
    unfolding printed
    text-printed g field' wind' e f w = (λ i. text_of (made g ((f ∙ field-taken g e) i) ((w ∙ wind-taken g e) i))) ∙ sym (ap (λ a. text_of (next a goes_on)) e)

-- a text at the front of the buffer, as the programs' contracts say it
pub text-given : {n end : ℕ} {text old new : List ℕ} → Added n 0 text old new end → (end ≡ length text) × (IsPrefixLen end new × (new ≡ overwrite 0 text old))
text-given a = let few = end-within a in (a.ends ∙ zero-add _, ((few, sym (length-take-le _ _ few)), a.same))

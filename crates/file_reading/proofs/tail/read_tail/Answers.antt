-- The tail: each test on the last 12 bytes is a check of the definition, and its first three bytes are the shape.
use mathlib.Core.Path.{◌≡◌, sym, ◌∙◌}
use mathlib.Core.Bool.{true}
use Rattle.rules.specs.FieldFile.{tail_shape}
use Rattle.file_reading.proofs.TailLaws.{marked, tail-short, tail-unmarked, tail-fourth, tail-bad-shape, tail-found}
use Rattle.file_reading.proofs.tail.read_tail.Goals as goal
use Rattle.file_reading.proofs.tail.read_tail.Goals.{Else-not-marked}

pub returns-then-n-lt12 : goal.returns-then-n-lt12
returns-then-n-lt12 c = tail-short c.args.file.now c.if-n-lt12.true

pub returns-then-not-marked : goal.returns-then-not-marked
returns-then-not-marked c = tail-unmarked c.args.file.now c.if-n-lt12.false (sym c.marked.ensures ∙ c.if-not-marked.true)

-- the mark was found
found : (c : Else-not-marked) → marked c.args.file.now ≡ true
found c = sym c.marked.ensures ∙ c.if-not-marked.false

pub returns-then-file-n-ne0 : goal.returns-then-file-n-ne0
returns-then-file-n-ne0 c =
    tail-fourth c.args.file.now c.if-n-lt12.false (found (goal.at.returns-then-file-n-ne0 c).Else-not-marked) c.if-file-n-ne0.true

pub returns-then-not-admitted : goal.returns-then-not-admitted
unfolding tail_shape
returns-then-not-admitted c =
    tail-bad-shape c.args.file.now c.if-n-lt12.false (found (goal.at.returns-then-not-admitted c).Else-not-marked) c.if-file-n-ne0.false
    (rw (c.from.ensures, c.from-2.ensures, c.from-3.ensures) at (sym c.admitted.ensures ∙ c.if-not-admitted.true))

pub returns : goal.returns
unfolding tail_shape
returns c =
    rw (c.from.ensures, c.from-2.ensures, c.from-3.ensures)
    (tail-found c.args.file.now c.if-n-lt12.false (found (goal.at.returns c).Else-not-marked) c.if-file-n-ne0.false
    (rw (c.from.ensures, c.from-2.ensures, c.from-3.ensures) at (sym c.admitted.ensures ∙ c.if-not-admitted.false)))

use Rattle.std.proofs.Common.{rules, ◌≡◌, ℕ, ◌+◌, ◌-◌, ◌≤◌, List, ◌++◌, length, take, drop, ap, subst, ◌∙◌}
use Rattle.std.proofs.lemmas.List.{length-take-le, take-append-le}
use Rattle.std.proofs.Math.Seq.{take-append-add}
use Rattle.std.proofs.KnownBytes.{Consumes-trans}
use borrow.Rule.Slice.PartMut.{put_mid}
use Rattle.program_input.proofs.fill.Goals as goal

-- what a read adds to the bytes that are there
read_more : (a n : ℕ) (xs ys : List ℕ) → a ≤ length xs → n ≤ length ys → take (a + n) (put_mid a (length xs - a) xs ys) ≡ take a xs ++ take n ys
read_more a n xs ys h l =
    let rest = ys ++ drop (length xs - a) (drop a xs) in
    subst (λ (m : ℕ). take (m + n) (take a xs ++ rest) ≡ take a xs ++ take n rest) (length-take-le a xs h) (take-append-add (take a xs) rest n)
    ∙ ap (λ zs. take a xs ++ zs) (take-append-le n ys (drop (length xs - a) (drop a xs)) l)

pub loop-done-preserved : goal.loop-done-preserved
loop-done-preserved g c =
    let l = c.loop-done in
    let new = c.read.new.buf in
    let read = c.in_ok-n.ensures in
    record {
      within = search rules;
      bytes = rw (read_more l.done c.in_ok-n.n l.buffer new l.invariant.within read.bound.0) (Consumes-trans _ _ _ _ _ l.invariant.bytes read.bytes.0);
    }

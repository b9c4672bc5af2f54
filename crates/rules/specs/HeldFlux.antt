-- Document 02, 2026-05, "held smoke stays by its face": what the flux correction holds back of a face's flux (d, the held flux) stays at the nodes of
-- that face, which rise or fall by q.
use Rattle.std.specs.Prelude.{◌&&◌, cond, List, ℕ, ◌/◌, ◌%◌, eqb, ℤ, pos, nat_abs, ◌+ℤ◌, ◌-ℤ◌}
use Rattle.whole.specs.Sum.{sum, sum_ℤ}
use Rattle.whole.specs.Table.{at}
use Rattle.rules.specs.declared.Shape.{Shape}
use Rattle.rules.specs.Field.{Kind, faces}
use Rattle.rules.specs.Grid.{looks_east, behind, ahead}
use Rattle.rules.specs.Stages.{last_place}
use Rattle.rules.specs.Correction.{with_sign}

-- "For each face let d = G − G*, and q = d / 6 truncated toward zero": q of a flux and its limited flux; 6 is the sum of ω along the face
unfoldable pub node_rise : Kind → ℤ → ℤ → ℤ
unfolding with_sign sum
node_rise κ flux limited =
    let d = flux -ℤ limited in
    with_sign d (nat_abs d / sum κ.side κ.line_weight)

-- q of face f, for the fluxes G and the report r
abbrev pub rises : Kind → List ℤ → List ℤ → ℕ → ℤ
rises κ G r f = node_rise κ (at G f) (at r f)

-- "the three face nodes of the west or south element rise by q, and those of the other element fall by q": what face f adds at node k of element e,
-- where q f is its q. A face's nodes are at the last place, 2, of the west or south element and at place 0 of the other; places are counted to the east
-- for an east face, to the north for a north face. Where both ends are one element, it does both.
unfoldable pub face_rise : Kind → Shape → (ℕ → ℤ) → ℕ → ℕ → ℕ → ℤ
unfolding behind ahead
face_rise κ g q e k f =
    let place = cond (looks_east g f) (k % κ.side) (k / κ.side) in
    cond (eqb (behind g f) e && eqb place (last_place κ)) (q f) (pos 0) -ℤ cond (eqb (ahead g f) e && eqb place 0) (q f) (pos 0)

-- "Before the closing": ψ with what all faces add; a corner node lies on two faces of its element and gets both
unfoldable pub with_held_flux : Kind → Shape → (ℕ → ℤ) → (ℕ → ℕ → ℤ) → ℕ → ℕ → ℤ
unfolding face_rise sum_ℤ
with_held_flux κ g q ψ e k = ψ e k +ℤ sum_ℤ (faces g) (face_rise κ g q e k)

-- Document 01, "Step": flux correction and the targets, from the masses m of the elements and the fluxes of the faces.
use Rattle.std.specs.Prelude.{cond, ℕ, eqb, ℤ, pos, negsuc, neg_ℤ, nat_abs, ◌+ℤ◌, ◌-ℤ◌}
use Rattle.std.specs.Int.Signed.{non_neg}
use Rattle.whole.specs.Sum.{sum}
use Rattle.rules.specs.declared.Shape.{Shape}
use Rattle.rules.specs.Field.{faces, north_face}
use Rattle.rules.specs.Grid.{west, south, behind, ahead}
use Rattle.rules.specs.Limiter.{rescaled}

-- "The donor is the west or south element if G > 0, the other if G < 0, by the sign of G and not of C."
-- (A face with G = 0 gives nothing, whichever element is named.)
unfoldable pub donor : Shape → (ℕ → ℤ) → ℕ → ℕ
unfolding behind ahead
donor g flux f = cond (non_neg (flux f)) (behind g f) (ahead g f)

-- "An element's Out is the sum of |G| over the faces where it is donor, each face once", where d f is the donor of face f
unfoldable pub outflow : Shape → (ℕ → ℕ) → (ℕ → ℤ) → ℕ → ℕ
outflow g d flux e = sum (faces g) (λ f. cond (eqb (d f) e) (nat_abs (flux f)) 0)

-- n with the sign of z
unfoldable pub with_sign : ℤ → ℕ → ℤ
with_sign (pos a) n = pos n
with_sign (negsuc a) n = neg_ℤ (pos n)

-- "G* = G if Out ≤ M, else |G| becomes floor(|G| · M / Out), sign kept": the cut of a flux by its donor's outflow and mass; document 02, 2026-02:
-- it "still uses floor"
unfoldable pub cut : ℤ → ℕ → ℕ → ℤ
unfolding with_sign rescaled
cut z out m = with_sign z (rescaled out m (nat_abs z))

-- the limited flux (document 01's G*) of face f: cut by its donor's outflow and mass
unfoldable pub limited_flux : (ℕ → ℕ) → (ℕ → ℕ) → (ℕ → ℤ) → (ℕ → ℕ) → ℕ → ℤ
unfolding cut
limited_flux d m flux out f = cut (flux f) (out (d f)) (m (d f))

-- "T = M − G*(east) + G*(west) − G*(north) + G*(south)"
unfoldable pub target : Shape → (ℕ → ℕ) → (ℕ → ℤ) → ℕ → ℤ
unfolding west south
target g m limited e = pos (m e) -ℤ limited e +ℤ limited (west g e) -ℤ limited (north_face g e) +ℤ limited (north_face g (south g e))

-- Document 02, 2026-02: the flux of a face is "the nearest whole number, an exact half to the even one", and no other number is.
use mathlib.Core.Path.{◌≡◌}
use Prim.Native.Nat.{◌<◌}
use lib.IntN.{ℤ, ◌*ℤ◌}
use Rattle.whole.specs.Nearest.{Nearest}
use Rattle.whole.proofs.NearestOne.{nearest-is, nearest-one}
use Rattle.rules.specs.Field.{Kind}
use Rattle.rules.specs.Stages.{flux_of}

module _ (κ : Kind) (above : 0 < κ.face_divisor) (c s : ℤ) where
  pub flux-nearest : Nearest (c *ℤ s) κ.face_divisor (flux_of κ c s)
  unfolding flux_of
  flux-nearest = nearest-is (c *ℤ s) κ.face_divisor above

  pub flux-only : (r : ℤ) → Nearest (c *ℤ s) κ.face_divisor r → r ≡ flux_of κ c s
  flux-only r n = nearest-one (c *ℤ s) κ.face_divisor r (flux_of κ c s) above n flux-nearest

-- Laws of the closing's sums and values, and of the division that they share.
pub mod Laws
pub mod ScaleLaws

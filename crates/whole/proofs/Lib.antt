-- Laws of whole numbers, sums and tables, of loops that fill a list and chains that are summed; bounds by search.
pub mod Cases
pub mod WholeLaws
pub mod SumLaws
pub mod TableLaws
pub mod ChainSums
pub mod FromFn
pub mod OverwriteLaws
pub mod FillLaws
pub mod ListParts
pub mod BoundLaws
pub mod Sizes
pub mod FloorLaws
pub mod ProductLaws
pub mod NearestLaws
pub mod NearestOne
pub mod NearestFloor

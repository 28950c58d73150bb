pub mod LineMerges
pub mod Laws

pub mod OwnRuns
pub mod Merging
pub mod LongHistories
pub mod Lives
pub mod Laws

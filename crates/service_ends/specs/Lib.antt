pub mod ServiceEnds

pub mod ClientFacts
pub mod NodeFacts

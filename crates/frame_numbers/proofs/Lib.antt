pub mod NumberFacts
pub mod SaidFacts

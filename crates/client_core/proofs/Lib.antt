pub mod ClientFacts

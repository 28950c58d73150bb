pub mod OfferFacts
pub mod LifeOffers
pub mod LineFacts
pub mod JudgeFacts

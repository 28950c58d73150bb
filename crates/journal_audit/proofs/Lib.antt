pub mod RunFacts
pub mod VerdictLaws
pub mod LineFacts
pub mod JudgeFacts
pub mod LeftFacts
pub mod AuditFacts
pub mod HearFacts

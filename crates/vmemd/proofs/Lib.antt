pub mod RunLemmas
pub mod MadeLemmas
pub mod SpanLemmas
pub mod UncachedLemmas
pub mod LawLemmas
pub mod RuleLemmas
mod RunningLemmas
mod WatchLemmas

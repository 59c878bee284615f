pub mod PieceLemmas
pub mod FitLemmas
pub mod GivenLemmas
pub mod GoodLemmas
pub mod NameLemmas
pub mod RuleLemmas
pub mod RunLemmas
pub mod WordLemmas

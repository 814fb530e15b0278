pub mod CheckLemmas
pub mod ComparisonLemmas
pub mod ConditionLemmas
pub mod ConjunctLemmas
pub mod FromLemmas
pub mod ItemLemmas
pub mod Making
pub mod SelectLemmas

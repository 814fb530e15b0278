pub mod AnswerLemmas
pub mod CrashLemmas
pub mod ProgressLemmas
pub mod RowLemmas
pub mod RunLemmas
pub mod StepLemmas

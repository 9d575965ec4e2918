mod Reach
mod VariableLemmas
mod PatternsTold
mod PatternsNamed
mod SitesTold
mod ExpressionsTold
mod FunctionsTold
mod ItemLemmas
mod ReadingLemmas
mod LimitLemmas
mod Examples
mod MarkLemmas
mod ProgramLemmas
pub mod NamedLemmas
pub mod Deciding
pub mod Lists
pub mod ExclusionLemmas
mod AlikeLemmas
mod Resolving
mod Lifetimes
mod Reading
mod DeclaredLemmas
mod Adding
mod Meeting
mod Counting
mod Signatures
mod Signing
mod Telling
mod Stages
mod Walks
mod ExpressionWalks
mod FunctionWalks
mod Having
mod Numbered
mod Exact
mod Same
mod WellTyped

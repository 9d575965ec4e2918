pub mod SeenLemmas
pub mod BrokenLemmas
pub mod SeeingLemmas
pub mod HomeLemmas
pub mod FindingLemmas
pub mod MeetingLemmas
pub mod LeavingLemmas
pub mod TestTurns

pub mod Ends
pub mod SignatureLemmas
pub mod CallLemmas
pub mod ReceivedLemmas

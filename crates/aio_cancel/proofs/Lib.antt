mod MarkedLemmas
pub mod PartsLemmas
mod MemberLemmas

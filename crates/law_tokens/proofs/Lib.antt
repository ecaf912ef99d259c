pub mod PieceLemmas
pub mod RunLemmas
pub mod InsideLemmas
pub mod SymbolLemmas
pub mod CutLemmas
pub mod PartLemmas
pub mod LineLemmas
mod SpanLemmas
mod FaultLemmas
pub mod RangeLemmas

pub mod SpelledBodies
pub mod ProgramLines

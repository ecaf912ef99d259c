pub mod InRange
pub mod JournalTexts
pub mod RecordedAnswers
pub mod Program
pub mod WorkAnswers

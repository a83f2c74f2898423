-- What the C functions that read answer, and what contracts between functions need: the reply to an answer.
pub mod Replies
pub mod Given

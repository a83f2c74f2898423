-- What the public entries answer, and what their workers ask and give.
pub mod Answers
pub mod Fans

-- The program of docs/RULES.md, R14, from bytes to bytes: what reviewers must believe is in SheetCut; Work only contracts between workers need.
pub mod SheetCut
pub mod Work

-- The marks of a blade's crossings, as words of a log.
pub mod Noting

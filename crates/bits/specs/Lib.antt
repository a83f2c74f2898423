-- Bits of bytes, fields of bits, and rows of fields.
pub mod Bits
pub mod Rows
pub mod Places

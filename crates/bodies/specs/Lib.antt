-- What a reader must believe is in Bodies; Forest and Tables only proofs need.
pub mod Bodies
pub mod Forest
pub mod Tables

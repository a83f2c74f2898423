-- The laws of a job's reply: its outcome told (Outcomes), its checks, its work (Tearings), the bytes of rooms (Asked), and rooms that are cut down (Roomier, CutDown).
pub mod Outcomes
pub mod Tearings
pub mod Asked
pub mod Roomier
pub mod CutDown

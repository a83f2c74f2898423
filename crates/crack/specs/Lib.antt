-- A crack across torn edges, over the lent blocks.
pub mod Bodies

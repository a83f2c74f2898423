-- The groups where no corner need be shared.
pub mod Sides

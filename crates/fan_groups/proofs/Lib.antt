-- Laws of the groups where no corner need be shared. Assumes nothing.
pub mod BySides

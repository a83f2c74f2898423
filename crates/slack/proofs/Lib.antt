-- Laws of slack edges.
pub mod SlackLaws

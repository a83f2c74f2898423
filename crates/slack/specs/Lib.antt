-- Slack edges, over the lent blocks.
pub mod Slack

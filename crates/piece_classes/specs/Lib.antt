-- What pieces and bodies are, by chains; meshes whose counts are computed.
pub mod Classes
pub mod Examples

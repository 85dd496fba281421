-- What the routine promises, and places computed.
pub mod Place
pub mod Examples

pub mod Resolved
pub mod SessionEntered
pub mod SessionPreviewed
pub mod SessionWithdrawn
pub mod Found
pub mod Named
pub mod UnitsOrdered

-- Question 23 of a session as the program asks it, and what its entry promises.
pub mod Clauses
pub mod Checked

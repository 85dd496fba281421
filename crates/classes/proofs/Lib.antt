-- Entries written by links; the table after each row of the pass.
mod Links
mod Filling

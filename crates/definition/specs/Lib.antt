-- Document 01 as definitions, in its own order. A reader starts at Sheet and ends at Outcome; Claims says demand 3.

-- Lists and tests that all of it shares; quoted texts.
pub mod Basics
pub mod Bytes
-- "The sheet": rows, text, names, kinds, questions 3 and 4.
pub mod Kind
pub mod Sheet
pub mod Text
pub mod Names
pub mod Shape
pub mod Format
-- "The walk": what a name can mean, what stands outside the sheet, the walk as events, scopes, slots, captures, classes.
pub mod Meaning
pub mod Outside
pub mod Walk
pub mod Scope
pub mod Slots
pub mod Capture
pub mod Classes
-- "Questions in order", "Answer rows", and what comes of an input.
pub mod Question
pub mod Answer
pub mod Outcome
-- The samples S1 to S12, points easily read otherwise, and a sheet over another outside than the core's, computed.
pub mod Samples
pub mod Readings
pub mod Refusals
pub mod Entered
-- Demand 3, and how long a walk is, as statements; proofs/ has their proofs.
pub mod Claims
pub mod Bounds

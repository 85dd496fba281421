-- What follows the walk, read off what the walk stored, is what the definition says. A reader who trusts the check needs Theorems alone; the rest
-- are steps to it.
pub mod Theorems
-- rows in range, and the parents of classes
pub mod Ranges
pub mod Parents
-- the questions 18 to 21, the fields, the answer rows
pub mod Climbs
pub mod Fields
pub mod Answers
-- what the program's routines rest on: methods by their names, the number of fields
pub mod Names
pub mod Sizes

-- The program's state machine agrees with the definition. A reader who trusts the check needs Theorems alone; the rest are steps to it.
pub mod Theorems
-- lists, words stored in them; the open entries; questions
pub mod Lists
pub mod Words
pub mod Entries
pub mod ScopesAgree
pub mod Questions
-- nodes; stacks of a walk; what is stored, column by column
pub mod Nodes
pub mod Stacks
pub mod CaptureLists
pub mod Captures
pub mod Columns
pub mod StoreParts
pub mod Globals
pub mod RowWords
pub mod StoreAgrees
-- the refinement over a list of events, from the start of a walk
pub mod Refinement
pub mod Start
-- what the store says after the walk
pub mod AfterRows
pub mod AfterLists
pub mod AfterCalls
pub mod AnswerRows
-- equations that the program's routines cite
pub mod ByKind
pub mod CodeSteps
-- what the refinement needs, for every sheet past the questions 3 and 4
pub mod Reached
pub mod EntryBound
pub mod ImportedMeanings
pub mod WalkReady
pub mod Entered
pub mod NodeBound
pub mod CapturedOutward
pub mod GlobalBound
pub mod ImportBound
pub mod DepthBound
pub mod FittingSheet
-- identifiers that a method call hides
pub mod Callees
pub mod HiddenRows
-- the answer rows of every sheet past question 3
pub mod SheetRows

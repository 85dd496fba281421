-- Theorems on sessions. A reader who trusts the check needs Theorems, Kept, Withdrawal and RunLaws alone.
pub mod Theorems
pub mod NameLaws
pub mod RowLaws
pub mod Renaming
pub mod EntryLaws
pub mod OutsideLaws
pub mod SessionLaws
pub mod HeldRuns
pub mod CountLaws
pub mod Asked
-- Entering leaves a good session good: the words after it,
pub mod Kept
pub mod Extended
pub mod Globals
pub mod GlobalKept
pub mod Shown
pub mod AfterRefusal
pub mod Stored
pub mod NewWords
pub mod Added
pub mod ListedNames
pub mod ReadBack
pub mod Follows
pub mod NewNames
pub mod AfterAccepted
-- and what an accepted entry declares.
pub mod EarlierClasses
pub mod NewMembers
pub mod NewClasses
pub mod UnitRows
pub mod UnitEvents
pub mod UnitStack
pub mod Pushed
pub mod NewLaid
-- A withdrawal leaves a good session good, and after any run the accepted entries left are there.
pub mod Withdrawal
pub mod RunLaws
pub mod SameRows
pub mod FirstNames
pub mod Cut
pub mod WithdrawLaws

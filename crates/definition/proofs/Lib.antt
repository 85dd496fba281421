-- The theorems on the definitions. A reader who trusts the check needs Theorems alone; the rest are steps to it.
pub mod Theorems
-- lists; questions 1 to 4; the walk; the closure claim
pub mod Lists
pub mod Format
pub mod Walk
pub mod Closure
-- the classes of a sheet
pub mod Classes

-- Chains of imports; what has started after so many steps; the order over any units; the units of a sheet; the theorems.
pub mod ChainLaws
pub mod StartLaws
pub mod OrderLaws
pub mod SheetLaws
pub mod Theorems

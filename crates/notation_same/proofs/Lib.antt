-- Theorems that rest on the definitions of specs/.
pub mod Scans
pub mod Main

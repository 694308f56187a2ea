-- Theorems that rest on the definitions of specs/.
pub mod Printed
pub mod Patterns
pub mod Main
pub mod Accepted

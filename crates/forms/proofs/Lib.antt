-- Theorems that rest on the definitions of specs/.
pub mod ReadTarget
pub mod Wrong
pub mod Together

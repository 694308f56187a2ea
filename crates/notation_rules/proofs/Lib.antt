-- Theorems that rest on the definitions of specs/.
pub mod PatternsBack
pub mod NamesBack
pub mod Places
pub mod RulesBack
pub mod KeptPatterns
pub mod Kept
pub mod Main

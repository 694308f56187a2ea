-- Egison's notation for rules: its definitions, and what is proved of them. Main in proofs/ states the promises; Worked shows each clause at work. What to
-- believe: Tokens, Patterns, Targets, Matchers, Letters, Names, Places and Rules.
pub mod Tokens
pub mod Patterns
pub mod PatternsBack
pub mod Targets
pub mod Matchers
pub mod Letters
pub mod LettersBack
pub mod Names
pub mod NamesBack
pub mod Places
pub mod Rules
pub mod KeptMachine
pub mod KeptUnits
pub mod Quoted
pub mod Worked
pub mod Published

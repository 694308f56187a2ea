-- What the writer's code puts on a page is the notation of the rule.
pub mod Printed
pub mod Walked
pub mod Numbers
pub mod Patterns
pub mod Units
pub mod Main

-- The search machine, from what it asks of held values to the theorem that it is document 01's search at every budget; then held values as it asks for them.
pub mod Held
pub mod Machine
pub mod Engine
pub mod Rep
pub mod Sim
pub mod Drive
pub mod Whole
pub mod Fitting
pub mod Operations

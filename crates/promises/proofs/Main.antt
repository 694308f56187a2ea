-- What documents 01 and 02 demand, as theorems about the definitions, by demand. Each is stated in its part and proved elsewhere; what it assumes stands
-- before its arrows, and nothing else is assumed.
--
-- Determined   two results that the definitions allow agree
-- Ways         the good ways: each once, in order; the states of the search find these and no others
-- Runs         at every budget and in every room: which states, rows, words, and when 0, 7 and 8
-- Origins      row form 2: it points back, and tells ways apart; 20
-- Reviews      review's answers, each exactly when; rules that everybody passes
-- Bounds       review's figure bounds steps and rows; budget and room that suffice
-- Reached      review's figure never exceeds the old one, and is reached
-- Refusals     answers 1 to 6 by the first fault, with its place and cause, or a run
-- Values       equality, sums; words are read one way
-- Dialects     what dialect 2 is beside dialect 1: some of its states and rows; the parts above but Determined, Reached, Refusals and Values take the dialect
--
-- The words that the statements use are defined in Trace (trace, order, seen), Solve (founds), Nots (inner), Listing (Listing), Budget (report, Full,
-- Outcome), Matching (states, ways, rows_of_ways), Reviewing (Review, TooBig, AlwaysTrue, Outside, countOf), OldFigure (old_formula), Exact (Chain),
-- Reaching (equals), FirstPlaces (Some), Dialects (NoMore), Told (Told), Suited (Suits) and, in the crate forms, in Written (the words, the numbers and the widths of the forms), Faults, Wrong (Wrong, Says) and Pairing
-- (greedy).
pub mod Determined
pub mod Ways
pub mod Runs
pub mod Origins
pub mod Reviews
pub mod Bounds
pub mod Reached
pub mod Refusals
pub mod Values
pub mod Dialects

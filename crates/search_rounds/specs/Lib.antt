-- What a search by rounds does to the lent table, list by list.
pub mod Remaining
pub mod Firsts

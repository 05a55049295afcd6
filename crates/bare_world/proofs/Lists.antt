-- Lists, and the ranks of a world as lists.
pub mod Beginnings
pub mod Replaced
pub mod Places
pub mod OfSeats
pub mod NewRanks

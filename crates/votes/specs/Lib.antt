-- The votes of a record, and what a count of them asks.

-- ---- what is promised
pub mod Question
-- ---- inside: what functions tell each other, and what loops keep
pub mod Votes
pub mod Tables
pub mod Keys
pub mod Chosen

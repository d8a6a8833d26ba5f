-- Slots for views by their size and for histories by their length, and what is found by them.

-- ---- inside: what functions tell each other, and what loops keep
pub mod Slots
pub mod Ranking

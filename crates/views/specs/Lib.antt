-- Views, histories and quorums, as structs and as words.

-- ---- what is promised
pub mod Held
pub mod View
pub mod Sets
pub mod Tally
-- ---- inside: what functions tell each other, and what loops keep
pub mod Options
pub mod Steps

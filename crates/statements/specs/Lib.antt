-- How a statement is written, what a Statement and its block mean, and what is promised of reading and writing.

-- ---- what is promised
pub mod Text
pub mod Block
pub mod Meaning
pub mod Promise
-- ---- inside: what functions tell each other, and what loops keep
pub mod Kind
pub mod Sets
pub mod Parts
pub mod Made

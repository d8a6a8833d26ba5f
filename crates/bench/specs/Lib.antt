-- What each line of a schedule does to the bench, the rows that are printed, and the bench after the last line; and what writing them promises.

-- ---- what is promised
pub mod Bench
pub mod Rows
pub mod After
-- ---- inside: what functions tell each other, and what loops keep
pub mod Writing
pub mod Seats
pub mod Running

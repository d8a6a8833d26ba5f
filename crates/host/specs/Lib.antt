-- What a controller in lent memory means, and what is promised of a call on it.

-- ---- what is promised
pub mod Statement
pub mod Memory
pub mod Host
-- ---- inside: what functions tell each other, and what loops keep
pub mod Stored

-- What the engine's values mean, and what its calls promise.

-- ---- what is promised
pub mod Meaning
pub mod Promise
-- ---- inside: what functions tell each other, and what loops keep
pub mod Steps
pub mod Situation

-- The text of what a record shows, and what writing it promises.

-- ---- what is promised
pub mod Screen
-- ---- inside: what functions tell each other, and what loops keep
pub mod ScreenParts

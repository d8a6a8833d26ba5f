-- What the rules of a turn look at and tell, each by itself.

-- ---- inside: what functions tell each other, and what loops keep
pub mod Actions
pub mod Rules

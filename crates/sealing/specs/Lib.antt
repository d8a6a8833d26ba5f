-- ---- inside: what functions tell each other, and what loops keep
pub mod Verdict
pub mod Memos

-- ---- inside: what reading an input answers
pub mod Input

-- ---- inside: what a turn on a controller that is lent comes to
pub mod Lent

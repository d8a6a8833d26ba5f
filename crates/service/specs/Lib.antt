-- The service screen of a controller.

-- ---- what is promised
pub mod Service
pub mod After
-- ---- inside: what functions tell each other, and what loops keep
pub mod ServiceParts

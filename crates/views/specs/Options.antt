-- The library's Option, which functions return, for the protocol's.
-- Assumes nothing.
use Rattle.std.specs.Prelude.{Option, Some, None}
use Rattle.std.proofs.Math.Option as protocol

-- The same value, or none as well.
abbrev pub option_of : {A : Type 0} → protocol.Option A → Option A
option_of protocol.none = None
option_of (protocol.some a) = Some a

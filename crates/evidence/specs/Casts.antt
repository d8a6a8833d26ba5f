-- Acks and stores for a payload: when a certificate was complete, and who signed.
-- Assumes nothing.
use Rattle.std.specs.Prelude.{◌≡◌, ◌⊎◌, Bool, ◌&&◌, ℕ, eqb, Option, Some, None}
use Rattle.std.proofs.Math.Option as maybe
use Rattle.std.proofs.Math.Option.{some, none}
use Rattle.protocol.specs.View.{View, same_view}
use Rattle.protocol.specs.Statement.{Stmt, is_kind, payload_of}
use Rattle.views.specs.View.{view_of}

-- The kind of an ack or of a store.
abbrev pub Late : ℕ → Type 0
Late k = (k ≡ 7) ⊎ (k ≡ 8)

-- A vote of kind k, an ack or a store, of notice i for m.
unfoldable pub cast_for : ℕ → ℕ → ℕ → Stmt → Bool
cast_for k i m s = is_kind k s && eqb s.notice i && eqb (payload_of s) m

-- One that is at t: of kind 7 it is what `acks` says, of kind 8 what `stores` says.
unfoldable pub cast_at : ℕ → View → ℕ → ℕ → Stmt → Bool
cast_at k t i m s = eqb s.kind k && same_view s.at t && eqb s.notice i && eqb (payload_of s) m

-- The top whose word was found.
abbrev pub top_is : Option ℕ → maybe.Option View
top_is (Some w) = some (view_of w)
top_is None = none

-- What a scan of a record looks for.
-- Assumes nothing.
use Rattle.std.specs.Prelude.{ℕ, Bool, ◌&&◌, eqb}
use Rattle.protocol.specs.View.{View, same_view}
use Rattle.protocol.specs.Statement.{Stmt}

-- A statement of kind k at t.
unfoldable pub is_at : ℕ → View → Stmt → Bool
is_at k t s = eqb s.kind k && same_view s.at t

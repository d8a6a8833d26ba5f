-- What the reports are to a turn: `reported` and `merged` answer rule 2.
-- Assumes nothing.
use mathlib.Core.Path.{◌≡◌, refl}
use mathlib.Core.List.{List}
use Rattle.protocol.specs.Statement.{Stmt}
use Rattle.protocol.specs.Controller.{Controller}
use Rattle.protocol.specs.Turn.{G, T, needs_reports, remaining, is_reported, counted_reports}
use Rattle.evidence.specs.Evidence.{remaining_views, reported_all, counted_there, reports_there}

module _ (c : Controller) (X : List Stmt) where
  pub reported-turn : is_reported c X ≡ reported_all c.ring c.senders X
  unfolding is_reported reported_all remaining needs_reports remaining_views G T
  reported-turn = refl

  pub counted-turn : counted_reports c X ≡ reports_there c.ring c.senders X
  unfolding counted_reports reports_there counted_there remaining needs_reports remaining_views G T
  counted-turn = refl

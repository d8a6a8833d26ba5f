-- Request A2 of document 02, by computation: a view that a sealed history skipped holds up nobody, and what is told on it binds nobody.
-- Assumes nothing.
use mathlib.Core.Path.{◌≡◌, refl}
use mathlib.Core.List.{List, [], ◌∷◌, ◌++◌}
use mathlib.Core.Option.{none}
use Rattle.protocol.specs.View.{View}
use Rattle.protocol.specs.Statement.{Stmt, join, agree_view, agree_history, Binding, unbound, bound, barred, tells, report, prepare}
use Rattle.protocol.specs.Controller.{Controller, entered, quiet}
use Rattle.protocol.specs.Call.{started}
use Rattle.protocol.specs.Turn.{remaining, turn}
use Rattle.examples.proofs.Opened.{plain, opened}
use Rattle.examples.proofs.Refusals.{alone, wide, any-room}

-- controller 2, which joins a ring of one: controller 0 is its first member and the sender
abbrev two : Controller
two = started 2 (plain 1 (0 ∷ []))

-- 0 agreed to the view with 1, which stays silent, and to the view with 2 besides
abbrev chosen : List Stmt
chosen = join 1 ∷ join 2 ∷ agree_view 0 alone (wide 3) ∷ agree_view 0 alone (wide 7) ∷ prepare 0 0 5 ∷ prepare 0 0 6 ∷ []

abbrev all-views : List View
all-views = alone ∷ wide 3 ∷ wide 7 ∷ []

-- the greatest history lists the view with 1; another that is sealed, or none, skips it
abbrev listed : List Stmt
listed = agree_history 0 alone all-views ∷ []

abbrev skipping : List Stmt
skipping = agree_history 0 alone (alone ∷ wide 7 ∷ []) ∷ listed

-- 0's report on u
abbrev told : View → Binding → List Stmt
told u b = report 0 u (wide 7) (tells b none ∷ []) all-views ∷ []

-- without a report nobody enters; skipped, the view needs none; listed by each history with a greater top, it needs those of both its members
answers : ((turn two (chosen ++ skipping) any-room 0).answer
    ∷ (turn two (chosen ++ skipping ++ told alone unbound) any-room 0).answer
    ∷ (turn two (chosen ++ listed ++ told alone unbound) any-room 0).answer
    ∷ (turn two (chosen ++ listed ++ told alone unbound ++ told (wide 3) unbound) any-room 0).answer
    ∷ (turn two (chosen ++ listed ++ told alone unbound ++ told (wide 3) unbound ++ (report 1 (wide 3) (wide 7) (tells unbound none ∷ []) all-views ∷ [])) any-room 0).answer ∷ [])
    ≡ (quiet ∷ entered (wide 7) ∷ quiet ∷ quiet ∷ entered (wide 7) ∷ [])
unfolding opened
answers = refl

-- the views that need reports
views : (remaining two (chosen ++ listed) ∷ remaining two (chosen ++ skipping) ∷ []) ≡ ((alone ∷ wide 3 ∷ []) ∷ (alone ∷ []) ∷ [])
unfolding opened
views = refl

-- a report on the skipped view tells of 6: who enters is bound by the report on the first view alone
bindings : ((turn two (chosen ++ skipping ++ told alone unbound ++ told (wide 3) (bound 6)) any-room 0).controller.binding 0
    ∷ (turn two (chosen ++ skipping ++ told alone (bound 5) ++ told (wide 3) (bound 6)) any-room 0).controller.binding 0
    ∷ (turn two (chosen ++ skipping ++ told alone (bound 5) ++ told (wide 3) barred) any-room 0).controller.binding 0 ∷ [])
    ≡ (unbound ∷ bound 5 ∷ bound 5 ∷ [])
unfolding opened
bindings = refl

-- The screen of a controller that was read from memory.
-- Assumes nothing.
use mathlib.Core.Path.{◌≡◌, subst}
use mathlib.Core.List.{List}
use Prim.Native.Nat.{ℕ}
use Rattle.protocol.specs.Statement.{Stmt}
use Rattle.engine.specs.declared.Controller.{Controller}
use Rattle.engine.specs.Meaning.{controller_is}
use Rattle.service.specs.Service.{ServiceShows}

pub same-screen : {c d : Controller} {X : List Stmt} {out : List ℕ} {n : ℕ} {after : List ℕ} → c ≡ d → ServiceShows (controller_is c) X out n after → ServiceShows (controller_is d) X out n after
same-screen {X = X} {out = out} {n = n} {after = after} e w = subst (λ c. ServiceShows (controller_is c) X out n after) e w

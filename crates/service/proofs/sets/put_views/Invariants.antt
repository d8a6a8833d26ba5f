use Prim.Native.Nat.{◌+◌, ◌*◌}
use mathlib.Core.Path.{◌≡◌}
use Rattle.text.specs.Written.{Wrote}
use Rattle.views.specs.View.{views_of}
use Rattle.service.specs.Service.{views_text}
use Rattle.service.proofs.sets.put_views.Given as goal

abbrev pub invariant-loop-v : goal.invariant-loop-v
invariant-loop-v l = (l.at ≡ l.from + 9 * l.v-index) × Wrote l.initial.out l.from (views_text (views_of l.list l.v-index)) l.at l.out

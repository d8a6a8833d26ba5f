use Prim.Native.Nat.{◌+◌, ◌*◌}
use mathlib.Core.Path.{◌≡◌}
use Rattle.text.specs.Written.{Wrote}
use Rattle.statements.specs.Meaning.{first_views}
use Rattle.statements.specs.Parts.{tail_text}
use Rattle.statements.proofs.put_views.Given as goal

abbrev pub invariant-loop-v : goal.invariant-loop-v
invariant-loop-v l = (l.at ≡ l.from + 9 * l.v-index) × Wrote l.initial.out l.from (tail_text (first_views l.v-index l.h.views)) l.at l.out

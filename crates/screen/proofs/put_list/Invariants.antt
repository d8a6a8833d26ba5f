use Prim.Native.Nat.{◌+◌, ◌*◌}
use mathlib.Core.Path.{◌≡◌}
use Rattle.text.specs.Written.{Wrote}
use Rattle.statements.specs.Parts.{tail_text}
use Rattle.views.specs.View.{views_of}
use Rattle.screen.proofs.put_list.Given as goal

abbrev pub invariant-loop-word : goal.invariant-loop-word
invariant-loop-word l = (l.at ≡ l.from + 9 * l.word-index) × Wrote l.initial.out l.from (tail_text (views_of l.list l.word-index)) l.at l.out

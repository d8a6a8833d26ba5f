use Prim.Native.Nat.{◌+◌, ◌*◌, ◌≤◌}
use lib.Dec.{eqb}
use Rattle.protocol.specs.Count.{complete_after}
use Rattle.text.specs.Written.{Wrote}
use Rattle.views.specs.View.{ring_of_word}
use Rattle.pool.specs.Pool.{record_in}
use Rattle.screen.specs.ScreenParts.{lines_to}
use Rattle.screen.proofs.put_lines.Given as goal

abbrev pub invariant-loop-j : goal.invariant-loop-j
invariant-loop-j l =
    (l.at ≤ l.from + 47 * l.j) × Wrote l.initial.out l.from (lines_to (eqb l.n 1) l.e.certified l.certs l.e.stored (complete_after (ring_of_word l.init) (record_in l.words l.ids)) l.j) l.at l.out

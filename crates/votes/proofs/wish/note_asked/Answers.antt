use native.Mathlib.Omega.{arith}
use Rattle.votes.proofs.Wished.{kind-noted, kind-passed}
use Rattle.votes.proofs.wish.note_asked.Goals as goal

pub returns-then-k : goal.returns-then-k
returns-then-k c = (kind-passed _ _ 1 _ c.kind-k.ensures.0 (omega arith), kind-passed _ _ 2 _ c.kind-k.ensures.0 (omega arith))

pub returns : goal.returns
returns c = (kind-noted _ _ 1 _ _ _ _ _ c.kind-k.ensures.0 c.origin-o.ensures.0 c.low_half.ensures c.of_halves.ensures.0 c.note-joins.ensures, kind-noted _ _ 2 _ _ _ _ _ c.kind-k.ensures.0 c.origin-o.ensures.0 c.high_half.ensures c.of_halves.ensures.1 c.note-leaves.ensures)

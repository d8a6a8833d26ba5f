use native.Mathlib.Omega.{arith}
use Rattle.votes.proofs.Picked.{word-if, word-not}
use Rattle.votes.proofs.chosen.choice.Goals as goal

pub returns-then-not-is_choice : goal.returns-then-not-is_choice
returns-then-not-is_choice c = word-not _ c.is_choice.ensures c.if-not-is_choice.true

pub returns : goal.returns
returns c = word-if c.is_choice.ensures c.if-not-is_choice.false c.view.ensures (omega arith)

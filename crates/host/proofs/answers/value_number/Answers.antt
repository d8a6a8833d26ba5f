use borrow.Author.Rules.{rules}
use native.Mathlib.Omega.{arith}
use mathlib.Core.Path.{◌∙◌}
use Rattle.pool.proofs.Writes.{word-of}
use Rattle.engine.specs.Meaning.{answer_is}
use Rattle.host.specs.Host.{value_number}
use Rattle.host.proofs.answers.value_number.Goals as goal

pub returns-in-Ok-Entered : goal.returns-in-Ok-Entered
unfolding value_number answer_is
returns-in-Ok-Entered c = word-of _ _ (omega arith) c.word.ensures ∙ search rules

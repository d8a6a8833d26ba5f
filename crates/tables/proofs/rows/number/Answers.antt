use Rattle.tables.specs.Index.{number_at}
use borrow.Author.Rules.{rules}
use Rattle.tables.proofs.rows.number.Goals as goal

pub returns : goal.returns
unfolding number_at
returns c = search rules

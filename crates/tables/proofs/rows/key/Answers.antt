use Rattle.tables.specs.Index.{key_at}
use borrow.Author.Rules.{rules}
use Rattle.tables.proofs.rows.key.Goals as goal

pub returns : goal.returns
unfolding key_at
returns c = search rules

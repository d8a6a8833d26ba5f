use Rattle.tables.specs.Index.{older_at}
use borrow.Author.Rules.{rules}
use Rattle.tables.proofs.rows.older.Goals as goal

pub returns : goal.returns
unfolding older_at
returns c = search rules

use Rattle.tables.specs.Index.{newest_at}
use borrow.Author.Rules.{rules}
use Rattle.tables.proofs.rows.newest.Goals as goal

pub returns : goal.returns
unfolding newest_at
returns c = search rules

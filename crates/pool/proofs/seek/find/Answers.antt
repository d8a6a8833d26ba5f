use Rattle.std.proofs.Common.{rules, arith}
use borrow.Author.Tests.{tests}
use Rattle.std.proofs.lemmas.Iterator.{YieldsList-from_range}
use Rattle.std.proofs.lemmas.Iterator.Search.{find_from_yields_List}
use Rattle.protocol.specs.Statement.{same_stmt}
use Rattle.statements.specs.Meaning.{stmt_of}
use Rattle.pool.specs.Pool.{stmt_at}
use Rattle.pool.specs.Steps.{Sought}
use Rattle.pool.proofs.Searches.{found-in}
use Rattle.pool.proofs.seek.find.Goals as goal

pub returns : goal.returns
returns c =
    let s : Sought c.args.st c.head_of-key.result c.word-at.result c.word-view.result = record { head = c.head_of-key.ensures.0; place = c.word-at.ensures; seen = c.word-view.ensures; small = (omega arith, omega arith) } in
    found-in c.args.words.now (stmt_of c.args.st c.args.block.now) c.pool_len.result c.find.result c.pool_len.ensures.0
    (find_from_yields_List (λ n. same_stmt (stmt_of c.args.st c.args.block.now) (stmt_at c.args.words.now n)) _ _ c.find.result c.find.ensures.ran (YieldsList-from_range 0 c.pool_len.result c.pool_len.result (cc) (omega arith)) (λ x b q k. search (rules, tests, s)))

use Rattle.std.proofs.Common.{rules, arith, ap, ◌∙◌}
use borrow.Author.Tests.{tests}
use Rattle.std.proofs.lemmas.Iterator.{YieldsList-from_slice}
use Rattle.std.proofs.lemmas.Iterator.Search.{any_from_yields_List}
use Rattle.protocol.specs.Lists.{any}
use Rattle.protocol.specs.Statement.{same_stmt}
use Rattle.statements.specs.Meaning.{stmt_of}
use Rattle.views.proofs.Chains.{any-is}
use Rattle.pool.specs.Pool.{stmt_at}
use Rattle.pool.specs.Steps.{Sought}
use Rattle.pool.proofs.listed.Record.holds.Goals as goal

pub returns : goal.returns
returns c =
    let s : Sought c.args.st c.head_of-key.result c.word-at.result c.word-view.result = record { head = c.head_of-key.ensures.0; place = c.word-at.ensures; seen = c.word-view.ensures; small = (omega arith, omega arith) } in
    any_from_yields_List (λ n. same_stmt (stmt_of c.args.st c.args.block.now) (stmt_at c.args.self.now.words.now n)) _ _ _ c.any.ensures.ran (YieldsList-from_slice c.numbers.result.now cc) (λ x b q k. search (rules, tests, s))
    ∙ any-is (same_stmt (stmt_of c.args.st c.args.block.now)) (stmt_at c.args.self.now.words.now) c.numbers.result.now ∙ ap (any (same_stmt (stmt_of c.args.st c.args.block.now))) c.numbers.ensures.means

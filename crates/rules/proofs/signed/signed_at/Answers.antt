use Rattle.std.proofs.Common.{rules, take, arith, ◌∙◌}
use borrow.Author.Tests.{tests}
use Rattle.std.proofs.lemmas.Iterator.{YieldsList-from_slice}
use Rattle.std.proofs.lemmas.Iterator.Search.{any_from_yields_List}
use Rattle.statements.specs.Kind.{kind_number}
use Rattle.views.specs.View.{view_of}
use Rattle.views.proofs.Chains.{any-take}
use Rattle.pool.specs.Pool.{stmt_at, record_len, record_up_to}
use Rattle.rules.specs.Rules.{own_at}
use Rattle.rules.proofs.signed.signed_at.Goals as goal

pub returns : goal.returns
unfolding record_up_to
returns c =
    any_from_yields_List (λ n. own_at c.args.k (kind_number c.args.kind) (view_of c.args.t) (stmt_at c.args.words.now n)) _ _ _ c.any.ensures.ran (YieldsList-from_slice (take (record_len c.args.ids.now) c.args.ids.now) cc) (λ x b q k. search (rules, tests))
    ∙ any-take _ _ _ _ _ (omega arith)

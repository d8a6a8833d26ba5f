use mathlib.Core.Path.{sym, ap, ◌∙◌}
use borrow.Author.Tests.{ne_eqb}
use Rattle.statements.proofs.KindNumbers.{number_is}
use Rattle.pool.specs.Pool.{stmt_at}
use Rattle.rules.specs.Rules.{own_kind}
use Rattle.rules.proofs.Scans.{own-not, own_is}
use Rattle.rules.proofs.signed.is_own.Goals as goal

pub returns-then-origin-from : goal.returns-then-origin-from
returns-then-origin-from c = own_is _ _ _ _ _ c.origin.ensures.0 (c.if-origin-from.true ∙ c.from.ensures) c.kind.ensures.0 ∙ ap (λ n. own_kind c.args.k n (stmt_at c.args.words.now c.args.n)) (number_is c.args.kind)

pub returns-else-origin-from : goal.returns-else-origin-from
returns-else-origin-from c = ne_eqb _ _ c.if-origin-from.false ∙ own-not _ _ _ _ c.origin.ensures.0 (λ e. c.if-origin-from.false (e ∙ sym c.from.ensures))

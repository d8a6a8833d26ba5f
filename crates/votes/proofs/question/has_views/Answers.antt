use Rattle.std.proofs.Common.{rules, refl, arith, ◌∙◌}
use borrow.Author.Tests.{tests, ne_eqb}
use Rattle.std.proofs.lemmas.Iterator.{YieldsList-from_range, cases_from_all}
use Rattle.votes.proofs.Questions.{Same, word-other, views-told, views-short}
use Rattle.votes.proofs.question.has_views.Goals as goal

pub returns-then-count-n : goal.returns-then-count-n
returns-then-count-n c =
    views-told _ _ _ _ _ c.count.ensures.0 c.if-count-n.true _
    (cases_from_all _ _ _ (Same c.args.words.now c.args.list.now c.args.s) (λ p. Same c.args.words.now c.args.list.now c.args.s p → ⊥) c.all.ensures.ran (YieldsList-from_range 0 c.args.n c.args.n refl (omega arith))
    (λ x q k. search (rules, tests)) (λ x q k. search (rules, tests, word-other c.args.words.now c.args.list.now c.args.s x c.fits-list)))

pub returns-else-count-n : goal.returns-else-count-n
returns-else-count-n c = ne_eqb _ _ c.if-count-n.false ∙ views-short _ _ _ _ _ c.count.ensures.0 c.if-count-n.false

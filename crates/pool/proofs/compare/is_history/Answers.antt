use Rattle.std.proofs.Common.{arith, ap, ◌∙◌}
use Rattle.std.proofs.lemmas.Bool.Decides.{nat_tests}
use Rattle.protocol.specs.History.{is_history}
use Rattle.views.specs.View.{ring_of_word}
use Rattle.pool.proofs.Laws.{history-none, history-tests}
use Rattle.pool.proofs.compare.is_history.Goals as goal

pub returns-then-have_members : goal.returns-then-have_members
returns-then-have_members c = grind (arith, nat_tests, history-tests c.args.init c.view_words-listed.result.now) ∙ ap (is_history (ring_of_word c.args.init)) c.view_words-listed.ensures.means

pub returns-else-have_members : goal.returns-else-have_members
returns-else-have_members c =
    grind (arith, nat_tests, history-tests c.args.init c.view_words-listed.result.now, history-none c.args.init c.view_words-listed.result.now) ∙ ap (is_history (ring_of_word c.args.init)) c.view_words-listed.ensures.means

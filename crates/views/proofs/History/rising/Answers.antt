use Rattle.std.proofs.Common.{rules, min, arith, ap, ◌∙◌, not}
use Rattle.std.proofs.iter.runs.Made.{chains}
use Rattle.std.proofs.lemmas.Bool.Decides.{nat_tests}
use Rattle.protocol.specs.Statement.{is_rising}
use Rattle.views.specs.Held.{view_is, views_is, held_at}
use Rattle.views.proofs.Chains.{list_of-take}
use Rattle.views.proofs.Histories.{rising-is, rising_none}
use Rattle.views.proofs.History.rising.Goals as goal

pub returns-then-not-is_empty : goal.returns-then-not-is_empty
unfolding views_is
returns-then-not-is_empty c =
    rising-is (held_at c.counted-views.result.now) 16 _ _ (grind (arith, nat_tests)) (search (rules, chains)) (search (rules, chains))
    ∙ ap (is_rising 16) (list_of-take view_is (min c.args.self.len 16) _ _ _ c.counted-views.ensures (omega arith))

pub returns-else-not-is_empty : goal.returns-else-not-is_empty
unfolding views_is
returns-else-not-is_empty c = ap (λ b. not b) c.if-not-is_empty.false ∙ rising_none (held_at c.args.self.views) 16 (min c.args.self.len 16) (grind (arith, nat_tests))

use Rattle.std.proofs.Common.{rules, take, min, arith, sym, ◌∙◌}
use borrow.Author.Tests.{tests, eq-eqb}
use Rattle.std.proofs.lemmas.Iterator.{YieldsList-from_slice}
use Rattle.std.proofs.lemmas.Iterator.Search.{any_from_yields_List}
use Rattle.protocol.specs.Window.{is_inside}
use Rattle.windows.specs.Windows.{window_in, windows_in}
use Rattle.views.proofs.Chains.{any-take}
use Rattle.windows.proofs.Windows.{always-open, open-where}
use Rattle.windows.proofs.is_open.Goals as goal

pub returns-then-count-eq0 : goal.returns-then-count-eq0
returns-then-count-eq0 c = eq-eqb _ _ c.if-count-eq0.true ∙ sym (always-open _ _ _ c.if-count-eq0.true)

pub returns-else-count-eq0 : goal.returns-else-count-eq0
unfolding windows_in
returns-else-count-eq0 c =
    any_from_yields_List (λ w. is_inside c.args.minute (window_in w)) _ _ _ c.any.ensures.ran (YieldsList-from_slice (take (min c.args.count 8) c.args.windows.now) cc) (λ x b q k. search (rules, tests))
    ∙ any-take (is_inside c.args.minute) window_in (min c.args.count 8) c.args.windows.now 0 (omega arith) ∙ sym (open-where c.args.windows.now c.args.minute (min c.args.count 8) (omega arith))

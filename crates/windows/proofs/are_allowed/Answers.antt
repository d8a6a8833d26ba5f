use Rattle.std.proofs.Common.{rules, take, arith, sym, ◌∙◌}
use borrow.Author.Tests.{tests, lt-leb}
use Rattle.std.proofs.lemmas.Iterator.{YieldsList-from_slice}
use Rattle.std.proofs.lemmas.Iterator.Search.{all_from_yields_List}
use Rattle.protocol.specs.Window.{window_allowed}
use Rattle.windows.specs.Windows.{window_in, windows_in}
use Rattle.views.proofs.Chains.{all-take}
use Rattle.windows.proofs.Windows.{few, many-windows}
use Rattle.windows.proofs.are_allowed.Goals as goal

pub returns-then-count-le-WINDOWS : goal.returns-then-count-le-WINDOWS
unfolding windows_in
returns-then-count-le-WINDOWS c =
    all_from_yields_List (λ w. window_allowed (window_in w)) _ _ _ c.all.ensures.ran (YieldsList-from_slice (take c.args.count c.args.windows.now) cc) (λ x b q k. search (rules, tests))
    ∙ all-take window_allowed window_in c.args.count c.args.windows.now 0 (omega arith) ∙ sym (few c.args.windows.now c.args.count c.if-count-le-WINDOWS.true)

pub returns-else-count-le-WINDOWS : goal.returns-else-count-le-WINDOWS
returns-else-count-le-WINDOWS c = lt-leb _ _ c.if-count-le-WINDOWS.false ∙ sym (many-windows _ _ c.if-count-le-WINDOWS.false)

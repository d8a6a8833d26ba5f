use Rattle.service.proofs.Whole.{window-none, window-some}
use Rattle.service.proofs.waits.awaits_window.Goals as goal

pub returns-then-c-eq0 : goal.returns-then-c-eq0
returns-then-c-eq0 c = window-none c.args.c _ c.if-c-eq0.true

pub returns : goal.returns
returns c = window-some c.args.c _ c.args.s c.args.told.now _ _ _ c.if-c-eq0.false c.requires.0 c.requires.1 c.requires.2 c.own_of.ensures c.rule9.ensures c.is_some.ensures

use Rattle.text.proofs.Stores.{wrote_as}
use Rattle.service.proofs.Whole.{told_of, awaited-is}
use Rattle.service.proofs.waits.put_awaited.Goals as goal

pub awaits_window-window-requires : goal.awaits_window-window-requires
awaits_window-window-requires c = (c.requires.3, told_of c.args.c c.args.ring c.requires.1 _ _ _ _ _ c.requires.2 _ _ c.min.ensures c.tell_notices.ensures, c.requires.4)

pub returns : goal.returns
returns c = (wrote_as (awaited-is c.args.c c.args.ring c.requires.1 _ _ _ _ _ c.requires.2 c.args.s c.requires.3 _ c.awaits_window-window.ensures) c.put_waits.ensures.0, c.put_waits.ensures.1)

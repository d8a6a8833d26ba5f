use Rattle.views.proofs.Sets.{note-bit}
use Rattle.views.proofs.words.note.Goals as goal

pub returns-then-o : goal.returns-then-o
returns-then-o c = note-bit _ _ _ c.if-yes.true c.if-o.true

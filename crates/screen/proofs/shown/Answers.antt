use native.Mathlib.Omega.{arith}
use mathlib.Core.Path.{sym, ◌∙◌}
use Rattle.evidence.proofs.Senders.{senders-count}
use Rattle.screen.proofs.ScreenLaws.{few-views, shows, shows_nothing}
use Rattle.screen.proofs.shown.Goals as goal

pub returns-then-out-lt-SHOWN_BYTES : goal.returns-then-out-lt-SHOWN_BYTES
returns-then-out-lt-SHOWN_BYTES c = shows_nothing _ _ _ _ (omega arith)

pub put_evidence-requires : goal.put_evidence-requires
put_evidence-requires c = (omega arith, omega arith, few-views _ _ _ _ _ _ _ c.of_record-e.ensures.0, c.of_record-e.ensures.1)

pub returns : goal.returns
returns c = shows _ _ _ _ _ _ _ c.of_record-e.ensures.0 _ (c.min-n.ensures ∙ sym (senders-count _ _)) _ _ _ (omega arith) c.put_evidence.ensures

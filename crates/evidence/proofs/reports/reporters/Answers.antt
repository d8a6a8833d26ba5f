use mathlib.Core.Path.{sym, ◌∙◌}
use Rattle.evidence.proofs.Senders.{senders-count}
use Rattle.evidence.proofs.Reporting as laws
use Rattle.evidence.proofs.reports.reporters.Goals as goal

pub signers_on-requires : goal.signers_on-requires
signers_on-requires c = laws.usable _ _ _ _ _ _ _ c.requires c.args.ring (sym (senders-count _ _)) _ _ _ c.list-known.ensures _ c.judge_by.ensures

pub returns : goal.returns
returns c = c.signers_on.ensures ∙ laws.reports-signers _ _ _ _ _ _ _ c.requires c.args.ring (sym (senders-count _ _)) _ _ _ c.list-known.ensures _ c.judge_by.ensures _

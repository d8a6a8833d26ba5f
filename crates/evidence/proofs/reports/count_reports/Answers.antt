use mathlib.Core.Path.{sym, ◌∙◌}
use Rattle.evidence.proofs.Senders.{senders-count}
use Rattle.evidence.proofs.Reporting as laws
use Rattle.evidence.proofs.reports.count_reports.Goals as goal

pub count_on-requires : goal.count_on-requires
count_on-requires c = laws.usable _ _ _ _ _ _ _ c.requires c.args.ring (sym (senders-count _ _)) _ _ _ c.list-known.ensures _ c.judge_by.ensures

pub returns : goal.returns
returns c = c.count_on.ensures ∙ laws.reports-count _ _ _ _ _ _ _ c.requires c.args.ring (sym (senders-count _ _)) _ _ _ c.list-known.ensures _ c.judge_by.ensures _

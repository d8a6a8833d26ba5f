use mathlib.Core.Path.{sym, ◌∙◌}
use Rattle.evidence.proofs.Senders.{senders-count}
use Rattle.evidence.proofs.Reporting as laws
use Rattle.evidence.proofs.merging.list_counted.Goals as goal

pub needed-n-requires : goal.needed-n-requires
needed-n-requires c = laws.length_most _ _ _ _ _ _ _ c.requires

pub among_in-requires : goal.among_in-requires
among_in-requires c = (c.needed-n.ensures.most, laws.usable _ _ _ _ _ _ _ c.requires c.args.ring (sym (senders-count _ _)) _ _ _ c.list-known.ensures _ c.judge_by.ensures)

pub returns : goal.returns
returns c = c.among_in.ensures ∙ laws.reports-there _ _ _ _ _ _ _ c.requires c.args.ring (sym (senders-count _ _)) _ _ _ c.list-known.ensures _ _ c.needed-n.ensures _ c.judge_by.ensures

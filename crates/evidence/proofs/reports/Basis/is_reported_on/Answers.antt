use Rattle.evidence.proofs.Reporting as laws
use Rattle.evidence.proofs.reports.Basis.is_reported_on.Goals as goal

pub returns : goal.returns
returns c = laws.reported-quorum _ _ _ _ _ _ _ c.count_on.ensures

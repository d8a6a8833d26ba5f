use Rattle.evidence.proofs.Kept as laws
use Rattle.evidence.proofs.certificates.end.Goals as goal

pub returns-then-n-lt-GROUPS : goal.returns-then-n-lt-GROUPS
returns-then-n-lt-GROUPS c = λ W ids r. laws.ended-room W ids _ _ c.told-groups c.if-n-lt-GROUPS.true r

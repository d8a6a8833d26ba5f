use Rattle.evidence.proofs.Merges as laws
use Rattle.evidence.proofs.binding.both.Goals as goal

pub returns-in-Unbound : goal.returns-in-Unbound
returns-in-Unbound c = laws.both-second _ c.args.b c.in-Unbound.is

pub returns-in-Barred : goal.returns-in-Barred
returns-in-Barred c = laws.both-barred _ c.args.b c.in-Barred.is

use mathlib.Core.Path.{refl}
use Rattle.evidence.proofs.Unvoted as laws
use Rattle.evidence.proofs.summary.unvoted.Goals as goal

pub returns : goal.returns
returns c = (λ senders X P most none w. laws.unvoted _ X none _ senders c.args.candidates.now c.args.greatest.now P most (c.told-candidates, refl) (c.told-greatest, refl) w, refl)

use mathlib.Core.Path.{refl}
use Rattle.evidence.proofs.Payloads as laws
use Rattle.evidence.proofs.prepares.add.Goals as goal

pub returns : goal.returns
returns c = laws.prepare-added _ _ c.requires c.set_key.ensures c.set_key-2.ensures c.link.ensures c.payload.ensures refl c.notice_of-j.ensures.0

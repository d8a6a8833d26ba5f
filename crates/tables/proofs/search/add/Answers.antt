use Rattle.tables.proofs.Chains.{added}
use Rattle.tables.proofs.search.add.Goals as goal

pub returns : goal.returns
returns c = added c.requires.0 c.requires.1 c.set_key.ensures c.set_number.ensures c.slot.ensures.0 c.slot.ensures.1 c.link.ensures

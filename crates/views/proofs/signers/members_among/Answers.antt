use Rattle.views.proofs.Signing.{among}
use Rattle.views.proofs.signers.members_among.Goals as goal

pub returns : goal.returns
returns c = among _ _ _ c.of_word.ensures c.members.ensures _

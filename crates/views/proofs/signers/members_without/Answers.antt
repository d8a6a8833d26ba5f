use Rattle.views.proofs.Signing.{without}
use Rattle.views.proofs.signers.members_without.Goals as goal

pub returns : goal.returns
returns c = without _ _ _ c.of_word.ensures c.members-m.ensures _

use native.Mathlib.Omega.{arith}
use Rattle.text.proofs.Stores.{both, wrote_as}
use Rattle.service.specs.Service.{members_text}
use Rattle.service.proofs.ServiceLaws.{members-numbers}
use Rattle.service.proofs.sets.put_members.Goals as goal

pub returns : goal.returns
unfolding members_text
returns c = (both c.put_view-a.ensures.0 (wrote_as (members-numbers _ c.args.v _ c.members.ensures c.of_word.ensures) c.put_numbers.ensures.0), omega (arith, c.put_view-a.ensures.1, c.put_numbers.ensures.1))

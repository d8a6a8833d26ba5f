use native.Mathlib.Omega.{arith}
use mathlib.Core.Path.{refl}
use Rattle.votes.proofs.Alike.{word-of}
use Rattle.votes.proofs.keys.vote_of.Goals as goal

pub what_of-requires : goal.what_of-requires
what_of-requires c = c.requires

pub returns : goal.returns
returns c = (refl, record { at = word-of _ _ (omega arith) c.at.ensures; what = c.what_of.ensures; tag = c.tag_of.ensures.0 }, c.tag_of.ensures.1)

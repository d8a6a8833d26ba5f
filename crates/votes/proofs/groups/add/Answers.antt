use native.Mathlib.Omega.{arith}
use mathlib.Core.Path.{sym, ◌∙◌}
use Rattle.votes.proofs.Gathering.{sofar-skip, sofar-old, sofar-new, grouped}
use Rattle.votes.proofs.groups.add.Goals as goal

pub returns-then-not-is_vote : goal.returns-then-not-is_vote
returns-then-not-is_vote c = sofar-skip _ _ c.requires.0 c.requires.1 _ c.is_vote.ensures c.if-not-is_vote.true

pub vote_of-v-requires : goal.vote_of-v-requires
vote_of-v-requires c = sym c.is_vote.ensures ∙ c.if-not-is_vote.false

pub find-requires : goal.find-requires
find-requires c = record { key = c.vote_of-v.ensures.1; groups = (_, grouped _ _ c.requires.1) }

pub offset_bounds-groups-g : goal.offset_bounds-groups-g
offset_bounds-groups-g c = omega (arith, c.requires.1.groups.most, ((c.find.ensures _ (grouped _ _ c.requires.1)).here _ c.in-Some.is).0)

pub bounds-groups-g : goal.bounds-groups-g
bounds-groups-g c = omega (arith, c.requires.1.groups.most, ((c.find.ensures _ (grouped _ _ c.requires.1)).here _ c.in-Some.is).0)

pub sign-requires : goal.sign-requires
sign-requires c = omega (arith, c.requires.0)

pub returns-in-Some : goal.returns-in-Some
returns-in-Some c = sofar-old _ _ c.requires.0 c.requires.1 c.vote_of-v.result _ _ c.vote_of-v.ensures.0 (c.find.ensures _ (grouped _ _ c.requires.1)) c.origin-o.ensures.0 _ _ c.in-Some.is c.sign.ensures

pub returns : goal.returns
returns c = sofar-new _ _ c.requires.0 c.requires.1 c.vote_of-v.result _ _ c.vote_of-v.ensures.0 (c.find.ensures _ (grouped _ _ c.requires.1)) c.origin-o.ensures.0 _ _ _ _ c.in_default.is c.is_vote.ensures c.if-not-is_vote.false c.vote_of-v.ensures.1 c.set_key.ensures c.set_key-2.ensures (record { unsigned = c.unsigned.ensures.0; place = c.unsigned.ensures.1; tag = c.unsigned.ensures.2 }) c.sign-2.ensures c.slot_of.ensures.0 c.slot_of.ensures.1 c.link.ensures

use native.Mathlib.Omega.{arith}
use Rattle.std.proofs.Common.{of_calls}
use Rattle.votes.specs.Keys.{has_words}
use Rattle.tables.proofs.Searches.{rows-to-less}
use Rattle.votes.proofs.Searches.{searched-first, searched-next, along-first, along-next, leads, found-words, not-names, found_at, none_found}
use Rattle.votes.proofs.groups.find.Goals as goal

pub find-at-requires-clause-linked : goal.find-at-requires-clause-linked
find-at-requires-clause-linked c = leads c.requires.groups.1 c.args.v (along-first c.requires.groups.1 c.args.v c.slot_of.ensures.0 c.slot_of.ensures.1 c.newest-newest.ensures)

pub loop-at-init : goal.loop-at-init
loop-at-init c = λ n ok. searched-first ok.worded c.requires.key (found-words ok c.args.v (along-first ok c.args.v c.slot_of.ensures.0 c.slot_of.ensures.1 c.newest-newest.ensures) (c.find-at.ensures (has_words c.args.keys.now c.args.groups.now c.args.v) (λ row b l post. search of_calls)))

-- the group that the search has come to
pub offset_bounds-groups-g : goal.offset_bounds-groups-g
offset_bounds-groups-g c = omega (arith, c.requires.groups.1.few, ((c.loop-at.invariant _ c.requires.groups.1).here _ c.in-Some.is).0)

pub bounds-groups-g : goal.bounds-groups-g
bounds-groups-g c = omega (arith, c.requires.groups.1.few, ((c.loop-at.invariant _ c.requires.groups.1).here _ c.in-Some.is).0)

pub offset_bounds-ids-f : goal.offset_bounds-ids-f
offset_bounds-ids-f c = omega (arith, c.place_of-f.ensures, c.requires.groups.1.worded.place _ ((c.loop-at.invariant _ c.requires.groups.1).here _ c.in-Some.is).0)

pub bounds-ids-f : goal.bounds-ids-f
bounds-ids-f c = omega (arith, c.place_of-f.ensures, c.requires.groups.1.worded.place _ ((c.loop-at.invariant _ c.requires.groups.1).here _ c.in-Some.is).0)

pub returns-then-same_names : goal.returns-then-same_names
returns-then-same_names c = λ n ok. (let h = (c.loop-at.invariant n ok).here _ c.in-Some.is in found_at ok.worded c.requires.key _ _ h.0 h.1 c.place_of-f.ensures c.same_names.ensures c.if-same_names.true)

pub older-before-requires : goal.older-before-requires
older-before-requires c = (omega arith, omega (arith, c.requires.groups.1.few, ((c.loop-at.invariant _ c.requires.groups.1).here _ c.in-Some.is).0))

pub find-at-requires-in-Some-clause-linked : goal.find-at-requires-in-Some-clause-linked
find-at-requires-in-Some-clause-linked c = leads c.requires.groups.1 c.args.v (along-next c.requires.groups.1 c.args.v ((c.loop-at.invariant _ c.requires.groups.1).here _ c.in-Some.is) c.older-before.ensures)

pub loop-at-smaller : goal.loop-at-smaller
loop-at-smaller c = rows-to-less c.in-Some.is (found-words c.requires.groups.1 c.args.v (along-next c.requires.groups.1 c.args.v ((c.loop-at.invariant _ c.requires.groups.1).here _ c.in-Some.is) c.older-before.ensures) (c.find-at-in-Some.ensures (has_words c.args.keys.now c.args.groups.now c.args.v) (λ row b l post. search of_calls)))

pub loop-at-preserved : goal.loop-at-preserved
loop-at-preserved c = λ n ok. searched-next ok.worded c.requires.key (c.loop-at.invariant n ok) c.in-Some.is
    (not-names ok.worded c.requires.key _ _ c.place_of-f.ensures c.same_names.ensures c.if-same_names.false)
    (found-words ok c.args.v (along-next ok c.args.v ((c.loop-at.invariant n ok).here _ c.in-Some.is) c.older-before.ensures) (c.find-at-in-Some.ensures (has_words c.args.keys.now c.args.groups.now c.args.v) (λ row b l post. search of_calls)))

pub returns : goal.returns
returns c = λ n ok. none_found (c.loop-at.invariant n ok) c.in_default.is

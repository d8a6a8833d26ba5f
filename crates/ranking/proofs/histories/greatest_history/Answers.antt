use native.Mathlib.Omega.{arith}
use borrow.Author.Tests.{not-true, not-false}
use Rattle.ranking.specs.Slots.{history_scale}
use Rattle.ranking.proofs.Slots.{slots-first}
use Rattle.ranking.proofs.Summits as laws
use Rattle.ranking.proofs.histories.greatest_history.Goals as goal

pub returns-in_default : goal.returns-in_default
returns-in_default g c = λ X h. laws.alone _ X _ _ _ _ h c.args.out.now (omega arith) c.in_default.ensures

pub number-base-requires : goal.number-base-requires
number-base-requires g c = (omega arith, omega (arith, c.in-Some.ensures.most, c.requires))

pub fill_lengths-requires : goal.fill_lengths-requires
fill_lengths-requires g c = (c.requires, slots-first (history_scale _) _ _ _ (laws.views-short _ _))

pub returns-then-not-fill_lengths : goal.returns-then-not-fill_lengths
returns-then-not-fill_lengths g c = λ X h. rw c.apart.ensures (laws.clash-conflict _ X _ _ _ _ h _ _ (c.in-Some.ensures.most) c.in-Some.ensures.is c.number-base.ensures (c.fill_lengths.ensures.bad (not-true _ c.if-not-fill_lengths.true-raw)) _ _ _)

pub returns-in_default-link_lengths : goal.returns-in_default-link_lengths
returns-in_default-link_lengths g c = λ X h. rw c.apart-in_default-link_lengths.ensures (laws.broken-conflict _ X _ _ _ _ h _ _ (c.in-Some.ensures.most) c.in-Some.ensures.is c.number-base.ensures _ (c.fill_lengths.ensures.good (not-false _ c.if-not-fill_lengths.false-raw)) c.in_default-link_lengths.ensures _ _ _)

pub skipped-skipped-requires : goal.skipped-skipped-requires
skipped-skipped-requires g c = laws.copied-short _ _ _ _ c.copy_views-length.ensures

pub returns : goal.returns
returns g c = λ X h. laws.summit-either _ X _ _ _ _ h _ _ (c.in-Some.ensures.most) c.in-Some.ensures.is c.number-base.ensures _ (c.fill_lengths.ensures.good (not-false _ c.if-not-fill_lengths.false-raw)) _ _ c.in-Some-link_lengths.ensures.chain.1 _ _ c.copy_views-length.ensures _ _ c.skipped-skipped.ensures c.in-Some-link_lengths.ensures.starts

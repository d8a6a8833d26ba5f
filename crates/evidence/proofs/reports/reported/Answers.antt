use native.Mathlib.Omega.{arith}
use mathlib.Core.Path.{◌≡◌, refl, sym}
use lib.ListN.{take}
use Rattle.views.specs.View.{views_of}
use Rattle.evidence.proofs.Taken.{below-taken, end-taken, views-taken}
use Rattle.evidence.proofs.Senders.{senders-count}
use Rattle.evidence.proofs.Reporting as laws
use Rattle.evidence.proofs.reports.reported.Goals as goal

pub needed-n-requires : goal.needed-n-requires
needed-n-requires c = laws.length_most _ _ _ _ _ _ _ c.requires

pub loop-u-init : goal.loop-u-init
loop-u-init c = laws.views-first _ _ _ _ _ _

pub is_reported_on-requires : goal.is_reported_on-requires
is_reported_on-requires c = laws.usable _ _ _ _ _ _ _ c.requires c.args.ring (sym (senders-count _ _)) _ _ _ c.list-known.ensures _ c.judge_by.ensures

pub returns-then-not-is_reported_on : goal.returns-then-not-is_reported_on
returns-then-not-is_reported_on c =
    let l = below-taken _ _ c.needed-n.new.needed c.loop-u-test.true in
    laws.reported-all _ _ _ _ _ _ _ c.requires c.args.ring (sym (senders-count _ _)) _ _ _ c.list-known.ensures _ _ c.needed-n.ensures _ c.judge_by.ensures _ c.reports_in.ensures _ (let full : views_of (take c.needed-n.result c.needed-n.new.needed) c.needed-n.result ≡ views_of c.needed-n.new.needed c.needed-n.result = views-taken c.needed-n.result c.needed-n.new.needed in rw full at (laws.views-miss _ _ _ _ _ (take c.needed-n.result c.needed-n.new.needed) _ _ _ refl c.is_reported_on.ensures c.needed-n.result l c.if-not-is_reported_on.true))

pub loop-u-preserved : goal.loop-u-preserved
loop-u-preserved c = laws.views-more _ _ _ _ _ _ _ _ _ refl c.is_reported_on.ensures c.if-not-is_reported_on.false c.loop-u.invariant

pub returns : goal.returns
returns c = laws.reported-all _ _ _ _ _ _ _ c.requires c.args.ring (sym (senders-count _ _)) _ _ _ c.list-known.ensures _ _ c.needed-n.ensures _ c.judge_by.ensures _ c.reports_in.ensures _ (let full : views_of (take c.needed-n.result c.needed-n.new.needed) c.needed-n.result ≡ views_of c.needed-n.new.needed c.needed-n.result = views-taken c.needed-n.result c.needed-n.new.needed in rw full at (laws.views-all _ _ _ _ _ _ c.needed-n.result (take c.needed-n.result c.needed-n.new.needed) (end-taken _ _ _ (omega (arith, c.needed-n.ensures.most)) c.loop-u.auto.u-index-end c.loop-u-test.false) c.loop-u.invariant))

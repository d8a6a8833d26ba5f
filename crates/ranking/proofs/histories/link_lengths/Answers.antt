use native.Mathlib.Omega.{arith}
use mathlib.Core.Path.{refl, sym, ap, ◌∙◌, subst}
use mathlib.Core.Bool.{false≢true}
use lib.Dec.{T}
use lib.ListN.{get_or}
use Rattle.protocol.specs.History.{Holds}
use Rattle.pool.specs.Pool.{stmt_at}
use Rattle.std.specs.Prelude.{is_some, unwrap_or}
use Rattle.protocol.proofs.Asked.{says_holds}
use Rattle.ranking.specs.Slots.{history_scale, start_scale}
use Rattle.ranking.proofs.Slots as laws
use Rattle.ranking.proofs.Skips.{starts-same, starts-trans, starts-holds}
use Rattle.ranking.proofs.Summits.{views-length, same-held, held-trans, links_end}
use Rattle.ranking.proofs.histories.link_lengths.Goals as goal
use Rattle.ranking.proofs.histories.link_lengths.Goals.{in-Some+then-not-starts_with+else-not-has_views, in-Some+else-not-starts_with, in_default}

pub loop-k-init : goal.loop-k-init
loop-k-init c = (laws.chain_first (history_scale _) _ _, λ h. laws.chain_first (start_scale _) _ _)

pub loop-k-preserved-then-count-k : goal.loop-k-preserved-then-count-k
loop-k-preserved-then-count-k c = (
  laws.chain-skip (history_scale c.args.words.now) _ _ _ _ _ _ refl (views-length _ _ _ c.count.ensures.0) c.if-count-k.true c.loop-k.invariant.0,
  λ h. laws.chain-skip (start_scale c.args.words.now) _ _ _ _ _ _ refl (views-length _ _ _ c.count.ensures.0) c.if-count-k.true (c.loop-k.invariant.1 h),
)

pub returns-then-not-has_views : goal.returns-then-not-has_views
returns-then-not-has_views c =
    laws.chain-stop (history_scale c.args.words.now) _ _ _ _ _ _ refl (views-length _ _ _ c.count.ensures.0) c.if-count-k.false c.loop-k.invariant.0 c.loop-k-test.true (ap is_some c.in-Some.is)
    (λ q. subst T (sym c.has_views.ensures ∙ c.if-not-has_views.true) ((says_holds _ _).complete (subst (λ u. Holds (stmt_at c.args.words.now (get_or c.args.slots.now c.loop-k.k 0)).views (stmt_at c.args.words.now (unwrap_or u 0)).views) c.in-Some.is q)))

pub loop-k-preserved : goal.loop-k-preserved
loop-k-preserved c = elim c.match-last.branch [
  | in-Some+then-not-starts_with+else-not-has_views w ↦ (
    laws.chain_on (history_scale c.args.words.now) w.in-Some.is (views-length _ _ _ c.count.ensures.0) c.if-count-k.false c.loop-k.invariant.0 same-held held-trans ((says_holds _ _).sound (subst T (sym (sym w.has_views.ensures ∙ w.if-not-has_views.false)) tt)),
    λ h. absurd (false≢true (sym w.steady-is ∙ h)),
  )
  | in-Some+else-not-starts_with w ↦ (
    laws.chain_on (history_scale c.args.words.now) w.in-Some.is (views-length _ _ _ c.count.ensures.0) c.if-count-k.false c.loop-k.invariant.0 same-held held-trans (starts-holds (w.starts_with.ensures w.if-not-starts_with.false)),
    λ h. laws.chain_on (start_scale c.args.words.now) w.in-Some.is (views-length _ _ _ c.count.ensures.0) c.if-count-k.false (c.loop-k.invariant.1 (sym w.steady-is ∙ h)) starts-same starts-trans (w.starts_with.ensures w.if-not-starts_with.false),
  )
  | in_default w ↦ (
    laws.chain-start (history_scale c.args.words.now) _ _ _ _ _ _ refl (views-length _ _ _ c.count.ensures.0) c.if-count-k.false c.loop-k.invariant.0 same-held (ap is_some w.in_default.is),
    λ h. laws.chain-start (start_scale c.args.words.now) _ _ _ _ _ _ refl (views-length _ _ _ c.count.ensures.0) c.if-count-k.false (c.loop-k.invariant.1 (sym w.steady-is ∙ h)) starts-same (ap is_some w.in_default.is),
  )
]

pub returns : goal.returns
returns c = rw c.unwrap_or.ensures (links_end _ _ _ _ _ _ (omega arith) c.loop-k.invariant.0 c.loop-k.invariant.1)

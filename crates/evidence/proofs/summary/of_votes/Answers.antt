use native.Mathlib.Omega.{arith}
use Rattle.tables.proofs.Chains.{empty-made}
use Rattle.sealing.proofs.Judged.{blank-made}
use mathlib.Core.Path.{◌≡◌, subst}
use Rattle.pool.specs.Pool.{record_in}
use Rattle.evidence.specs.Shown.{BackedIn}
use Rattle.evidence.proofs.Senders.{senders-most}
use Rattle.evidence.proofs.Tied as laws
use Rattle.evidence.proofs.summary.of_votes.Goals as goal

pub gather-found-requires : goal.gather-found-requires
gather-found-requires c = (empty-made 0 (omega arith), empty-made 1 (omega arith))

pub verdicts-requires : goal.verdicts-requires
verdicts-requires c = (c.tabulate-counts.ensures, blank-made 1024)

pub returns : goal.returns
returns c = (c.tie.ensures.0 _ _ (record_in c.args.words.now c.args.ids.now) _ _ _ (senders-most _ _) c.gather-found.ensures.wished (c.rank-r.ensures _ (laws.choices-marked _ _ _ _ _ _ _ _ c.tabulate-counts.ensures c.verdicts.ensures)) (c.greatest_history-h.ensures _ (laws.agreements-marked _ _ _ _ _ _ _ _ c.tabulate-counts.ensures c.verdicts.ensures)) c.certificates-c.ensures c.stored-stored.ensures, subst (BackedIn _ _ _ _) (let e : c.keep_backed-n.result ≡ c.tie.result.backed = omega (arith, c.tie.ensures.1, c.keep_backed-n.ensures.most) in e) c.keep_backed-n.ensures)

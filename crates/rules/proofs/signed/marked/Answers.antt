use native.Mathlib.Omega.{arith}
use mathlib.Core.Path.{sym, subst}
use Prim.Native.Nat.{◌+◌}
use Rattle.pool.specs.Pool.{record_up_to}
use Rattle.pool.proofs.Records.{entry}
use Rattle.rules.specs.Rules.{Marks, Picks}
use Rattle.rules.proofs.Scans.{is-below, is-number, is-entry, is-end, marks-first, marks-next, marks-none, marks-whole}
use Rattle.rules.proofs.signed.marked.Goals as goal
use Rattle.rules.proofs.signed.marked.Goals.{in-Some, in_default}

pub loop-n-init : goal.loop-n-init
loop-n-init g c = λ W q p. marks-first _ _ _

pub loop-n-preserved : goal.loop-n-preserved
loop-n-preserved g c = λ W q p.
    let below = is-below W c.args.ids.now _ _ c.record_length.ensures.0 c.told-ids c.loop-n-test.true in
    let number = is-number W c.args.ids.now _ _ c.record_length.ensures.0 c.told-ids c.loop-n-test.true in
    let picked : Picks q (entry W c.args.ids.now c.loop-n.n-index) c.pick.result =
    subst (λ s. Picks q s c.pick.result) (is-entry W c.args.ids.now _ _ c.record_length.ensures.0 c.told-ids c.loop-n-test.true) (p _ c.pick.result (omega (arith, number, c.fits-ids c.loop-n.n-index)) c.pick.ensures) in
    elim c.match-pick.branch [
      | in-Some w ↦ subst (λ r. Marks q (record_up_to W c.args.ids.now (c.loop-n.n-index + 1)) r) (sym w.set-is)
          (marks-next q W c.args.ids.now (omega (arith, below)) (c.loop-n.invariant W q p) (subst (Picks q (entry W c.args.ids.now c.loop-n.n-index)) w.in-Some.is picked) w.with_notice-set.ensures)
      | in_default w ↦ subst (λ r. Marks q (record_up_to W c.args.ids.now (c.loop-n.n-index + 1)) r) (sym w.set-is)
          (marks-none q W c.args.ids.now (omega (arith, below)) (c.loop-n.invariant W q p) (subst (Picks q (entry W c.args.ids.now c.loop-n.n-index)) w.in_default.is picked))
    ]

pub returns : goal.returns
returns g c = λ W q p. marks-whole _ _ _ _ _ _ (is-end W _ _ _ c.record_length.ensures.0 c.told-ids c.loop-n.auto.n-index-end c.loop-n-test.false) (c.loop-n.invariant W q p)

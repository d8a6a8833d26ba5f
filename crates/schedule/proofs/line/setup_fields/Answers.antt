use native.Mathlib.Omega.{arith}
use Rattle.schedule.proofs.Setups.{no-setup, setup-members, setup-count, setup-senders, setup-faulty, setup-many, setup-windows, setup-more, setup-whole}
use Rattle.schedule.proofs.line.setup_fields.Goals as goal

pub returns-in_err-members : goal.returns-in_err-members
returns-in_err-members c = rw c.from_residual.ensures (no-setup _ _ _ (setup-members c.args.line.now c.in_err-members.ensures))

pub returns-in_err-count : goal.returns-in_err-count
returns-in_err-count c = rw c.from_residual-in_err-count.ensures (no-setup _ _ _ (setup-count c.args.line.now c.in_ok-members.members c.in_ok-members.ensures c.in_err-count.ensures))

pub returns-in_err-named : goal.returns-in_err-named
returns-in_err-named c = rw c.from_residual-in_err-named.ensures (no-setup _ _ _ (setup-senders c.args.line.now c.in_ok-members.members c.in_ok-members.ensures c.in_ok-count.count c.in_ok-count.ensures _ c.in_err-named.ensures))

pub returns-in_err-faulty : goal.returns-in_err-faulty
returns-in_err-faulty c = rw c.from_residual-in_err-faulty.ensures (no-setup _ _ _ (setup-faulty c.args.line.now c.in_ok-members.members c.in_ok-members.ensures c.in_ok-count.count c.in_ok-count.ensures _ _ c.in_ok-named.ensures c.in_err-faulty.ensures))

pub returns-in_err-many : goal.returns-in_err-many
returns-in_err-many c =
    rw c.from_residual-in_err-many.ensures
    (no-setup _ _ _ (setup-many c.args.line.now c.in_ok-members.members c.in_ok-members.ensures c.in_ok-count.count c.in_ok-count.ensures _ _ c.in_ok-named.ensures c.in_ok-faulty.faulty c.in_ok-faulty.ensures c.in_err-many.ensures))

pub returns-in_err-last : goal.returns-in_err-last
returns-in_err-last c =
    rw c.from_residual-in_err-last.ensures
    (no-setup _ _ _ (setup-windows c.args.line.now c.in_ok-members.members c.in_ok-members.ensures c.in_ok-count.count c.in_ok-count.ensures _ _ c.in_ok-named.ensures c.in_ok-faulty.faulty c.in_ok-faulty.ensures c.in_ok-many.many c.in_ok-many.ensures _ c.in_err-last.ensures))

pub returns-then-last-line : goal.returns-then-last-line
returns-then-last-line c =
    no-setup _ _ _ (setup-more c.args.line.now c.in_ok-members.members c.in_ok-members.ensures c.in_ok-count.count c.in_ok-count.ensures _ _ c.in_ok-named.ensures c.in_ok-faulty.faulty c.in_ok-faulty.ensures c.in_ok-many.many c.in_ok-many.ensures _ _ c.in_ok-last.ensures c.if-last-line.true)

pub overflow_cast-result : goal.overflow_cast-result
overflow_cast-result c = omega (arith, c.in_ok-members.ensures.low)

pub returns : goal.returns
returns c =
    setup-whole c.args.line.now c.in_ok-members.members c.in_ok-members.ensures c.in_ok-count.count c.in_ok-count.ensures _ _ c.in_ok-named.ensures c.in_ok-faulty.faulty c.in_ok-faulty.ensures c.in_ok-many.many c.in_ok-many.ensures _ _ c.in_ok-last.ensures c.requires c.if-last-line.false

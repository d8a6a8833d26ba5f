use Rattle.statements.proofs.GroupLaws.{payload-no-binding, payload-none, payload-no-stored, payload-no-kept, payload-from}
use Rattle.statements.proofs.groups.payload_at.Goals as goal

pub returns-in_err-binding : goal.returns-in_err-binding
returns-in_err-binding c = rw c.from_residual.ensures (payload-no-binding c.args.s.now c.args.at c.in_err-binding.ensures)

pub returns-in_err-payload : goal.returns-in_err-payload
returns-in_err-payload c = rw c.from_residual-in_err-payload.ensures (payload-none c.args.s.now c.args.at c.in_ok-binding.binding c.in_ok-binding.ensures c.in_err-payload.ensures)

pub returns-in_err-stored : goal.returns-in_err-stored
returns-in_err-stored c = rw c.from_residual-in_err-stored.ensures (payload-no-stored c.args.s.now c.args.at c.in_ok-binding.binding c.in_ok-binding.ensures c.in_ok-payload.payload c.in_ok-payload.ensures c.in_err-stored.ensures)

pub returns-in_err-kept : goal.returns-in_err-kept
returns-in_err-kept c = rw c.from_residual-in_err-kept.ensures (payload-no-kept c.args.s.now c.args.at c.in_ok-binding.binding c.in_ok-binding.ensures c.in_ok-payload.payload c.in_ok-payload.ensures c.in_ok-stored.stored c.in_ok-stored.ensures c.in_err-kept.ensures)

pub returns : goal.returns
returns c = payload-from c.args.s.now c.args.at c.in_ok-binding.binding c.in_ok-binding.ensures c.in_ok-payload.payload c.in_ok-payload.ensures c.in_ok-stored.stored c.in_ok-stored.ensures c.in_ok-kept.kept c.in_ok-kept.ensures

use Rattle.statements.proofs.Statements.{head-refused, told-refused, tail-refused, parse-of}
use Rattle.statements.proofs.parse.Goals as goal

pub returns-in_err-head : goal.returns-in_err-head
returns-in_err-head c = rw c.from_residual.ensures (head-refused _ _ _ c.in_err-head.ensures)

pub returns-in_err-told : goal.returns-in_err-told
returns-in_err-told c = rw c.from_residual-in_err-told.ensures (told-refused _ _ _ c.in_ok-head.head.value _ c.in_ok-head.ensures c.in_err-told.ensures)

pub returns-in_err-history : goal.returns-in_err-history
returns-in_err-history c = rw c.from_residual-in_err-history.ensures (tail-refused _ _ _ c.in_ok-head.head.value _ c.in_ok-head.ensures _ _ c.in_ok-told.ensures c.in_err-history.ensures.read)

pub returns : goal.returns
returns c = parse-of _ _ _ c.in_ok-head.head.value _ c.in_ok-head.ensures _ _ c.in_ok-told.ensures c.in_ok-history.history c.in_ok-history.ensures.read c.in_ok-history.ensures.count

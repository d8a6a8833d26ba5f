use Rattle.statements.proofs.Statements.{head-no-kind, head-no-origin, head-no-at, head-no-view, head-no-notice, head-from}
use Rattle.statements.proofs.head_at.Goals as goal

pub returns-in_err-kind : goal.returns-in_err-kind
returns-in_err-kind c = rw c.from_residual.ensures (head-no-kind c.args.s.now _ c.read_dec.ensures c.in_err-kind.ensures)

pub returns-in_err-origin : goal.returns-in_err-origin
returns-in_err-origin c = rw c.from_residual-in_err-origin.ensures (head-no-origin c.args.s.now _ c.read_dec.ensures c.in_ok-kind.kind c.in_ok-kind.ensures c.in_err-origin.ensures)

pub returns-in_err-at : goal.returns-in_err-at
returns-in_err-at c = rw c.from_residual-in_err-at.ensures (head-no-at c.args.s.now _ c.read_dec.ensures c.in_ok-kind.kind c.in_ok-kind.ensures c.in_ok-origin.origin c.in_ok-origin.ensures c.in_err-at.ensures)

pub returns-in_err-view : goal.returns-in_err-view
returns-in_err-view c =
    rw c.from_residual-in_err-view.ensures (head-no-view c.args.s.now _ c.read_dec.ensures c.in_ok-kind.kind c.in_ok-kind.ensures c.in_ok-origin.origin c.in_ok-origin.ensures c.in_ok-at.at c.in_ok-at.ensures c.in_err-view.ensures)

pub returns-in_err-notice : goal.returns-in_err-notice
returns-in_err-notice c =
    rw c.from_residual-in_err-notice.ensures
    (head-no-notice c.args.s.now _ c.read_dec.ensures c.in_ok-kind.kind c.in_ok-kind.ensures c.in_ok-origin.origin c.in_ok-origin.ensures c.in_ok-at.at c.in_ok-at.ensures c.in_ok-view.view c.in_ok-view.ensures c.in_err-notice.ensures)

pub returns : goal.returns
returns c =
    head-from c.args.s.now _ c.read_dec.ensures c.in_ok-kind.kind c.in_ok-kind.ensures c.in_ok-origin.origin c.in_ok-origin.ensures c.in_ok-at.at c.in_ok-at.ensures c.in_ok-view.view c.in_ok-view.ensures c.in_ok-notice.notice c.in_ok-notice.ensures

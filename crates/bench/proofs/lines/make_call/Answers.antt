use Rattle.bench.proofs.Runs.{CameTo, came-changed, came-kept, came-refused, call-made}
use Rattle.bench.proofs.lines.make_call.Goals as goal
use Rattle.bench.proofs.lines.make_call.Goals.{in-Ok+then-changes, in-Ok+else-changes, in-Err}

pub call-came-requires : goal.call-came-requires
call-came-requires c = (c.requires.0, c.requires.1)

pub returns : goal.returns
returns c =
    let t : CameTo c.args.c.now c.call-came.result c.match-came.c c.match-came.a = elim c.match-came.branch [
      | in-Ok+then-changes w ↦ came-changed _ _ w.in-Ok.is w.changes.ensures w.if-changes.true w.c-is w.a-is
      | in-Ok+else-changes w ↦ came-kept _ _ w.in-Ok.is w.changes.ensures w.if-changes.false w.c-is w.a-is
      | in-Err w ↦ came-refused _ _ w.in-Err.is w.c-is w.a-is
    ] in
    call-made _ _ _ _ c.call-came.ensures t c.next_turn.ensures

use Rattle.bench.proofs.Runs.{put-answer}
use Rattle.bench.proofs.lines.put_step.Goals as goal

pub returns : goal.returns
returns c = put-answer c.args.rows.now c.args.place c.args.next c.args.who c.args.a c.args.number _ _ c.word_of.ensures c.value_of.ensures c.put_line.ensures

use Rattle.bench.proofs.Runs.{run-stepped}
use Rattle.bench.proofs.lines.run_line.Goals as goal

pub step-s-requires : goal.step-s-requires
step-s-requires c = (c.requires.0, c.requires.1, c.requires.2)

pub put_step-on-requires : goal.put_step-on-requires
put_step-on-requires c = (c.requires.3, c.step-s.ensures.stepped.who)

pub returns : goal.returns
returns c = run-stepped c.args.words.now c.args.ids.now c.args.place c.args.line c.args.text.now c.args.full c.args.rows.now c.requires.0 c.requires.4 c.step-s.ensures c.put_step-on.ensures c.known.ensures

use Rattle.sealing.proofs.Judged.{memos-first, known_kept, verdicts-of}
use Rattle.sealing.proofs.judge.verdicts.Goals as goal

pub judge_choices-requires : goal.judge_choices-requires
judge_choices-requires c = ((_, c.requires.0), memos-first c.requires.1)

pub judge_agreements-requires : goal.judge_agreements-requires
judge_agreements-requires c = ((_, c.requires.0), c.judge_choices.ensures.0.memos)

pub returns : goal.returns
returns c = verdicts-of c.requires.0 c.judge_agreements.ensures.0.memos (known_kept c.judge_choices.ensures.1 c.judge_agreements.ensures.0) c.judge_agreements.ensures.1

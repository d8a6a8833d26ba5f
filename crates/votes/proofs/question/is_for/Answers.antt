use mathlib.Core.Path.{◌∙◌}
use Rattle.votes.proofs.Questions.{notice-same}
use Rattle.votes.proofs.question.is_for.Goals as goal

pub returns-then-notice-from : goal.returns-then-notice-from
returns-then-notice-from c = λ d. notice-same _ _ _ _ _ c.notice.ensures.0 _ (c.if-notice-from.true ∙ c.from.ensures) c.payload.ensures d

use mathlib.Core.Path.{sym, subst, ◌∙◌}
use Rattle.evidence.specs.Shown.{BackedIn}
use Rattle.evidence.proofs.Senders.{senders-most}
use Rattle.evidence.proofs.Kept.{backed-none}
use Rattle.evidence.proofs.summary.of_record.Goals as goal

pub returns : goal.returns
returns c = (c.unvoted.ensures.0 _ _ _ (senders-most _ _) (sym c.has_votes.ensures ∙ c.if-has_votes.false) c.wished_by.ensures, subst (BackedIn _ _ _ _) (sym c.unvoted.ensures.1) (backed-none _ _ _ _ (sym c.has_votes.ensures ∙ c.if-has_votes.false)))

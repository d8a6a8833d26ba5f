use mathlib.Core.Path.{sym, subst}
use Rattle.protocol.specs.Statement.{is_kind}
use Rattle.protocol.specs.Evidence.{signs}
use Rattle.views.specs.Sets.{IsSet}
use Rattle.votes.proofs.Wished.{wish-is}
use Rattle.votes.proofs.wish.wished_view.Goals as goal

pub returns : goal.returns
returns c = λ X s t. wish-is _ X (record { view = c.of_word-first.ensures; joins = subst (λ x. IsSet x (signs (is_kind 1) X)) (sym c.low_half.ensures) s; leaves = subst (λ x. IsSet x (signs (is_kind 2) X)) (sym c.high_half.ensures) t; first = c.joined_set.ensures; second = c.left_set.ensures; joined = c.union-joined.ensures; left = c.union-left.ensures }) _ c.word.ensures

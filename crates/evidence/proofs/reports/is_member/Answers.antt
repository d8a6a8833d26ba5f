use mathlib.Core.Path.{refl, ap, ◌∙◌}
use native.Mathlib.Omega.{arith}
use Rattle.protocol.specs.View.{member}
use Rattle.views.proofs.Views.{view-whole}
use Rattle.evidence.proofs.reports.is_member.Goals as goal

pub overflow_cast-k : goal.overflow_cast-k
overflow_cast-k c = omega (arith, c.requires.0)

pub returns : goal.returns
returns c = c.has_member.ensures ∙ ap (λ u. member u c.args.k) (c.of_word.ensures ∙ view-whole _ refl c.requires.1)

use mathlib.Core.Path.{sym, ap, ◌∙◌}
use Rattle.protocol.specs.View.{size}
use Rattle.views.specs.View.{view_of}
use Rattle.ranking.proofs.candidates.slot_size.Goals as goal

pub returns-then-v-init : goal.returns-then-v-init
returns-then-v-init c = (c.requires.0 ∙ ap (λ x. size 16 (view_of x)) (sym c.if-v-init.true), c.requires.1)

use mathlib.Core.Path.{◌≡◌}
use mathlib.Core.Bool.{false}
use Rattle.protocol.specs.Lists.{any}
use Rattle.views.specs.Held.{view_is}
use Rattle.pool.specs.Pool.{record_in}
use Rattle.views.specs.View.{views_in}
use Rattle.rules.specs.Rules.{report_due}
use Rattle.rules.proofs.membership.rule1.Given as goal

abbrev pub invariant-loop-u : goal.invariant-loop-u
invariant-loop-u l = any (report_due (record_in l.words l.own) l.s.number (view_is l.s.top)) (views_in l.greatest l.u-index) ≡ false

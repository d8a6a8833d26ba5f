use mathlib.Core.Path.{refl, sym, ◌∙◌, subst}
use lib.Dec.{T}
use Rattle.ranking.proofs.histories.skipped.Goals as goal

pub returns-then-steady : goal.returns-then-steady
returns-then-steady c = record { none = λ e. refl; some = λ e. absurd (subst T (sym c.if-steady.true ∙ e) tt) }

pub passed-requires : goal.passed-requires
passed-requires c = c.requires

pub returns : goal.returns
returns c = record { none = λ e. absurd (subst T (sym e ∙ c.if-steady.false) tt); some = λ e. c.passed.ensures }

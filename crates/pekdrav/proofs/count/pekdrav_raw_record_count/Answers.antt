use mathlib.Core.Path.{ap, ◌∙◌}
use Rattle.pekdrav.specs.Counted.{count_words}
use Rattle.pekdrav.proofs.count.pekdrav_raw_record_count.Goals as goal

pub returns : goal.returns
returns c = c.tell.ensures ∙ ap count_words c.count.ensures

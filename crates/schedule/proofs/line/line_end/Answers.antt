use mathlib.Core.Path.{ap, ◌∙◌}
use lib.ListN.{length}
use Rattle.std.specs.Prelude.{unwrap_or}
use Rattle.schedule.proofs.Scan.{body-position}
use Rattle.schedule.proofs.line.line_end.Goals as goal

pub returns : goal.returns
returns c = c.unwrap_or.ensures ∙ ap (λ r. unwrap_or r (length c.args.s.now)) c.newline_in.ensures ∙ body-position c.args.s.now

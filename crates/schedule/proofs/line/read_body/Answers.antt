use mathlib.Core.Path.{refl}
use Rattle.schedule.specs.declared.verb.Verb.TheVariants.{Setup, Join, Leave, Send, Give, All, Turn, Lie}
use Rattle.schedule.proofs.Commands.{named_by, begins-by, unknown}
use Rattle.schedule.proofs.line.read_body.Goals as goal

pub is_setup-requires : goal.is_setup-requires
is_setup-requires c = begins-by c.args.line.now _ c.verb_of-verb.ensures Setup c.in-Setup.is

pub read_named-requires : goal.read_named-requires
read_named-requires c = named_by c.args.line.now _ c.verb_of-verb.ensures Join _ c.in-Join.is refl tt

pub read_named-requires-in-Leave : goal.read_named-requires-in-Leave
read_named-requires-in-Leave c = named_by c.args.line.now _ c.verb_of-verb.ensures Leave _ c.in-Leave.is refl tt

pub read_send-requires : goal.read_send-requires
read_send-requires c = begins-by c.args.line.now _ c.verb_of-verb.ensures Send c.in-Send.is

pub read_give-requires : goal.read_give-requires
read_give-requires c = begins-by c.args.line.now _ c.verb_of-verb.ensures Give c.in-Give.is

pub read_named-requires-in-All : goal.read_named-requires-in-All
read_named-requires-in-All c = named_by c.args.line.now _ c.verb_of-verb.ensures All _ c.in-All.is refl tt

pub read_turn-requires : goal.read_turn-requires
read_turn-requires c = begins-by c.args.line.now _ c.verb_of-verb.ensures Turn c.in-Turn.is

pub read_lie-requires : goal.read_lie-requires
read_lie-requires c = begins-by c.args.line.now _ c.verb_of-verb.ensures Lie c.in-Lie.is

pub returns-in-Unknown : goal.returns-in-Unknown
returns-in-Unknown c = unknown c.args.line.now _ c.verb_of-verb.ensures c.in-Unknown.is

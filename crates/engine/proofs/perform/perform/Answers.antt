use mathlib.Core.Path.{ap, subst}
use Rattle.std.specs.Prelude.{Ok}
use Rattle.engine.specs.Situation.{Known}
use Rattle.engine.proofs.Performs.{enter-is, deliver-is, ack-is, sign-is, signs-else}
use Rattle.engine.proofs.perform.perform.Goals as goal

pub enter-requires : goal.enter-requires
enter-requires c = c.requires.0

pub stored_by-set-requires : goal.stored_by-set-requires
stored_by-set-requires c = c.requires.2

pub deliver-requires : goal.deliver-requires
deliver-requires c = subst Known c.in-Deliver.is c.requires.1

pub statement-st-requires : goal.statement-st-requires
statement-st-requires c = c.requires.0.few

pub bind_and_sign-requires : goal.bind_and_sign-requires
bind_and_sign-requires c = (c.statement-st.ensures.short, subst Known c.in-Ack.is c.requires.1)

pub statement-st-requires-in_default : goal.statement-st-requires-in_default
statement-st-requires-in_default c = c.requires.0.few

pub sign-requires : goal.sign-requires
sign-requires c = c.statement-st-in_default.ensures.short

pub returns-in-Enter : goal.returns-in-Enter
returns-in-Enter c = enter-is _ _ c.args.c _ _ _ _ _ _ _ c.in-Enter.is (ap Ok c.enter.ensures.0) c.enter.ensures.1

pub returns-in-Deliver : goal.returns-in-Deliver
returns-in-Deliver c = deliver-is _ _ c.args.c _ _ _ _ _ _ _ _ _ c.in-Deliver.is (ap Ok c.deliver.ensures.0) c.deliver.ensures.1 c.requires.0.ring c.stored_by-set.ensures

pub returns-in-Ack : goal.returns-in-Ack
returns-in-Ack c = ack-is _ _ c.args.c _ _ _ _ _ _ _ _ _ _ _ c.in-Ack.is c.statement-st.ensures c.bind_and_sign.ensures

pub returns-in_default : goal.returns-in_default
returns-in_default c = sign-is _ _ c.args.c _ _ _ _ _ _ _ _ _ c.statement-st-in_default.ensures (signs-else _ _ _ _ _ c.in_default.not-Enter c.in_default.not-Ack c.in_default.not-Deliver) c.sign.ensures

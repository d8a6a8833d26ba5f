use mathlib.Core.Path.{refl, ap}
use Rattle.std.specs.Prelude.{Ok}
use Rattle.engine.proofs.Turned.{looking, choosing, performing, performed, rested}
use Rattle.engine.proofs.Controller.act.Goals as goal

pub of_controller-s-requires : goal.of_controller-s-requires
of_controller-s-requires c = looking _ _ c.args.self.now _ c.requires.0 _ _ _ c.args.e c.requires.1

pub first_rule-requires : goal.first_rule-requires
first_rule-requires c = choosing _ _ c.args.self.now _ c.requires.0 _ _ _ c.args.e c.requires.1 _ _ c.of_controller-s.ensures

pub perform-requires : goal.perform-requires
perform-requires c = performing _ _ c.args.self.now _ c.requires.0 _ _ _ c.args.e c.requires.1 _ _ c.of_controller-s.ensures _ _ c.min.ensures c.tell_all.ensures _ c.first_rule.ensures _ c.in-Some.is c.requires.2

pub returns-in_default : goal.returns-in_default
returns-in_default c = rested _ _ c.args.self.now _ c.requires.0 _ _ _ c.args.e c.requires.1 _ _ c.of_controller-s.ensures _ _ c.min.ensures c.tell_all.ensures _ c.first_rule.ensures _ c.in_default.is (ap Ok c.rest.ensures) refl

pub returns : goal.returns
returns c = performed _ _ c.args.self.now _ c.requires.0 _ _ _ c.args.e c.requires.1 _ _ c.of_controller-s.ensures _ _ c.min.ensures c.tell_all.ensures _ c.first_rule.ensures _ c.in-Some.is _ _ _ c.perform.ensures

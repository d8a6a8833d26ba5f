use Rattle.engine.proofs.Controller.turn.Goals as goal

pub returns : goal.returns
returns c = c.turn_in.ensures

use Rattle.schedule.proofs.Setups.{reads-setup, reads-no-setup}
use Rattle.schedule.proofs.line.is_setup.Goals as goal

pub returns-in_err-setup_fields : goal.returns-in_err-setup_fields
returns-in_err-setup_fields c = rw c.from_residual.ensures (reads-no-setup c.args.line.now c.requires _ _ c.in_err-setup_fields.ensures)

pub returns : goal.returns
returns c = reads-setup c.args.line.now c.requires _ _ _ c.in_ok-setup_fields.ensures

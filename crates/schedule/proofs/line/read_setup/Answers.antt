use mathlib.Core.Path.{sym, ◌∙◌}
use Rattle.schedule.proofs.Setups.{not-setup, setup-begins}
use Rattle.schedule.proofs.line.read_setup.Goals as goal

pub returns-then-not-starts_with : goal.returns-then-not-starts_with
returns-then-not-starts_with c = not-setup c.args.line.now _ _ (sym c.starts_with.ensures.value ∙ c.if-not-starts_with.true)

pub setup_fields-requires : goal.setup_fields-requires
setup_fields-requires c = setup-begins c.args.line.now (sym c.starts_with.ensures.value ∙ c.if-not-starts_with.false)

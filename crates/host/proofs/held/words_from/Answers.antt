use mathlib.Core.Path.{refl}
use Rattle.host.proofs.Loading.{loaded-part}
use Rattle.host.proofs.held.words_from.Goals as goal

pub returns : goal.returns
returns g c = loaded-part c.args.from g.row.N _ c.args.fields.now c.told-fields c.requires (λ i. refl) c.copy_from_slice.ensures.after

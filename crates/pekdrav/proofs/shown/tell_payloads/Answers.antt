use mathlib.Core.Path.{ap, ◌∙◌}
use borrow.Rule.Slice.PartMut.{put_mid}
use Rattle.pekdrav.proofs.Told.{payloads-long, last-written}
use Rattle.pekdrav.proofs.shown.tell_payloads.Goals as goal

pub returns : goal.returns
returns c = ap (put_mid 40 64 c.args.out.now) (c.copy_from_slice.ensures.after ∙ c.payloads_of.ensures) ∙ last-written _ _ c.told-out (payloads-long _ _)

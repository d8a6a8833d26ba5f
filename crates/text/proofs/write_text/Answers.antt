-- `text::write_text` meets its contract: what is copied stands between what was before it and what was after it. Assumes nothing.
use native.Mathlib.Omega.{arith}
use Prim.Native.Nat.{◌+◌, ◌-◌}
use mathlib.Core.Path.{◌≡◌, refl}
use mathlib.Core.List.{append_assoc}
use lib.ListN.{length}
use lib.Seq.{drop-drop}
use Rattle.std.proofs.lemmas.List.Edits.{sets-eq}
use Rattle.text.proofs.write_text.Goals as goal

pub returns : goal.returns
returns c =
    let e : c.args.at + length c.args.t.now - c.args.at ≡ length c.args.t.now = omega arith in
    record { next = refl; is = rw (c.copy_from_slice.ensures.after, e, sets-eq c.args.t.now c.args.out.now c.args.at c.requires, append_assoc, drop-drop) }

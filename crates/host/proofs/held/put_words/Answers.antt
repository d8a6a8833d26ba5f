use native.Mathlib.Omega.{arith}
use mathlib.Core.Path.{◌≡◌, refl, ap, ◌∙◌}
use Prim.Native.Nat.{◌+◌, ◌-◌}
use lib.ListN.{length, get_or}
use Rattle.host.proofs.Loading.{put_at_once}
use Rattle.host.proofs.held.put_words.Goals as goal

pub returns : goal.returns
returns g c =
    let k : (c.args.from + g.row.N) - c.args.from ≡ g.row.N = omega arith in
    rw k (put_at_once 0 (λ a. a) (λ X i. refl) _ c.told-words c.requires (ap length c.copy_from_slice.ensures.after ∙ c.told-list) c.told-list (λ i o. ap (λ l. get_or l i 0) c.copy_from_slice.ensures.after))

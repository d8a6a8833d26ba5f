-- The screen of a controller after a schedule.
-- Assumes nothing.
use mathlib.Core.Path.{◌≡◌, refl, ap, subst}
use mathlib.Core.List.{List}
use Prim.Native.Nat.{ℕ, ◌≤◌, ◌<◌}
use native.Mathlib.Decide.{dec_lt}
use native.Mathlib.Omega.{arith}
use lib.ListN.{length}
use lib.Seq.{length-sets}
use Rattle.protocol.specs.Statement.{Stmt}
use Rattle.protocol.specs.Controller as protocol
use Rattle.pool.specs.Pool.{record_in}
use Rattle.engine.specs.declared.Controller.{Controller}
use Rattle.engine.specs.Meaning.{controller_is}
use Rattle.bench.specs.After.{SeatAfter}
use Rattle.service.specs.Service.{service_text, ServiceShows}
use Rattle.service.specs.After.{ScreenAfter}

pub no-screen : (S : List ℕ) (k : ℕ) (out : List ℕ) → 16 ≤ k → ScreenAfter S k out 0 out
no-screen S k out l = record { shows = λ h. absurd (omega arith); nobody = λ h. (refl, refl) }

pub screen-after : (S : List ℕ) (k : ℕ) (out : List ℕ) {n : ℕ} {after : List ℕ} {c : Controller} {W ids : List ℕ} → k < 16 → SeatAfter S k c W ids → ServiceShows (controller_is c) (record_in W ids) out n after
    → ScreenAfter S k out n after
screen-after S k out {n} {after} l s w = record {
  shows = λ h. (
    s.reading,
    s.reads,
    moved s.controller s.statements w,
  );
  nobody = λ h. absurd (omega arith);
}
  where
    moved : {d e : protocol.Controller} {X Y : List Stmt} → d ≡ e → X ≡ Y → ServiceShows d X out n after → ServiceShows e Y out n after
    moved {e = e} {X = X} p q w = subst (λ Y. ServiceShows e Y out n after) q (subst (λ d. ServiceShows d X out n after) p w)

-- what is shown stands within the memory
shown-within : {c : protocol.Controller} {X : List Stmt} {out : List ℕ} {n : ℕ} {after : List ℕ} → ServiceShows c X out n after → n ≤ length after
shown-within {c} {X} {out} w = elim (dec_lt (length out) 32768) [
  | yes h ↦ omega (arith, (w.short h).0)
  | no h ↦ omega (arith, w.count (omega arith), w.fits (omega arith), ap length (w.is (omega arith)), length-sets out 0 (service_text c X))
]

pub screen-within : (S : List ℕ) (k : ℕ) (out : List ℕ) (n : ℕ) (after : List ℕ) → ScreenAfter S k out n after → n ≤ length after
screen-within S k out n after s = elim (dec_lt k 16) [
  | yes h ↦ (let (_, _, w) = s.shows h in shown-within w)
  | no h ↦ omega (arith, (s.nobody (omega arith)).0)
]

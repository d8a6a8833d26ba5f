-- A kind and a view of the sixteen controllers in one number.
-- Assumes nothing.
use Prim.Native.Nat.{ℕ, ◌+◌, ◌*◌, ◌/◌, ◌%◌, ◌≤◌, ◌<◌}
use native.Mathlib.Omega.{arith}
use mathlib.Core.Path.{◌≡◌, sym, ap, subst, ◌∙◌}
use mathlib.Core.Bool.{false, ◌&&◌, and-false}
use lib.Dec.{eqb}
use Rattle.protocol.specs.View.{View, same_view}
use Rattle.protocol.proofs.Bits.{Fits}
use Rattle.protocol.proofs.Says.{says_map, says-unique, says-and, says-eqb}
use Rattle.views.specs.View.{view_of}
use Rattle.views.proofs.Views.{view-eqb, view-not}

-- the word of such a view is small
pub small : (t : ℕ) (A : View) → view_of t ≡ A → Fits 16 A → t < 18446744073709551616 → t < 281474976710656
unfolding view_of
small t A e f l =
    let g : Fits 16 (view_of t) = subst (Fits 16) (sym e) f in
    let a : t % 4294967296 < 65536 = g.joined in
    let b : t / 4294967296 % 4294967296 < 65536 = g.left in
    omega arith

key-same : (k t kind at : ℕ) → t < 281474976710656 → at < 281474976710656 → eqb (k * 281474976710656 + t) (kind * 281474976710656 + at) ≡ (eqb k kind && eqb t at)
key-same k t kind at p q =
    says-unique (says-eqb {m = k * 281474976710656 + t} {n = kind * 281474976710656 + at})
    (says_map (λ e. omega arith) (λ e. (omega arith, omega arith)) (says-and (says-eqb {m = k} {n = kind}) (says-eqb {m = t} {n = at})))

-- The word t is that of the view A, which is one of the sixteen controllers.
module _ (t at K kind : ℕ) (A : View) (e : view_of t ≡ A) (f : Fits 16 A) (p : t < 18446744073709551616) (q : at < 18446744073709551616) where
  pub far_at : 281474976710656 ≤ at → false ≡ (eqb K kind && same_view A (view_of at))
  far_at h = sym (ap (λ b. eqb K kind && b) (view-not t A at e (λ d. omega (arith, small t A e f p)) p q) ∙ and-false (eqb K kind))

  pub key-at : (k : ℕ) → at < 281474976710656 → k ≡ K → eqb (k * 281474976710656 + t) (kind * 281474976710656 + at) ≡ (eqb K kind && same_view A (view_of at))
  key-at k h g = key-same k t kind at (small t A e f p) h ∙ ap (λ n. eqb n kind && eqb t at) g ∙ ap (λ b. eqb K kind && b) (view-eqb t A at e p q)

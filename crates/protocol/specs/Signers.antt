-- Who signed (document 02, A5): "which frames make up a certificate".
-- Assumes nothing.
use Rattle.std.specs.Prelude.{◌≡◌, ◌⊎◌, Bool, not, ◌&&◌, ◌||◌, List, [], ◌∷◌, map, ℕ, ◌<◌, T, eqb, leb, ltb, length, if◌then◌else◌}
use Rattle.std.proofs.Math.Option.{Option, some, none}
use Rattle.protocol.specs.Sets.{bit, count, set_of}
use Rattle.protocol.specs.Lists.{filter}
use Rattle.protocol.specs.View.{View, Ring, member, quorum, member_count, has_members}
use Rattle.protocol.specs.History.{top}
use Rattle.protocol.specs.Statement.{Stmt, acks, stores}
use Rattle.protocol.specs.Evidence.{signs, signed_by_quorum, Sealed, sealed_histories, is_prepared, Prepared, Certificate}
use Rattle.protocol.specs.Count.{count_quorum}

module _ (width : ℕ) where
  -- "A count beside A3's now gives the set of all members that signed".
  unfoldable pub signers : List Stmt → View → (Stmt → Bool) → ℕ
  signers X t p = set_of width (λ k. member t k && signs p X k)

  -- The set makes a quorum of t.
  unfoldable pub makes_quorum : View → ℕ → Bool
  makes_quorum t a = has_members width t && leb (quorum (member_count width t)) (count width (bit a))

  -- What is proved of it: it has just the members that signed, and "A3's says yes exactly where that set makes a quorum".
  pub record WhoSigned (X : List Stmt) (t : View) (p : Stmt → Bool) : Type 0 where
    pub each : (k : ℕ) → k < width → bit (signers X t p) k ≡ (member t k && signs p X k)
    pub yes : (count_quorum width t p X).reached ≡ makes_quorum t (signers X t p)

-- ---- "the least sealed top, as written"

-- u is written before v: "as eight lower-case hexadecimal digits, joined set then left set". (Digits of one length are in the order of the numbers.)
unfoldable pub written_before : View → View → Bool
written_before u v = ltb u.joined v.joined || eqb u.joined v.joined && ltb u.left v.left

-- The lesser of v and what there is.
abbrev pub lesser : View → Option View → View
lesser v none = v
lesser v (some u) = if written_before u v then u else v

-- The least view of the list, as written.
unfoldable pub least_written : List View → Option View
least_written [] = none
least_written (v ∷ l) = some (lesser v (least_written l))

-- What f gives for the view, "or the empty set if none has".
abbrev pub set_at : Option View → (View → ℕ) → ℕ
set_at none f = 0
set_at (some t) f = f t

module _ (R : Ring) where
  open R use {width}

  -- The least sealed top, as written, that has p.
  unfoldable pub least_top : List Stmt → (View → Bool) → Option View
  least_top X p = least_written (filter p (map (top R) (sealed_histories R X)))

  -- The set of those who signed what `says` tells of the least sealed top at which a quorum did.
  unfoldable pub set_behind : List Stmt → (View → Stmt → Bool) → ℕ
  set_behind X says = set_at (least_top X (λ t. signed_by_quorum width X t (says t))) (λ t. signers width X t (says t))

  -- "the set behind its store quorum: the one at the least sealed top that has such a quorum". Of notice i and payload m.
  unfoldable pub store_set : List Stmt → ℕ → ℕ → ℕ
  store_set X i m = set_behind X (λ t. stores t i m)

  -- "For a notice and a payload the screen gets the ack set at the least sealed top, as written, that has a certificate, or the empty set if none has." A notice that the setup
  -- lacks has none.
  unfoldable pub ack_set : List ℕ → List Stmt → ℕ → ℕ → ℕ
  ack_set senders X i m = if ltb i (length senders) && is_prepared senders X i m then set_behind X (λ t. acks t i m) else 0

  -- As a proposition: t is the least sealed top, as written, that has p.
  pub record LeastTop (X : List Stmt) (p : View → Bool) (t : View) : Type 0 where
    pub history : List View
    pub sealed : Sealed R X history
    pub at : top R history ≡ t
    pub has : T (p t)
    pub least : (H : List View) → Sealed R X H → T (p (top R H)) → T (not (written_before (top R H) t))

  -- The set a is the one at the least sealed top with a quorum that signed what says tells of that top.
  pub record Behind (X : List Stmt) (says : View → Stmt → Bool) (a : ℕ) : Type 0 where
    pub place : View
    pub least : LeastTop X (λ t. signed_by_quorum width X t (says t)) place
    pub set : a ≡ signers width X place (says place)
    pub quorum : T (makes_quorum width place a)

  -- What is proved of the screen's set, for a notice of the setup.
  abbrev pub AckSetIs : List ℕ → List Stmt → ℕ → ℕ → Type 0
  AckSetIs senders X i m =
      (Prepared senders X i m × Behind X (λ t. acks t i m) (ack_set senders X i m)) ⊎ ((¬ Certificate R senders X i m) × (ack_set senders X i m ≡ 0))

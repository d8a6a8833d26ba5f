-- What a controller holds by notice: senders, sets, bindings and payloads.
-- Assumes nothing.
use Rattle.std.specs.Prelude.{if◌then◌else◌}
use mathlib.Core.Path.{◌≡◌, refl, sym, ap, ap₂, subst, ◌∙◌}
use mathlib.Core.Bool.{Bool, true, false}
use mathlib.Core.List.{List}
use mathlib.Core.Option.{Option, some, none}
use Prim.Native.Nat.{ℕ, ◌+◌, ◌≤◌, ◌<◌, min}
use native.Mathlib.Decide.{dec_lt}
use native.Mathlib.Omega.{arith}
use lib.Dec.{eqb, ltb}
use lib.ListN.{length, get_or, set, replicate, get_or-replicate, length-replicate, get_or-eq_default}
use Rattle.protocol.specs.Sets.{bit}
use Rattle.protocol.specs.Lists.{when, is_some, put}
use Rattle.protocol.specs.Statement.{Binding, unbound, bound, tells}
use Rattle.protocol.specs.Evidence.{sender_of}
use Rattle.protocol.proofs.Bits.{bit-zero}
use Rattle.protocol.proofs.Numbered.{list_of-length, list_of-at, from_parts, set-put, put-at}
use Rattle.views.proofs.Sets.{bit-far}
use Rattle.statements.specs.declared.Binding as held
use Rattle.statements.specs.declared.Binding.TheVariants.{Unbound, Bound}
use Rattle.statements.specs.Block.{binding_is, told_is, group_at, TellsGroup}
use Rattle.statements.specs.Sets.{PutBit}
use Rattle.statements.proofs.NoticeSets.{put_other}
use Rattle.evidence.specs.declared.Evidence.{Evidence}
use Rattle.evidence.specs.declared.Notice.{Notice}
use Rattle.evidence.specs.Evidence.{certificate_at}
use Rattle.evidence.specs.Notices.{senders_of, binding_held}
use Rattle.engine.specs.Situation.{notice_told, ToldTo}

-- ---- senders

module _ (S : List ℕ) (n : ℕ) where
  pub senders-count : length (senders_of S n) ≡ min n 64
  unfolding senders_of
  senders-count = list_of-length (min n 64) (λ i. get_or S i 0)

  -- the number is one of a notice
  pub is-notice : (i : ℕ) → ltb i (length (senders_of S n)) ≡ ltb i (min n 64)
  is-notice i = ap (ltb i) senders-count

  pub sender-at : (i : ℕ) → i < min n 64 → sender_of (senders_of S n) i ≡ get_or S i 0
  unfolding senders_of
  sender-at i l = list_of-at (min n 64) (λ i. get_or S i 0) i 0 l

-- the test of a number that is one of a notice, in two parts
-- ---- sets

-- one notice more
pub put-bits : (s q j : ℕ) → PutBit s j true q → s < 18446744073709551616 → q < 18446744073709551616 → j < 64 → (λ i. bit q i) ≡ put j true (λ i. bit s i)
put-bits s q j p l k h = from_parts 64 (bit q) (put j true (bit s)) p.bits (λ i m. bit-far 64 q i k m ∙ sym (put_other j true (bit s) i (λ e. omega arith) ∙ bit-far 64 s i l m))

-- ---- payloads to send

pub some-when : {A : Type 0} (b : Bool) (a : A) → is_some (when b a) ≡ b
some-when true a = refl
some-when false a = refl

when-put : {A : Type 0} (j : ℕ) (m : A) (b : ℕ → Bool) (f : ℕ → A) (i : ℕ) → when (put j true b i) (put j m f i) ≡ put j (some m) (λ i. when (b i) (f i)) i
unfolding put
when-put j m b f i = go (eqb i j)
  where
    go : (x : Bool) → when (if x then true else b i) (if x then m else f i) ≡ (if x then some m else when (b i) (f i))
    go true = refl
    go false = refl

pub requested-put : (s q j m : ℕ) (P : List ℕ) → PutBit s j true q → s < 18446744073709551616 → q < 18446744073709551616 → j < 64 → j < length P
    → (λ i. when (bit q i) (get_or (set P j m) i 0)) ≡ put j (some m) (λ i. when (bit s i) (get_or P i 0))
requested-put s q j m P p l k h n x i =
    (ap₂ (λ (b : ℕ → Bool) (f : ℕ → ℕ). when (b i) (f i)) (put-bits s q j p l k h) (set-put (λ a. a) P j m 0 n) ∙ when-put j m (bit s) (λ i. get_or P i 0) i) x

-- ---- bindings

pub bound-put : (H : List Notice) (j m : ℕ) → j < length H → (λ i. binding_held (set H j (record { binding = Bound m })) i) ≡ put j (bound m) (λ i. binding_held H i)
unfolding binding_held
bound-put H j m h = set-put (λ (n : Notice). binding_is n.binding) H j (record { binding = Bound m }) (record { binding = Unbound }) h

-- ---- before a setup

pub none-bound : (n : ℕ) → ◌≡◌ {A = ℕ → Binding} (λ i. binding_held (replicate n (record { binding = Unbound })) i) (λ i. unbound)
unfolding binding_held
none-bound n x i = ap (λ (a : Notice). binding_is a.binding) at x
  where
    blank : Notice
    blank = record { binding = Unbound }

    at : get_or (replicate n blank) i blank ≡ blank
    at = elim (dec_lt i n) [ yes l ↦ get_or-replicate n i blank blank l | no l ↦ get_or-eq_default (replicate n blank) blank (omega (arith, length-replicate n blank)) ]

pub none-delivered : ◌≡◌ {A = ℕ → Bool} (λ i. bit 0 i) (λ i. false)
none-delivered x i = bit-zero i x

pub none-asked : (P : List ℕ) → ◌≡◌ {A = ℕ → Option ℕ} (λ i. when (bit 0 i) (get_or P i 0)) (λ i. none)
none-asked P x i = ap (λ b. when b (get_or P i 0)) (bit-zero i) x

-- ---- what a report of a turn tells

pub told-first : (H : List Notice) (e : Evidence) (P B : List ℕ) → ToldTo H e P 0 B
told-first H e P B = record { at = λ i l. absurd (omega arith) }

pub told-next : {H : List Notice} {e : Evidence} {P B B' : List ℕ} {j : ℕ} (b : held.Binding) → ToldTo H e P j B → TellsGroup B j (notice_told b e.certified P j) B' → j < 64
    → binding_is b ≡ binding_held H j → (k : ℕ) → k ≤ j + 1 → ToldTo H e P k B'
told-next {H} {e} {P} {B} {B'} {j} b h p l q n m = record {
  at = λ i o. elim (dec_lt i j) [
    | yes x ↦ p.groups i (omega arith) ∙ put_other j (told_is (notice_told b e.certified P j)) (group_at B) i (λ z. omega arith) ∙ h.at i x
    | no x ↦ (let z : j ≡ i = omega arith in
        (let y : group_at B' j ≡ tells (binding_held H j) (certificate_at e P j) =
        p.groups j l ∙ put-at j (told_is (notice_told b e.certified P j)) (group_at B) ∙ ap (λ a. tells a (certificate_at e P j)) q in
        rw z at y))
  ];
}

-- what was told, by the set
pub told-by : (B : List ℕ) (j : ℕ) (b : held.Binding) (certified : ℕ) (P B' : List ℕ) {s : Bool} → s ≡ bit certified j → TellsGroup B j (record { binding = b; stored = s; kept = get_or P j 0 }) B'
    → TellsGroup B j (notice_told b certified P j) B'
told-by B j b certified P B' e t = subst (λ s. TellsGroup B j (record { binding = b; stored = s; kept = get_or P j 0 }) B') e t

-- none of the first n is left out
pub told-all : {H : List Notice} {e : Evidence} {P B : List ℕ} {j n : ℕ} → ToldTo H e P j B → n ≤ j → ToldTo H e P n B
told-all h l = record { at = λ i o. h.at i (omega arith) }

pub binding-at : (H : List Notice) (j : ℕ) → binding_is (get_or H j (record { binding = Unbound })).binding ≡ binding_held H j
unfolding binding_held
binding-at H j = refl

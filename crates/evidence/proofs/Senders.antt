-- Laws of the senders in lent memory, and of statements of the pool: their notice, their payload and what a report tells.
-- Assumes nothing.
use Rattle.std.specs.Prelude.{if◌then◌else◌}
use mathlib.Core.Path.{◌≡◌, refl, sym, ap, ◌∙◌}
use mathlib.Core.Bool.{Bool, true, false, cond}
use mathlib.Core.List.{List, [], ◌∷◌}
use Prim.Native.Nat.{ℕ, zero, suc, ◌≤◌, ◌<◌, min}
use native.Mathlib.Decide.{dec_lt}
use native.Mathlib.Omega.{arith}
use lib.Dec.{eqb}
use lib.ListN.{length, get_or, get_or-eq_default}
use borrow.Author.Tests.{eq-eqb, ne_eqb}
use Rattle.protocol.specs.Sets.{bit}
use Rattle.protocol.specs.Lists.{when, list_of}
use Rattle.protocol.specs.Statement as statement
use Rattle.protocol.specs.Statement.{Group, no_group, only, group_of, payload_of, tells, binding_of}
use Rattle.protocol.specs.Evidence.{sender_of}
use Rattle.protocol.proofs.Numbered.{list_of-length, list_of-at}
use Rattle.protocol.proofs.Bits.{bit-zero}
use Rattle.pool.specs.Pool.{payload_from, word, group_count, told_bound, told_barred, told_stored, told_payload, told_kept, told_by, told_at, stmt_at}
use Rattle.pool.proofs.Laws.{plain-groups, plain-payload, report-groups, report-group}
use Rattle.statements.specs.Block.{bound_or_barred}
use Rattle.evidence.specs.Notices.{senders_of}
use Rattle.evidence.specs.Reports.{told_count, TellsNothing}

-- ---- the senders

module _ (S : List ℕ) (n : ℕ) where
  pub senders-count : length (senders_of S n) ≡ min n 64
  unfolding senders_of
  senders-count = list_of-length (min n 64) (λ i. get_or S i 0)

  pub senders-most : length (senders_of S n) ≤ 64
  senders-most = omega (arith, senders-count)

  pub sender-at : (i : ℕ) → i < min n 64 → sender_of (senders_of S n) i ≡ get_or S i 0
  unfolding senders_of
  sender-at i l = list_of-at (min n 64) (λ i. get_or S i 0) i 0 l

-- ---- a statement of the pool

module _ (W : List ℕ) (n : ℕ) where
  pub notice-small : (stmt_at W n).notice < 256
  unfolding stmt_at
  notice-small = omega arith

  pub payload-plain : ((stmt_at W n).kind ≡ 5 → ⊥) → word W n payload_from ≡ payload_of (stmt_at W n)
  payload-plain d = sym (plain-payload W n (ne_eqb (stmt_at W n).kind 5 d))

  -- the same, by the kind that was read
  pub payload-of : (k p : ℕ) → k ≡ (stmt_at W n).kind → (k ≡ 5 → ⊥) → p ≡ word W n payload_from → p ≡ payload_of (stmt_at W n)
  payload-of k p e d q = q ∙ payload-plain (λ z. d (e ∙ z))

  -- ---- what it tells of notice j

  abbrev kind-test : Bool
  kind-test = eqb (stmt_at W n).kind 5

  told-by : told_count W n ≡ cond kind-test (group_count W n) 0
  unfolding told_count stmt_at
  told-by = refl

  module _ (k : ℕ) (kind : k ≡ (stmt_at W n).kind) where
    pub count-plain : (k ≡ 5 → ⊥) → 0 ≡ told_count W n
    count-plain d = sym (told-by ∙ ap (λ b. cond b (group_count W n) 0) (ne_eqb (stmt_at W n).kind 5 (λ q. d (kind ∙ q))))

    pub count-report : (r : ℕ) → k ≡ 5 → r ≡ group_count W n → r ≡ told_count W n
    count-report r e q = q ∙ sym (told-by ∙ ap (λ b. cond b (group_count W n) 0) (eq-eqb (stmt_at W n).kind 5 (sym kind ∙ e)))

  module _ (j : ℕ) where
    pub told_in : j < told_count W n → group_of (stmt_at W n) j ≡ told_at W n j
    told_in l = go kind-test refl
      where
        go : (b : Bool) → kind-test ≡ b → group_of (stmt_at W n) j ≡ told_at W n j
        go true e = report-group W n j e (omega (arith, told-by ∙ ap (λ b. cond b (group_count W n) 0) e))
        go false e = absurd (omega (arith, told-by ∙ ap (λ b. cond b (group_count W n) 0) e))

    pub told-out : told_count W n ≤ j → ((group_of (stmt_at W n) j).binding ≡ 0) × ((group_of (stmt_at W n) j).stored ≡ 0)
    told-out l = go kind-test refl
      where
        none : (m : ℕ) (j : ℕ) → ((get_or (only m ∷ []) j no_group).binding ≡ 0) × ((get_or (only m ∷ []) j no_group).stored ≡ 0)
        none m zero = (refl, refl)
        none m (suc j) = (refl, refl)

        go : (b : Bool) → kind-test ≡ b → ((group_of (stmt_at W n) j).binding ≡ 0) × ((group_of (stmt_at W n) j).stored ≡ 0)
        go true e =
            let few : length (list_of (group_count W n) (told_at W n)) ≤ j = omega (arith, list_of-length (group_count W n) (told_at W n), told-by ∙ ap (λ b. cond b (group_count W n) 0) e) in
            let q : group_of (stmt_at W n) j ≡ no_group = ap (λ l. get_or l j no_group) (report-groups W n e) ∙ get_or-eq_default (list_of (group_count W n) (told_at W n)) no_group few in
            (ap (λ g. g.binding) q, ap (λ g. g.stored) q)
        go false e =
            let (b, s) = none (word W n payload_from) j in
            (ap (λ l. (get_or l j no_group).binding) (plain-groups W n e) ∙ b, ap (λ l. (get_or l j no_group).stored) (plain-groups W n e) ∙ s)

    -- by the sets that were read

    abbrev tell : Bool → Bool → Bool → Group
    tell bound barred stored = tells (bound_or_barred bound barred (told_payload W n j)) (when stored (told_kept W n j))

    told_is : told_at W n j ≡ tell (bit (told_bound W n) j) (bit (told_barred W n) j) (bit (told_stored W n) j)
    unfolding told_by
    told_is = refl

    module _ {a : ℕ} {y : Bool} (is : a ≡ told_barred W n) (asked : y ≡ bit a j) where
      barred-bit : bit (told_barred W n) j ≡ y
      barred-bit = ap (λ a. bit a j) (sym is) ∙ sym asked

      pub told-barred : y ≡ true → (told_at W n j).binding ≡ 2
      told-barred e = ap (λ g. g.binding) told_is ∙ ap (λ b. (tell (bit (told_bound W n) j) b (bit (told_stored W n) j)).binding) (barred-bit ∙ e)

      module _ (clear : y ≡ false) {b : ℕ} {x : Bool} (also : b ≡ told_bound W n) (asked-too : x ≡ bit b j) where
        bound-bit : bit (told_bound W n) j ≡ x
        bound-bit = ap (λ b. bit b j) (sym also) ∙ sym asked-too

        told-as : told_at W n j ≡ tell x false (bit (told_stored W n) j)
        told-as = told_is ∙ ap (λ b. tell (bit (told_bound W n) j) b (bit (told_stored W n) j)) (barred-bit ∙ clear) ∙ ap (λ b. tell b false (bit (told_stored W n) j)) bound-bit

        pub told-bound : x ≡ true → ((told_at W n j).binding ≡ 1) × ((told_at W n j).payload ≡ told_payload W n j)
        told-bound e =
            let q : told_at W n j ≡ tell true false (bit (told_stored W n) j) = told-as ∙ ap (λ b. tell b false (bit (told_stored W n) j)) e in
            (ap (λ g. g.binding) q, ap (λ g. g.payload) q)

        pub told_free : x ≡ false → (told_at W n j).binding ≡ 0
        told_free e = ap (λ g. g.binding) (told-as ∙ ap (λ b. tell b false (bit (told_stored W n) j)) e)

    module _ {a : ℕ} {y : Bool} (is : a ≡ told_stored W n) (asked : y ≡ bit a j) where
      stored-bit : told_at W n j ≡ tell (bit (told_bound W n) j) (bit (told_barred W n) j) y
      stored-bit = told_is ∙ ap (tell (bit (told_bound W n) j) (bit (told_barred W n) j)) (ap (λ a. bit a j) (sym is) ∙ sym asked)

      pub told-stored : y ≡ true → ((told_at W n j).stored ≡ 1) × ((told_at W n j).kept ≡ told_kept W n j)
      told-stored e =
          let q : told_at W n j ≡ tell (bit (told_bound W n) j) (bit (told_barred W n) j) true = stored-bit ∙ ap (tell (bit (told_bound W n) j) (bit (told_barred W n) j)) e in
          (ap (λ g. g.stored) q, ap (λ g. g.kept) q)

      pub told-unstored : y ≡ false → (told_at W n j).stored ≡ 0
      told-unstored e = ap (λ g. g.stored) (stored-bit ∙ ap (tell (bit (told_bound W n) j) (bit (told_barred W n) j)) e)

    -- sets without j

    pub untold : bit (told_bound W n) j ≡ false → bit (told_barred W n) j ≡ false → (group_of (stmt_at W n) j).binding ≡ 0
    untold a b = elim (dec_lt j (told_count W n)) [
      | yes l ↦ ap (λ g. g.binding) (told_in l) ∙ told_free {a = told_barred W n} {y = bit (told_barred W n) j} refl refl b {b = told_bound W n} {x = bit (told_bound W n) j} refl refl a
      | no l ↦ (told-out (omega arith)).0
    ]

    pub unkept : bit (told_stored W n) j ≡ false → (group_of (stmt_at W n) j).stored ≡ 0
    unkept a = elim (dec_lt j (told_count W n)) [
      | yes l ↦ ap (λ g. g.stored) (told_in l) ∙ told-unstored {a = told_stored W n} {y = bit (told_stored W n) j} refl refl a
      | no l ↦ (told-out (omega arith)).1
    ]

  -- three empty sets
  pub tells-nothing : (a b c : ℕ) → a ≡ told_bound W n → b ≡ told_barred W n → c ≡ told_stored W n → a ≡ 0 → b ≡ 0 → c ≡ 0 → TellsNothing W n
  tells-nothing a b c e f g p q r = record { none = λ i. (untold i (none i a e p) (none i b f q), unkept i (none i c g r)) }
    where
      none : (i x : ℕ) {y : ℕ} → x ≡ y → x ≡ 0 → bit y i ≡ false
      none i x e z = ap (λ y. bit y i) (sym e ∙ z) ∙ bit-zero i

  pub told-most : told_count W n ≤ 64
  unfolding group_count
  told-most = go kind-test refl
    where
      go : (b : Bool) → kind-test ≡ b → told_count W n ≤ 64
      go true e = omega (arith, told-by ∙ ap (λ b. cond b (group_count W n) 0) e)
      go false e = omega (arith, told-by ∙ ap (λ b. cond b (group_count W n) 0) e)

-- a binding of 0 is none
pub none-unbound : (g : Group) → g.binding ≡ 0 → binding_of g ≡ statement.unbound
unfolding binding_of
none-unbound g e = ap (λ b. if eqb b 1 then statement.bound g.payload else if eqb b 2 then statement.barred else statement.unbound) e

pub one-bound : (g : Group) → g.binding ≡ 1 → binding_of g ≡ statement.bound g.payload
unfolding binding_of
one-bound g e = ap (λ b. if eqb b 1 then statement.bound g.payload else if eqb b 2 then statement.barred else statement.unbound) e

pub two-barred : (g : Group) → g.binding ≡ 2 → binding_of g ≡ statement.barred
unfolding binding_of
two-barred g e = ap (λ b. if eqb b 1 then statement.bound g.payload else if eqb b 2 then statement.barred else statement.unbound) e

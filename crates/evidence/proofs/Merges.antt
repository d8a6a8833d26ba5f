-- Laws of merging: each is what one step of a function of bindings needs.
-- Assumes nothing.
use mathlib.Core.Path.{◌≡◌, refl, sym, ap, ap₂, subst, ◌∙◌}
use mathlib.Core.Logic.{inl, inr}
use mathlib.Core.Bool.{Bool, true, false, ◌||◌}
use mathlib.Core.List.Memᴰ
use mathlib.Core.List.{List, [], ◌∷◌, ◌++◌}
use Prim.Native.Nat.{ℕ, suc, ◌+◌, ◌-◌, ◌≤◌, ◌<◌, min}
use native.Mathlib.Decide.{ℕ_discrete, dec_lt}
use native.Mathlib.Numerals.{add-one}
use native.Mathlib.Omega.{arith}
use lib.Dec.{T}
use lib.ListN.{length, get_or, set, length-set}
use lib.Seq.{get_or-set_same, get_or-set_other}
use borrow.Author.Tests.{eq-eqb, ne_eqb}
use Rattle.protocol.specs.Sets.{bit}
use Rattle.protocol.specs.Lists.{◌∈◌, list_of}
use Rattle.protocol.specs.Statement as statement
use Rattle.protocol.specs.Statement.{Stmt, binding_of, group_of}
use Rattle.protocol.specs.Turn.{merge, merge_all}
use Rattle.protocol.proofs.Numbered.{list_of-out}
use Rattle.pool.specs.Pool.{told_bound, told_barred, told_payload, told_at, stmt_at, record_up_to}
use Rattle.pool.proofs.Records.{entry, so_far, whole}
use Rattle.statements.specs.declared.Binding.{Binding}
use Rattle.statements.specs.declared.Binding.TheVariants.{Unbound, Bound, Barred}
use Rattle.statements.specs.Block.{binding_is}
use Rattle.statements.specs.Sets.{Union}
use Rattle.evidence.specs.declared.Notice.{Notice}
use Rattle.evidence.specs.Evidence.{MergedAll}
use Rattle.evidence.specs.Notices.{binding_held}
use Rattle.evidence.specs.Reports.{told_count, Touched}
use Rattle.evidence.proofs.Senders.{told_in, told-out, told-barred, told-bound, told_free, told-most, untold, none-unbound, one-bound, two-barred}

-- ---- the binding that a statement of the pool tells of notice j

module _ (W : List ℕ) (s j c : ℕ) (count : c ≡ told_count W s) where
  pub told_none : c ≤ j → binding_is Unbound ≡ binding_of (group_of (stmt_at W s) j)
  told_none l = sym (none-unbound (group_of (stmt_at W s) j) (told-out W s j (omega arith)).0)

  module _ (more : j < c) {a : ℕ} {y : Bool} (is : a ≡ told_barred W s) (asked : y ≡ bit a j) where
    inside : binding_of (told_at W s j) ≡ binding_of (group_of (stmt_at W s) j)
    inside = ap binding_of (sym (told_in W s j (omega arith)))

    pub told-as-barred : y ≡ true → binding_is Barred ≡ binding_of (group_of (stmt_at W s) j)
    told-as-barred e = sym (two-barred (told_at W s j) (told-barred W s j is asked e)) ∙ inside

    module _ (clear : y ≡ false) {b : ℕ} {x : Bool} (also : b ≡ told_bound W s) (asked-too : x ≡ bit b j) where
      pub told-as-bound : (p : ℕ) → x ≡ true → p ≡ told_payload W s j → binding_is (Bound p) ≡ binding_of (group_of (stmt_at W s) j)
      told-as-bound p e q =
          let (u, v) = told-bound W s j is asked clear also asked-too e in
          ap statement.bound (q ∙ sym v) ∙ sym (one-bound (told_at W s j) u) ∙ inside

      pub told-as-free : x ≡ false → binding_is Unbound ≡ binding_of (group_of (stmt_at W s) j)
      told-as-free e = sym (none-unbound (told_at W s j) (told_free W s j is asked clear also asked-too e)) ∙ inside

-- ---- two bindings

pub merge-payload : (m : ℕ) (b : Binding) → b ≡ Unbound → binding_is (Bound m) ≡ merge (binding_is (Bound m)) (binding_is b)
unfolding merge
merge-payload m b e = rw e

pub merge-barred : (m : ℕ) (b : Binding) → b ≡ Barred → binding_is Barred ≡ merge (binding_is (Bound m)) (binding_is b)
unfolding merge
merge-barred m b e = rw e

pub merge-same : (m n : ℕ) (b : Binding) → b ≡ Bound n → m ≡ n → binding_is (Bound m) ≡ merge (binding_is (Bound m)) (binding_is b)
unfolding merge
merge-same m n b e q = rw (e, eq-eqb m n q)

pub merge-other : (m n : ℕ) (b : Binding) → b ≡ Bound n → (m ≡ n → ⊥) → binding_is Barred ≡ merge (binding_is (Bound m)) (binding_is b)
unfolding merge
merge-other m n b e q = rw (e, ne_eqb m n q)

pub both-second : (a b : Binding) → a ≡ Unbound → binding_is b ≡ merge (binding_is a) (binding_is b)
unfolding merge
both-second a b e = rw e

pub both-barred : (a b : Binding) → a ≡ Barred → binding_is Barred ≡ merge (binding_is a) (binding_is b)
unfolding merge
both-barred a b e = rw e

-- ---- all reports, the last first

module _ (j : ℕ) where
  merge-append : (b : statement.Binding) (k l : List Stmt) → merge_all j b (k ++ l) ≡ merge_all j (merge_all j b l) k
  unfolding merge_all
  merge-append b [] l = refl
  merge-append b (s ∷ k) l = ap (merge (binding_of (group_of s j))) (merge-append b k l)

  merge-one : (b : statement.Binding) (s : Stmt) → merge_all j b (s ∷ []) ≡ merge (binding_of (group_of s j)) b
  unfolding merge_all
  merge-one b s = refl

  -- what tells no binding leaves it as it is
  pub merge-untold : (b : statement.Binding) (Y : List Stmt) → ((s : Stmt) → s ∈ Y → binding_of (group_of s j) ≡ statement.unbound) → merge_all j b Y ≡ b
  unfolding merge_all merge
  merge-untold b [] f = refl
  merge-untold b (s ∷ Y) f = ap₂ merge (f s (Memᴰ.head refl)) (merge-untold b Y (λ x m. f x (Memᴰ.tail m)))

  module _ (W ids : List ℕ) where
    pub merge-first : (b : statement.Binding) (len i : ℕ) → i ≡ min len 512 → merge_all j b (record_up_to W ids len) ≡ merge_all j b (record_up_to W ids i)
    merge-first b len i e = ap (merge_all j b) (sym (whole W ids len i e))

    shorter : (i : ℕ) → 0 < i → i ≤ 512 → record_up_to W ids i ≡ record_up_to W ids (i - 1) ++ (entry W ids (i - 1) ∷ [])
    unfolding list_of
    shorter i l h =
        let q : i ≡ suc (i - 1) = omega arith in
        so_far W ids i h ∙ ap (λ n. list_of n (entry W ids)) q ∙ ap (λ l. l ++ (entry W ids (i - 1) ∷ [])) (sym (so_far W ids (i - 1) (omega arith)))

    pub merge-more : (b c t : statement.Binding) (i : ℕ) → 0 < i → i ≤ 512 → t ≡ binding_of (group_of (entry W ids (i - 1)) j) → c ≡ merge t b
        → merge_all j b (record_up_to W ids i) ≡ merge_all j c (record_up_to W ids (i - 1))
    merge-more b c t i l h g q =
        ap (merge_all j b) (shorter i l h) ∙ merge-append b (record_up_to W ids (i - 1)) (entry W ids (i - 1) ∷ [])
        ∙ ap (λ c. merge_all j c (record_up_to W ids (i - 1))) (merge-one b (entry W ids (i - 1)) ∙ sym (q ∙ ap (λ t. merge t b) g))

    pub merge-end : (b : statement.Binding) (i : ℕ) → i ≡ 0 → merge_all j b (record_up_to W ids i) ≡ b
    unfolding merge_all list_of
    merge-end b i e = ap (merge_all j b) (so_far W ids i (omega arith) ∙ ap (λ n. list_of n (entry W ids)) e)

-- ---- the notices of which reports tell a binding

module _ (W ids : List ℕ) where
  longer : (i : ℕ) → i < 512 → record_up_to W ids (i + 1) ≡ record_up_to W ids i ++ (entry W ids i ∷ [])
  unfolding list_of
  longer i l = rw (so_far W ids i (omega arith), so_far W ids (i + 1) (omega arith), add-one)

  pub touched-first : Touched (record_up_to W ids 0) 0
  unfolding list_of
  touched-first = record { none = λ i b s m. absurd (Memᴰ.not-nil (subst (λ l. s ∈ l) (so_far W ids 0 (omega arith)) m)) }

  pub touched-next : {i seen told seen' a b : ℕ} → i < 512 → Touched (record_up_to W ids i) seen → a ≡ told_bound W (get_or ids i 0) → b ≡ told_barred W (get_or ids i 0) → Union a b told → Union seen told seen'
      → Touched (record_up_to W ids (i + 1)) seen'
  touched-next {i} {seen} {told} {seen'} {a} {b} l w e f u v = record {
    none = λ j z s m. elim (Memᴰ.append_cases (record_up_to W ids i) (subst (λ l. s ∈ l) (longer i l) m)) [
      | inl h ↦ w.none j (neither (bit seen j) (bit told j) (sym (v.bits j) ∙ z)).0 s h
      | inr h ↦ (let q = neither (bit a j) (bit b j) (sym (u.bits j) ∙ (neither (bit seen j) (bit told j) (sym (v.bits j) ∙ z)).1) in
          none-unbound (group_of s j) (ap (λ s. (group_of s j).binding) (Memᴰ.eq_of_singleton h) ∙ untold W (get_or ids i 0) j (ap (λ x. bit x j) (sym e) ∙ q.0) (ap (λ x. bit x j) (sym f) ∙ q.1)))
    ];
  }
    where
      neither : (a b : Bool) → (a || b) ≡ false → (a ≡ false) × (b ≡ false)
      neither true b e = absurd (subst T e tt)
      neither false b e = (refl, e)

  pub touched-all : {i seen : ℕ} (len : ℕ) → i ≡ min len 512 → Touched (record_up_to W ids i) seen → Touched (record_up_to W ids len) seen
  touched-all {i} {seen} len e w = subst (λ Y. Touched Y seen) (whole W ids len i e) w

  -- no statement of the pool tells of more than 64 notices
  untold-far : (len j : ℕ) → 64 ≤ j → (s : Stmt) → s ∈ record_up_to W ids len → binding_of (group_of s j) ≡ statement.unbound
  unfolding record_up_to
  untold-far len j l s m =
      let (i, h, e) = list_of-out (min len 512) (λ i. stmt_at W (get_or ids i 0)) m in
      none-unbound (group_of s j) (ap (λ s. (group_of s j).binding) e ∙ (told-out W (get_or ids i 0) j (omega (arith, told-most W (get_or ids i 0)))).0)

  -- ---- the notices, one after the other

  module _ (len : ℕ) (H : List Notice) where
    abbrev Y : List Stmt
    Y = record_up_to W ids len

    -- those before j are merged, and the others as they were
    pub record MergedTo (A : List Notice) (j : ℕ) : Type 0 where
      pub long : length A ≡ 64
      pub done : (i : ℕ) → i < j → binding_held A i ≡ merge_all i (binding_held H i) Y
      pub rest : (i : ℕ) → j ≤ i → binding_held A i ≡ binding_held H i

    module _ {A : List Notice} {j : ℕ} (w : MergedTo A j) where
      pub merged-skip : {some : ℕ} {r : Bool} → Touched Y some → r ≡ bit some j → r ≡ false → MergedTo A (j + 1)
      merged-skip {some} {r} touched e f = record {
        long = w.long;
        done = λ i h. elim (ℕ_discrete i j) [
          | yes q ↦ w.rest i (omega arith) ∙ sym (merge-untold i (binding_held H i) Y (touched.none i (ap (bit some) q ∙ sym e ∙ f)))
          | no d ↦ w.done i (omega arith)
        ];
        rest = λ i h. w.rest i (omega arith);
      }

      pub merged-put : (b : Binding) → j < 64 → binding_is b ≡ merge_all j (binding_is (get_or A j (record { binding = Unbound })).binding) Y → MergedTo (set A j (record { binding = b })) (j + 1)
      unfolding binding_held
      merged-put b l e = record {
        long = length-set A j (record { binding = b }) ∙ w.long;
        done = λ i h. elim (ℕ_discrete i j) [
          | yes q ↦ ap (λ i. binding_is (get_or (set A j (record { binding = b })) i (record { binding = Unbound })).binding) q
              ∙ ap (λ n. binding_is n.binding) (get_or-set_same A j (record { binding = b }) (record { binding = Unbound }) (omega (arith, w.long)))
              ∙ e ∙ ap₂ (λ i b. merge_all i b Y) (sym q) (w.rest j (omega arith) ∙ ap (binding_held H) (sym q))
          | no d ↦ ap (λ n. binding_is n.binding) (get_or-set_other A j i (record { binding = b }) (record { binding = Unbound }) d) ∙ w.done i (omega arith)
        ];
        rest = λ i h. ap (λ n. binding_is n.binding) (get_or-set_other A j i (record { binding = b }) (record { binding = Unbound }) (λ q. omega arith)) ∙ w.rest i (omega arith);
      }

      pub merged-all : j ≡ 64 → MergedAll H Y A
      merged-all e = record {
        at = λ i. elim (dec_lt i 64) [
          | yes l ↦ w.done i (omega arith)
          | no l ↦ w.rest i (omega arith) ∙ sym (merge-untold i (binding_held H i) Y (untold-far len i (omega arith)))
        ];
      }

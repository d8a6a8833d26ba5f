-- Where the same ring is seen in another way, the promises hold of what is seen so.
-- Assumes nothing.
use mathlib.Core.Path.{◌≡◌, subst}
use mathlib.Core.Logic.{inl, inr}
use mathlib.Core.List.{List}
use Prim.Native.Nat.{ℕ}
use lib.Dec.{T}
use Rattle.protocol.specs.View.{View}
use Rattle.protocol.specs.Statement.{Stmt, stores}
use Rattle.protocol.specs.Evidence.{Certificate}
use Rattle.protocol.specs.Signers.{Behind}
use Rattle.protocol.specs.Controller.{Answer, signed}
use Rattle.protocol.specs.Promises.{Observed, sender, HasEntered, Promises, DeliveredSets, NoConflict}

-- the same controllers and statements, with other words for what is answered and held
abbrev pub seen_as : Observed → (ℕ → ℕ → Answer → Type 0) → (ℕ → ℕ → List Stmt) → Observed
seen_as o Answers records = record { follows = o.follows; ring = o.ring; senders = o.senders; statements = o.statements; Answers = Answers; record_of = records }

module _ (o : Observed) (Answers : ℕ → ℕ → Answer → Type 0) (records : ℕ → ℕ → List Stmt)
    (there : (n k : ℕ) (a : Answer) → T (o.follows k) → Answers n k a → o.Answers n k a)
    (back : (n k : ℕ) (s : Stmt) → T (o.follows k) → o.Answers n k (signed s) → Answers n k (signed s))
    (same : (k n : ℕ) → T (o.follows k) → o.record_of k n ≡ records k n) where
  entered-there : (k : ℕ) (v : View) → HasEntered (seen_as o Answers records) k v → HasEntered o k v
  entered-there k v (inl a) = inl a
  entered-there k v (inr (n, (ok, a))) = inr (n, (ok, there n k _ ok a))

  pub carried : Promises o → Promises (seen_as o Answers records)
  carried p = record {
    of_setup = λ notice n k m (ok, (set, a)). p.of_setup notice n k m (ok, (set, there n k _ ok a));
    consistency = λ notice i j m n k m' (ok, (set, a)) (ok', (set', b)). p.consistency notice i j m n k m' (ok, (set, there i j _ ok a)) (ok', (set', there n k _ ok' b));
    no_duplication = λ notice i n k m m' (ok, (set, a)) (ok', (set', b)). p.no_duplication notice i n k m m' (ok, (set, there i k _ ok a)) (ok', (set', there n k _ ok' b));
    integrity = λ notice n k m ok (ok', (set, a)). let (i, l, b) = p.integrity notice n k m ok (ok', (set, there n k _ ok' a)) in (i, l, back i (sender o notice) _ ok b);
    comparable_views = λ j k u v a b. p.comparable_views j k u v (entered-there j u a) (entered-there k v b);
    stored_is_kept = λ notice H m n k v h q (ok, a) g i l.
        subst (λ X. Certificate o.ring o.senders X notice m) (same k i ok) (p.stored_is_kept notice H m n k v h q (ok, there n k _ ok a) g i l);
  }

  pub carried-sets : DeliveredSets o → DeliveredSets (seen_as o Answers records)
  carried-sets d = record {
    behind = λ notice n k m set ok a. subst (λ X. Behind o.ring X (λ t. stores t notice m) set) (same k n ok) (d.behind notice n k m set ok (there n k _ ok a));
  }

  pub carried-no-conflict : NoConflict o → NoConflict (seen_as o Answers records)
  unfolding NoConflict
  carried-no-conflict f n k ok a = f n k ok (there n k _ ok a)

-- Laws of a record in memory: one number more, and none.
-- Assumes nothing.
use Rattle.std.specs.Prelude.{if◌then◌else◌}
use mathlib.Core.Path.{◌≡◌, refl, sym, ap, ap₂, ◌∙◌}
use mathlib.Core.List.{List, [], ◌∷◌, ◌++◌}
use Prim.Native.Nat.{ℕ, suc, ◌+◌, ◌≤◌, ◌<◌, min}
use native.Mathlib.Omega.{arith}
use lib.Dec.{ltb}
use lib.ListN.{length, get_or, set, length-set}
use lib.Seq.{get_or-set_same, get_or-set_other}
use borrow.Author.Tests.{lt-ltb, le-ltb}
use Rattle.protocol.specs.Lists.{list_of}
use Rattle.protocol.proofs.Numbered.{list_of-cong}
use Rattle.pool.specs.Pool.{stmt_at, record_up_to, record_len, record_in}
use Rattle.pool.specs.Changes.{pushed_to, PushedTo, Emptied}
use Rattle.pool.proofs.Records.{entry}

-- records of the same first numbers are the same
pub same_numbers : (W R R' : List ℕ) (n m : ℕ) → min n 512 ≡ min m 512 → ((i : ℕ) → i < min m 512 → get_or R' i 0 ≡ get_or R i 0) → record_up_to W R' n ≡ record_up_to W R m
unfolding record_up_to
same_numbers W R R' n m e q = ap (λ k. list_of k (entry W R')) e ∙ list_of-cong (min m 512) (entry W R') (entry W R) (λ i l. ap (stmt_at W) (q i l))

module _ (R : List ℕ) (id : ℕ) (h : length R ≡ 513) where
  pub push-full-in : 512 ≤ record_len R → PushedTo R id R
  unfolding pushed_to
  push-full-in l = record {
    is = sym (ap (λ b. if b then set (set R (record_len R) id) 512 (record_len R + 1) else R) (le-ltb (record_len R) 512 l));
    long = h;
    len = omega arith;
    first = λ i m. refl;
    last = λ m. absurd (omega arith);
    means = λ W. sym (ap (λ b. if b then record_in W R ++ (stmt_at W id ∷ []) else record_in W R) (le-ltb (record_len R) 512 l));
  }

  -- the memory after a number went into place n, with the count after it
  module _ (n : ℕ) (e : n ≡ record_len R) (l : n < 512) where
    abbrev after : List ℕ
    after = set (set R n id) 512 (n + 1)

    counted : get_or after 512 0 ≡ n + 1
    counted = get_or-set_same (set R n id) 512 (n + 1) 0 (omega (arith, length-set R n id, h))

    other : (i : ℕ) → i < n → get_or after i 0 ≡ get_or R i 0
    other i m = get_or-set_other (set R n id) 512 i (n + 1) 0 (λ d. omega arith) ∙ get_or-set_other R n i id 0 (λ d. omega arith)

    newest : get_or after n 0 ≡ id
    newest = get_or-set_other (set R n id) 512 n (n + 1) 0 (λ d. omega arith) ∙ get_or-set_same R n id 0 (omega (arith, h))

    counts : record_len after ≡ n + 1
    counts = ap (λ k. min k 512) counted ∙ omega arith

    grown : (W : List ℕ) → record_in W after ≡ record_in W R ++ (stmt_at W id ∷ [])
    unfolding record_up_to list_of
    grown W =
        let z : record_len after ≡ suc n = counts ∙ omega arith in
        ap (λ m. list_of m (entry W after)) z
        ∙ ap₂ (λ k s. k ++ (s ∷ [])) (list_of-cong n (entry W after) (entry W R) (λ i m. ap (stmt_at W) (other i m))) (ap (stmt_at W) newest)
        ∙ ap (λ m. list_of m (entry W R) ++ (stmt_at W id ∷ [])) e

    pub push-room-in : PushedTo R id after
    unfolding pushed_to
    push-room-in =
        let t : ltb (record_len R) 512 ≡ _ = lt-ltb (record_len R) 512 (omega arith) in
        record {
          is = ap (λ m. set (set R m id) 512 (m + 1)) e ∙ sym (ap (λ b. if b then set (set R (record_len R) id) 512 (record_len R + 1) else R) t);
          long = length-set (set R n id) 512 (n + 1) ∙ length-set R n id ∙ h;
          len = counts ∙ omega arith;
          first = λ i m. other i (omega arith);
          last = λ m. ap (λ k. get_or after k 0) (sym e) ∙ newest;
          means = λ W. grown W ∙ sym (ap (λ b. if b then record_in W R ++ (stmt_at W id ∷ []) else record_in W R) t);
        }

pub emptied : (R : List ℕ) → length R ≡ 513 → Emptied R (set R 512 0)
unfolding record_up_to list_of
emptied R h =
    let z : record_len (set R 512 0) ≡ 0 = ap (λ k. min k 512) (get_or-set_same R 512 0 0 (omega (arith, h))) in
    record { is = refl; long = length-set R 512 0 ∙ h; len = z; none = λ W. ap (λ m. list_of m (entry W (set R 512 0))) z }

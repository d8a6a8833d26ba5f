-- Laws of a loop that lists the statements of a record that have q: every number is written, and stays only if its statement has q.
-- Assumes nothing.
use Rattle.std.specs.Prelude.{if◌then◌else◌}
use mathlib.Core.Path.{◌≡◌, refl, sym, ap, ap₂, ◌∙◌}
use mathlib.Core.Bool.{Bool, true, false, ◌&&◌, ◌||◌}
use mathlib.Core.List.{List, [], ◌∷◌, ◌++◌, append-nil}
use Prim.Native.Nat.{ℕ, ◌+◌, ◌^◌, ◌≤◌, ◌<◌, min}
use native.Mathlib.Numerals.{add-one}
use native.Mathlib.Omega.{arith}
use mir.Val.{bool_byte}
use lib.ListN.{length, get_or, set, length-set}
use lib.Seq.{get_or-set_same, get_or-set_other}
use Rattle.protocol.specs.Lists.{any, filter, list_of}
use Rattle.protocol.specs.Statement.{Stmt}
use Rattle.protocol.proofs.Numbered.{list_of-cong}
use Rattle.pool.specs.Pool.{stmt_at, record_up_to, record_in}
use Rattle.pool.proofs.Records.{entry, so_far, whole}
use Rattle.pool.proofs.Lists.{same_numbers}

-- ---- lists

module _ {A : Type 0} (q : A → Bool) where
  pub filter-append : (k l : List A) → filter q (k ++ l) ≡ filter q k ++ filter q l
  unfolding filter
  filter-append [] l = refl
  filter-append (a ∷ k) l = go (q a) (filter-append k l)
    where
      go : (b : Bool) → filter q (k ++ l) ≡ filter q k ++ filter q l → (if b then a ∷ filter q (k ++ l) else filter q (k ++ l)) ≡ (if b then a ∷ filter q k else filter q k) ++ filter q l
      go true e = ap (λ l. a ∷ l) e
      go false e = e

  pub filter-one : (a : A) (b : Bool) → b ≡ q a → filter q (a ∷ []) ≡ (if b then a ∷ [] else [])
  unfolding filter
  filter-one a b e = ap (λ c. if c then a ∷ [] else []) (sym e)

  pub any-filter : (p : A → Bool) (l : List A) → any p (filter q l) ≡ any (λ a. q a && p a) l
  unfolding any filter
  any-filter p [] = refl
  any-filter p (a ∷ l) = go (q a) (any-filter p l)
    where
      go : (b : Bool) → any p (filter q l) ≡ any (λ a. q a && p a) l → any p (if b then a ∷ filter q l else filter q l) ≡ ((b && p a) || any (λ a. q a && p a) l)
      go true e = ap (λ c. p a || c) e
      go false e = e

  pub any_same : (p : A → Bool) (l : List A) → ((a : A) → q a ≡ p a) → any q l ≡ any p l
  unfolding any
  any_same p [] h = refl
  any_same p (a ∷ l) h = ap₂ ◌||◌ (h a) (any_same p l h)

implied : (a b : Bool) → (b ≡ true → a ≡ true) → (a && b) ≡ b
implied true b h = refl
implied false true h = h refl
implied false false h = refl

-- a test that only what has q can pass
pub any-among : {A : Type 0} (q p : A → Bool) (l : List A) → ((a : A) → p a ≡ true → q a ≡ true) → any p (filter q l) ≡ any p l
any-among q p l h = any-filter q p l ∙ any_same (λ a. q a && p a) p l (λ a. implied (q a) (p a) (h a))

-- ---- the loop

-- the first m numbers of J are those of the statements that have q, of the first i numbers of ids
pub record Sifted (q : Stmt → Bool) (W ids J : List ℕ) (i m : ℕ) : Type 0 where
  pub size : length J ≡ 513
  pub most : m ≤ i
  pub are : record_up_to W J m ≡ filter q (record_up_to W ids i)

pub byte_one : (b : Bool) → bool_byte b ≤ 1
byte_one true = omega arith
byte_one false = omega arith

pub more-fits : (m : ℕ) (b : Bool) → m ≤ 512 → m + bool_byte b < 2 ^ 64
more-fits m b h = omega (arith, byte_one b)

pub sifted-none : {q : Stmt → Bool} {W ids J : List ℕ} → length J ≡ 513 → Sifted q W ids J 0 0
unfolding filter list_of
sifted-none {q} {W} {ids} {J} e = record { size = e; most = omega arith; are = so_far W J 0 (omega arith) ∙ ap (filter q) (sym (so_far W ids 0 (omega arith))) }

longer : (W ids : List ℕ) (i : ℕ) → i < 512 → record_up_to W ids (i + 1) ≡ record_up_to W ids i ++ (entry W ids i ∷ [])
unfolding list_of
longer W ids i l = rw (so_far W ids i (omega arith), so_far W ids (i + 1) (omega arith), add-one)

module _ {q : Stmt → Bool} {W ids J : List ℕ} {i m : ℕ} (l : i < 512) (g : Sifted q W ids J i m) where
  abbrev more : List ℕ
  more = set J m (get_or ids i 0)

  before : record_up_to W more m ≡ filter q (record_up_to W ids i)
  before =
      so_far W more m (omega (arith, g.most)) ∙ list_of-cong m (entry W more) (entry W J) (λ j b. ap (stmt_at W) (get_or-set_other J m j (get_or ids i 0) 0 (λ e. omega arith)))
      ∙ sym (so_far W J m (omega (arith, g.most))) ∙ g.are

  -- statement i is kept or not
  kept : (b : Bool) → record_up_to W more (m + bool_byte b) ≡ filter q (record_up_to W ids i) ++ (if b then entry W ids i ∷ [] else [])
  kept true = longer W more m (omega (arith, g.most)) ∙ ap₂ (λ k n. k ++ (stmt_at W n ∷ [])) before (get_or-set_same J m (get_or ids i 0) 0 (omega (arith, g.size, g.most)))
  kept false = let e : m + 0 ≡ m = omega arith in ap (record_up_to W more) e ∙ before ∙ sym (append-nil (filter q (record_up_to W ids i)))

  pub sifted-next : (b : Bool) → b ≡ q (entry W ids i) → Sifted q W ids (set J m (get_or ids i 0)) (i + 1) (m + bool_byte b)
  sifted-next b e = record {
    size = length-set J m (get_or ids i 0) ∙ g.size;
    most = omega (arith, g.most, byte_one b);
    are =
        kept b ∙ ap (λ k. filter q (record_up_to W ids i) ++ k) (sym (filter-one q (entry W ids i) b e)) ∙ sym (filter-append q (record_up_to W ids i) (entry W ids i ∷ []))
        ∙ ap (filter q) (sym (longer W ids i l));
  }

-- the count goes into the last place
pub sifted-whole : {q : Stmt → Bool} {W ids J : List ℕ} {i m end : ℕ} (len : ℕ) → i ≡ end → end ≡ min len 512 → Sifted q W ids J i m → record_in W (set J 512 m) ≡ filter q (record_up_to W ids len)
sifted-whole {q} {W} {ids} {J} {i} {m} len d e g =
    same_numbers W J (set J 512 m) (get_or (set J 512 m) 512 0) m (ap (λ k. min k 512) (get_or-set_same J 512 m 0 (omega (arith, g.size)))) (λ k l. get_or-set_other J 512 k m 0 (λ q. omega arith))
    ∙ g.are ∙ ap (filter q) (whole W ids len i (d ∙ e))

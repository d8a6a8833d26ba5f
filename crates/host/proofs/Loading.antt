-- Laws of loading a controller and of storing it.
-- Assumes nothing.
use Prim.Native.Nat.{ℕ, zero, suc, ◌+◌, ◌-◌, ◌/◌, ◌%◌, ◌≤◌, ◌<◌}
use native.Mathlib.Decide.{dec_lt}
use native.Mathlib.Numerals.{add-one}
use native.Mathlib.Omega.{arith}
use mathlib.Core.Path.{◌≡◌, refl, sym, ap, ap₂, subst, ◌∙◌}
use mathlib.Core.Bool.{Bool, true, false, ◌||◌, true≢false}
use mathlib.Core.List.{List, [], ◌∷◌, ◌++◌}
use lib.ListN.{length, get_or, set, take, drop, replicate, length-set, length-replicate}
use Rattle.std.specs.List.{between}
use borrow.Rule.Slice.PartMut.{put_mid, same_len_mid}
use Rattle.std.proofs.lemmas.List.{get_or-take, length-drop}
use Rattle.std.proofs.lemmas.List.Edits.{length-between, get_or-between}
use Rattle.std.proofs.lemmas.Slice.{take-put_mid_below, drop-put_mid, between-put_mid}
use lib.Seq.{length-take-le, sets, sets-eq, take_all, take-suc, take-suc-set, get_or-set_same, get_or-set_other, get_or-append-add, get_or-drop}
use mir.Val.{bool_byte}
use Rattle.protocol.specs.Lists.{list_of}
use Rattle.protocol.specs.Sets.{bit}
use Rattle.protocol.proofs.Bits.{bit-zero}
use Rattle.protocol.proofs.Numbered.{list_of-cong, put-at}
use Rattle.views.specs.declared.View.{View}
use Rattle.views.specs.declared.History.{History}
use Rattle.statements.specs.declared.Binding.{Binding}
use Rattle.statements.specs.declared.Binding.TheVariants.{Unbound, Bound, Barred}
use Rattle.statements.specs.Sets.{PutBit, Union, Next}
use Rattle.statements.proofs.NoticeSets.{put_other}
use Rattle.evidence.specs.declared.Notice.{Notice}
use Rattle.engine.specs.declared.Controller.{Controller}
use Rattle.host.specs.Memory.{held_no_view, held_in, says, binding_in, entered_in, sender_in, notice_in, send_in, time_in, ready_in, notices_in, controller_at}
use Rattle.host.specs.Stored.{EnteredWords, Column, NoticeWords}

-- a number below 256 is its word's

number-back : (k a : ℕ) → a ≡ k → a < 256 → a % 256 ≡ k
number-back k a e l = omega arith

-- what holds of those before j, and of j, holds of one more
so_far : {A : Type 0} {j : ℕ} (f g : ℕ → A) → ((i : ℕ) → i < j → f i ≡ g i) → f j ≡ g j → (i : ℕ) → i < j + 1 → f i ≡ g i
so_far {A} {j} f g low at i h = elim (dec_lt i j) [ yes o ↦ low i o | no o ↦ (let e : j ≡ i = omega arith in rw e at at) ]

-- the next of a set lies further on
pub further : {s j k : ℕ} → Next s (j + 1) k → j < 64 → j < k
further {s} {j} {k} n l = elim (dec_lt k 64) [ yes o ↦ (let h = (n.here o).0 in omega arith) | no o ↦ omega arith ]

-- a view is its word's, by the halves

pub word_back : (v : View) (w : ℕ) → (w % 4294967296 ≡ v.joined) × (w / 4294967296 % 4294967296 ≡ v.left) → held_in w ≡ v
word_back v w p i = record { joined = p.0 i; left = p.1 i }

pub word_held : (w : ℕ) {j l : ℕ} → j ≡ w % 4294967296 → l ≡ w / 4294967296 % 4294967296 → record { joined = j; left = l } ≡ held_in w
word_held w p q i = record { joined = p i; left = q i }

-- ---- an array that is filled element by element

module _ {A : Type 0} where
  -- The first i of the n elements of l are f 0, f 1 and so on.
  pub record Filled (f : ℕ → A) (n : ℕ) (l : List A) (i : ℕ) : Type 0 where
    pub small : i ≤ n
    pub long : length l ≡ n
    pub are : take i l ≡ list_of i f

  pub fill-first : (f : ℕ → A) (n : ℕ) (a : A) → Filled f n (replicate n a) 0
  unfolding list_of
  fill-first f n a = record { small = omega arith; long = length-replicate n a; are = refl }

  pub fill-next : {f : ℕ → A} {n : ℕ} {l : List A} {i : ℕ} (v : A) → Filled f n l i → i < n → v ≡ f i → Filled f n (set l i v) (i + 1)
  unfolding list_of
  fill-next {f} {n} {l} {i} v h m q = record {
    small = omega arith;
    long = length-set l i v ∙ h.long;
    are = rw add-one (take-suc-set l i v (omega (arith, h.long)) ∙ ap₂ (λ s a. s ++ (a ∷ [])) h.are q);
  }

  pub fill-last : {f : ℕ → A} {n : ℕ} {l : List A} {i : ℕ} → Filled f n l i → n ≤ i → l ≡ list_of n f
  fill-last {f} {n} {l} {i} h m = all i (omega (arith, h.small)) h.are
    where
      all : (j : ℕ) → j ≡ n → take j l ≡ list_of j f → l ≡ list_of n f
      all j e a = sym (take_all n l (omega (arith, h.long))) ∙ (rw e at a)

  listed-some : (l : List A) (d : A) (n : ℕ) → n ≤ length l → list_of n (λ i. get_or l i d) ≡ take n l
  unfolding list_of
  listed-some l d zero h = refl
  listed-some l d (suc n) h = ap (λ s. s ++ (get_or l n d ∷ [])) (listed-some l d n (omega arith)) ∙ sym (take-suc l n d (omega arith))

  -- an array is the list of its elements
  pub listed-all : (f : ℕ → A) (l : List A) (d : A) (n : ℕ) → length l ≡ n → ((i : ℕ) → i < n → f i ≡ get_or l i d) → list_of n f ≡ l
  listed-all f l d n e h = list_of-cong n f (λ i. get_or l i d) h ∙ listed-some l d n (omega arith) ∙ take_all n l (omega arith)

-- n words from word `from` on, read at once
pub loaded-part : (from n : ℕ) (f : ℕ → ℕ) (F : List ℕ) {Y : List ℕ} → length F ≡ 232 → from + n ≤ 232 → ((i : ℕ) → f i ≡ get_or F (from + i) 0) → Y ≡ between from (from + n) F → Y ≡ list_of n f
loaded-part from n f F e t r q =
    q ∙ sym (listed-all f (between from (from + n) F) 0 n (length-between F from (from + n) (omega arith) ∙ omega arith) (λ i o. r i ∙ sym (get_or-between F from (from + n) i 0 (omega arith))))

-- ---- views that are loaded, and stored

-- View i of the words from word 16 on.
abbrev pub stored_at : List ℕ → ℕ → View
stored_at W i = held_in (get_or W (16 + i) 0)

pub entered_all : (F : List ℕ) {l : List View} {i : ℕ} → Filled (stored_at F) 16 l i → 16 ≤ i → (n : ℕ) → n ≡ get_or F 12 0 → record { views = l; len = n } ≡ entered_in F
unfolding entered_in
entered_all F h m n e = ap₂ (λ (k : List View) (b : ℕ). record { views = k; len = b }) (fill-last h m) e

-- The words F tell that there are n views, and the first i of them.
pub record Stores (X : List View) (n : ℕ) (F : List ℕ) (i : ℕ) : Type 0 where
  pub small : i ≤ 16
  pub long : length F ≡ 232
  pub count : get_or F 12 0 ≡ n
  pub are : (p : ℕ) → p < i → stored_at F p ≡ get_or X p held_no_view

pub store-first : (X : List View) (F : List ℕ) (n : ℕ) → length F ≡ 232 → Stores X (get_or (set F 12 n) 12 0) (set F 12 n) 0
store-first X F n e = record { small = omega arith; long = length-set F 12 n ∙ e; count = refl; are = λ p l. absurd (omega arith) }

pub store-next : {X : List View} {n : ℕ} {F : List ℕ} {i : ℕ} (w : ℕ) → Stores X n F i → i < 16 → held_in w ≡ get_or X i held_no_view → Stores X n (set F (16 + i) w) (i + 1)
store-next {X} {n} {F} {i} w s m q = record {
  small = omega arith;
  long = length-set F (16 + i) w ∙ s.long;
  count = get_or-set_other F (16 + i) 12 w 0 (λ z. omega arith) ∙ s.count;
  are = so_far (stored_at (set F (16 + i) w)) (λ p. get_or X p held_no_view) (λ p o. ap held_in (get_or-set_other F (16 + i) (16 + p) w 0 (λ z. omega arith)) ∙ s.are p o) (ap held_in (get_or-set_same F (16 + i) w 0 (omega (arith, s.long))) ∙ q);
}

pub store-last : (h : History) (F₀ : List ℕ) {F : List ℕ} {i : ℕ} → Stores h.views (get_or (set F₀ 12 h.len) 12 0) F i → length F₀ ≡ 232 → length h.views ≡ 16 → 16 ≤ i → EnteredWords h F
store-last h F₀ {F} {i} s e k m = record {
  long = s.long;
  count = s.count ∙ get_or-set_same F₀ 12 h.len 0 (omega arith);
  back = listed-all (stored_at F) h.views held_no_view 16 k (λ p l. s.are p (omega arith));
}

-- ---- an array of which only the places in a set are visited

module _ {A : Type 0} where
  -- The elements of l before j are those of f, and all from j on are d.
  pub record Visits (d : A) (f : ℕ → A) (l : List A) (j : ℕ) : Type 0 where
    pub long : length l ≡ 64
    pub are : (i : ℕ) → i < j → i < 64 → get_or l i d ≡ f i
    pub none : (i : ℕ) → j ≤ i → get_or l i d ≡ d

  same-all : (d : A) (n i : ℕ) → get_or (replicate n d) i d ≡ d
  same-all d zero i = refl
  same-all d (suc n) zero = refl
  same-all d (suc n) (suc i) = same-all d n i

  -- outside the set s all of f are d
  module _ {d : A} {f : ℕ → A} {s : ℕ} (u : (i : ℕ) → bit s i ≡ false → d ≡ f i) where
    pub visit-first : {j : ℕ} → Next s 0 j → Visits d f (replicate 64 d) j
    visit-first {j} n = record {
      long = length-replicate 64 d;
      are = λ i l m. same-all d 64 i ∙ u i (n.none i (omega arith) l);
      none = λ i l. same-all d 64 i;
    }

    pub visit-next : {l : List A} {j k : ℕ} (v : A) → Visits d f l j → j < 64 → v ≡ f j → Next s (j + 1) k → Visits d f (set l j v) k
    visit-next {l} {j} {k} v h m q n = record {
      long = length-set l j v ∙ h.long;
      are = λ i o p. elim (dec_lt i j) [
        | yes b ↦ get_or-set_other l j i v d (λ e. omega arith) ∙ h.are i b p
        | no b ↦ elim (dec_lt j i) [
          | yes a ↦ get_or-set_other l j i v d (λ e. omega arith) ∙ h.none i (omega arith) ∙ u i (n.none i (omega arith) o)
          | no a ↦ (let e : j ≡ i = omega arith in subst (λ x. get_or (set l j v) x d ≡ f x) e (get_or-set_same l j v d (omega (arith, h.long)) ∙ q))
        ]
      ];
      none = λ i o. get_or-set_other l j i v d (λ e. omega (arith, further n m)) ∙ h.none i (omega (arith, further n m));
    }

  pub visit-last : {d : A} {f : ℕ → A} {l : List A} {j : ℕ} → Visits d f l j → 64 ≤ j → l ≡ list_of 64 f
  visit-last {d} {f} {l} {j} h m = sym (listed-all f l d 64 h.long (λ i o. sym (h.are i (omega arith) o)))

-- ---- notices that are loaded

abbrev pub held_notice : Notice
held_notice = record { binding = Unbound }

pub notice-is : (F : List ℕ) (j : ℕ) {b : Binding} → b ≡ binding_in (bit (get_or F 8 0) j) (bit (get_or F 9 0) j) (get_or F (96 + j) 0) → record { binding = b } ≡ notice_in F j
unfolding notice_in
notice-is F j e = ap (λ b. record { binding = b }) e

-- it is in neither set
pub in-neither : (F : List ℕ) (s : ℕ) → Union (get_or F 8 0) (get_or F 9 0) s → (i : ℕ) → bit s i ≡ false → held_notice ≡ notice_in F i
unfolding notice_in
in-neither F s u i e = go (bit (get_or F 8 0) i) (bit (get_or F 9 0) i) (sym (u.bits i) ∙ e)
  where
    go : (a b : Bool) → (a || b) ≡ false → held_notice ≡ record { binding = binding_in a b (get_or F (96 + i) 0) }
    go false false q = refl
    go false true q = absurd (true≢false q)
    go true b q = absurd (true≢false q)

-- ---- notices and windows that are stored

-- Of n words from word `from` on the first j mean by f the first j of l, and nothing else of the words F₀ changed.
pub record Puts {A : Type 0} (from n : ℕ) (f : List ℕ → ℕ → A) (l : List A) (d : A) (F₀ F : List ℕ) (j : ℕ) : Type 0 where
  pub small : j ≤ n
  pub long : length F ≡ 232
  pub low : (i : ℕ) → i < from → get_or F i 0 ≡ get_or F₀ i 0
  pub high : (i : ℕ) → from + n ≤ i → get_or F i 0 ≡ get_or F₀ i 0
  pub are : (i : ℕ) → i < j → f F i ≡ get_or l i d

module _ {A : Type 0} {from n : ℕ} {f : List ℕ → ℕ → A} {l : List A} {d : A} where
  pub put_first : (F : List ℕ) → length F ≡ 232 → Puts from n f l d F F 0
  put_first F e = record { small = omega arith; long = e; low = λ i o. refl; high = λ i o. refl; are = λ i o. absurd (omega arith) }

  -- f reads one word by g
  pub put_next : {F₀ F : List ℕ} {j : ℕ} (g : ℕ → A) → ((X : List ℕ) (i : ℕ) → f X i ≡ g (get_or X (from + i) 0)) → from + n ≤ 232 → (w : ℕ) → Puts from n f l d F₀ F j → j < n → g w ≡ get_or l j d
      → Puts from n f l d F₀ (set F (from + j) w) (j + 1)
  put_next {F₀} {F} {j} g r t w h m q = record {
    small = omega arith;
    long = length-set F (from + j) w ∙ h.long;
    low = λ i o. get_or-set_other F (from + j) i w 0 (λ e. omega arith) ∙ h.low i o;
    high = λ i o. get_or-set_other F (from + j) i w 0 (λ e. omega arith) ∙ h.high i o;
    are =
        so_far (f (set F (from + j) w)) (λ i. get_or l i d)
        (λ i o. r (set F (from + j) w) i ∙ ap g (get_or-set_other F (from + j) (from + i) w 0 (λ e. omega arith)) ∙ sym (r F i) ∙ h.are i o)
        (r (set F (from + j) w) j ∙ ap g (get_or-set_same F (from + j) w 0 (omega (arith, h.long))) ∙ q);
  }

  pub put_last : {F₀ F : List ℕ} {j : ℕ} → Puts from n f l d F₀ F j → n ≤ j → length l ≡ n → Column from n f l F₀ F
  put_last {F₀} {F} {j} h m e = record { long = h.long; low = λ i a o. h.low i o; high = h.high; back = listed-all (f F) l d n e (λ i o. h.are i (omega arith)) }

-- n words from word `from` on were written at once
module _ {A : Type 0} {from n : ℕ} {f : List ℕ → ℕ → A} {l : List A} (d : A) (g : ℕ → A) (r : (X : List ℕ) (i : ℕ) → f X i ≡ g (get_or X (from + i) 0)) {F : List ℕ} (Y : List ℕ) where
  pub put_at_once : length F ≡ 232 → from + n ≤ 232 → length Y ≡ n → length l ≡ n → ((i : ℕ) → i < n → g (get_or Y i 0) ≡ get_or l i d) → Column from n f l F (put_mid from n F Y)
  put_at_once e t y k q = record {
    long = same_len_mid from n F Y (y ∙ sym (length-take-le n (drop from F) (omega (arith, length-drop from F)))) ∙ e;
    low = λ i a o. sym (get_or-take from (put_mid from n F Y) i 0 o) ∙ ap (λ X. get_or X i 0) (take-put_mid_below from n F Y from (omega arith) (omega arith)) ∙ get_or-take from F i 0 o;
    high = λ i o. let z : i ≡ (from + n) + (i - (from + n)) = omega arith in
        ap (λ k. get_or (put_mid from n F Y) k 0) z ∙ sym (get_or-drop (from + n) (put_mid from n F Y) (i - (from + n)) 0)
        ∙ ap (λ X. get_or X (i - (from + n)) 0) (drop-put_mid from n F Y (from + n) (omega arith) (omega arith) y) ∙ get_or-drop (from + n) F (i - (from + n)) 0 ∙ ap (λ k. get_or F k 0) (sym z);
    back = listed-all (f (put_mid from n F Y)) l d n k (λ i o. r (put_mid from n F Y) i ∙ ap g (within-part i o) ∙ q i o);
  }
    where
      within-part : (i : ℕ) → i < n → get_or (put_mid from n F Y) (from + i) 0 ≡ get_or Y i 0
      within-part i o =
          sym (get_or-between (put_mid from n F Y) from (from + n) i 0 (omega arith)) ∙ ap (λ X. get_or X i 0) (between-put_mid from n F Y (from + n) (omega arith) (omega (arith, y)))

pub put-sender : {S F₀ F : List ℕ} {j : ℕ} (w : ℕ) → Puts 32 64 sender_in S 0 F₀ F j → j < 64 → (w ≡ get_or S j 0) × (w < 256) → Puts 32 64 sender_in S 0 F₀ (set F (32 + j) w) (j + 1)
unfolding sender_in
put-sender {S} {F₀} {F} {j} w h m q = put_next (λ a. a % 256) (λ X i. refl) (omega arith) w h m (number-back (get_or S j 0) w q.0 q.1)

-- ---- bindings that are stored

-- Notice i by two sets and the payloads of the words F.
abbrev notice_by : ℕ → ℕ → List ℕ → ℕ → Notice
notice_by bound barred F i = record { binding = binding_in (bit bound i) (bit barred i) (get_or F (96 + i) 0) }

-- The sets and the words F have the first j bindings; the sets have no notice from j on, and nothing else of the words F₀ changed.
pub record Binds (H : List Notice) (F₀ F : List ℕ) (bound barred j : ℕ) : Type 0 where
  pub small : j ≤ 64
  pub long : length F ≡ 232
  pub low : (i : ℕ) → i < 96 → get_or F i 0 ≡ get_or F₀ i 0
  pub high : (i : ℕ) → 160 ≤ i → get_or F i 0 ≡ get_or F₀ i 0
  pub are : (i : ℕ) → i < j → notice_by bound barred F i ≡ get_or H i held_notice
  pub none : (i : ℕ) → j ≤ i → i < 64 → (bit bound i ≡ false) × (bit barred i ≡ false)

pub bind-first : (H : List Notice) (F : List ℕ) → length F ≡ 232 → Binds H F F 0 0 0
bind-first H F e = record { small = omega arith; long = e; low = λ i o. refl; high = λ i o. refl; are = λ i o. absurd (omega arith); none = λ i o p. (bit-zero i, bit-zero i) }

by_parts : {a b a' b' : Bool} {m m' : ℕ} → a ≡ a' → b ≡ b' → m ≡ m' → ◌≡◌ {A = Notice} (record { binding = binding_in a b m }) (record { binding = binding_in a' b' m' })
by_parts p q r i = record { binding = binding_in (p i) (q i) (r i) }

-- what a set has beside notice j
beside : {s j r : ℕ} → PutBit s j true r → (i : ℕ) → i < 64 → (i ≡ j → ⊥) → bit r i ≡ bit s i
beside {s} {j} {r} p i l d = p.bits i l ∙ put_other j true (bit s) i d

-- and notice j itself
within : {s j r : ℕ} → PutBit s j true r → j < 64 → bit r j ≡ true
within {s} {j} {r} p l = p.bits j l ∙ put-at j true (bit s)

module _ {H : List Notice} {F₀ F : List ℕ} {bound barred j : ℕ} (h : Binds H F₀ F bound barred j) (l : j < 64) where
  pub bind-none : (get_or H j held_notice).binding ≡ Unbound → Binds H F₀ F bound barred (j + 1)
  bind-none x = record {
    small = omega arith;
    long = h.long;
    low = h.low;
    high = h.high;
    are = so_far (notice_by bound barred F) (λ i. get_or H i held_notice) h.are (rw ((h.none j (omega arith) l).0, (h.none j (omega arith) l).1) (ap (λ a. record { binding = a }) (sym x)));
    none = λ i o p. h.none i (omega arith) p;
  }

  pub bind-bound : (m : ℕ) → (get_or H j held_notice).binding ≡ Bound m → {s : ℕ} → PutBit bound j true s → Binds H F₀ (set F (96 + j) m) s barred (j + 1)
  bind-bound m x {s} p = record {
    small = omega arith;
    long = length-set F (96 + j) m ∙ h.long;
    low = λ i o. get_or-set_other F (96 + j) i m 0 (λ q. omega arith) ∙ h.low i o;
    high = λ i o. get_or-set_other F (96 + j) i m 0 (λ q. omega arith) ∙ h.high i o;
    are =
        so_far (notice_by s barred (set F (96 + j) m)) (λ i. get_or H i held_notice)
        (λ i o. ap₂ (λ a w. record { binding = binding_in a (bit barred i) w }) (beside p i (omega arith) (λ q. omega arith)) (get_or-set_other F (96 + j) (96 + i) m 0 (λ q. omega arith)) ∙ h.are i o) new;
    none = λ i o k. (beside p i k (λ q. omega arith) ∙ (h.none i (omega arith) k).0, (h.none i (omega arith) k).1);
  }
    where
      new : notice_by s barred (set F (96 + j) m) j ≡ get_or H j held_notice
      new = rw (within p l, (h.none j (omega arith) l).1, get_or-set_same F (96 + j) m 0 (omega (arith, h.long))) (ap (λ a. record { binding = a }) (sym x))

  pub bind-barred : (get_or H j held_notice).binding ≡ Barred → {s : ℕ} → PutBit barred j true s → Binds H F₀ F bound s (j + 1)
  bind-barred x {s} p = record {
    small = omega arith;
    long = h.long;
    low = h.low;
    high = h.high;
    are =
        so_far (notice_by bound s F) (λ i. get_or H i held_notice)
        (λ i o. ap (λ c. record { binding = binding_in (bit bound i) c (get_or F (96 + i) 0) }) (beside p i (omega arith) (λ q. omega arith)) ∙ h.are i o)
        (rw (within p l) (ap (λ a. record { binding = a }) (sym x)));
    none = λ i o k. ((h.none i (omega arith) k).0, beside p i k (λ q. omega arith) ∙ (h.none i (omega arith) k).1);
  }

pub bind-last : {H : List Notice} {F₀ F : List ℕ} {bound barred j : ℕ} → Binds H F₀ F bound barred j → 64 ≤ j → length H ≡ 64 → Column 96 64 notice_in H F₀ (set (set F 8 bound) 9 barred)
unfolding notice_in
bind-last {H} {F₀} {F} {bound} {barred} {j} h m e = record {
  long = length-set (set F 8 bound) 9 barred ∙ length-set F 8 bound ∙ h.long;
  low = λ i a o. far i a ∙ h.low i o;
  high = λ i o. far i (omega arith) ∙ h.high i o;
  back =
      listed-all (notice_in (set (set F 8 bound) 9 barred)) H held_notice 64 e
      (λ i o. by_parts (ap (λ w. bit w i) first) (ap (λ w. bit w i) second) (far (96 + i) (omega arith)) ∙ h.are i (omega arith));
}
  where
    far : (i : ℕ) → 10 ≤ i → get_or (set (set F 8 bound) 9 barred) i 0 ≡ get_or F i 0
    far i a = get_or-set_other (set F 8 bound) 9 i barred 0 (λ q. omega arith) ∙ get_or-set_other F 8 i bound 0 (λ q. omega arith)

    first : get_or (set (set F 8 bound) 9 barred) 8 0 ≡ bound
    first = get_or-set_other (set F 8 bound) 9 8 barred 0 (λ q. omega arith) ∙ get_or-set_same F 8 bound 0 (omega (arith, h.long))

    second : get_or (set (set F 8 bound) 9 barred) 9 0 ≡ barred
    second = get_or-set_same (set F 8 bound) 9 barred 0 (omega (arith, length-set F 8 bound, h.long))

-- ---- all words of the notices

pub put_all : {F S : List ℕ} {H : List Notice} {P A B C : List ℕ} → Column 32 64 sender_in S F A → Column 160 64 send_in P A B → Column 96 64 notice_in H B C → NoticeWords F S H P C
unfolding sender_in send_in
put_all {F} {S} {H} {P} {A} {B} {C} a b c = record {
  long = c.long;
  first = λ i o p. c.low i o (omega arith) ∙ b.low i o (omega arith) ∙ a.low i o p;
  last = λ i o. c.high i (omega arith) ∙ b.high i o ∙ a.high i (omega arith);
  senders = list_of-cong 64 (sender_in C) (sender_in A) (λ i o. ap (λ w. w % 256) (c.low (32 + i) (omega arith) (omega arith) ∙ b.low (32 + i) (omega arith) (omega arith))) ∙ a.back;
  held = c.back;
  sends = list_of-cong 64 (send_in C) (send_in B) (λ i o. c.high (160 + i) (omega arith)) ∙ b.back;
}

-- ---- a controller

pub loaded : (F : List ℕ) {ready : Bool} {init : View} {notices : ℕ} {senders : List ℕ} {entered : History} {held : List Notice} {sends times : List ℕ}
    → ready ≡ ready_in F → init ≡ held_in (get_or F 2 0) → notices ≡ notices_in F → senders ≡ list_of 64 (sender_in F) → entered ≡ entered_in F → held ≡ list_of 64 (notice_in F) → sends ≡ list_of 64 (send_in F)
    → times ≡ list_of 8 (time_in F)
    → record {
      ready = ready;
      number = get_or F 1 0 % 256;
      init = init;
      notices = notices;
      senders = senders;
      entered = entered;
      held = held;
      sends = sends;
      delivered = get_or F 4 0;
      requested = get_or F 5 0;
      joining = says (get_or F 6 0);
      leaving = says (get_or F 7 0);
      windows = get_or F 10 0;
      times = times;
    } ≡ controller_at F
unfolding controller_at
loaded F r v n s e h p t i = record {
  ready = r i;
  number = get_or F 1 0 % 256;
  init = v i;
  notices = n i;
  senders = s i;
  entered = e i;
  held = h i;
  sends = p i;
  delivered = get_or F 4 0;
  requested = get_or F 5 0;
  joining = says (get_or F 6 0);
  leaving = says (get_or F 7 0);
  windows = get_or F 10 0;
  times = t i;
}

says_back : (b : Bool) → says (bool_byte b) ≡ b
says_back true = refl
says_back false = refl

-- what lies after eight words
after-eight : (xs F : List ℕ) (i : ℕ) → length xs ≡ 8 → get_or (xs ++ drop 8 F) (8 + i) 0 ≡ get_or F (8 + i) 0
after-eight xs F i e = ap (λ n. get_or (xs ++ drop 8 F) (n + i) 0) (sym e) ∙ get_or-append-add xs (drop 8 F) i 0 ∙ get_or-drop 8 F i 0

module _ (c : Controller) (E T F : List ℕ) (number init : ℕ) where
  abbrev pub words : List ℕ
  words = bool_byte c.ready ∷ number ∷ init ∷ c.notices ∷ c.delivered ∷ c.requested ∷ bool_byte c.joining ∷ bool_byte c.leaving ∷ []

  pub stored : EnteredWords c.entered E → Column 224 8 time_in c.times (set E 10 c.windows) T → NoticeWords T c.senders c.held c.sends F → (number ≡ c.number) × (number < 256)
      → held_in init ≡ c.init → controller_at (sets F 0 words) ≡ c
  unfolding controller_at entered_in sender_in notice_in send_in time_in
  stored w t x n v = ap controller_at (sets-eq words F 0 (omega (arith, x.long))) ∙ same
    where
      far : (i : ℕ) → 8 ≤ i → get_or (words ++ drop 8 F) i 0 ≡ get_or F i 0
      far i l = let q : i ≡ 8 + (i - 8) = omega arith in ap (λ n. get_or (words ++ drop 8 F) n 0) q ∙ after-eight words F (i - 8) refl ∙ ap (λ n. get_or F n 0) (sym q)

      -- what was there before the windows and the notices
      first : (i : ℕ) → 11 ≤ i → i < 32 → get_or (words ++ drop 8 F) i 0 ≡ get_or E i 0
      first i l m = far i (omega arith) ∙ x.first i (omega arith) m ∙ t.low i (omega arith) (omega arith) ∙ get_or-set_other E 10 i c.windows 0 (λ q. omega arith)

      views : list_of 16 (stored_at (words ++ drop 8 F)) ≡ c.entered.views
      views = list_of-cong 16 (stored_at (words ++ drop 8 F)) (stored_at E) (λ i o. ap held_in (first (16 + i) (omega arith) (omega arith))) ∙ w.back

      count : get_or (words ++ drop 8 F) 12 0 ≡ c.entered.len
      count = first 12 (omega arith) (omega arith) ∙ w.count

      senders : list_of 64 (sender_in (words ++ drop 8 F)) ≡ c.senders
      senders = list_of-cong 64 (sender_in (words ++ drop 8 F)) (sender_in F) (λ i o. ap (λ a. a % 256) (far (32 + i) (omega arith))) ∙ x.senders

      held : list_of 64 (notice_in (words ++ drop 8 F)) ≡ c.held
      held =
          list_of-cong 64 (notice_in (words ++ drop 8 F)) (notice_in F)
          (λ i o. by_parts (ap (λ w. bit w i) (far 8 (omega arith))) (ap (λ w. bit w i) (far 9 (omega arith))) (far (96 + i) (omega arith))) ∙ x.held

      sends : list_of 64 (send_in (words ++ drop 8 F)) ≡ c.sends
      sends = list_of-cong 64 (send_in (words ++ drop 8 F)) (send_in F) (λ i o. far (160 + i) (omega arith)) ∙ x.sends

      windows : get_or (words ++ drop 8 F) 10 0 ≡ c.windows
      windows = far 10 (omega arith) ∙ x.first 10 (omega arith) (omega arith) ∙ t.low 10 (omega arith) (omega arith) ∙ get_or-set_same E 10 c.windows 0 (omega (arith, w.long))

      times : list_of 8 (time_in (words ++ drop 8 F)) ≡ c.times
      times = list_of-cong 8 (time_in (words ++ drop 8 F)) (time_in T) (λ i o. far (224 + i) (omega arith) ∙ x.last (224 + i) (omega arith)) ∙ t.back

      same : controller_at (words ++ drop 8 F) ≡ c
      same i = record {
        ready = says_back c.ready i;
        number = number-back c.number number n.0 n.1 i;
        init = v i;
        notices = c.notices;
        senders = senders i;
        entered = record { views = views i; len = count i };
        held = held i;
        sends = sends i;
        delivered = c.delivered;
        requested = c.requested;
        joining = says_back c.joining i;
        leaving = says_back c.leaving i;
        windows = windows i;
        times = times i;
      }

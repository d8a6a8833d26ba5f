-- Laws of what a report tells: by sets and payloads, in the pool and in a block.
-- Assumes nothing.
use mathlib.Core.Path.{◌≡◌, refl, sym, ap, ap₂, subst, ◌∙◌}
use mathlib.Core.Bool.{Bool, true, false, cond, not, ◌&&◌, and-true, true≢false}
use mathlib.Core.List.{List, [], ◌∷◌, ◌++◌}
use Prim.Native.Nat.{ℕ, zero, suc, ◌+◌, ◌-◌, ◌*◌, ◌%◌, ◌^◌, ◌≤◌, ◌<◌, min}
use native.Mathlib.Decide.{dec_lt}
use native.Mathlib.Numerals.{add-one}
use native.Mathlib.Omega.{arith}
use lib.Dec.{eqb, ltb}
use lib.Bits.{bit_or, and_mask, mask_lt, and_le_l, and_le_r, or_add_and}
use lib.Pow.{pow_pos, pow-lt}
use lib.ListN.{length, get_or, set, take, length-set, get_or-eq_default}
use lib.Seq.{sets, take_all}
use borrow.Author.Tests.{eq-eqb, ne_eqb, lt-ltb, le-ltb}
use Rattle.protocol.specs.Lists.{when, list_of}
use Rattle.protocol.specs.Sets.{bit, set_of}
use Rattle.protocol.specs.Statement.{Group, no_group, only, stored_number, tells, same_group, same_groups}
use Rattle.protocol.proofs.Bits.{bit-and, bit-zero, bit-set_of}
use Rattle.protocol.proofs.Numbered.{list_of-length, list_of-at, list_of-cong}
use Rattle.protocol.proofs.Says.{is_true, from-true, says_map, says-unique, says-eqb}
use Rattle.protocol.proofs.Asked.{says-same-group, says-same-groups}
use Rattle.views.proofs.Sets.{bit-far, set_of-lt}
use Rattle.views.proofs.Views.{fails}
use Rattle.statements.specs.declared.Binding.{Binding}
use Rattle.statements.specs.declared.Told.{Told}
use Rattle.statements.specs.Block.{binding_is, told_is, block_word, bound_or_barred, binding_at, group_at, groups_of, TellsGroup}
use Rattle.statements.proofs.NoticeSets.{same_set}
use Rattle.statements.proofs.Tells.{groups-more as block_more}
use Rattle.pool.specs.Pool.{payload_from, bound_from, barred_from, stored_from, told_from, head_at, word, group_count, told_bound, told_barred, told_stored, told_payload, told_kept, told_by, told_at, groups_at, stmt_at}
use Rattle.pool.specs.Changes.{says_bound, says_barred, says_stored, told_set, told_words, report_in, groups_in}
use Rattle.pool.specs.Steps.{groups_many, first_bits, bit_without}
use Rattle.pool.proofs.Laws.{plain-groups, report-groups}
use Rattle.pool.proofs.Rows.{sets-two}

-- ---- one group

-- a block tells by its words
pub block-told : (B : List ℕ) (j : ℕ) → group_at B j ≡ told_by (block_word B 0) (block_word B 1) (block_word B 2) (λ j. block_word B (3 + 2 * j)) (λ j. block_word B (4 + 2 * j)) j
unfolding group_at binding_at told_by
block-told B j = refl

-- what says of a group that it was told by three bits and two payloads
abbrev group : Bool → Bool → Bool → ℕ → ℕ → Group
group x y z p k = tells (bound_or_barred x y p) (when z k)

bound-said : (x y z : Bool) (p k : ℕ) → says_bound (group x y z p k) ≡ (x && not y)
bound-said true true true p k = refl
bound-said true true false p k = refl
bound-said true false true p k = refl
bound-said true false false p k = refl
bound-said false true true p k = refl
bound-said false true false p k = refl
bound-said false false true p k = refl
bound-said false false false p k = refl

barred-said : (x y z : Bool) (p k : ℕ) → says_barred (group x y z p k) ≡ y
barred-said true true true p k = refl
barred-said true true false p k = refl
barred-said true false true p k = refl
barred-said true false false p k = refl
barred-said false true true p k = refl
barred-said false true false p k = refl
barred-said false false true p k = refl
barred-said false false false p k = refl

stored-said : (x y z : Bool) (p k : ℕ) → says_stored (group x y z p k) ≡ z
stored-said true true true p k = refl
stored-said true true false p k = refl
stored-said true false true p k = refl
stored-said true false false p k = refl
stored-said false true true p k = refl
stored-said false true false p k = refl
stored-said false false true p k = refl
stored-said false false false p k = refl

-- a group that can be told is so by what it says
abbrev pub Tellable : Group → Type 0
Tellable g = group (says_bound g) (says_barred g) (says_stored g) g.payload g.kept ≡ g

tellable : (x y z : Bool) (p k : ℕ) → Tellable (group x y z p k)
tellable true true true p k = refl
tellable true true false p k = refl
tellable true false true p k = refl
tellable true false false p k = refl
tellable false true true p k = refl
tellable false true false p k = refl
tellable false false true p k = refl
tellable false false false p k = refl

-- it is told where the sets say it and the payloads are its own
pub told-parts : (b x s : ℕ) (p k : ℕ → ℕ) (j : ℕ) {g : Group} → bit b j ≡ says_bound g → bit x j ≡ says_barred g → bit s j ≡ says_stored g → p j ≡ g.payload → k j ≡ g.kept → Tellable g → told_by b x s p k j ≡ g
unfolding told_by
told-parts b x s p k j e f h q r t = (λ i. group (e i) (f i) (h i) (q i) (r i)) ∙ t

pub block-tellable : (B : List ℕ) (j : ℕ) → Tellable (group_at B j)
unfolding group_at binding_at
block-tellable B j = tellable (bit (block_word B 0) j) (bit (block_word B 1) j) (bit (block_word B 2) j) (block_word B (3 + 2 * j)) (block_word B (4 + 2 * j))

-- what is told, by its binding and what is stored
pub told-made : (W : List ℕ) (n j : ℕ) (b : Binding) (s : Bool) (k w : ℕ) → binding_is b ≡ bound_or_barred (bit (told_bound W n) j) (bit (told_barred W n) j) (told_payload W n j) → w ≡ told_stored W n → s ≡ bit w j
    → k ≡ told_kept W n j → tells (binding_is b) (when s k) ≡ told_at W n j
unfolding told_by
told-made W n j b s k w eb ew es ek = ap₂ tells eb (ap₂ when (es ∙ ap (λ x. bit x j) ew) ek)

-- ---- the same is told

-- the third field tells whether a payload is stored

pub stored-same : (s t : Bool) (k m : ℕ) → s ≡ t → stored_number (when s k) ≡ stored_number (when t m)
stored-same true true k m e = refl
stored-same true false k m e = absurd (true≢false e)
stored-same false true k m e = absurd (true≢false (sym e))
stored-same false false k m e = refl

pub stored-other : (s t : Bool) (k m : ℕ) → (s ≡ t → ⊥) → stored_number (when s k) ≡ stored_number (when t m) → ⊥
stored-other true true k m d e = d refl
stored-other true false k m d e = omega arith
stored-other false true k m d e = omega arith
stored-other false false k m d e = d refl

-- how many groups there are

pub many-report : (kind groups r : ℕ) → kind ≡ 5 → r ≡ min groups 64 → r ≡ groups_many kind groups
many-report kind groups r e q = q ∙ sym (ap (λ b. cond b (min groups 64) 1) (eq-eqb kind 5 e))

-- ---- notice by notice

module _ (f g : ℕ → Group) where
  pub groups-all : (c j : ℕ) → j ≡ c → list_of j f ≡ list_of j g → true ≡ same_groups (list_of c f) (list_of c g)
  groups-all c j e h = sym (is_true (same_groups (list_of c f) (list_of c g)) ((says-same-groups (list_of c f) (list_of c g)).complete (rw e at h)))

  pub groups-differ : (c j : ℕ) → j < c → (f j ≡ g j → ⊥) → false ≡ same_groups (list_of c f) (list_of c g)
  groups-differ c j l d = sym (fails (says-same-groups (list_of c f) (list_of c g)) (λ e. d (sym (list_of-at c f j no_group l) ∙ ap (λ k. get_or k j no_group) e ∙ list_of-at c g j no_group l)))

  pub groups_none : list_of 0 f ≡ list_of 0 g
  unfolding list_of
  groups_none = refl

  pub groups-more : (j : ℕ) → list_of j f ≡ list_of j g → f j ≡ g j → list_of (j + 1) f ≡ list_of (j + 1) g
  unfolding list_of
  groups-more j e h = rw add-one (ap₂ (λ l a. l ++ (a ∷ [])) e h)

-- one notice more is told

pub told-next : (B B' W : List ℕ) (n j : ℕ) (t : Told) → j < 64 → TellsGroup B j t B' → told_is t ≡ told_at W n j → list_of j (group_at B) ≡ list_of j (told_at W n) → list_of (j + 1) (group_at B') ≡ list_of (j + 1) (told_at W n)
unfolding list_of
told-next B B' W n j t l s h e = block_more B B' j t l s ∙ ap₂ (λ k g. k ++ (g ∷ [])) e h ∙ ap (λ m. list_of m (told_at W n)) (sym (add-one j))

-- another number of groups
pub groups-short : (f g : ℕ → Group) (c d : ℕ) → (c ≡ d → ⊥) → false ≡ same_groups (list_of c f) (list_of d g)
groups-short f g c d n = sym (fails (says-same-groups (list_of c f) (list_of d g)) (λ e. n (sym (list_of-length c f) ∙ ap length e ∙ list_of-length d g)))

-- a test of what was told, of one notice

pub tested : {a b f g : Group} (r : Bool) → r ≡ same_group a b → a ≡ f → b ≡ g → r ≡ true → f ≡ g
tested {a} {b} r e p q t = sym p ∙ says-same-group.sound (from-true (sym e ∙ t)) ∙ q

pub untested : {a b f g : Group} (r : Bool) → r ≡ same_group a b → a ≡ f → b ≡ g → r ≡ false → f ≡ g → ⊥
untested {a} {b} r e p q t h = true≢false (sym (is_true (same_group a b) (says-same-group.complete (p ∙ h ∙ sym q))) ∙ sym e ∙ t)

-- ---- nothing bound and nothing stored

pub or-none : (a b : ℕ) → bit_or a b ≡ 0 → (a ≡ 0) × (b ≡ 0)
or-none a b e = (omega (arith, or_add_and a b, and_le_r a b), omega (arith, or_add_and a b, and_le_l a b))

-- the payloads do not matter then
bars-only : (x : ℕ) (p q k l : ℕ → ℕ) (j : ℕ) → told_by 0 x 0 p k j ≡ told_by 0 x 0 q l j
unfolding told_by
bars-only x p q k l j = ap₂ (λ a b. tells a b) (either (bit 0 j) (bit x j) (bit-zero j)) (neither (bit 0 j) (bit-zero j))
  where
    either : (b c : Bool) → b ≡ false → bound_or_barred b c (p j) ≡ bound_or_barred b c (q j)
    either true c e = absurd (true≢false e)
    either false true e = refl
    either false false e = refl

    neither : (b : Bool) → b ≡ false → when b (k j) ≡ when b (l j)
    neither true e = absurd (true≢false e)
    neither false e = refl

pub bars-alike : (B W : List ℕ) (n b x s b' x' s' : ℕ) → b ≡ block_word B 0 → x ≡ block_word B 1 → s ≡ block_word B 2 → b' ≡ told_bound W n → x' ≡ told_barred W n → s' ≡ told_stored W n → x ≡ x'
    → bit_or (bit_or b b') (bit_or s s') ≡ 0 → (j : ℕ) → group_at B j ≡ told_at W n j
bars-alike B W n b x s b' x' s' eb ex es fb fx fs e z j =
    let (y, t) = or-none (bit_or b b') (bit_or s s') z in
    let (p, q) = or-none b b' y in
    let (u, v) = or-none s s' t in
    block-told B j ∙ ap₂ (λ a c. told_by a c (block_word B 2) (λ j. block_word B (3 + 2 * j)) (λ j. block_word B (4 + 2 * j)) j) (sym eb ∙ p) (sym ex ∙ e ∙ fx)
    ∙ ap (λ c. told_by 0 (told_barred W n) c (λ j. block_word B (3 + 2 * j)) (λ j. block_word B (4 + 2 * j)) j) (sym es ∙ u)
    ∙ bars-only (told_barred W n) (λ j. block_word B (3 + 2 * j)) (told_payload W n) (λ j. block_word B (4 + 2 * j)) (told_kept W n) j
    ∙ sym (ap₂ (λ a c. told_by a (told_barred W n) c (told_payload W n) (told_kept W n) j) (sym fb ∙ q) (sym fs ∙ v))

pub alike_all : (f g : ℕ → Group) (c : ℕ) → ((j : ℕ) → f j ≡ g j) → true ≡ same_groups (list_of c f) (list_of c g)
alike_all f g c h = groups-all f g c c refl (list_of-cong c f g (λ i l. h i))

-- ---- the first bits of a set

ones-all : (c : ℕ) → set_of c (λ _. true) ≡ 2 ^ c - 1
unfolding set_of
ones-all zero = refl
ones-all (suc c) = omega (arith, ones-all c, pow_pos c)

bit-mod : (a c k : ℕ) → k < c → bit (a % 2 ^ c) k ≡ bit a k
bit-mod a c k l =
    ap (λ x. bit x k) (sym (and_mask a c)) ∙ bit-and k a (2 ^ c - 1) ∙ ap (λ b. bit a k && b) (ap (λ x. bit x k) (sym (ones-all c)) ∙ bit-set_of c (λ _. true) k l) ∙ and-true (bit a k)

mod-lt : (a c : ℕ) → a % 2 ^ c < 2 ^ c
mod-lt a c = subst (λ x. x < 2 ^ c) (and_mask a c) (mask_lt a c)

set-of-bits : (r : ℕ) (q : ℕ → Bool) → r < 18446744073709551616 → ((k : ℕ) → k < 64 → bit r k ≡ q k) → r ≡ set_of 64 q
set-of-bits r q l h = same_set r (set_of 64 q) l (set_of-lt 64 q) (λ k m. h k m ∙ sym (bit-set_of 64 q k m))

pub first-all : (x c : ℕ) → x < 18446744073709551616 → 64 ≤ c → x ≡ first_bits c (bit x)
first-all x c l h = set-of-bits x (λ j. ltb j c && bit x j) l (λ k m. ap (λ b. b && bit x k) (sym (lt-ltb k c (omega arith))))

pub first-few : (x c : ℕ) → x < 18446744073709551616 → c < 64 → x % ((1 * 2 ^ c) % 18446744073709551616) ≡ first_bits c (bit x)
first-few x c l h = ap (λ p. x % p) power ∙ set-of-bits (x % 2 ^ c) (λ j. ltb j c && bit x j) (omega (arith, mod-lt x c, pow-lt h)) at
  where
    power : (1 * 2 ^ c) % 18446744073709551616 ≡ 2 ^ c
    power = omega (arith, pow-lt h)

    at : (k : ℕ) → k < 64 → bit (x % 2 ^ c) k ≡ (ltb k c && bit x k)
    at k m = elim (dec_lt k c) [
      | yes n ↦ bit-mod x c k n ∙ ap (λ b. b && bit x k) (sym (lt-ltb k c n))
      | no n ↦ bit-far c (x % 2 ^ c) k (mod-lt x c) (omega arith) ∙ ap (λ b. b && bit x k) (sym (le-ltb k c (omega arith)))
    ]

-- a set by what is asked of each
pub set-cong : (p q : ℕ → Bool) → ((k : ℕ) → k < 64 → p k ≡ q k) → set_of 64 p ≡ set_of 64 q
set-cong p q h = set-of-bits (set_of 64 p) q (set_of-lt 64 p) (λ k l. bit-set_of 64 p k l ∙ h k l)

-- ---- the sets of what is told of c notices

module _ (says : Group → Bool) (f : ℕ → Group) (q : ℕ → Bool) (c : ℕ) (said : (j : ℕ) → says (f j) ≡ q j) (none : says no_group ≡ false) where
  told_at_lem : (j : ℕ) → (ltb j c && q j) ≡ says (get_or (list_of c f) j no_group)
  told_at_lem j = elim (dec_lt j c) [
    | yes l ↦ ap₂ (λ a b. a && b) (lt-ltb j c l) (sym (said j)) ∙ ap says (sym (list_of-at c f j no_group l))
    | no l ↦ ap (λ a. a && q j) (le-ltb j c (omega arith)) ∙ sym (ap says (get_or-eq_default (list_of c f) no_group (omega (arith, list_of-length c f))) ∙ none)
  ]

  pub told-set : first_bits c q ≡ told_set says (list_of c f)
  unfolding told_set
  told-set = set-cong _ _ (λ k l. told_at_lem k)

pub set-bit : (says : Group → Bool) (l : List Group) (j : ℕ) → j < 64 → bit (told_set says l) j ≡ says (get_or l j no_group)
unfolding told_set
set-bit says l j h = bit-set_of 64 (λ j. says (get_or l j no_group)) j h

pub bound-set : (B : List ℕ) (c b x r : ℕ) → b ≡ block_word B 0 → x ≡ block_word B 1 → r ≡ first_bits c (bit_without b x) → r ≡ told_set says_bound (list_of c (group_at B))
unfolding group_at binding_at
bound-set B c b x r eb ex e =
    e ∙ ap₂ (λ b x. first_bits c (bit_without b x)) eb ex ∙ told-set says_bound (group_at B) (bit_without (block_word B 0) (block_word B 1)) c (λ j. bound-said (bit (block_word B 0) j) (bit (block_word B 1) j) (bit (block_word B 2) j) (block_word B (3 + 2 * j)) (block_word B (4 + 2 * j))) refl

pub barred-set : (B : List ℕ) (c x r : ℕ) → x ≡ block_word B 1 → r ≡ first_bits c (bit x) → r ≡ told_set says_barred (list_of c (group_at B))
unfolding group_at binding_at
barred-set B c x r ex e = e ∙ ap (λ x. first_bits c (bit x)) ex ∙ told-set says_barred (group_at B) (bit (block_word B 1)) c (λ j. barred-said (bit (block_word B 0) j) (bit (block_word B 1) j) (bit (block_word B 2) j) (block_word B (3 + 2 * j)) (block_word B (4 + 2 * j))) refl

pub stored-set : (B : List ℕ) (c s r : ℕ) → s ≡ block_word B 2 → r ≡ first_bits c (bit s) → r ≡ told_set says_stored (list_of c (group_at B))
unfolding group_at binding_at
stored-set B c s r es e = e ∙ ap (λ x. first_bits c (bit x)) es ∙ told-set says_stored (group_at B) (bit (block_word B 2)) c (λ j. stored-said (bit (block_word B 0) j) (bit (block_word B 1) j) (bit (block_word B 2) j) (block_word B (3 + 2 * j)) (block_word B (4 + 2 * j))) refl

-- ---- payload and kept, group by group

pub words-length : (l : List Group) → length (told_words l) ≡ 2 * length l
unfolding told_words
words-length [] = refl
words-length (g ∷ l) = omega (arith, words-length l)

words_more : (l : List Group) (g : Group) → told_words (l ++ (g ∷ [])) ≡ told_words l ++ (g.payload ∷ g.kept ∷ [])
unfolding told_words
words_more [] g = refl
words_more (h ∷ l) g = ap (λ k. h.payload ∷ h.kept ∷ k) (words_more l g)

pub words-payload : (l : List Group) (j : ℕ) → get_or (told_words l) (2 * j) 0 ≡ (get_or l j no_group).payload
unfolding told_words
words-payload [] j = refl
words-payload (g ∷ l) zero = refl
words-payload (g ∷ l) (suc j) = let e : 2 * suc j ≡ suc (suc (2 * j)) = omega arith in ap (λ i. get_or (told_words (g ∷ l)) i 0) e ∙ words-payload l j

pub words-kept : (l : List Group) (j : ℕ) → get_or (told_words l) (2 * j + 1) 0 ≡ (get_or l j no_group).kept
unfolding told_words
words-kept [] j = refl
words-kept (g ∷ l) zero = refl
words-kept (g ∷ l) (suc j) = let e : 2 * suc j + 1 ≡ suc (suc (2 * j + 1)) = omega arith in ap (λ i. get_or (told_words (g ∷ l)) i 0) e ∙ words-kept l j

module _ (l : List ℕ) (s : ℕ) (f : ℕ → Group) where
  pub no-pair : l ≡ sets l s (told_words (list_of 0 f))
  unfolding list_of told_words
  no-pair = refl

  pub one-pair : (out : List ℕ) (i p k : ℕ) → out ≡ sets l s (told_words (list_of i f)) → p ≡ (f i).payload → k ≡ (f i).kept → set (set out (s + 2 * i) p) (s + 2 * i + 1) k ≡ sets l s (told_words (list_of (i + 1) f))
  unfolding list_of
  one-pair out i p k e ep ek =
      let n : length (told_words (list_of i f)) ≡ 2 * i = words-length (list_of i f) ∙ ap (λ n. 2 * n) (list_of-length i f) in
      (λ d. set (set (e d) (s + 2 * i) (ep d)) (s + 2 * i + 1) (ek d)) ∙ ap (λ m. set (set (sets l s (told_words (list_of i f))) (s + m) (f i).payload) (s + m + 1) (f i).kept) (sym n)
      ∙ sets-two (told_words (list_of i f)) l s (f i).payload (f i).kept ∙ ap (sets l s) (sym (words_more (list_of i f) (f i))) ∙ ap (λ m. sets l s (told_words (list_of m f))) (sym (add-one i))

-- ---- the three sets of a report

pub sets-long : (W : List ℕ) (s x y z : ℕ) → length (set (set (set W (s + bound_from) x) (s + barred_from) y) (s + stored_from) z) ≡ length W
sets-long W s x y z = length-set (set (set W (s + bound_from) x) (s + barred_from) y) (s + stored_from) z ∙ length-set (set W (s + bound_from) x) (s + barred_from) y ∙ length-set W (s + bound_from) x

-- ---- the groups of a statement of any kind

module _ (kind groups payload : ℕ) (B : List ℕ) where
  abbrev given : List Group
  given = groups_of kind groups payload B

  abbrev given_by : Bool → List Group
  given_by b = cond b (list_of (min groups 64) (group_at B)) (only payload ∷ [])

  given-plain : (kind ≡ 5 → ⊥) → given ≡ only payload ∷ []
  unfolding groups_of
  given-plain n = ap given_by (ne_eqb kind 5 n)

  given-report : (c : ℕ) → kind ≡ 5 → c ≡ groups_many kind groups → given ≡ list_of c (group_at B)
  unfolding groups_of
  given-report c e q = ap given_by (eq-eqb kind 5 e) ∙ ap (λ m. list_of m (group_at B)) (sym (q ∙ ap (λ b. cond b (min groups 64) 1) (eq-eqb kind 5 e)))

  -- written
  module _ (W : List ℕ) (s : ℕ) where
    pub plain_in : (kind ≡ 5 → ⊥) → set W (s + payload_from) payload ≡ groups_in W s kind given
    unfolding groups_in
    plain_in n =
        ap (λ l. set W (s + payload_from) (get_or l 0 no_group).payload) (sym (given-plain n)) ∙ sym (ap (λ b. cond b (report_in W s given) (set W (s + payload_from) (get_or given 0 no_group).payload)) (ne_eqb kind 5 n))

    pub report-in : (U : List ℕ) (c x y z : ℕ) → kind ≡ 5 → (c ≡ groups_many kind groups) × (c ≤ 64) → x ≡ told_set says_bound (list_of c (group_at B)) → y ≡ told_set says_barred (list_of c (group_at B))
        → z ≡ told_set says_stored (list_of c (group_at B)) → U ≡ sets (set (set (set W (s + bound_from) x) (s + barred_from) y) (s + stored_from) z) (told_from + s * 128) (told_words (list_of c (group_at B))) → U ≡ groups_in W s kind given
    unfolding groups_in report_in
    report-in U c x y z e q ex ey ez u =
        u ∙ (λ i. sets (set (set (set W (s + bound_from) (ex i)) (s + barred_from) (ey i)) (s + stored_from) (ez i)) (told_from + s * 128) (told_words (whole i))) ∙ ap (report_in W s) (sym (given-report c e q.0))
        ∙ sym (ap (λ b. cond b (report_in W s given) (set W (s + payload_from) (get_or given 0 no_group).payload)) (eq-eqb kind 5 e))
      where
        whole : list_of c (group_at B) ≡ take 64 (list_of c (group_at B))
        whole = sym (take_all 64 (list_of c (group_at B)) (omega (arith, list_of-length c (group_at B))))

  -- compared with those of statement n, which is of this kind
  module _ (W : List ℕ) (n : ℕ) (is : kind ≡ (stmt_at W n).kind) where
    pub plain-same : (m : ℕ) → (kind ≡ 5 → ⊥) → m ≡ word W n payload_from → eqb payload m ≡ same_groups given (stmt_at W n).groups
    plain-same m d e =
        says-unique (says_map (λ q. ap (λ p. only p ∷ []) q) (ap (λ l. (get_or l 0 no_group).payload)) says-eqb) (says-same-groups (only payload ∷ []) (only m ∷ []))
        ∙ ap₂ same_groups (sym (given-plain d)) (ap (λ p. only p ∷ []) e ∙ sym (plain-groups W n (ap (λ k. eqb k 5) (sym is) ∙ ne_eqb kind 5 d)))

    pub report-same : (c : ℕ) (r : Bool) → kind ≡ 5 → c ≡ groups_many kind groups → r ≡ same_groups (list_of c (group_at B)) (list_of (group_count W n) (told_at W n)) → r ≡ same_groups given (stmt_at W n).groups
    report-same c r e q h = h ∙ ap₂ same_groups (sym (given-report c e q)) (sym (report-groups W n (ap (λ k. eqb k 5) (sym is) ∙ eq-eqb kind 5 e)))

-- read
pub groups-got : (W B : List ℕ) (n k c p : ℕ) → k ≡ (stmt_at W n).kind → (c ≡ group_count W n) × (c ≤ 64) → p ≡ word W n payload_from → list_of c (group_at B) ≡ list_of c (told_at W n) → groups_of k c p B ≡ (stmt_at W n).groups
unfolding groups_of stmt_at groups_at
groups-got W B n k c p ek ec ep e =
    let q : min c 64 ≡ c = omega arith in
    (λ i. cond (eqb (ek i) 5) (list_of (q i) (group_at B)) (only (ep i) ∷ [])) ∙ ap (λ l. cond (eqb (head_at W n % 256) 5) l (only (word W n payload_from) ∷ [])) (e ∙ ap (λ m. list_of m (told_at W n)) ec.0)

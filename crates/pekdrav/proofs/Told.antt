-- Words that are told one after the other, and that all of them are what the record shows.
-- Assumes nothing.
use Rattle.std.specs.Prelude.{if◌then◌else◌}
use Prim.Native.Nat.{ℕ, zero, suc, ◌+◌, ◌^◌, ◌≤◌, ◌<◌, min}
use native.Mathlib.Decide.{dec_lt}
use native.Mathlib.Omega.{arith}
use mathlib.Core.Path.{◌≡◌, refl, sym, ap, ap₂, ◌∙◌}
use mathlib.Core.Bool.{Bool, true, false, cond, not, ◌&&◌}
use mathlib.Core.List.{List, [], ◌∷◌, ◌++◌, map, append_assoc, append-nil}
use mathlib.Core.Option.{Option}
use lib.Dec.{ltb}
use lib.ListN.{length, take, drop, get_or, replicate, length-append, length-map, get_or-map, get_or-eq_default, drop_of_length-le}
use lib.Seq.{sets, sets-eq, drop-drop}
use borrow.Author.Tests.{lt-ltb, le-ltb}
use mir.Val.{bool_byte}
use borrow.Rule.Slice.PartMut.{put_mid}
use Rattle.text.proofs.Stores.{sets-append}
use Rattle.views.specs.View.{view_of, views_of, word_of}
use Rattle.views.proofs.Tables.{views-count}
use Rattle.views.proofs.Sets.{bit-far, set_of-lt}
use Rattle.statements.specs.Sets.{Common}
use Rattle.protocol.specs.Sets.{bit, one, set_of}
use Rattle.protocol.specs.Lists.{first, when, given, is_some, otherwise, list_of}
use Rattle.protocol.specs.View.{View, Ring}
use Rattle.protocol.specs.Statement.{Stmt}
use Rattle.protocol.specs.Evidence.{candidates, certificates, is_stored}
use Rattle.protocol.proofs.Bits.{bit-zero, bit-set_of, bits-ext}
use Rattle.protocol.proofs.Numbered.{list_of-length, list_of-at, list_of-cong}
use Rattle.evidence.specs.declared.Evidence.{Evidence}
use Rattle.evidence.specs.Evidence.{EvidenceOf}
use Rattle.evidence.specs.Notices.{senders_of}
use Rattle.pekdrav.specs.Evidence.{flag, sixteen, few, certificate_for, stored_for, payload_words, payloads_in, conflict_words, agreed_words, told_of}

-- ---- sixteen words

-- word i of the first n views
abbrev pub word_in : List ℕ → ℕ → ℕ → ℕ
word_in ws n i = cond (ltb i n) (word_of (view_of (get_or ws i 0))) 0

view_in : (ws : List ℕ) (n i : ℕ) → word_in ws n i ≡ get_or (map word_of (views_of ws n)) i 0
unfolding views_of
view_in ws n i = elim (dec_lt i n) [
  | yes l ↦ ap (λ b. cond b (word_of (view_of (get_or ws i 0))) 0) (lt-ltb i n l) ∙ sym (get_or-map word_of (views_of ws n) i (record { joined = 0; left = 0 }) ∙ ap word_of (list_of-at n (λ k. view_of (get_or ws k 0)) i _ l))
  | no l ↦ ap (λ b. cond b (word_of (view_of (get_or ws i 0))) 0) (le-ltb i n (omega arith)) ∙ sym (get_or-eq_default (map word_of (views_of ws n)) 0 (omega (arith, length-map (views_of ws n) word_of, views-count ws n)))
]

pub told-all : (ws : List ℕ) (n : ℕ) → list_of 16 (word_in ws n) ≡ sixteen (views_of ws n)
unfolding sixteen
told-all ws n = list_of-cong 16 (word_in ws n) (λ i. get_or (map word_of (views_of ws n)) i 0) (λ i l. view_in ws n i)

sixteen-long : (l : List View) → length (sixteen l) ≡ 16
unfolding sixteen
sixteen-long l = list_of-length 16 (λ i. get_or (map word_of l) i 0)

-- ---- sixty-four payloads

-- the payload of notice i, if it is in the set
abbrev pub payload_in : ℕ → List ℕ → ℕ → ℕ
payload_in certified P i = cond (bit certified i) (get_or P i 0) 0

-- it is that where the set has i, and 0 elsewhere

pub payload-there : (certified : ℕ) (P : List ℕ) (i : ℕ) → bit certified i ≡ true → get_or P i 0 ≡ payload_in certified P i
payload-there certified P i e = ap (λ b. cond b (get_or P i 0) 0) (sym e)

pub payload-none : (certified : ℕ) (P : List ℕ) (i : ℕ) → bit certified i ≡ false → 0 ≡ payload_in certified P i
payload-none certified P i e = ap (λ b. cond b (get_or P i 0) 0) (sym e)

same-choice : (b : Bool) (m : ℕ) → cond b m 0 ≡ (if b then m else 0)
same-choice true m = refl
same-choice false m = refl

pub payloads-all : (certified : ℕ) (P : List ℕ) → list_of 64 (payload_in certified P) ≡ payloads_in certified P
unfolding payloads_in
payloads-all certified P = list_of-cong 64 _ _ (λ i l. same-choice (bit certified i) (get_or P i 0))

pub payloads-long : (certified : ℕ) (P : List ℕ) → length (payloads_in certified P) ≡ 64
unfolding payloads_in
payloads-long certified P = list_of-length 64 (λ i. if bit certified i then get_or P i 0 else 0)

-- words that take the place of the last sixty-four
pub last-written : (out vs : List ℕ) → length out ≡ 104 → length vs ≡ 64 → put_mid 40 64 out vs ≡ sets out 40 vs
last-written out vs h e = ap (λ r. take 40 out ++ (vs ++ r)) (drop-drop 64 40 out) ∙ sym (sets-eq vs out 40 (omega arith) ∙ append_assoc (take 40 out) vs (drop (40 + length vs) out) ∙ ap (λ k. take 40 out ++ (vs ++ drop (40 + k) out)) e)

-- ---- all hundred and four

whole : (l vs : List ℕ) → length vs ≡ length l → sets l 0 vs ≡ vs
whole l vs e = sets-eq vs l 0 (omega arith) ∙ ap (λ r. vs ++ r) (drop_of_length-le l {i = 0 + length vs} (omega arith)) ∙ append-nil vs

-- words that are written behind others
behind : (l xs ys : List ℕ) (i j : ℕ) → j ≡ i + length xs → sets (sets l i xs) j ys ≡ sets l i (xs ++ ys)
behind l xs ys i j e = ap (λ k. sets (sets l i xs) k ys) e ∙ sym (sets-append xs ys l i)

-- eight words, two times sixteen and sixty-four, written one after the other over a hundred and four
over : (l N A B D : List ℕ) → length l ≡ 104 → length N ≡ 8 → length A ≡ 16 → length B ≡ 16 → length D ≡ 64
    → sets (sets (sets (sets l 0 N) 8 A) 24 B) 40 D ≡ N ++ (A ++ (B ++ D))
over l N A B D m n a b d =
    behind (sets (sets l 0 N) 8 A) B D 24 40 (omega arith) ∙ behind (sets l 0 N) A (B ++ D) 8 24 (omega arith) ∙ behind l N (A ++ (B ++ D)) 0 8 (omega arith)
    ∙ whole l (N ++ (A ++ (B ++ D))) (omega (arith, length-append N (A ++ (B ++ D)), length-append A (B ++ D), length-append B D))

-- ---- sets of notices

one-le : (b : Bool) → one b ≤ 1
one-le true = omega arith
one-le false = omega arith

power : (m : ℕ) → 0 < 2 ^ m
power zero = omega arith
power (suc m) = omega (arith, power m)

below_more : (n m : ℕ) (q : ℕ → Bool) → n ≤ m → set_of n q < 2 ^ m
unfolding set_of
below_more zero m q l = power m
below_more (suc n) zero q l = absurd (omega arith)
below_more (suc n) (suc m) q l = omega (arith, one-le (q 0), below_more n m (λ k. q (suc k)) (omega arith))

-- a word with just these bits
set_told : (n r : ℕ) (q : ℕ → Bool) → n ≤ 64 → r < 18446744073709551616 → ((i : ℕ) → i < n → bit r i ≡ q i) → ((i : ℕ) → n ≤ i → bit r i ≡ false) → r ≡ set_of n q
set_told n r q h l f g = bits-ext 64 r (set_of n q) l (below_more n 64 q h) (λ i m. elim (dec_lt i n) [
  | yes j ↦ f i j ∙ sym (bit-set_of n q i j)
  | no j ↦ g i (omega arith) ∙ sym (bit-far n (set_of n q) i (set_of-lt n q) (omega arith))
])

none_told : (r : ℕ) → r < 18446744073709551616 → ((i : ℕ) → bit r i ≡ false) → r ≡ 0
unfolding set_of
none_told r l f = set_told 0 r (λ i. false) (omega arith) l (λ i j. absurd (omega arith)) (λ i j. f i)

-- ---- one certificate

some-when : {A : Type 0} (b : Bool) (a : A) → is_some (when b a) ≡ b
some-when true a = refl
some-when false a = refl

-- whether it is there and stored
stored-when : (b s : Bool) (m : ℕ) (stored : ℕ → Bool) (o : Option ℕ) → when b m ≡ o → (b ≡ true → s ≡ stored m) → (b && s) ≡ is_some (given o (λ x. when (stored x) x))
stored-when true s m stored o e f = f refl ∙ sym (some-when (stored m) m) ∙ ap (λ o. is_some (given o (λ x. when (stored x) x))) e
stored-when false s m stored o e f = ap (λ o. is_some (given o (λ x. when (stored x) x))) e

payload-when : (b : Bool) (m : ℕ) (o : Option ℕ) → when b m ≡ o → (if b then m else 0) ≡ otherwise o 0
payload-when true m o e = ap (λ o. otherwise o 0) e
payload-when false m o e = ap (λ o. otherwise o 0) e

pub flag_is : (b : Bool) → bool_byte b ≡ flag b
flag_is true = refl
flag_is false = refl

-- ---- what the record shows

pub senders-few : (S : List ℕ) (n : ℕ) → length (senders_of S n) ≤ 64
unfolding senders_of
senders-few S n = omega (arith, list_of-length (min n 64) (λ i. get_or S i 0))

-- the words, part by part
abbrev parts : ℕ → ℕ → View → ℕ → List View → ℕ → List View → ℕ → ℕ → List ℕ → List ℕ
parts conflict many wish n C m G certified stored payloads = conflict ∷ many ∷ word_of wish ∷ n ∷ m ∷ certified ∷ stored ∷ 0 ∷ (sixteen C ++ (sixteen G ++ payloads))

same_parts : {many many' n n' m m' v v' s s' : ℕ} {wish wish' : View} {C C' G G' : List View} {P P' : List ℕ}
    → many ≡ many' → wish ≡ wish' → n ≡ n' → C ≡ C' → m ≡ m' → G ≡ G' → v ≡ v' → s ≡ s' → P ≡ P' → parts 0 many wish n C m G v s P ≡ parts 0 many' wish' n' C' m' G' v' s' P'
same_parts a b c d e f g h p i = parts 0 (a i) (b i) (c i) (d i) (e i) (f i) (g i) (h i) (p i)

count-told : (C : List ℕ) (n : ℕ) {H : List View} → views_of C n ≡ H → n ≡ length H
count-told C n e = sym (views-count C n) ∙ ap length e

module _ (R : Ring) (senders : List ℕ) (X : List Stmt) where
  few-told : (many : Bool) (C : List ℕ) (n : ℕ) → many ≡ ltb 16 (length (candidates R X)) → (many ≡ false → views_of C n ≡ candidates R X) → views_of C (cond (not many) n 0) ≡ few (candidates R X)
  unfolding few views_of list_of
  few-told true C n e f = ap (λ b. if b then [] else candidates R X) e
  few-told false C n e f = f refl ∙ ap (λ b. if b then [] else candidates R X) e

  -- ---- the certificates, as a set and words of payloads

  module _ (v : ℕ) (P : List ℕ) (short : length senders ≤ 64) (small : v < 18446744073709551616)
      (is : (i : ℕ) → i < length senders → when (bit v i) (get_or P i 0) ≡ first (certificates R senders X i)) (within : (i : ℕ) → length senders ≤ i → bit v i ≡ false) where
    certified-told : v ≡ set_of (length senders) (λ i. is_some (certificate_for R senders X i))
    certified-told = set_told (length senders) v _ short small (λ i l. sym (some-when (bit v i) (get_or P i 0)) ∙ ap is_some (is i l)) within

    stored-told : (stored s : ℕ) → ((i : ℕ) → i < length senders → bit v i ≡ true → bit stored i ≡ is_stored R X i (get_or P i 0)) → Common v stored s → s < 18446744073709551616
        → s ≡ set_of (length senders) (stored_for R senders X)
    unfolding stored_for
    stored-told stored s f both l =
        set_told (length senders) s _ short l (λ i h. both.bits i ∙ stored-when (bit v i) (bit stored i) (get_or P i 0) (is_stored R X i) _ (is i h) (f i h))
        (λ i h. both.bits i ∙ ap (λ b. b && bit stored i) (within i h))

    payloads-told : payloads_in v P ≡ payload_words R senders X
    unfolding payloads_in payload_words
    payloads-told = list_of-cong 64 _ _ (λ i l. elim (dec_lt i (length senders)) [
      | yes h ↦ payload-when (bit v i) (get_or P i 0) _ (is i h) ∙ ap (λ b. if b then otherwise (certificate_for R senders X i) 0 else 0) (sym (lt-ltb i (length senders) h))
      | no h ↦ ap (λ b. if b then get_or P i 0 else 0) (within i (omega arith)) ∙ ap (λ b. if b then otherwise (certificate_for R senders X i) 0 else 0) (sym (le-ltb i (length senders) (omega arith)))
    ])

  -- ---- all words

  no-payloads : (P : List ℕ) → payloads_in 0 P ≡ replicate 64 0
  unfolding payloads_in list_of
  no-payloads P = list_of-cong 64 (λ i. if bit 0 i then get_or P i 0 else 0) (λ i. 0) (λ i l. ap (λ b. if b then get_or P i 0 else 0) (bit-zero i))

  all_told : (conflict many : Bool) (backed w n m skipped certified stored : ℕ) (C G P : List ℕ) (v s : ℕ)
      → EvidenceOf R senders X C G P (record { conflict = conflict; many = many; backed = backed; wished = w; count = n; length = m; skipped = skipped; certified = certified; stored = stored })
      → length senders ≤ 64 → v ≡ cond (not conflict) certified 0 → Common v stored s → v < 18446744073709551616 → s < 18446744073709551616
      → parts (bool_byte conflict) (bool_byte (not conflict && many)) (view_of w) (cond (not conflict && not many) n 0) (views_of C (cond (not conflict && not many) n 0)) (cond (not conflict) m 0)
      (views_of G (cond (not conflict) m 0)) v s (payloads_in v P)
      ≡ (if conflict then conflict_words R X else agreed_words R senders X)
  unfolding conflict_words agreed_words views_of list_of sixteen
  all_told true many backed w n m skipped certified stored C G P v s of short e both p q =
      let z : s ≡ 0 = none_told s q (λ i. both.bits i ∙ ap (λ x. bit x i && bit stored i) e ∙ ap (λ b. b && bit stored i) (bit-zero i)) in
      rw (e, z) (ap₂ (λ x P. 1 ∷ 0 ∷ word_of x ∷ 0 ∷ 0 ∷ 0 ∷ 0 ∷ 0 ∷ (sixteen [] ++ (sixteen [] ++ P))) of.wished (no-payloads P))
  all_told false many backed w n m skipped certified stored C G P v s of short e both p q =
      let c : views_of C (cond (not many) n 0) ≡ few (candidates R X) = few-told many C n (of.many refl) (of.candidates refl) in
      let is : (i : ℕ) → i < length senders → when (bit v i) (get_or P i 0) ≡ first (certificates R senders X i) = λ i l. ap (λ x. when (bit x i) (get_or P i 0)) e ∙ of.certificate refl i l in
      let within : (i : ℕ) → length senders ≤ i → bit v i ≡ false = λ i l. ap (λ x. bit x i) e ∙ of.within i l in
      same_parts (flag_is many ∙ ap flag (of.many refl)) of.wished (count-told C (cond (not many) n 0) c) c (count-told G m (of.greatest refl)) (of.greatest refl)
      (certified-told v P short p is within)
      (stored-told v P short p is within stored s (λ i l t. of.stored refl i l (ap (λ x. bit x i) (sym e) ∙ t)) both q)
      (payloads-told v P short p is within)

  -- THE WORDS THAT ARE TOLD ARE THE RECORD'S
  pub tells : (l one two all C G P : List ℕ) (e : Evidence) (w n m v s : ℕ) → EvidenceOf R senders X C G P e → length l ≡ 104 → length senders ≤ 64
      → w ≡ word_of (view_of e.wished) → n ≡ cond (not e.conflict && not e.many) e.count 0 → m ≡ cond (not e.conflict) e.length 0
      → v ≡ cond (not e.conflict) e.certified 0 → Common v e.stored s → v < 18446744073709551616 → s < 18446744073709551616
      → one ≡ sets (sets l 0 (bool_byte e.conflict ∷ bool_byte (not e.conflict && e.many) ∷ w ∷ n ∷ m ∷ v ∷ s ∷ 0 ∷ [])) 8 (sixteen (views_of C n))
      → two ≡ sets one 24 (sixteen (views_of G m)) → all ≡ sets two 40 (payloads_in v P) → all ≡ told_of R senders X
  unfolding told_of
  tells l one two all C G P e w n m v s of long short a b c d both p q f g h =
      rw (h, g, f, a, b, c)
      (over l (bool_byte e.conflict ∷ bool_byte (not e.conflict && e.many) ∷ word_of (view_of e.wished) ∷ cond (not e.conflict && not e.many) e.count 0 ∷ cond (not e.conflict) e.length 0 ∷ v ∷ s ∷ 0 ∷ [])
      (sixteen (views_of C (cond (not e.conflict && not e.many) e.count 0))) (sixteen (views_of G (cond (not e.conflict) e.length 0))) (payloads_in v P) long refl
      (sixteen-long (views_of C (cond (not e.conflict && not e.many) e.count 0))) (sixteen-long (views_of G (cond (not e.conflict) e.length 0))) (payloads-long v P)
      ∙ all_told e.conflict e.many e.backed e.wished e.count e.length e.skipped e.certified e.stored C G P v s of short d both p q
      ∙ ap (λ x. if x then conflict_words R X else agreed_words R senders X) of.conflict)

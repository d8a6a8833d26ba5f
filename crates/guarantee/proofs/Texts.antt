-- A row as it is printed tells whom it names, its answer and its value; and the lines of the output are the header and the rows.
--     answer-told  two replies with one row name one controller, and have one answer, but for what a number or a view stands for and for the notice of a delivery
--     out_at       line n of the output is the row of the reply to line n
-- Assumes nothing.
use Rattle.std.specs.Prelude.{if◌then◌else◌}
use mathlib.Core.Path.{◌≡◌, refl, sym, ap, ap₂, subst, ◌∙◌}
use mathlib.Core.Bool.{Bool, true, false, cond}
use mathlib.Core.List.{List, [], ◌∷◌, ◌++◌, append_assoc}
use mathlib.Core.Option.{Option, some, none}
use Prim.Native.Nat.{ℕ, zero, suc, ◌+◌, ◌-◌, ◌*◌, ◌^◌, ◌/◌, ◌%◌, ◌≤◌, ◌<◌}
use native.Mathlib.Decide.{dec_lt}
use native.Mathlib.Omega.{arith}
use borrow.Author.Tests.{ne_eqb}
use lib.Dec.{T, eqb, leb, ltb, leb→le}
use lib.ListN.{length, get_or, drop, get_elem?}
use Rattle.protocol.specs.Lists.{all}
use Rattle.protocol.specs.View.{View}
use Rattle.protocol.specs.Statement.{Stmt}
use Rattle.protocol.specs.Controller.{Refusal, conflict, refusal_number, Answer, taken, signed, entered, delivered, left, quiet, refused, answer_word, answer_value}
use Rattle.protocol.proofs.Rules.{and_first, and_second}
use Rattle.text.specs.Text.{glyph, digits, dec_text, hex_text}
use Rattle.text.proofs.Bytes.{glyph-small}
use Rattle.text.proofs.Decimal.{dec-small, dec-grow}
use Rattle.text.proofs.Laws.{hex-same}
use Rattle.statements.specs.Text.{parted, view_text}
use Rattle.schedule.specs.Line.{Line, before, lines}
use Rattle.bench.specs.Bench.{Bench, new_bench, Reply, step}
use Rattle.bench.specs.Rows.{word_text, value_text, row_text, header_text, rows_from}
use Rattle.guarantee.specs.Hosts.{refusal_of}
use Rattle.guarantee.specs.Events.{after_line, after}
use Rattle.guarantee.proofs.Laws.{refusal-at}

-- ---- texts of signs from b on

abbrev AtLeast : ℕ → List ℕ → Type 0
AtLeast b [] = Unit {0}
AtLeast b (c ∷ t) = (b ≤ c) × AtLeast b t

least-append : (b : ℕ) (s t : List ℕ) → AtLeast b s → AtLeast b t → AtLeast b (s ++ t)
least-append b [] t p q = q
least-append b (c ∷ s) t (h, p) q = (h, least-append b s t p q)

least-less : (a b : ℕ) → a ≤ b → (t : List ℕ) → AtLeast b t → AtLeast a t
least-less a b l [] p = tt
least-less a b l (c ∷ t) (h, p) = (omega arith, least-less a b l t p)

-- a digit or a letter is 48 or more; a comma is 44, and the end of a line 10
abbrev Plain : List ℕ → Type 0
Plain t = AtLeast 48 t

plain_of : (t : List ℕ) → T (all (leb 48) t) → Plain t
unfolding all
plain_of [] h = tt
plain_of (c ∷ t) h = (leb→le 48 c (and_first (leb 48 c) (all (leb 48) t) h), plain_of t (and_second (leb 48 c) (all (leb 48) t) h))

plain-glyph : (d : ℕ) → 48 ≤ glyph d
plain-glyph d = go (ltb d 10)
  where
    go : (b : Bool) → 48 ≤ cond b (48 + d) (87 + d)
    go true = omega arith
    go false = omega arith

plain-digits : (steps n : ℕ) → Plain (digits steps n)
unfolding digits
plain-digits zero n = (plain-glyph n, tt)
plain-digits (suc steps) n = go (ltb n 10) (plain-digits steps (n / 10))
  where
    go : (b : Bool) → Plain (digits steps (n / 10)) → Plain (cond b (glyph n ∷ []) (digits steps (n / 10) ++ (glyph (n % 10) ∷ [])))
    go true p = (plain-glyph n, tt)
    go false p = least-append 48 (digits steps (n / 10)) (glyph (n % 10) ∷ []) p (plain-glyph (n % 10), tt)

plain-dec : (n : ℕ) → Plain (dec_text n)
unfolding dec_text
plain-dec n = plain-digits n n

plain-hex : (k n : ℕ) → Plain (hex_text k n)
unfolding hex_text
plain-hex zero n = tt
plain-hex (suc k) n = least-append 48 (hex_text k (n / 16)) (glyph (n % 16) ∷ []) (plain-hex k (n / 16)) (plain-glyph (n % 16), tt)

plain_word : (a : Answer) → Plain (word_text a)
unfolding all
plain_word taken = plain_of (word_text taken) tt
plain_word (signed s) = plain_of (word_text (signed s)) tt
plain_word (entered v) = plain_of (word_text (entered v)) tt
plain_word (delivered i m who) = plain_of (word_text (delivered i m who)) tt
plain_word left = plain_of (word_text left) tt
plain_word quiet = plain_of (word_text quiet) tt
plain_word (refused r) = plain_of (word_text (refused r)) tt

plain_value : (n : ℕ) (a : Answer) → Plain (value_text (answer_value n a))
unfolding view_text
plain_value n taken = plain-dec n
plain_value n (signed s) = plain-dec n
plain_value n (entered v) = least-append 48 (hex_text 4 v.joined) (hex_text 4 v.left) (plain-hex 4 v.joined) (plain-hex 4 v.left)
plain_value n (delivered i m who) = plain-dec m
plain_value n left = plain-dec 0
plain_value n quiet = plain-dec 0
plain_value n (refused r) = plain-dec (refusal_number r)

-- ---- fields parted by commas, and the end of the line

-- a plain text ends at the first sign that is not plain
ends : (a b : List ℕ) (x y : ℕ) (r s : List ℕ) → Plain a → Plain b → x < 48 → y < 48 → a ++ x ∷ r ≡ b ++ y ∷ s → (a ≡ b) × (r ≡ s)
ends [] [] x y r s p q h g e = (refl, ap (drop 1) e)
ends [] (c ∷ b) x y r s p q h g e = absurd (omega (arith, ap (λ t. get_or t 0 0) e, q.0))
ends (c ∷ a) [] x y r s p q h g e = absurd (omega (arith, ap (λ t. get_or t 0 0) e, p.0))
ends (c ∷ a) (d ∷ b) x y r s p q h g e = let (f, i) = ends a b x y r s p.1 q.1 h g (ap (drop 1) e) in (ap₂ (λ c t. c ∷ t) (ap (λ t. get_or t 0 0) e) f, i)

abbrev Plains : List (List ℕ) → Type 0
Plains [] = Unit {0}
Plains (f ∷ F) = Plain f × Plains F

-- as many fields are told by their text
fields_told : (F G : List (List ℕ)) → Plains F → Plains G → length F ≡ length G → parted F ++ (10 ∷ []) ≡ parted G ++ (10 ∷ []) → F ≡ G
unfolding parted
fields_told [] [] p q l e = refl
fields_told (f ∷ []) (g ∷ []) (p, _) (q, _) l e = ap (λ t. t ∷ []) (ends f g 10 10 [] [] p q (omega arith) (omega arith) e).0
fields_told (f ∷ x ∷ F) (g ∷ y ∷ G) (p, ps) (q, qs) l e =
    let (h, r) = ends f g 44 44 (parted (x ∷ F) ++ (10 ∷ [])) (parted (y ∷ G) ++ (10 ∷ [])) p q (omega arith) (omega arith)
    (sym (append_assoc f (44 ∷ parted (x ∷ F)) (10 ∷ [])) ∙ e ∙ append_assoc g (44 ∷ parted (y ∷ G)) (10 ∷ [])) in
    ap₂ (λ t T. t ∷ T) h (fields_told (x ∷ F) (y ∷ G) ps qs (omega arith) r)
fields_told [] (g ∷ G) p q l e = absurd (omega arith)
fields_told (f ∷ F) [] p q l e = absurd (omega arith)
fields_told (f ∷ []) (g ∷ y ∷ G) p q l e = absurd (omega arith)
fields_told (f ∷ x ∷ F) (g ∷ []) p q l e = absurd (omega arith)

parted-least : (F : List (List ℕ)) → Plains F → AtLeast 44 (parted F)
unfolding parted
parted-least [] p = tt
parted-least (f ∷ []) (p, _) = least-less 44 48 (omega arith) f p
parted-least (f ∷ x ∷ F) (p, q) = least-append 44 f (44 ∷ parted (x ∷ F)) (least-less 44 48 (omega arith) f p) (omega arith, parted-least (x ∷ F) q)

-- ---- a number is told by its text

read : ℕ → List ℕ → ℕ
read a [] = a
read a (c ∷ t) = read (a * 10 + (c - 48)) t

read-append : (a : ℕ) (s t : List ℕ) → read a (s ++ t) ≡ read (read a s) t
unfolding read
read-append a [] t = refl
read-append a (c ∷ s) t = read-append (a * 10 + (c - 48)) s t

read-dec : (f n : ℕ) → n < f → read 0 (dec_text n) ≡ n
unfolding read
read-dec zero n h = absurd (omega arith)
read-dec (suc f) n h = elim (dec_lt n 10) [
  | yes l ↦ ap (read 0) (dec-small n l) ∙ ap (λ c. 0 * 10 + (c - 48)) (glyph-small n l) ∙ omega arith
  | no l ↦
      ap (read 0) (dec-grow n (omega arith)) ∙ read-append 0 (dec_text (n / 10)) (glyph (n % 10) ∷ [])
      ∙ ap₂ (λ a c. a * 10 + (c - 48)) (read-dec f (n / 10) (omega arith)) (glyph-small (n % 10) (omega arith)) ∙ omega arith
]

dec-told : (m n : ℕ) → dec_text m ≡ dec_text n → m ≡ n
dec-told m n e = sym (read-dec (suc m) m (omega arith)) ∙ ap (read 0) e ∙ read-dec (suc n) n (omega arith)

-- ---- an answer is told by its word and its value

-- a word by its first letter
word_place : ℕ → ℕ
word_place c = if eqb c 116 then 0 else if eqb c 115 then 1 else if eqb c 101 then 2 else if eqb c 100 then 3 else if eqb c 108 then 4 else if eqb c 113 then 5 else 6

word-place-is : (a : Answer) → word_place (get_or (word_text a) 0 0) ≡ answer_word a
unfolding word_place
word-place-is taken = refl
word-place-is (signed s) = refl
word-place-is (entered v) = refl
word-place-is (delivered i m who) = refl
word-place-is left = refl
word-place-is quiet = refl
word-place-is (refused r) = refl

-- what the word's place tells
abbrev Tells : ℕ → Answer → Type 0
Tells zero a = a ≡ taken
Tells (suc zero) a = (s : Stmt) × (a ≡ signed s)
Tells (suc (suc zero)) a = (v : View) × (a ≡ entered v)
Tells (suc (suc (suc zero))) a = (i : ℕ) × (m : ℕ) × (set : ℕ) × (a ≡ delivered i m set)
Tells (suc (suc (suc (suc zero)))) a = a ≡ left
Tells (suc (suc (suc (suc (suc zero))))) a = a ≡ quiet
Tells (suc (suc (suc (suc (suc (suc n)))))) a = (r : Refusal) × (a ≡ refused r)

tells : (a : Answer) → Tells (answer_word a) a
tells taken = refl
tells (signed s) = (s, refl)
tells (entered v) = (v, refl)
tells (delivered i m set) = (i, m, set, refl)
tells left = refl
tells quiet = refl
tells (refused r) = (r, refl)

word-told : (a b : Answer) → word_text a ≡ word_text b → Tells (answer_word b) a
word-told a b e = subst (λ w. Tells w a) (sym (word-place-is a) ∙ ap (λ t. word_place (get_or t 0 0)) e ∙ word-place-is b) (tells a)

-- a refusal by its number
refusal-told : (r s : Refusal) → refusal_number r ≡ refusal_number s → r ≡ s
refusal-told r s e = sym (refusal-at r) ∙ ap refusal_of e ∙ refusal-at s

-- a view that fits by its digits
pub view-told : (u v : View) → (u.joined < 2 ^ 16) × (u.left < 2 ^ 16) → (v.joined < 2 ^ 16) × (v.left < 2 ^ 16) → view_text u ≡ view_text v → u ≡ v
unfolding view_text
view-told u v (a, b) (c, d) e =
    let (f, r) = hex-same 4 u.joined v.joined (hex_text 4 u.left) (hex_text 4 v.left) a c e in
    let g = (hex-same 4 u.left v.left [] [] b d (ap (λ t. t ++ []) r)).0 in
    ap₂ (λ x y. record { joined = x; left = y }) f g

-- the answer a, of the number i, is b as far as a row of the number j tells
abbrev pub Told : ℕ → Answer → ℕ → Answer → Type 0
Told i a j taken = a ≡ taken
Told i a j (signed s) = (t : Stmt) × (a ≡ signed t) × (i ≡ j)
Told i a j (entered v) = (u : View) × (a ≡ entered u) × (view_text u ≡ view_text v)
Told i a j (delivered x m who) = (notice : ℕ) × ((set : ℕ) × (a ≡ delivered notice m set))
Told i a j left = a ≡ left
Told i a j quiet = a ≡ quiet
Told i a j (refused r) = a ≡ refused r

told : (i j : ℕ) (a b : Answer) → word_text a ≡ word_text b → value_text (answer_value i a) ≡ value_text (answer_value j b) → Told i a j b
told i j a taken w v = word-told a taken w
told i j a (signed s) w v = let (t, e) = word-told a (signed s) w in (t, e, dec-told i j (sym (ap (λ a. value_text (answer_value i a)) e) ∙ v))
told i j a (entered x) w v = let (u, e) = word-told a (entered x) w in (u, e, sym (ap (λ a. value_text (answer_value i a)) e) ∙ v)
told i j a (delivered y m who) w v =
    let (x, n, set, e) = word-told a (delivered y m who) w in
    (x, (set, e ∙ ap (λ n. delivered x n set) (dec-told n m (sym (ap (λ a. value_text (answer_value i a)) e) ∙ v))))
told i j a left w v = word-told a left w
told i j a quiet w v = word-told a quiet w
told i j a (refused r) w v = let (q, e) = word-told a (refused r) w in e ∙ ap refused (refusal-told q r (dec-told (refusal_number q) (refusal_number r) (sym (ap (λ a. value_text (answer_value i a)) e) ∙ v)))

-- ---- a row

abbrev fields : ℕ → Reply → List (List ℕ)
fields n r = dec_text n ∷ dec_text r.who ∷ word_text r.answer ∷ value_text (answer_value r.number r.answer) ∷ []

plains : (n : ℕ) (r : Reply) → Plains (fields n r)
plains n r = (plain-dec n, (plain-dec r.who, (plain_word r.answer, (plain_value r.number r.answer, tt))))

-- TWO REPLIES WITH ONE ROW NAME ONE CONTROLLER AND HAVE ONE ANSWER
pub answer-told : (n : ℕ) (r s : Reply) → row_text n r ≡ row_text n s → (r.who ≡ s.who) × Told r.number r.answer s.number s.answer
unfolding row_text
answer-told n r s e =
    let f = fields_told (fields n r) (fields n s) (plains n r) (plains n s) refl e in
    (dec-told r.who s.who (ap (λ F. get_or F 1 []) f), told r.number s.number r.answer s.answer (ap (λ F. get_or F 2 []) f) (ap (λ F. get_or F 3 []) f))

-- A statement for a reader: the row that an unmarked controller never gets is n,k,refused,7.
pub conflict-row : (n k number : ℕ) → row_text n (record { who = k; answer = refused conflict; number = number }) ≡ parted (dec_text n ∷ dec_text k ∷ (114 ∷ 101 ∷ 102 ∷ 117 ∷ 115 ∷ 101 ∷ 100 ∷ []) ∷ (55 ∷ []) ∷ []) ++ (10 ∷ [])
unfolding row_text dec_text digits
conflict-row n k number = refl

-- And a row n,k,delivered,m names neither notice nor set.
pub delivered-row : (n k notice m set number : ℕ)
    → row_text n (record { who = k; answer = delivered notice m set; number = number }) ≡ parted (dec_text n ∷ dec_text k ∷ (100 ∷ 101 ∷ 108 ∷ 105 ∷ 118 ∷ 101 ∷ 114 ∷ 101 ∷ 100 ∷ []) ∷ dec_text m ∷ []) ++ (10 ∷ [])
unfolding row_text
delivered-row n k notice m set number = refl

-- ---- the lines of the output

line_first : (t S : List ℕ) → AtLeast 44 t → lines ((t ++ (10 ∷ [])) ++ S) ≡ (t ++ (10 ∷ [])) ∷ lines S
unfolding lines
line_first [] S f = refl
line_first (c ∷ t) S (h, f) = ap (λ b. if b then (10 ∷ []) ∷ lines ((t ++ (10 ∷ [])) ++ S) else before c (lines ((t ++ (10 ∷ [])) ++ S))) (ne_eqb c 10 (λ e. omega arith)) ∙ ap (before c) (line_first t S f)

row_first : (n : ℕ) (r : Reply) (S : List ℕ) → lines (row_text n r ++ S) ≡ row_text n r ∷ lines S
unfolding row_text
row_first n r S = line_first (parted (fields n r)) S (parted-least (fields n r) (plains n r))

-- the row of a line
abbrev pub row_at : ℕ → Bench → Option (Option Line) → Option (List ℕ)
row_at n b none = none
row_at n b (some l) = some (row_text n (step b l).reply)

-- the bench after n more lines
unfoldable pub bench_at : Bench → List (Option Line) → ℕ → Bench
bench_at b L zero = b
bench_at b [] (suc n) = b
bench_at b (l ∷ L) (suc n) = bench_at (step b l).bench L n

bench-next : (b : Bench) (L : List (Option Line)) (n : ℕ) → bench_at b L (suc n) ≡ after_line (bench_at b L n) (get_elem? L n)
unfolding bench_at after_line
bench-next b [] zero = refl
bench-next b [] (suc n) = refl
bench-next b (l ∷ L) zero = refl
bench-next b (l ∷ L) (suc n) = bench-next (step b l).bench L n

pub bench-is : (L : List (Option Line)) (n : ℕ) → after L n ≡ bench_at new_bench L n
unfolding after bench_at
bench-is L zero = refl
bench-is L (suc n) = ap (λ b. after_line b (get_elem? L n)) (bench-is L n) ∙ sym (bench-next new_bench L n)

rows_at : (m : ℕ) (b : Bench) (L : List (Option Line)) (n : ℕ) → get_elem? (lines (rows_from m b L)) n ≡ row_at (m + n) (bench_at b L n) (get_elem? L n)
unfolding rows_from bench_at lines
rows_at m b [] n = refl
rows_at m b (l ∷ L) zero = ap (λ l. get_elem? l 0) (row_first m (step b l).reply (rows_from (suc m) (step b l).bench L)) ∙ (let e : m ≡ m + 0 = omega arith in ap (λ n. some (row_text n (step b l).reply)) e)
rows_at m b (l ∷ L) (suc n) =
    ap (λ l. get_elem? l (suc n)) (row_first m (step b l).reply (rows_from (suc m) (step b l).bench L)) ∙ rows_at (suc m) (step b l).bench L n
    ∙ (let e : suc m + n ≡ m + suc n = omega arith in ap (λ k. row_at k (bench_at (step b l).bench L n) (get_elem? L n)) e)

header-first : (S : List ℕ) → lines (header_text ++ S) ≡ header_text ∷ lines S
unfolding lines
header-first S = refl

-- THE LINES OF THE OUTPUT ARE THE HEADER AND THE ROWS
pub out_at : (L : List (Option Line)) (n : ℕ) → get_elem? (lines (header_text ++ rows_from 1 new_bench L)) (suc n) ≡ row_at (suc n) (after L n) (get_elem? L n)
out_at L n =
    ap (λ l. get_elem? l (suc n)) (header-first (rows_from 1 new_bench L)) ∙ rows_at 1 new_bench L n
    ∙ (let e : 1 + n ≡ suc n = omega arith in ap₂ (λ k b. row_at k b (get_elem? L n)) e (sym (bench-is L n)))

-- What is promised holds of the rows that are printed for a schedule.
-- Assumes nothing.
use Rattle.std.specs.Prelude.{if◌then◌else◌}
use mathlib.Core.Path.{◌≡◌, refl, sym, ap, ap₂, subst, ◌∙◌}
use mathlib.Core.Bool.{◌&&◌, ◌||◌}
use mathlib.Core.List.{List, [], ◌∷◌, ◌++◌}
use mathlib.Core.Option.{Option, some, none}
use Prim.Native.Nat.{ℕ, zero, suc, ◌^◌, ◌≤◌, ◌<◌}
use native.Mathlib.Omega.{arith}
use borrow.Author.Tests.{le-ltb, ne_eqb}
use lib.Dec.{T}
use lib.ListN.{length, take, drop, get_elem?}
use lib.Seq.{take-append_seam}
use Rattle.protocol.specs.Sets.{bit}
use Rattle.protocol.specs.View.{controllers, View, is_view, member}
use Rattle.protocol.specs.History.{top}
use Rattle.protocol.specs.Controller.{Answer, taken, signed, entered, delivered, left, quiet, refused, conflict}
use Rattle.protocol.specs.Call.{Setup, ring_of}
use Rattle.protocol.specs.Promises.{Observed, NoConflict}
use Rattle.protocol.proofs.Found.{none≢some, some-injective}
use Rattle.protocol.proofs.Bits.{bit-zero}
use Rattle.protocol.proofs.Rules.{and_second}
use Rattle.protocol.proofs.Order.{says-view}
use Rattle.protocol.proofs.Carried.{carried, carried-sets, carried-no-conflict}
use Rattle.schedule.specs.Line.{Line, lines}
use Rattle.bench.specs.Bench.{Bench, new_bench, Reply, step}
use Rattle.bench.specs.Rows.{row_text, header_text, refused_row, rows_from, ReadAll, Printed}
use Rattle.bench.proofs.One.{read-all-one}
use Rattle.guarantee.specs.Events.{follower, after}
use Rattle.guarantee.specs.Rows.{InText, RepliedTo, ShownRow, final_pool, FewFaulty, Names, Says, SetupTaken, rows, Kept, Meant, Delivered, ReadOff, Guarantee, InMemory}
use Rattle.guarantee.proofs.Laws.{count_none}
use Rattle.guarantee.proofs.Lines.{Legible, legible}
use Rattle.guarantee.proofs.Schedules.{AllLegible, Schedule}
use Rattle.guarantee.proofs.Rows.{signed-number, entered-view, rows-kept}
use Rattle.guarantee.proofs.Texts.{view-told, Told, answer-told, row_at, bench_at, bench-is, out_at}

legible-from : (b : Bench) (S : List (List ℕ)) (L : List (Option Line)) → ReadAll b S L → (n : ℕ) (l : Option Line) → get_elem? L n ≡ some l → Legible (bench_at b L n).notices l
unfolding bench_at
legible-from b [] [] r n l e = absurd (none≢some e)
legible-from b (s ∷ S) (x ∷ L) r zero l e = subst (Legible b.notices) (some-injective e) (legible b.notices s x r.0)
legible-from b (s ∷ S) (x ∷ L) r (suc n) l e = legible-from (step b x).bench S L r.1 n l e
legible-from b [] (x ∷ L) r n l e = elim r [ ]
legible-from b (s ∷ S) [] r n l e = elim r [ ]

legible-at : (S : List (List ℕ)) (L : List (Option Line)) → ReadAll new_bench S L → AllLegible L
legible-at S L r n l e = subst (λ b. Legible b.notices l) (sym (bench-is L n)) (legible-from new_bench S L r n l e)

-- a schedule that has a line is not empty
some_bytes : (schedule : List ℕ) (L : List (Option Line)) → ReadAll new_bench (lines schedule) L → (n : ℕ) {l : Option Line} → get_elem? L n ≡ some l → length schedule ≡ 0 → ⊥
unfolding lines
some_bytes [] [] r n e f = none≢some e
some_bytes (c ∷ S) L r n e f = omega arith
some_bytes [] (_ ∷ _) r n {l = l} e f = elim r [ ]

module _ (schedule out : List ℕ) (printed : Printed schedule out) (short : length schedule ≤ 65536) (L : List (Option Line)) (reads : ReadAll new_bench (lines schedule) L)
    (first : ℕ) (setting : Setup) (faulty : ℕ) (start : SetupTaken L (InText out) first setting faulty) where
  out-is : out ≡ header_text ++ rows_from 1 new_bench L
  out-is =
      printed.prints ∙ ap (λ t. header_text ++ t)
      (ap₂ (λ x y. if x || y then refused_row else rows_from 1 new_bench printed.reading) (ne_eqb (length schedule) 0 (some_bytes schedule L reads first start.line)) (le-ltb 65536 (length schedule) short)
      ∙ ap (rows_from 1 new_bench) (read-all-one new_bench (lines schedule) printed.reading L (printed.reads short) reads))

  row-at : (n : ℕ) → get_elem? (lines out) (suc n) ≡ row_at (suc n) (after L n) (get_elem? L n)
  row-at n = ap (λ t. get_elem? (lines t) (suc n)) out-is ∙ out_at L n

  -- a reply is printed
  shown : (n : ℕ) (r : Reply) → RepliedTo L n r → InText out n r
  shown n r p = row-at n ∙ ap (row_at (suc n) (after L n)) p.there ∙ ap (λ r. some (row_text (suc n) r)) p.reply

  -- and what is printed is a reply's
  record ReplyOf (n : ℕ) (r : Reply) : Type 0 where
    answer : Answer
    number : ℕ
    row : RepliedTo L n (record { who = r.who; answer = answer; number = number })
    told : Told number answer r.number r.answer

  reply-of : (n : ℕ) (r : Reply) → InText out n r → ReplyOf n r
  reply-of n r t = go (get_elem? L n) refl
    where
      go : (x : Option (Option Line)) → get_elem? L n ≡ x → ReplyOf n r
      go none e = absurd (none≢some (sym (ap (row_at (suc n) (after L n)) e) ∙ sym (row-at n) ∙ t))
      go (some l) e =
          let s = (step (after L n) l).reply in
          let (w, a) = answer-told (suc n) s r (some-injective (sym (ap (row_at (suc n) (after L n)) e) ∙ sym (row-at n) ∙ t)) in
          record { answer = s.answer; number = s.number; row = record { line = l; there = e; reply = ap (λ w. record { who = w; answer = s.answer; number = s.number }) w }; told = a }

  replies : (n : ℕ) {r : Reply} (b : ReplyOf n r) (a : Answer) → b.answer ≡ a → RepliedTo L n (record { who = r.who; answer = a; number = b.number })
  replies n {r} b a e = subst (λ a. RepliedTo L n (record { who = r.who; answer = a; number = b.number })) e b.row

  same : (n : ℕ) {r : Reply} (b : ReplyOf n r) (a : Answer) → b.answer ≡ a → Names L a b.number → Says L (RepliedTo L) n r.who a
  same n b a e names = record { number = b.number; row = replies n b a e; names = names }

  set-up : SetupTaken L (RepliedTo L) first setting faulty
  set-up = let b = reply-of first _ start.taken.row in record { line = start.line; taken = same first b taken b.told tt }

  abbrev S : Schedule
  S = record { L = L; reads = legible-at (lines schedule) L reads; first = first; setting = setting; faulty = faulty; start = set-up }

  module _ (few : FewFaulty L setting.members faulty) where
    fits : (v : View) → T (is_view controllers v) → (v.joined < 2 ^ 16) × (v.left < 2 ^ 16)
    fits v t = ((says-view controllers v).sound t).0

    -- what a row says in the text was answered, but for the notice and the set of a delivery
    said : (n k : ℕ) (a : Answer) → T (follower faulty k) → Says L (InText out) n k a → (b : Answer) × Meant a b × Says L (RepliedTo L) n k b
    said n k taken t s = let b = reply-of n _ s.row in (taken, refl, same n b taken b.told tt)
    said n k (signed x) t s =
        let b = reply-of n _ s.row in
        let (y, e, f) = b.told in
        let here : get_elem? (final_pool L) b.number ≡ some x = ap (get_elem? (final_pool L)) f ∙ s.names in
        let q : y ≡ x = some-injective (sym (signed-number S n k y b.number (replies n b (signed y) e)) ∙ here) in
        (signed x, refl, same n b (signed x) (e ∙ ap signed q) here)
    said n k (entered v) t s =
        let b = reply-of n _ s.row in
        let (u, e, f) = b.told in
        let here = entered-view S few n k b.number u t (replies n b (entered u) e) in
        (entered v, refl, same n b (entered v) (e ∙ ap entered (view-told u v (fits u here) (fits v s.names) f)) s.names)
    said n k (delivered i m who) t s = let b = reply-of n _ s.row in let (notice, (set, e)) = b.told in (delivered notice m set, (notice, (set, refl)), same n b (delivered notice m set) e tt)
    said n k left t s = let b = reply-of n _ s.row in (left, refl, same n b left b.told tt)
    said n k quiet t s = let b = reply-of n _ s.row in (quiet, refl, same n b quiet b.told tt)
    said n k (refused r) t s = let b = reply-of n _ s.row in (refused r, refl, same n b (refused r) b.told tt)

    -- what was answered is shown
    shows : (n k : ℕ) (a : Answer) → Says L (RepliedTo L) n k a → Says L (ShownRow L out) n k a
    shows n k a p = record { number = p.number; row = record { reply = p.row; row = shown n _ p.row }; names = p.names }

    answers : (n k : ℕ) (a : Answer) → Says L (ShownRow L out) n k a → Says L (RepliedTo L) n k a
    answers n k a p = record { number = p.number; row = p.row.reply; names = p.names }

    kept : Kept L (RepliedTo L) setting faulty
    kept = rows-kept S few

    printed-kept : Kept L (ShownRow L out) setting faulty
    printed-kept =
        let o : Observed = rows L (RepliedTo L) setting faulty in
        record {
          promises = carried o (Says L (ShownRow L out)) o.record_of (λ n k a t. answers n k a) (λ n k s t. shows n k (signed s)) (λ k n t. refl) kept.promises;
          sets = carried-sets o (Says L (ShownRow L out)) o.record_of (λ n k a t. answers n k a) (λ n k s t. shows n k (signed s)) (λ k n t. refl) kept.sets;
          no_conflict = carried-no-conflict o (Says L (ShownRow L out)) o.record_of (λ n k a t. answers n k a) (λ n k s t. shows n k (signed s)) (λ k n t. refl) kept.no_conflict;
        }

    -- ---- of the rows alone

    -- a line has one reply
    one-reply : (n k i j m m' a b : ℕ) → Says L (RepliedTo L) n k (delivered i m a) → Says L (RepliedTo L) n k (delivered j m' b) → (i ≡ j) × (a ≡ b)
    one-reply n k i j m m' a b p q =
        let e : delivered i m a ≡ delivered j m' b = ap (λ r. r.answer) (sym p.row.reply ∙ ap (λ l. (step (after L n) l).reply) (some-injective (sym p.row.there ∙ q.row.there)) ∙ q.row.reply) in
        (cc (e), cc (e))

    -- a delivery in a ring of one notice is of notice 0
    of-first : length setting.senders ≡ 1 → (n k m : ℕ) → Delivered out faulty n k m → (set : ℕ) × Says L (RepliedTo L) n k (delivered 0 m set)
    of-first one n k m d =
        let b = reply-of n _ d.row in
        let (notice, (set, e)) = b.told in
        let s = same n b (delivered notice m set) e tt in
        let first : notice ≡ 0 = omega (arith, one, kept.promises.of_setup notice n k m (d.follows, (set, s))) in
        (set, subst (λ i. Says L (RepliedTo L) n k (delivered i m set)) first s)

    read_off : ReadOff L out setting faulty
    unfolding NoConflict
    read_off = record {
      answered = λ n k a t s. let (b, e, r) = said n k a t s in (b, e, shows n k b r);
      one_notice = λ n k i j m m' a b p q. (one-reply n k i j m m' a b (answers n k (delivered i m a) p) (answers n k (delivered j m' b) q)).0;
      one_set = λ n k i j m m' a b p q. (one-reply n k i j m m' a b (answers n k (delivered i m a) p) (answers n k (delivered j m' b) q)).1;
      signed = λ n k number row.
          let b = reply-of n _ row in
          let (s, e, f) = b.told in
          let here = signed-number S n k s b.number (replies n b (signed s) e) in
          (s, ap (get_elem? (final_pool L)) (sym f) ∙ here, shows n k (signed s) (same n b (signed s) e here));
      no_conflict = λ n k t s. let b = reply-of n _ s.row in kept.no_conflict n k t (same n b (refused conflict) b.told tt);
      consistency = λ one i j m n k m' d d'. kept.promises.consistency 0 i j m n k m' (d.follows, of-first one i j m d) (d'.follows, of-first one n k m' d');
      no_duplication = λ one i n k m m' d d'. kept.promises.no_duplication 0 i n k m m' (d.follows, of-first one i k m d) (d'.follows, of-first one n k m' d');
    }

-- WHAT IS PROMISED HOLDS OF THE ROWS THAT ARE PRINTED
pub guaranteed : Guarantee
guaranteed schedule out printed short L reads first setting faulty start few =
    (printed-kept schedule out printed short L reads first setting faulty start few, read_off schedule out printed short L reads first setting faulty start few)

-- and of what a run of the bench leaves in memory that has room for it
pub left-in-memory : InMemory
left-in-memory schedule rows r memory a room =
    let (e, f) = a.fits room in
    let is : take r memory ≡ a.text = ap₂ take e f ∙ take-append_seam a.text (drop (length a.text) rows) in
    guaranteed schedule (take r memory) (subst (Printed schedule) (sym is) a.printed)

-- where nobody is marked, nothing is asked
pub none-faulty : (L : List (Option Line)) (members : ℕ) → FewFaulty L members 0
none-faulty L members = record { few = λ H h. let t : View = top (ring_of members) H in let e = count_none controllers (λ k. member t k && bit 0 k) (λ k l m. subst T (bit-zero k) (and_second (member t k) (bit 0 k) m)) in omega (arith, e) }

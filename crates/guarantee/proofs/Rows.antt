-- What is promised holds of the replies to the lines of a schedule.
--     acting         a row `signed`, `entered`, `delivered` or `refused,7` is that of a turn
--     rows-kept      demand 3, the sets of the deliveries, and no row `refused,7`
--     signed-number  the number in a row `signed` is that of the statement in the final pool
--     entered-view   a view in a row `entered` is one of the ring
-- Assumes nothing.
use Rattle.std.specs.Prelude.{if◌then◌else◌}
use mathlib.Core.Path.{◌≡◌, refl, sym, ap, ap₂, subst, ◌∙◌}
use mathlib.Core.Logic.{inl, inr}
use mathlib.Core.Bool.{true}
use mathlib.Core.List.{List, [], ◌∷◌, ◌++◌, map, append-nil}
use mathlib.Core.Option.{Option, some, none}
use Prim.Native.Nat.{ℕ, suc, ◌+◌, ◌≤◌, ◌<◌}
use native.Mathlib.Decide.{dec_lt}
use native.Mathlib.Omega.{arith}
use lib.Dec.{T}
use lib.ListN.{length, get_elem?}
use Rattle.protocol.specs.View.{controllers, View, is_view}
use Rattle.protocol.specs.Statement.{Stmt, prepare, stores}
use Rattle.protocol.specs.Evidence.{sender_of, Certificate}
use Rattle.protocol.specs.Signers.{Behind}
use Rattle.protocol.specs.Controller.{Answer, signed, entered, delivered, refused, conflict}
use Rattle.protocol.specs.Call.{ring_of}
use Rattle.protocol.specs.Run.{call, turn_call, signing, signed_in, Run, event, returned, TurnAnswers, IsRun}
use Rattle.protocol.specs.Promises.{observed, HasEntered, Promises, DeliveredSets, NoConflict}
use Rattle.protocol.proofs.Monotone.{mono, signed-mono}
use Rattle.protocol.proofs.Model.{entered-top, top-is-view}
use Rattle.protocol.proofs.Promises.{promises, delivered-sets, no-conflict}
use Rattle.schedule.specs.Line.{Line}
use Rattle.bench.specs.Bench.{step}
use Rattle.protocol.proofs.Says.{is_true}
use Rattle.guarantee.specs.Events.{follower, is_follower, after_line, occurs, line_at, after}
use Rattle.guarantee.specs.Rows.{RepliedTo, final_pool, FewFaulty, Says, rows, Kept}
use Rattle.guarantee.proofs.Laws.{longer-on, at_in, at_left, map_at}
use Rattle.guarantee.proofs.Lines.{Acts, Calls, out, follower-is}
use Rattle.guarantee.proofs.Benches.{grows, Admitted, acting-line}
use Rattle.guarantee.proofs.Links.{Comes}
use Rattle.guarantee.proofs.Schedules.{place_up, place-next, Schedule, place, u, valid, every, run, effect-at, comes, passes, linked, acts-late, From, late, from-line, admitted-at, pooled-statements, is-run}

module _ (S : Schedule) where
  open S use {L, reads, first, setting, faulty, start}

  abbrev R : Run
  R = run S

  abbrev at : ℕ → ℕ
  at n = place S n

  -- ---- a turn of a rule-follower, as a line and as an event

  record AtTurn (n k : ℕ) (a : Answer) : Type 0 where
    later : first < n
    turns : TurnAnswers R (at n) k a
    next : at (suc n) ≡ suc (at n)

  at_turn : (n k minute : ℕ) (l : Option Line) → get_elem? L n ≡ some l → first < n → T (follower faulty k) → Calls (after L n) l k (turn_call minute) → AtTurn n k (step (after L n) l).reply.answer
  unfolding occurs
  at_turn n k minute l e h t c =
      let f : is_follower (after L n) k ≡ true = follower-is (u S) (valid S n h) k ∙ is_true (follower faulty k) t in
      let are : occurs (after L n) (some l) ≡ record { event = call k (turn_call minute); pool = (after L n).pool } ∷ [] =
      ap (map (λ e. record { event = e; pool = (after L n).pool })) (c.events ∙ ap (λ x. if x then call k (turn_call minute) ∷ [] else map signing (signed_in (out (after L n) k (turn_call minute)).answer)) f) in
      let next : at (suc n) ≡ suc (at n) = place-next L n l e ∙ ap (λ O. at n + length O) are ∙ omega arith in
      let is : event R (at n) ≡ some (call k (turn_call minute)) = map_at (λ o. o.event) (every S) (at n) (subst (Comes (every S) (u S) (at n)) are (comes S n l e)).0 in
      record {
        later = h;
        turns = record { minute = minute; is_turn = is; answers = (passes S n l e h (linked S n h)).told (at n) k (turn_call minute) (omega arith) (omega (arith, next)) is };
        next = next;
      }

  -- a row that only a turn prints is a turn of the controller that it names
  acting : (n k : ℕ) (a : Answer) {number : ℕ} → Acts a → (r : RepliedTo L n (record { who = k; answer = a; number = number })) → (first < n) × ((minute : ℕ) × Calls (after L n) r.line k (turn_call minute))
  acting n k a acts r =
      let t : Acts (step (after L n) r.line).reply.answer = subst (λ x. Acts x.answer) (sym r.reply) acts in
      let h = acts-late S n r.line r.there t in
      (h, subst (λ x. (minute : ℕ) × Calls (after L n) r.line x.who (turn_call minute)) r.reply (acting-line (u S) (valid S n h) r.line (effect-at S n r.line r.there h) t))

  turn_at : (n k : ℕ) (a : Answer) {number : ℕ} → Acts a → T (follower faulty k) → RepliedTo L n (record { who = k; answer = a; number = number }) → AtTurn n k a
  turn_at n k a acts t r =
      let (h, (minute, c)) = acting n k a acts r in
      subst (λ x. AtTurn n k x.answer) r.reply (at_turn n k minute r.line r.there h t c)

  -- after more lines the pool has more at its end
  pool-longer : (m n : ℕ) → first < m → m ≤ n → (D : List Stmt) × ((after L n).pool ≡ (after L m).pool ++ D)
  unfolding after after_line
  pool-longer m n h l = longer-on (λ n. (after L n).pool) m (λ j i. next j (omega arith) (line_at L j) refl) n l
    where
      next : (j : ℕ) → first < j → (x : Option (Option Line)) → line_at L j ≡ x → (D : List Stmt) × ((after_line (after L j) x).pool ≡ (after L j).pool ++ D)
      next j h none e = ([], sym (append-nil (after L j).pool))
      next j h (some l) e = grows (u S) (valid S j h) l (effect-at S j l e h)

  pub signed-number : (n k : ℕ) (s : Stmt) (number : ℕ) → RepliedTo L n (record { who = k; answer = signed s; number = number }) → get_elem? (final_pool L) number ≡ some s
  unfolding after after_line
  signed-number n k s number r =
      let (h, (_, c)) = acting n k (signed s) tt r in
      let (D, f) = pool-longer (suc n) (length L) (omega arith) (at_in L n r.there).1 in
      let here : get_elem? (step (after L n) r.line).bench.pool number ≡ some s = subst (λ x. get_elem? (step (after L n) r.line).bench.pool x.number ≡ some s) r.reply (c.number s (sym c.answered ∙ ap (λ x. x.answer) r.reply)) in
      ap (λ P. get_elem? P number) (f ∙ ap (λ x. (after_line (after L n) x).pool ++ D) r.there) ∙ at_left (step (after L n) r.line).bench.pool D number here

  -- an event of the run that is a turn and signs is a row
  row_of : (i k : ℕ) (s : Stmt) → TurnAnswers R i k (signed s) → (n : ℕ) × (at n ≡ i) × Says L (RepliedTo L) n k (signed s)
  row_of i k s t = let r = from-line S i (call k (turn_call t.minute)) t.is_turn in go r (admitted-at S r)
    where
      go : (r : From L i (call k (turn_call t.minute))) → Admitted (u S) (valid S r.at (late S r)) r.of (call k (turn_call t.minute)) → (n : ℕ) × (at n ≡ i) × Says L (RepliedTo L) n k (signed s)
      go r (f, _, inl c) = absurd c
      go r (f, _, inr c) =
          let x = at_turn r.at k t.minute r.of r.there (late S r) f c in
          let is : at r.at ≡ i = omega (arith, r.low, r.high, x.next) in
          let says : (step (after L r.at) r.of).reply.answer ≡ signed s = sym x.turns.answers ∙ ap (λ j. (returned R k (suc j)).answer) is ∙ t.answers in
          let number : ℕ = (step (after L r.at) r.of).reply.number in
          let row : RepliedTo L r.at (record { who = k; answer = signed s; number = number }) = record { line = r.of; there = r.there; reply = ap₂ (λ w a. record { who = w; answer = a; number = number }) c.who says } in
          (r.at, is, record { number = number; row = row; names = signed-number r.at k s number row })

  -- a row, and a later one
  apart : (n m k : ℕ) (a : Answer) → AtTurn n k a → n < m → at n < at m
  apart n m k a t h = omega (arith, t.next, place_up L (suc n) m h)

  same_row : (i n k : ℕ) (a a' : Answer) → AtTurn i k a → AtTurn n k a' → at i ≡ at n → i ≡ n
  same_row i n k a a' s t e = elim (dec_lt i n) [
    | yes l ↦ absurd (omega (arith, apart i n k a s l))
    | no l ↦ elim (dec_lt n i) [ yes m ↦ absurd (omega (arith, apart n i k a' t m)) | no m ↦ omega arith ]
  ]

  earlier : (i n : ℕ) → at i < at n → i < n
  earlier i n l = elim (dec_lt i n) [ yes h ↦ h | no h ↦ absurd (omega (arith, place_up L n i (omega arith))) ]

  -- ---- the promises

  module _ (few : FewFaulty L setting.members faulty) where
    is : IsRun R
    is = is-run S few

    kept : Promises (observed R)
    kept = promises is

    has-entered : (k : ℕ) (v : View) → HasEntered (rows L (RepliedTo L) setting faulty) k v → HasEntered (observed R) k v
    has-entered k v (inl h) = inl h
    has-entered k v (inr (n, (t, s))) = inr (at n, (t, (turn_at n k (entered v) tt t s.row).turns))

    pub entered-view : (n k number : ℕ) (v : View) → T (follower faulty k) → RepliedTo L n (record { who = k; answer = entered v; number = number }) → T (is_view controllers v)
    entered-view n k number v t r =
        let (H, h, e) = entered-top is t (turn_at n k (entered v) tt t r).turns in
        subst (λ v. T (is_view controllers v)) e (top-is-view is h)

    promised : Promises (rows L (RepliedTo L) setting faulty)
    promised = record {
      of_setup = λ notice n k m (t, (set, s)). kept.of_setup notice (at n) k m (t, (set, (turn_at n k (delivered notice m set) tt t s.row).turns));
      consistency = λ notice i j m n k m' (t, (set, s)) (t', (set', s')).
          kept.consistency notice (at i) j m (at n) k m' (t, (set, (turn_at i j (delivered notice m set) tt t s.row).turns)) (t', (set', (turn_at n k (delivered notice m' set') tt t' s'.row).turns));
      no_duplication = λ notice i n k m m' (t, (set, s)) (t', (set', s')).
          let a = turn_at i k (delivered notice m set) tt t s.row in
          let b = turn_at n k (delivered notice m' set') tt t' s'.row in
          same_row i n k (delivered notice m set) (delivered notice m' set') a b (kept.no_duplication notice (at i) (at n) k m m' (t, (set, a.turns)) (t', (set', b.turns)));
      integrity = λ notice n k m t (t', (set, s)).
          let (j, l, u) = kept.integrity notice (at n) k m t (t', (set, (turn_at n k (delivered notice m set) tt t' s.row).turns)) in
          let sender : ℕ = sender_of setting.senders notice in
          let (i, e, r) = row_of j sender (prepare sender notice m) u in
          (i, earlier i n (omega (arith, e, l)), r);
      comparable_views = λ j k u v a b. kept.comparable_views j k u v (has-entered j u a) (has-entered k v b);
      stored_is_kept = λ notice H m n k v h q (t, s) g i l.
          let a = turn_at n k (entered v) tt t s.row in
          let more = pooled-statements S in
          subst (λ x. Certificate (ring_of setting.members) setting.senders x.statements notice m) ((linked S i (omega (arith, a.later))).seats k t)
          (kept.stored_is_kept notice H m (at n) k v (mono more h) (signed-mono more q) (t, a.turns) g (at i) (apart n i k (entered v) a l));
    }

    behind-sets : DeliveredSets (rows L (RepliedTo L) setting faulty)
    behind-sets = record {
      behind = λ notice n k m set t s.
          let a = turn_at n k (delivered notice m set) tt t s.row in
          subst (λ x. Behind (ring_of setting.members) x.statements (λ v. stores v notice m) set) ((linked S n a.later).seats k t) ((delivered-sets is).behind notice (at n) k m set t a.turns);
    }

    -- WHAT IS PROMISED OF THE ROWS HOLDS
    pub rows-kept : Kept L (RepliedTo L) setting faulty
    unfolding NoConflict
    rows-kept = record { promises = promised; sets = behind-sets; no_conflict = λ n k t s. no-conflict is (at n) k t (turn_at n k (refused conflict) tt t s.row).turns }

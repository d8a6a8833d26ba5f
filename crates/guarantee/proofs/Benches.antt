-- What every line keeps of the bench, and what its events may be.
-- Assumes nothing.
use mathlib.Core.Path.{◌≡◌, sym, ap, subst, ◌∙◌}
use mathlib.Core.Logic.{◌⊎◌, inl, inr}
use mathlib.Core.Bool.{not, ◌&&◌}
use mathlib.Core.List.Memᴰ
use mathlib.Core.List.{List, [], ◌++◌, append-nil}
use mathlib.Core.Option.{Option}
use Prim.Native.Nat.{ℕ, ◌<◌}
use native.Mathlib.Decide.{ℕ_discrete}
use native.Mathlib.Omega.{arith}
use lib.Dec.{T, ltb, T_not, not_T}
use lib.ListN.{length, get_or, set, length-set}
use lib.Seq.{get_or-set_same, get_or-set_other}
use Rattle.protocol.specs.Sets.{bit}
use Rattle.protocol.specs.Lists.{◌∈◌, ◌⊆◌, any}
use Rattle.protocol.specs.View.{controllers}
use Rattle.protocol.specs.Statement.{Stmt, same_stmt, field_rules}
use Rattle.protocol.specs.Pool.{has_room}
use Rattle.protocol.specs.Run.{Call, add_call, turn_call, Event, call, signing, signed_in}
use Rattle.protocol.proofs.Found.{filter-out}
use Rattle.protocol.proofs.Rules.{and_second}
use Rattle.schedule.specs.Line.{Line}
use Rattle.bench.specs.Bench.{Seat, empty_seat, Bench, seat, missing, step}
use Rattle.guarantee.specs.Events.{follower, is_follower, events_of}
use Rattle.guarantee.proofs.Laws.{either}
use Rattle.guarantee.proofs.Seats.{seat_of, Fit, Clean, Taken, InRing, Seated, Yields, Proper, keeps}
use Rattle.guarantee.proofs.Pools.{grown-more}
use Rattle.guarantee.proofs.Lines.{Legible, Acts, NoTurn, turn-only, After, out, filled, Calls, Effect, rests, calls, gives, lies, Valid, yes-follows, no-follows, effect}

module _ (u : Taken) {b : Bench} (ok : Valid u b) where
  open u use {setting, faulty}
  open setting use {senders}

  fit-in : (s : Stmt) → Fit b.notices s → Fit (length senders) s
  fit-in s f = subst (λ n. Fit n s) ok.notices f

  -- ---- what it keeps

  -- where the seat of k is x, and S has gone to the pool
  valid-after : (k : ℕ) (x : Seat) {S : List Stmt} {b' : Bench} → k < 16 → After b k x S b' → InRing u k x.controller → ((s : Stmt) → s ∈ x.statements → (s ∈ b.pool) ⊎ (s ∈ S))
      → Clean (length senders) S → Valid u b'
  valid-after k x {S} {b'} near a in_ring known clean = record {
    is_set_up = a.is_set_up ∙ ok.is_set_up;
    marks = a.marks ∙ ok.marks;
    notices = a.notices ∙ ok.notices;
    long = ap length a.seats ∙ length-set b.seats k x ∙ ok.long;
    clean = λ s m. elim (a.pool.only s m) [ inl i ↦ ok.clean s i | inr i ↦ clean s i ];
    different = a.pool.different ok.different;
    each = λ j l. subst (λ S. Seated u b'.pool j (get_or S j empty_seat)) (sym a.seats) (elim (ℕ_discrete j k) [
      | yes e ↦ subst (λ j. Seated u b'.pool j (get_or (set b.seats k x) j empty_seat)) (sym e) (subst (Seated u b'.pool k) (sym (get_or-set_same b.seats k x empty_seat (omega (arith, ok.long))))
          (record { in_ring = in_ring; known = λ s m. elim (known s m) [ inl i ↦ grown-more a.pool s i | inr i ↦ a.pool.has s i ] }))
      | no e ↦ let o = ok.each j l in subst (Seated u b'.pool j) (sym (get_or-set_other b.seats k j x empty_seat e)) (record { in_ring = o.in_ring; known = λ s m. grown-more a.pool s (o.known s m) })
    ]);
  }

  pub missing-in : (k : ℕ) → missing b k ⊆ b.pool
  missing-in k a m = (filter-out (λ s. not (any (same_stmt s) (seat b k).statements)) b.pool m).0

  pub left_by : (k : ℕ) → k < 16 → (a : Call) → Proper b.pool a → Yields u b.pool k (out b k a)
  left_by k near a proper = keeps u b.pool ok.clean k near (seat b k).controller (seat b k).statements (ok.each k near) (has_room b.pool) a proper

  pub step-valid : (l : Option Line) → Legible b.notices l → Valid u (step b l).bench
  step-valid l g = go (effect u ok l g)
    where
      go : Effect b l → Valid u (step b l).bench
      go (rests r) = subst (Valid u) (sym r.same) ok
      go (calls k a c) = let o = left_by k c.near a c.proper in valid-after k (seat_of (out b k a)) c.near c.after o.in_ring o.known (λ s m. (o.signs s m).0)
      go (gives k c) =
          let o = ok.each k c.near in
          valid-after k (filled b k) c.near c.after o.in_ring (λ s m. inl (elim (Memᴰ.append_cases (seat b k).statements m) [ inl i ↦ o.known s i | inr i ↦ missing-in k s i ]))
          (λ s m. absurd (Memᴰ.not-nil m))
      go (lies s c) =
          let o = ok.each 0 (omega arith) in
          valid-after 0 (seat b 0) (omega arith) c.after o.in_ring (λ x m. inl (o.known x m)) (λ x m. subst (Fit (length senders)) (sym (Memᴰ.eq_of_singleton m)) (fit-in s c.clean))

  -- the pool grows at its end
  pub grows : (l : Option Line) → Effect b l → (D : List Stmt) × ((step b l).bench.pool ≡ b.pool ++ D)
  grows l (rests r) = ([], ap (λ x. x.pool) r.same ∙ sym (append-nil b.pool))
  grows l (calls k a c) = c.after.pool.longer
  grows l (gives k c) = c.after.pool.longer
  grows l (lies s c) = c.after.pool.longer

  -- ---- what the events of a line are

  marked-breaks : (k : ℕ) → T (bit faulty k) → T (not (follower faulty k))
  unfolding follower
  marked-breaks k t = not_T (ltb k controllers && not (bit faulty k)) (λ u. T_not (bit faulty k) (and_second (ltb k controllers) (not (bit faulty k)) u) t)

  module _ (l : Option Line) where
    -- a proper call on a rule-follower, which the line does if it is a turn; or a signing by a rule-breaker
    abbrev pub Admitted : Event → Type 0
    Admitted (call k a) = T (follower faulty k) × Proper b.pool a × (NoTurn a ⊎ Calls b l k a)
    Admitted (signing s) = T (not (follower faulty s.origin)) × T (field_rules controllers (length senders) s)

    abbrev All : List Event → Type 0
    All E = (e : Event) → e ∈ E → Admitted e

    pub admitted : Effect b l → All (events_of b l)
    admitted (rests r) = subst All (sym r.events) (λ e m. absurd (Memᴰ.not-nil m))
    admitted (calls k a c) = subst All (sym c.events) (either All (is_follower b k) (λ f e m. subst Admitted (sym (Memᴰ.eq_of_singleton m)) (yes-follows u ok k f, c.proper, inr c))
        (λ f e m. let (s, i, q) = Memᴰ.of_map signing (signed_in (out b k a).answer) m in
        let (fit, origin) = (left_by k c.near a c.proper).signs s i in
        subst Admitted q (subst (λ j. T (not (follower faulty j))) (sym origin) (subst (λ x. T (not x)) (sym (no-follows u ok k f)) tt), fit.fields)))
    admitted (gives k c) = subst All (sym c.events) (either All (is_follower b k)
        (λ f e m. let (s, i, q) = Memᴰ.of_map (λ s. call k (add_call s)) (missing b k) m in subst Admitted q (yes-follows u ok k f, missing-in k s i, inl tt)) (λ f e m. absurd (Memᴰ.not-nil m)))
    admitted (lies s c) = subst All (sym c.events) (λ e m. subst Admitted (sym (Memᴰ.eq_of_singleton m)) (marked-breaks s.origin (subst (λ x. T (bit x s.origin)) ok.marks c.marked), (fit-in s c.clean).fields))

    -- a row that only a turn prints comes of a line that is a turn
    pub acting-line : Effect b l → Acts (step b l).reply.answer → (minute : ℕ) × Calls b l (step b l).reply.who (turn_call minute)
    acting-line (rests r) t = absurd (r.idle t)
    acting-line (calls k a c) t =
        let q = turn-only (has_room b.pool) (seat b k).controller (seat b k).statements a (subst Acts c.answered t) in
        subst (λ k. (minute : ℕ) × Calls b l k (turn_call minute)) (sym c.who) (q.0, subst (Calls b l k) q.1 c)
    acting-line (gives k c) t = absurd (subst Acts c.answered t)
    acting-line (lies s c) t = absurd (subst Acts c.answered t)

-- Event by event and line by line the bench goes as the run goes.
-- Assumes nothing.
use mathlib.Core.Path.{◌≡◌, refl, sym, ap, ap₂, subst, ◌∙◌}
use mathlib.Core.Logic.{◌≢◌, inl, inr}
use mathlib.Core.Bool.{true, false, not}
use mathlib.Core.List.Memᴰ
use mathlib.Core.List.{List, [], ◌∷◌, ◌++◌, map, append_assoc, append-nil}
use mathlib.Core.Option.{Option, some}
use Prim.Native.Nat.{ℕ, suc, ◌+◌, ◌≤◌, ◌<◌}
use native.Mathlib.Decide.{ℕ_discrete, dec_lt}
use native.Mathlib.Omega.{arith}
use borrow.Author.Tests.{ne_eqb}
use lib.Dec.{T, eqb, eqb_refl, T_not}
use lib.ListN.{length, get_or, get_elem?}
use lib.Seq.{append_snoc, get_or-set_same, get_or-set_other, set-get_or}
use Rattle.protocol.specs.Lists.{◌∈◌, ◌⊆◌, any}
use Rattle.protocol.specs.View.{controllers}
use Rattle.protocol.specs.Statement.{Stmt, same_stmt}
use Rattle.protocol.specs.Controller.{Controller, Answer, taken}
use Rattle.protocol.specs.Pool.{has_room}
use Rattle.protocol.specs.Run.{Call, add_call, outcome, Event, call, signing, Run, after_event, signed_in, event, returned, signed_by, signed_before}
use Rattle.protocol.proofs.Found.{filter-out}
use Rattle.protocol.proofs.Different.{Different}
use Rattle.protocol.proofs.Asked.{says-has}
use Rattle.schedule.specs.Line.{Line}
use Rattle.bench.specs.Bench.{Seat, empty_seat, Bench, seat, missing, step}
use Rattle.protocol.proofs.Says.{is_true}
use Rattle.guarantee.specs.Events.{follower, Occurrence, is_follower, events_of, room_at, run_with}
use Rattle.guarantee.proofs.Laws.{fails, either, at-seam, one-longer, map_at, filter-different}
use Rattle.guarantee.proofs.Seats.{seat_of, Fit, Taken}
use Rattle.guarantee.proofs.Pools.{Grown, grown-more, grown-none, add-taken}
use Rattle.guarantee.proofs.Lines.{After, Calls, Gives, Effect, rests, calls, gives, lies, Valid, yes-follows, no-follows}

module _ (every : List Occurrence) (u : Taken) where
  open u use {setting, faulty}
  open setting use {senders}

  abbrev R : Run
  R = run_with every setting faulty

  -- from place p on these come
  abbrev pub Comes : ℕ → List Occurrence → Type 0
  Comes p [] = Unit {0}
  Comes p (o ∷ O) = (get_elem? every p ≡ some o) × Comes (suc p) O

  -- the place after them
  abbrev pub past : ℕ → List Occurrence → ℕ
  past p [] = p
  past p (o ∷ O) = past (suc p) O

  pub past_is : (p : ℕ) (O : List Occurrence) → past p O ≡ p + length O
  past_is p [] = omega arith
  past_is p (o ∷ O) = past_is (suc p) O ∙ omega arith

  pub comes-at : (O A D : List Occurrence) → every ≡ A ++ (O ++ D) → Comes (length A) O
  comes-at [] A D e = tt
  comes-at (o ∷ O) A D e =
      (ap (λ l. get_elem? l (length A)) e ∙ at-seam A o (O ++ D), subst (λ n. Comes n O) (one-longer A o) (comes-at O (A ++ (o ∷ [])) D (e ∙ sym (append_snoc A o (O ++ D)))))

  -- ---- one event

  module _ (p : ℕ) (o : Occurrence) (here : get_elem? every p ≡ some o) where
    event-is : event R p ≡ some o.event
    event-is = map_at (λ o. o.event) every p here

    next-is : (j : ℕ) → returned R j (suc p) ≡ after_event (has_room o.pool) j (some o.event) (returned R j p)
    unfolding returned room_at
    next-is j = ap₂ (λ r e. after_event r j e (returned R j p)) (ap room_at here) event-is

    signed_is : signed_before R (suc p) ≡ signed_before R p ++ signed_by R p (some o.event)
    unfolding signed_before
    signed_is = ap (λ e. signed_before R p ++ signed_by R p e) event-is

  module _ (p : ℕ) (P : List Stmt) (k : ℕ) (a : Call) (here : get_elem? every p ≡ some (record { event = call k a; pool = P })) where
    abbrev o : Occurrence
    o = record { event = call k a; pool = P }

    call-other : (j : ℕ) → j ≢ k → returned R j (suc p) ≡ returned R j p
    unfolding after_event
    call-other j d = next-is p o here j ∙ rw (ne_eqb k j (λ f. d (sym f))) refl

    module _ (s : Seat) (before : seat_of (returned R k p) ≡ s) where
      call-mine : returned R k (suc p) ≡ outcome (has_room P) s.controller s.statements a
      unfolding after_event
      call-mine = next-is p o here k ∙ rw (is_true (eqb k k) (eqb_refl k)) refl ∙ ap (λ t. outcome (has_room P) t.controller t.statements a) before

      call_signed : signed_before R (suc p) ≡ signed_before R p ++ signed_in (outcome (has_room P) s.controller s.statements a).answer
      unfolding signed_by room_at
      call_signed = signed_is p o here ∙ ap₂ (λ r t. signed_before R p ++ signed_in (outcome r t.controller t.statements a).answer) (ap room_at here) before

  -- the calls from p to q are answered so
  abbrev Told : ℕ → ℕ → Answer → Type 0
  Told p q r = (i j : ℕ) (d : Call) → p ≤ i → i < q → event R i ≡ some (call j d) → (returned R j (suc i)).answer ≡ r

  call-told : (p : ℕ) (P : List Stmt) (k : ℕ) (a : Call) → get_elem? every p ≡ some (record { event = call k a; pool = P }) → Told p (suc p) (returned R k (suc p)).answer
  call-told p P k a here i j d low high e =
      let z : i ≡ p = omega arith in
      let k-is : k ≡ j = cc (sym (event-is p (record { event = call k a; pool = P }) here) ∙ ap (event R) (sym z) ∙ e) in
      ap₂ (λ j n. (returned R j (suc n)).answer) (sym k-is) z

  -- ---- several events

  module _ (P : List Stmt) where
    abbrev pub at : List Event → List Occurrence
    at E = map (λ e. record { event = e; pool = P }) E

    -- signings
    record Signings (p q : ℕ) (S : List Stmt) : Type 0 where
      all : (j : ℕ) → returned R j q ≡ returned R j p
      signed : signed_before R q ≡ signed_before R p ++ S
      later : p ≤ q
      told : (r : Answer) → Told p q r

    signings : (S : List Stmt) (p : ℕ) → Comes p (at (map signing S)) → Signings p (past p (at (map signing S))) S
    unfolding after_event signed_by
    signings [] p c = record { all = λ j. refl; signed = sym (append-nil (signed_before R p)); later = omega arith; told = λ r i j d low high. absurd (omega arith) }
    signings (s ∷ S) p (here, c) =
        let o : Occurrence = record { event = signing s; pool = P } in
        let h = signings S (suc p) c in
        record {
          all = λ j. h.all j ∙ next-is p o here j;
          signed = h.signed ∙ ap (λ X. X ++ S) (signed_is p o here) ∙ append_assoc (signed_before R p) (s ∷ []) S;
          later = omega (arith, h.later);
          told = λ r i j d low high e. elim (ℕ_discrete i p) [
            | yes z ↦ let f = sym (event-is p o here) ∙ ap (event R) (sym z) ∙ e in let no_call : ◌≡◌ {A = ℕ} 0 1 = cc (f) in absurd (omega arith)
            | no z ↦ h.told r i j d (omega arith) high e
          ];
        }

    -- additions to the record of k of what P has
    record Additions (p q k : ℕ) (x : Seat) : Type 0 where
      mine : seat_of (returned R k q) ≡ x
      others : (j : ℕ) → j ≢ k → returned R j q ≡ returned R j p
      signed : signed_before R q ≡ signed_before R p
      told : Told p q taken

    module _ (k : ℕ) (c : Controller) (ready : c.is_set_up ≡ true) (width : c.ring.width ≡ controllers) (n : ℕ) (many : length c.senders ≡ n) where
      abbrev adding : Stmt → Event
      adding s = call k (add_call s)

      additions : (Y : List Stmt) (p : ℕ) (X : List Stmt) → Comes p (at (map adding Y)) → seat_of (returned R k p) ≡ record { controller = c; statements = X }
          → ((s : Stmt) → s ∈ Y → Fit n s × (s ∈ P) × (any (same_stmt s) X ≡ false)) → Different Y → length X + length Y ≤ 512
          → Additions p (past p (at (map adding Y))) k (record { controller = c; statements = X ++ Y })
      unfolding outcome signed_in
      additions [] p X _ h f d l = record { mine = h ∙ ap (λ Z. record { controller = c; statements = Z }) (sym (append-nil X)); others = λ j n. refl; signed = refl; told = λ i j d low high. absurd (omega arith) }
      additions (s ∷ Y) p X (here, rest) h f (d, ds) l =
          let (clean, has, new) = f s (Memᴰ.head refl) in
          let x : Seat = record { controller = c; statements = X } in
          let took = add-taken c X P s ready width n many clean has new (omega arith) in
          let now = call-mine p P k (add_call s) here x h ∙ took in
          let same : signed_before R (suc p) ≡ signed_before R p =
          call_signed p P k (add_call s) here x h ∙ ap (λ o. signed_before R p ++ signed_in o.answer) took ∙ append-nil (signed_before R p) in
          let r = additions Y (suc p) (X ++ (s ∷ [])) rest (ap seat_of now)
          (λ t m. let (u, v, w) = f t (Memᴰ.tail m) in (
            u,
            v,
            fails (any (same_stmt t) (X ++ (s ∷ []))) (λ i. elim (Memᴰ.append_cases X {t = s ∷ []} (says-has.sound i)) [
              | inl j ↦ subst T w (says-has.complete j)
              | inr j ↦ d t m (sym (Memᴰ.eq_of_singleton j))
            ]),
          )) ds (omega (arith, one-longer X s)) in
          record {
            mine = r.mine ∙ ap (λ Z. record { controller = c; statements = Z }) (append_snoc X s Y);
            others = λ j n. r.others j n ∙ call-other p P k (add_call s) here j n;
            signed = r.signed ∙ same;
            told = λ i j b low high e. elim (dec_lt i (suc p)) [ yes z ↦ call-told p P k (add_call s) here i j b low z e ∙ ap (λ o. o.answer) now | no z ↦ r.told i j b (omega arith) high e ];
          }

  -- ---- the bench and the run

  -- at place p of the run the bench is b
  pub record Linked (p : ℕ) (b : Bench) : Type 0 where
    pub seats : (k : ℕ) → T (follower faulty k) → seat_of (returned R k p) ≡ seat b k
    pub known : signed_before R p ⊆ b.pool
    pub has : b.pool ⊆ signed_before R p

  -- after the line l the bench is where the run is at q, and the answer of its row is that of each of its calls
  pub record Passes (b : Bench) (l : Option Line) (p q : ℕ) : Type 0 where
    pub linked : Linked q (step b l).bench
    pub told : Told p q (step b l).reply.answer

  module _ {b : Bench} (ok : Valid u b) (l : Option Line) (p : ℕ) (link : Linked p b) where
    abbrev b' : Bench
    b' = (step b l).bench

    abbrev Goes : List Event → Type 0
    Goes E = Comes p (at b.pool E) → Passes b l p (past p (at b.pool E))

    -- at q, where S has been signed
    linked-at : (q : ℕ) (S : List Stmt) → signed_before R q ≡ signed_before R p ++ S → Grown b.pool S b'.pool → ((j : ℕ) → T (follower faulty j) → seat_of (returned R j q) ≡ seat b' j) → Linked q b'
    linked-at q S e g seats = record {
      seats = seats;
      known = λ a m. elim (Memᴰ.append_cases (signed_before R p) (subst (λ X. a ∈ X) e m)) [ inl i ↦ grown-more g a (link.known a i) | inr i ↦ g.has a i ];
      has = λ a m. subst (λ X. a ∈ X) (sym e) (elim (g.only a m) [ inl i ↦ Memᴰ.append_left S (link.has a i) | inr i ↦ Memᴰ.append_right (signed_before R p) i ]);
    }

    -- no call on a rule-follower
    goes-signings : (S : List Stmt) → Grown b.pool S b'.pool → ((j : ℕ) → T (follower faulty j) → seat b' j ≡ seat b j) → Goes (map signing S)
    goes-signings S g same c =
        let h = signings b.pool S p c in
        record { linked = linked-at (past p (at b.pool (map signing S))) S h.signed g (λ j t. ap seat_of (h.all j) ∙ link.seats j t ∙ sym (same j t)); told = h.told (step b l).reply.answer }

    module _ (k : ℕ) {x : Seat} {S : List Stmt} (a : After b k x S b') where
      others : (j : ℕ) → j ≢ k → seat b' j ≡ seat b j
      others j d = ap (λ X. get_or X j empty_seat) a.seats ∙ get_or-set_other b.seats k j x empty_seat d

      -- a line on a rule-breaker
      goes-apart : follower faulty k ≡ false → Goes (map signing S)
      goes-apart f = goes-signings S a.pool (λ j t. others j (λ e. subst T f (subst (λ j. T (follower faulty j)) e t)))

      -- a line on a rule-follower: at q the run has x for it
      goes-mine : k < 16 → (q : ℕ) → signed_before R q ≡ signed_before R p ++ S → seat_of (returned R k q) ≡ x → ((j : ℕ) → j ≢ k → returned R j q ≡ returned R j p) → Linked q b'
      goes-mine near q e m o = linked-at q S e a.pool (λ j t. elim (ℕ_discrete j k) [
        | yes g ↦ subst (λ i. seat_of (returned R i q) ≡ seat b' i) (sym g) (m ∙ sym (get_or-set_same b.seats k x empty_seat (omega (arith, ok.long))) ∙ ap (λ X. get_or X k empty_seat) (sym a.seats))
        | no g ↦ ap seat_of (o j g) ∙ link.seats j t ∙ sym (others j g)
      ])

    goes-call : (k : ℕ) (a : Call) → T (follower faulty k) → Calls b l k a → Goes (call k a ∷ [])
    goes-call k a t c (here, _) =
        let now = call-mine p b.pool k a here (seat b k) (link.seats k t) in
        record {
          linked = goes-mine k c.after c.near (suc p) (call_signed p b.pool k a here (seat b k) (link.seats k t)) (ap seat_of now) (call-other p b.pool k a here);
          told = λ i j d low high e. call-told p b.pool k a here i j d low high e ∙ ap (λ o. o.answer) now ∙ sym c.answered;
        }

    goes-all : (k : ℕ) → T (follower faulty k) → Gives b l k → Goes (map (λ s. call k (add_call s)) (missing b k))
    goes-all k t c comes =
        let s = (ok.each k c.near).in_ring in
        let h = additions b.pool k (seat b k).controller s.is_set_up (ap (λ Q. Q.width) s.ring) (length senders) (ap length s.senders) (missing b k) p (seat b k).statements comes (link.seats k t) new
        (filter-different (λ s. not (any (same_stmt s) (seat b k).statements)) b.pool ok.different) c.fits in
        record {
          linked = goes-mine k c.after c.near (past p (at b.pool (map (λ s. call k (add_call s)) (missing b k)))) (h.signed ∙ sym (append-nil (signed_before R p))) h.mine h.others;
          told = λ i j d low high e. h.told i j d low high e ∙ sym c.answered;
        }
      where
        new : (s : Stmt) → s ∈ missing b k → Fit (length senders) s × (s ∈ b.pool) × (any (same_stmt s) (seat b k).statements ≡ false)
        new s m =
            let (i, n) = filter-out (λ s. not (any (same_stmt s) (seat b k).statements)) b.pool m in
            (ok.clean s i, i, fails (any (same_stmt s) (seat b k).statements) (T_not (any (same_stmt s) (seat b k).statements) n))

    -- EACH LINE TAKES THE BENCH WHERE ITS EVENTS TAKE THE RUN
    pub goes : Effect b l → Goes (events_of b l)
    goes (rests r) = subst Goes (sym r.events) (goes-signings [] (subst (λ b'. Grown b.pool [] b'.pool) (sym r.same) (grown-none b.pool refl)) (λ j t. ap (λ x. seat x j) r.same))
    goes (calls k a c) = subst Goes (sym c.events) (either Goes (is_follower b k) (λ f. goes-call k a (yes-follows u ok k f) c) (λ f. goes-apart k c.after (no-follows u ok k f)))
    goes (gives k c) = subst Goes (sym c.events) (either Goes (is_follower b k) (λ f. goes-all k (yes-follows u ok k f) c) (λ f. goes-apart k c.after (no-follows u ok k f)))
    goes (lies s c) = subst Goes (sym c.events) (goes-signings (s ∷ []) c.after.pool (λ j t. ap (λ X. get_or X j empty_seat) (c.after.seats ∙ set-get_or b.seats 0 empty_seat)))

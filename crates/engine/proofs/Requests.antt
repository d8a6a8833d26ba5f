-- What the calls that do not touch the pool come to.
-- Assumes nothing.
use Rattle.std.specs.Prelude.{if◌then◌else◌, Ok, Err}
use mathlib.Core.Path.{◌≡◌, refl, sym, ap, ap₂, subst, ◌∙◌}
use mathlib.Core.Bool.{Bool, true, false, not, ◌&&◌, ◌||◌, true≢false}
use mathlib.Core.List.{List, [], ◌∷◌}
use Prim.Native.Nat.{ℕ, ◌%◌, ◌^◌, ◌≤◌, ◌<◌, min}
use native.Mathlib.Decide.{dec_lt}
use native.Mathlib.Omega.{arith}
use lib.Dec.{eqb, leb, ltb}
use lib.ListN.{length, get_or, set, replicate}
use borrow.Author.Tests.{eq-eqb, ne_eqb, lt-ltb, le-ltb, le-leb, lt-leb, ltb-true}
use Rattle.protocol.specs.Sets.{bit}
use Rattle.protocol.specs.Lists.{list_of}
use Rattle.protocol.specs.View.{member}
use Rattle.protocol.specs.Statement.{Stmt}
use Rattle.protocol.specs.Window.{windows_allowed}
use Rattle.protocol.specs.Controller as controller
use Rattle.protocol.specs.Call as call
use Rattle.protocol.specs.Turn.{entered_after}
use Rattle.protocol.proofs.Bits.{bit-zero}
use Rattle.protocol.proofs.Numbered.{list_of-length}
use Rattle.protocol.proofs.Additions as checks
use Rattle.protocol.proofs.Additions.{not_to_send, send-unready, send-unknown, send-barred, send-taken}
use Rattle.views.specs.Held.{view_is, views_is, held_at}
use Rattle.views.specs.declared.View as held
use Rattle.views.specs.declared.History.{History}
use Rattle.pool.specs.Pool.{record_in, AllIn}
use Rattle.pool.specs.Changes.{Emptied}
use Rattle.statements.specs.declared.Binding.TheVariants.{Unbound}
use Rattle.statements.specs.Sets.{PutBit}
use Rattle.evidence.specs.Notices.{senders_of}
use Rattle.windows.specs.Windows.{windows_in}
use Rattle.engine.specs.declared.Controller.{Controller}
use Rattle.engine.specs.declared.Setup.{Setup}
use Rattle.engine.specs.declared.Refusal.{Refusal}
use Rattle.engine.specs.declared.Refusal.TheVariants.{BadRequest, OutOfPlace, UnknownNotice}
use Rattle.engine.specs.declared.Answer.TheVariants.{Taken}
use Rattle.engine.specs.Meaning.{initial_is, first_senders, setup_is, controller_is, Came, refusal_is, answer_is}
use Rattle.engine.specs.Promise.{unchanged, Meets, IsRefused, Calls, started_of, Starts}
use Rattle.engine.specs.Steps.{are_numbers}
use Rattle.engine.proofs.Numbers.{is-notice, sender-at, some-when, requested-put, none-bound, none-delivered, none-asked}

-- ---- pool and record stay as they were

module _ (W R : List ℕ) (c : Controller) (r : Came) (d : controller.Controller) (a : controller.Answer) (e : answer_is W r.answer ≡ a) (f : controller_is r.controller ≡ d)
    (unsigned : (s : Stmt) → a ≡ controller.signed s → ⊥) (same : IsRefused a → r.controller ≡ c) where
  pub settled : Meets W R c (record { answer = a; controller = d; statements = record_in W R }) unchanged r W R
  settled = record {
    answer = e;
    number = λ s q. absurd (unsigned s q);
    controller = f;
    numbers = refl;
    statements = λ w. (refl, w);
    pool = refl;
    refused = λ t. (same t, refl, refl);
  }

pub refused-so : (W R : List ℕ) (c : Controller) (r : Came) (q : Refusal) → r.answer ≡ Err q → r.controller ≡ c
    → Meets W R c (call.refuse (controller_is c) (record_in W R) (refusal_is q)) unchanged r W R
unfolding answer_is
refused-so W R c r q e h =
    settled W R c r (controller_is c) (controller.refused (refusal_is q)) (ap (answer_is W) e) (ap controller_is h) (λ s p. let z : ◌≡◌ {A = ℕ} 0 1 = cc in omega arith) (λ t. h)

-- ---- the two ways in which a request ends

pub refused : {f : List Stmt → controller.Outcome} (c : Controller) (q : Refusal) {r : Came} → r.answer ≡ Err q → r.controller ≡ c
    → ((X : List Stmt) → f X ≡ call.refuse (controller_is c) X (refusal_is q)) → Calls f c r
unfolding Calls
refused {f} c q {r} e h g W R = subst (λ o. Meets W R c o unchanged r W R) (sym (g (record_in W R))) (refused-so W R c r q e h)

pub noted : {f : List Stmt → controller.Outcome} (c d : Controller) {r : Came} → r.answer ≡ Ok Taken → r.controller ≡ d
    → ((X : List Stmt) → f X ≡ record { answer = controller.taken; controller = controller_is d; statements = X }) → Calls f c r
unfolding Calls answer_is
noted {f} c d {r} e h g W R =
    subst (λ o. Meets W R c o unchanged r W R) (sym (g (record_in W R)))
    (settled W R c r (controller_is d) controller.taken (ap (answer_is W) e) (ap controller_is h) (λ s p. let z : ◌≡◌ {A = ℕ} 0 1 = cc in omega arith) (λ t. absurd t))

-- ---- the two ways in which a setup ends

pub barred : {f : List Stmt → controller.Outcome} (R : List ℕ) (c : Controller) (q : Refusal) {r : Came} → r.answer ≡ Err q → r.controller ≡ c
    → ((X : List Stmt) → f X ≡ call.refuse (controller_is c) X (refusal_is q)) → Starts f R c r R
unfolding Starts
barred {f} R c q {r} e h g W = subst (λ o. Meets W R c o (started_of o.answer) r W R) (sym (g (record_in W R))) (refused-so W R c r q e h)

-- an empty record has only statements of the pool
none_in : {R R' : List ℕ} (W : List ℕ) → Emptied R R' → AllIn W R'
unfolding AllIn
none_in W k i l = absurd (omega (arith, k.len))

-- a controller that starts has an empty record
pub began : {f : List Stmt → controller.Outcome} {R R' : List ℕ} (c d : Controller) {e : controller.Controller} {r : Came} → r.answer ≡ Ok Taken → r.controller ≡ d → controller_is d ≡ e → Emptied R R'
    → ((X : List Stmt) → f X ≡ record { answer = controller.taken; controller = e; statements = [] }) → Starts f R c r R'
unfolding Starts answer_is
began {f} {R} {R'} c d {e} {r} a h k n g W = subst (λ o. Meets W R c o (started_of o.answer) r W R') (sym (g (record_in W R))) (record {
  answer = ap (answer_is W) a;
  number = λ s p. let z : ◌≡◌ {A = ℕ} 0 1 = cc in absurd (omega arith);
  controller = ap controller_is h ∙ k;
  numbers = n;
  statements = λ w. (n.none W, none_in W n);
  pool = refl;
  refused = λ t. absurd t;
})

-- ---- requests

-- a request of c that 5 refuses for p or for q, and that has d after it
unfoldable pub request : Controller → Bool → Bool → Controller → List Stmt → controller.Outcome
request c p q d X = call.after_setup (controller_is c) X (if p || q then call.refuse (controller_is c) X controller.bad_request else call.note (controller_is c) X (controller_is d))

module _ (c : Controller) (p q : Bool) (d : Controller) (r : Came) where
  pub request-unready : (r.answer ≡ Err OutOfPlace) × (r.controller ≡ c) → c.ready ≡ false → Calls (request c p q d) c r
  unfolding request controller_is
  request-unready a e = refused c OutOfPlace a.0 a.1 (λ X. rw e)

  pub request-barred : (r.answer ≡ Err BadRequest) × (r.controller ≡ c) → c.ready ≡ true → p ≡ true → Calls (request c p q d) c r
  unfolding request controller_is
  request-barred a e f = refused c BadRequest a.0 a.1 (λ X. rw (e, f))

  pub request-again : (r.answer ≡ Err BadRequest) × (r.controller ≡ c) → c.ready ≡ true → p ≡ false → q ≡ true → Calls (request c p q d) c r
  unfolding request controller_is
  request-again a e f g = refused c BadRequest a.0 a.1 (λ X. rw (e, f, g))

  pub request-taken : (r.answer ≡ Ok Taken) × (r.controller ≡ d) → c.ready ≡ true → p ≡ false → q ≡ false → Calls (request c p q d) c r
  unfolding request controller_is
  request-taken a e f g = noted c d a.0 a.1 (λ X. rw (e, f, g))

module _ (c : Controller) where
  -- the controller with other requests noted
  abbrev asking : Bool → Bool → List ℕ → ℕ → Controller
  asking join leave sends requested = record {
    ready = c.ready;
    number = c.number;
    init = c.init;
    notices = c.notices;
    senders = c.senders;
    entered = c.entered;
    held = c.held;
    sends = sends;
    delivered = c.delivered;
    requested = requested;
    joining = join;
    leaving = leave;
    times = c.times;
    windows = c.windows;
  }

  abbrev pub joining : Controller
  joining = asking true c.leaving c.sends c.requested

  pub joins : (r : Came) → Calls (request c (member (view_is c.init) c.number) c.joining joining) c r → Calls (call.request_join (controller_is c)) c r
  unfolding request call.request_join controller_is
  joins r m = m

  abbrev pub leaving : Controller
  leaving = asking c.joining true c.sends c.requested

  pub leaves : (r : Came) → Calls (request c (eqb (length (views_is c.entered)) 0) c.leaving leaving) c r → Calls (call.request_leave (controller_is c)) c r
  unfolding request call.request_leave controller_is
  leaves r m = m

  -- ---- a send of the payload m of notice i

  module _ (i m : ℕ) (r : Came) where
    abbrev Sent : Type 0
    Sent = Calls (λ X. call.request_send (controller_is c) X i m) c r

    pub sends-unready : (r.answer ≡ Err OutOfPlace) × (r.controller ≡ c) → c.ready ≡ false → Sent
    unfolding controller_is
    sends-unready a e = refused c OutOfPlace a.0 a.1 (λ X. send-unready (controller_is c) X i m e)

    module _ (e : c.ready ≡ true) where
      pub sends-unknown : (r.answer ≡ Err UnknownNotice) × (r.controller ≡ c) → ltb i (min c.notices 64) ≡ false → Sent
      unfolding controller_is
      sends-unknown a f = refused c UnknownNotice a.0 a.1 (λ X. send-unknown (controller_is c) X i m e (is-notice c.senders c.notices i ∙ f))

      module _ (f : ltb i (min c.notices 64) ≡ true) where
        known : i < min c.notices 64
        known = ltb-true i (min c.notices 64) f

        barred-so : (p q : Bool) → not (eqb c.number (get_or c.senders i 0)) ≡ p → bit c.requested i ≡ q → not_to_send (controller_is c) [] i m ≡ (p || q)
        unfolding controller_is
        barred-so p q g h = ap₂ ◌||◌ (ap (λ k. not (eqb c.number k)) (sender-at c.senders c.notices i known) ∙ g) (some-when (bit c.requested i) (get_or c.sends i 0) ∙ h)

        pub sends-other : (r.answer ≡ Err BadRequest) × (r.controller ≡ c) → (c.number ≡ get_or c.senders i 0 → ⊥) → Sent
        unfolding controller_is
        sends-other a g =
            refused c BadRequest a.0 a.1
            (λ X. send-barred (controller_is c) X i m e (is-notice c.senders c.notices i ∙ f) (barred-so true (bit c.requested i) (ap not (ne_eqb c.number (get_or c.senders i 0) g)) refl))

        module _ (g : c.number ≡ get_or c.senders i 0) where
          pub sends-again : (r.answer ≡ Err BadRequest) × (r.controller ≡ c) → bit c.requested i ≡ true → Sent
          unfolding controller_is
          sends-again a h =
              refused c BadRequest a.0 a.1
              (λ X. send-barred (controller_is c) X i m e (is-notice c.senders c.notices i ∙ f) (barred-so false true (ap not (eq-eqb c.number (get_or c.senders i 0) g)) h))

          pub sends-taken : (q : ℕ) → (r.answer ≡ Ok Taken) × (r.controller ≡ asking c.joining c.leaving (set c.sends i m) q) → bit c.requested i ≡ false
              → PutBit c.requested i true q → c.requested < 18446744073709551616 → q < 18446744073709551616 → length c.sends ≡ 64 → Sent
          unfolding controller_is
          sends-taken q a h p l k n =
              noted c (asking c.joining c.leaving (set c.sends i m) q) a.0 a.1
              (λ X. send-taken (controller_is c) X i m e (is-notice c.senders c.notices i ∙ f) (barred-so false false (ap not (eq-eqb c.number (get_or c.senders i 0) g)) h)
              ∙ ap (λ s. call.note (controller_is c) X (controller.with_requests c.joining c.leaving s (controller_is c))) (sym (requested-put c.requested q i m c.sends p l k (omega (arith, known)) (omega (arith, known)))))

pub entered-none : (h : History) → h.len ≡ 0 → eqb (length (views_is h)) 0 ≡ true
unfolding views_is
entered-none h e = eq-eqb (length (list_of (min h.len 16) (held_at h.views))) 0 (list_of-length (min h.len 16) (held_at h.views) ∙ (let q : min h.len 16 ≡ 0 = omega arith in q))

pub entered-some : (h : History) → (h.len ≡ 0 → ⊥) → eqb (length (views_is h)) 0 ≡ false
unfolding views_is
entered-some h n = ne_eqb (length (list_of (min h.len 16) (held_at h.views))) 0 (λ q. let z : min h.len 16 ≡ 0 = sym (list_of-length (min h.len 16) (held_at h.views)) ∙ q in n (omega arith))

-- ---- setup

module _ (c : Controller) (X : List Stmt) (number : ℕ) (s : call.Setup) where
  pub setup-again : c.ready ≡ true → call.setup (controller_is c) X number s ≡ call.refuse (controller_is c) X controller.bad_setup
  unfolding controller_is
  setup-again e = checks.setup-again (controller_is c) X number s e

  module _ (b : Bool) (e : c.ready ≡ false) (f : b ≡ call.setup_allowed number s.members s.senders) where
    pub setup-barred : b ≡ false → call.setup (controller_is c) X number s ≡ call.refuse (controller_is c) X controller.bad_setup
    unfolding controller_is
    setup-barred g = checks.setup-bad (controller_is c) X number s e (sym f ∙ g)

    module _ (g : b ≡ true) (d : Bool) (h : d ≡ windows_allowed s.windows) where
      pub setup-shut : d ≡ false → call.setup (controller_is c) X number s ≡ call.refuse (controller_is c) X controller.bad_window
      unfolding controller_is
      setup-shut k = checks.setup-shut (controller_is c) X number s e (sym f ∙ g) (sym h ∙ k)

      pub setup-taken : d ≡ true → call.setup (controller_is c) X number s ≡ record { answer = controller.taken; controller = call.started number s; statements = [] }
      unfolding controller_is
      setup-taken k = checks.setup-taken (controller_is c) X number s e (sym f ∙ g) (sym h ∙ k)

-- the tests of a setup, one after the other; the first that fails decides
module _ (number members : ℕ) (S : List ℕ) (count : ℕ) where
  abbrev is_allowed : Bool
  is_allowed = call.setup_allowed number members (first_senders S count)

  -- the tests in their order
  tests : is_allowed ≡ (ltb 0 members && ltb members (2 ^ 16) && ltb number 16 && leb 1 count && leb count 64 && are_numbers (first_senders S count))
  unfolding call.setup_allowed are_numbers first_senders
  tests = ap (λ n. ltb 0 members && ltb members (2 ^ 16) && ltb number 16 && leb 1 n && leb n 64 && are_numbers (first_senders S count)) (list_of-length count (λ i. get_or S i 0))

  and_no : (a : Bool) → (a && false) ≡ false
  and_no true = refl
  and_no false = refl

  pub no-members : members ≡ 0 → false ≡ is_allowed
  no-members e = sym (tests ∙ rw (le-ltb 0 members (omega arith)))

  pub far-number : 16 ≤ number → false ≡ is_allowed
  far-number h = sym (tests ∙ rw (le-ltb number 16 h, and_no (ltb 0 members && ltb members (2 ^ 16))))

  pub no-notices : count ≡ 0 → false ≡ is_allowed
  no-notices e = sym (tests ∙ rw (lt-leb 1 count (omega arith), and_no (ltb 0 members && ltb members (2 ^ 16) && ltb number 16)))

  pub many-notices : 64 < count → false ≡ is_allowed
  many-notices h = sym (tests ∙ rw (lt-leb count 64 h, and_no (ltb 0 members && ltb members (2 ^ 16) && ltb number 16 && leb 1 count)))

  pub allowed : (b : Bool) → (members ≡ 0 → ⊥) → members < 65536 → number < 16 → (count ≡ 0 → ⊥) → count ≤ 64 → b ≡ are_numbers (first_senders S count) → b ≡ is_allowed
  allowed b n m k o l e = e ∙ sym (tests ∙ rw (lt-ltb 0 members (omega arith), lt-ltb members (2 ^ 16) m, lt-ltb number 16 k, le-leb 1 count (omega arith), le-leb count 64 l))

  -- a ring that may start has at most 64 notices
  pub few-notices : (b : Bool) → b ≡ is_allowed → b ≡ true → count ≤ 64
  few-notices b e f = elim (dec_lt 64 count) [ yes h ↦ absurd (true≢false (sym f ∙ e ∙ sym (many-notices h))) | no h ↦ omega arith ]

-- ---- the controller that a setup starts

bit-member : (members k : ℕ) → member (record { joined = members; left = 0 }) k ≡ bit members k
bit-member members k = rw (bit-zero k) (go (bit members k))
  where
    go : (b : Bool) → (b && true) ≡ b
    go true = refl
    go false = refl

pub first_one : (v : held.View) (k : ℕ) (b : Bool) (h e : History) → b ≡ member (view_is v) k → b ≡ true → views_is e ≡ [] → views_is h ≡ entered_after (view_is v) (views_is e) → views_is h ≡ initial_is v k
unfolding initial_is entered_after
first_one v k b h e m t n p = p ∙ rw (n, sym m ∙ t)

pub first-none : (v : held.View) (k : ℕ) (b : Bool) (h : History) → b ≡ member (view_is v) k → b ≡ false → views_is h ≡ [] → views_is h ≡ initial_is v k
unfolding initial_is
first-none v k b h m t n = n ∙ rw (sym m ∙ t)

pub entered-start : (members k : ℕ) (h : History) → members < 65536 → views_is h ≡ initial_is (record { joined = members; left = 0 }) k → views_is h ≡ (if bit members k then call.initial_view members ∷ [] else [])
unfolding initial_is
entered-start members k h l e = e ∙ rw (let q : members % 65536 ≡ members = omega arith in q, bit-member members k)

-- what a controller holds before its setup
pub new_is : (h : History) → views_is h ≡ [] → controller_is (record {
  ready = false;
  number = 0;
  init = record { joined = 0; left = 0 };
  notices = 1;
  senders = replicate 64 0;
  entered = h;
  held = replicate 64 (record { binding = Unbound });
  sends = replicate 64 0;
  delivered = 0;
  requested = 0;
  joining = false;
  leaving = false;
  windows = 0;
  times = replicate 8 0;
}) ≡ controller.not_set_up
unfolding controller_is senders_of windows_in list_of
new_is h e i = record {
  is_set_up = false;
  number = 0;
  ring = record { width = 16; init = record { joined = 0; left = 0 } };
  senders = 0 ∷ [];
  windows = [];
  entered = e i;
  binding = none-bound 64 i;
  delivered = none-delivered i;
  join_requested = false;
  leave_requested = false;
  send_requested = none-asked (replicate 64 0) i;
}

pub start_is : (number : ℕ) (s : Setup) (S A : List ℕ) (h : History) (blank : Controller) → controller_is blank ≡ controller.not_set_up → s.members < 65536 → (s.notices ≤ 64) × (s.windows ≤ 8)
    → views_is h ≡ initial_is (record { joined = s.members; left = 0 }) number → controller_is (record {
      ready = true;
      number = number;
      init = record { joined = s.members; left = 0 };
      notices = s.notices;
      senders = S;
      entered = h;
      held = blank.held;
      sends = blank.sends;
      delivered = blank.delivered;
      requested = blank.requested;
      joining = blank.joining;
      leaving = blank.leaving;
      windows = s.windows;
      times = A;
    }) ≡ call.started number (setup_is s S A)
unfolding controller_is call.started senders_of first_senders
start_is number s S A h blank n l k e i = record {
  is_set_up = true;
  number = number;
  ring = record { width = 16; init = record { joined = (let q : s.members % 65536 ≡ s.members = omega arith in q) i; left = 0 } };
  senders = list_of ((let q : min s.notices 64 ≡ s.notices = omega (arith, k.0) in q) i) (λ j. get_or S j 0);
  windows = windows_in A ((let q : min s.windows 8 ≡ s.windows = omega (arith, k.1) in q) i);
  entered = entered-start s.members number h l e i;
  binding = ap (λ d. d.binding) n i;
  delivered = ap (λ d. d.delivered) n i;
  join_requested = ap (λ d. d.join_requested) n i;
  leave_requested = ap (λ d. d.leave_requested) n i;
  send_requested = ap (λ d. d.send_requested) n i;
}

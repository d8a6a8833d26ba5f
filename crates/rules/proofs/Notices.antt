-- The rules by notice: a set has the notices for which a rule applies, and the least of them goes first.
-- Assumes nothing.
use Rattle.std.specs.Prelude.{if◌then◌else◌}
use mathlib.Core.Path.{◌≡◌, refl, sym, ap, ap₂, subst, ◌∙◌}
use mathlib.Core.Bool.{Bool, true, false, not, ◌&&◌, ◌||◌, and-true, and-false, true≢false, false≢true}
use mathlib.Core.List.{List, [], ◌∷◌}
use Rattle.std.specs.Prelude as code
use Rattle.std.specs.Prelude.{Some, None, MatchOption}
use mathlib.Core.Option.{Option, some, none}
use Prim.Native.Nat.{ℕ, zero, suc, ◌+◌, ◌*◌, ◌≤◌, ◌<◌, min}
use native.Mathlib.Decide.{dec_lt}
use native.Mathlib.Omega.{arith}
use lib.Dec.{eqb}
use lib.ListN.{length, get_or}
use Rattle.protocol.specs.Sets.{bit, every, set_of}
use Rattle.protocol.specs.Lists.{any, find, when, given, is_some, least}
use Rattle.protocol.specs.View.{View, same_view, member}
use Rattle.protocol.specs.Statement.{Stmt, Binding, unbound, bound, barred, binding_of, payload_of, tells, kept_payload, same_stmt, leave, prepare, ack, store, acks_at, stores_at}
use Rattle.protocol.specs.Evidence.{sender_of, prepares, candidates}
use Rattle.protocol.specs.Controller.{Controller}
use Rattle.protocol.specs.Turn as turn
use Rattle.protocol.proofs.Bits.{bit-zero, bit-set_of}
use Rattle.protocol.proofs.Found.{if-false}
use Rattle.protocol.proofs.Numbered.{least_first, list_of-at}
use Rattle.views.specs.Held.{view_is}
use Rattle.statements.specs.declared.Binding as bindings
use Rattle.statements.specs.declared.Binding.TheVariants.{Unbound, Bound, Barred}
use Rattle.statements.specs.declared.Told.{Told}
use Rattle.statements.specs.Block.{block_word, bound_or_barred, binding_is, told_is, binding_at, group_at}
use Rattle.statements.specs.Sets.{Common, Union, Except, Next}
use Rattle.statements.proofs.NoticeSets as sets
use Rattle.evidence.specs.Notices.{senders_of}
use Rattle.rules.specs.declared.Situation.{Situation}
use Rattle.rules.specs.declared.Action.{Action}
use Rattle.rules.specs.declared.Action.TheVariants.{Ack, Store, Deliver, Leave, Prepare}
use Rattle.views.specs.Options.{option_of}
use Rattle.views.proofs.Options.{option-some, option-none}
use Rattle.rules.specs.Actions.{statement_of, action_is}
use Rattle.rules.specs.Rules.{own_of, own_of_at, prepared_by, prepared_in, sent_by, first_prepare, ack_for, ackable, AcksDue, PreparedOutside, may_leave, Owns, Marks, Misses, Least, SituationOf, ToldOf, SendsOf, Lent, statements, own_statements, senders, told, sends, AllLent, Rule, rule9_at, Does}
use Rattle.rules.proofs.Scans.{owns-same, owns_of, owns-of-at}
use Rattle.rules.proofs.Applied.{each, doing, IsAny, all3}

-- ---- the least notice

first_some : {A : Type 0} (n r : ℕ) (f : ℕ → Option A) (o : Option A) → r < n → ((i : ℕ) → i < r → f i ≡ none) → f r ≡ o → is_some o ≡ true → least n f ≡ o
first_some n r f none l h e y = absurd (false≢true y)
first_some n r f (some a) l h e y = least_first n f r l (sets.least-none r f h) e

pub least-none : (set n j : ℕ) → Next set 0 j → min n 64 ≤ j → Misses set n
least-none set n j k h = record { none = λ i l. k.none i (omega arith) (omega arith) }

pub least-some : (set n j : ℕ) → Next set 0 j → j < min n 64 → Least set n j
least-some set n j k h = record { below = omega arith; notice = omega arith; has = (k.here (omega arith)).1; before = λ i m. k.none i (omega arith) m }

-- where there is none, none is below n
abbrev pub LeastOf : ℕ → ℕ → code.Option ℕ → Type 0
LeastOf set n r = MatchOption r (Misses set n) (Least set n)

-- What a rule has a controller do of one notice.
abbrev For : Type 0
For = Controller → List Stmt → ℕ → Option turn.Action

-- the answer r, if the set has the notice
abbrev pub answered : Bool → code.Option Action → code.Option Action
answered true r = r
answered false r = None

-- the rule has every controller whose situation s is, and of whom L is lent, do of notice i what A gives, if the set has i
abbrev pub IsAt : List Lent → Situation → For → ℕ → (ℕ → code.Option Action) → Type 0
IsAt L s f set A = (d : Controller) (X : List Stmt) (B : List ℕ) → SituationOf d X s → ToldOf d X B → AllLent s d X L → (i : ℕ) → i < length d.senders → f d X i ≡ doing s d X B (answered (bit set i) (A i))

-- the rule rests of every notice
abbrev RestsAt : List Lent → Situation → For → Type 0
RestsAt L s f = (d : Controller) (X : List Stmt) → SituationOf d X s → AllLent s d X L → (i : ℕ) → i < length d.senders → f d X i ≡ none

abbrev By : Rule → For → Type 0
By rule f = (d : Controller) (X : List Stmt) → rule d X ≡ least (length d.senders) (f d X)

module _ (L : List Lent) (s : Situation) (rule : Rule) (f : For) (by : By rule f) where
  all_rest : RestsAt L s f → Does L s rule None
  all_rest h = record { means = λ d X B k t l. sym (by d X ∙ sets.least-none (length d.senders) (f d X) (h d X k l)) }

  module _ (set : ℕ) (A : ℕ → code.Option Action) (at : IsAt L s f set A) where
    rests : (d : Controller) (X : List Stmt) (B : List ℕ) → SituationOf d X s → ToldOf d X B → AllLent s d X L → (i : ℕ) → i < length d.senders → bit set i ≡ false → f d X i ≡ none
    rests d X B k t l i h e = at d X B k t l i h ∙ ap (λ b. doing s d X B (answered b (A i))) e

    pub least-rests : Misses set s.ring.notices → Does L s rule None
    least-rests m = record { means = λ d X B k t l. sym (by d X ∙ sets.least-none (length d.senders) (f d X) (λ i h. rests d X B k t l i h (m.none i (omega (arith, k.notices))))) }

    pub least-acts : {r : ℕ} → Least set s.ring.notices r → (a : Action) → Some a ≡ A r → Does L s rule (Some a)
    least-acts {r} m a e = record {
      means = λ d X B k t l.
          (let h : r < length d.senders = omega (arith, k.notices, m.below, m.notice) in
          sym (by d X ∙ first_some (length d.senders) r (f d X) (doing s d X B (Some a)) h (λ i j. rests d X B k t l i (omega (arith, h)) (m.before i j))
          (at d X B k t l r h ∙ ap (λ b. doing s d X B (answered b (A r))) m.has ∙ ap (doing s d X B) (sym e)) refl));
    }

-- ---- one notice

module _ {A : Type 0} where
  -- what is given for the payload p of a certificate
  by-certificate : (o : Option ℕ) (c : Bool) (p : ℕ) (f : ℕ → Option A) → is_some o ≡ c → p ≡ kept_payload o → given o f ≡ (if c then f p else none)
  by-certificate none c p f e q = rw (← e)
  by-certificate (some m) c p f e q = rw (← e, q)

  by-request : (c : Bool) (p : ℕ) (f : ℕ → Option A) → given (when c p) f ≡ (if c then f p else none)
  by-request true p f = refl
  by-request false p f = refl

  given-same : (o : Option ℕ) (f g : ℕ → Option A) → ((m : ℕ) → o ≡ some m → f m ≡ g m) → given o f ≡ given o g
  given-same none f g h = refl
  given-same (some m) f g h = h m refl

  given-none : (o : Option ℕ) (f : ℕ → Option A) → ((m : ℕ) → f m ≡ none) → given o f ≡ none
  given-none none f h = refl
  given-none (some m) f h = h m

  if_none : (c : Bool) (o : Option A) → o ≡ none → (if c then o else none) ≡ none
  if_none true o e = e
  if_none false o e = refl

-- the rule asks for a certificate or a request, which c says there is, and then for p
on-notice : (s : Situation) (d : Controller) (X : List Stmt) (B : List ℕ) (a : Action) {x : turn.Action} (on c p : Bool) → some x ≡ doing s d X B (Some a) → on ≡ (c && p) → (if c then when p x else none) ≡ doing s d X B (answered on (Some a))
on-notice s d X B a on true true is e = rw e is
on-notice s d X B a on true false is e = rw e
on-notice s d X B a on false p is e = rw e

module _ {d : Controller} {X : List Stmt} {s : Situation} (k : SituationOf d X s) where
  below_64 : {i : ℕ} → i < length d.senders → i < 64
  below_64 h = omega (arith, k.notices)

  -- an ack or a store of its own at the top
  own-at-top : {Y : List Stmt} → Owns X Y s.number → (kind i : ℕ)
      → any (λ x. eqb x.origin d.number && (eqb x.kind kind && same_view x.at (turn.T d X) && eqb x.notice i)) X ≡ any (own_of_at s.number kind (view_is s.top) i) Y
  unfolding own_of_at
  own-at-top y kind i = ap₂ (λ n v. any (own_of_at n kind v i) X) k.number k.top ∙ sym (owns-of-at y kind (view_is s.top) i)

  at-marked : {Y : List Stmt} {set : ℕ} → Owns X Y s.number → (kind i : ℕ) → Marks (own_of_at s.number kind (view_is s.top)) Y set → i < length d.senders
      → any (λ x. eqb x.origin d.number && (eqb x.kind kind && same_view x.at (turn.T d X) && eqb x.notice i)) X ≡ bit set i
  at-marked y kind i m h = own-at-top y kind i ∙ sym (m.bits i (below_64 h))

kept-is : {d : Controller} {X : List Stmt} {B : List ℕ} → ToldOf d X B → (i : ℕ) → i < length d.senders → (group_at B i).kept ≡ kept_payload (turn.certificate d X i)
kept-is t i h = ap (λ g. g.kept) (t.at i h)

-- ---- rule 6

by6 : By turn.rule6 turn.rule6_for
unfolding turn.rule6
by6 d X = refl

module _ (Y : List Stmt) (C : List ℕ) (s : Situation) where
  abbrev L6 : List Lent
  L6 = own_statements Y ∷ told C ∷ []

  storing : (d : Controller) (X : List Stmt) → SituationOf d X s → ToldOf d X C → (i : ℕ) → i < length d.senders
      → turn.rule6_for d X i ≡ (if bit s.shown.certified i then when (turn.stands d X && not (turn.own d X (stores_at (turn.T d X) i))) (turn.sign (store d.number (turn.T d X) i (group_at C i).kept)) else none)
  unfolding turn.rule6_for
  storing d X k t i h = by-certificate (turn.certificate d X i) (bit s.shown.certified i) (group_at C i).kept _ (k.certificate i h) (kept-is t i h)

  pub sixth-none : s.shown.certified ≡ 0 → Does L6 s turn.rule6 None
  sixth-none e = all_rest L6 s turn.rule6 turn.rule6_for by6 (λ d X k l i h. storing d X k l.1.0 i h ∙ if-false _ _ _ (ap (λ x. bit x i) e ∙ bit-zero i))

  pub sixth-off : s.stands ≡ false → Does L6 s turn.rule6 None
  sixth-off e = all_rest L6 s turn.rule6 turn.rule6_for by6 (λ d X k l i h. storing d X k l.1.0 i h ∙ if_none (bit s.shown.certified i) _ (ap (λ b. when (b && not (turn.own d X (stores_at (turn.T d X) i))) (turn.sign (store d.number (turn.T d X) i (group_at C i).kept))) (k.stands ∙ e)))

  pub sixth : {stored set : ℕ} → s.stands ≡ true → Marks (own_of_at s.number 8 (view_is s.top)) Y stored → Except s.shown.certified stored set
      → IsAt L6 s turn.rule6_for set (λ i. Some (Store i (group_at C i).kept))
  unfolding turn.own action_is statement_of
  sixth {stored} {set} e m x d X B k t l i h =
      storing d X k l.1.0 i h
      ∙ on-notice s d X B (Store i (group_at C i).kept) (bit set i) (bit s.shown.certified i) (turn.stands d X && not (turn.own d X (stores_at (turn.T d X) i))) (ap₂ (λ n v. some (turn.sign (store n v i (group_at C i).kept))) k.number k.top)
      (x.bits i ∙ ap₂ (λ p q. bit s.shown.certified i && (p && not q)) (sym (k.stands ∙ e)) (sym (at-marked k l.0 8 i m h)))

-- ---- rule 7

by7 : By turn.rule7 turn.rule7_for
unfolding turn.rule7
by7 d X = refl

due-seven : (c st dl : Bool) → ((c && st) && not dl) ≡ (c && (true && true && not dl && st))
due-seven true true dl = sym (and-true (not dl))
due-seven true false dl = sym (and-false (not dl))
due-seven false st dl = refl

module _ (C : List ℕ) (s : Situation) where
  abbrev L7 : List Lent
  L7 = told C ∷ []

  -- whether it may deliver notice i, where a and l say whether it is active and whether it has left
  abbrev may_deliver : Bool → Bool → ℕ → Bool
  may_deliver a l i = a && not l && not (bit s.delivered i) && bit s.shown.stored i

  delivering : (d : Controller) (X : List Stmt) → SituationOf d X s → ToldOf d X C → (i : ℕ) → i < length d.senders
      → turn.rule7_for d X i ≡ (if bit s.shown.certified i then when (may_deliver s.active s.left i) (turn.deliver i (group_at C i).kept) else none)
  unfolding turn.rule7_for
  delivering d X k t i h =
      given-same (turn.certificate d X i) _ (λ m. when (may_deliver s.active s.left i) (turn.deliver i m)) (λ m e. rw (k.left, k.stored i m h e, k.active, k.delivered i h))
      ∙ by-certificate (turn.certificate d X i) (bit s.shown.certified i) (group_at C i).kept _ (k.certificate i h) (kept-is t i h)

  pub seventh-idle : s.active ≡ false → Does L7 s turn.rule7 None
  seventh-idle e = all_rest L7 s turn.rule7 turn.rule7_for by7 (λ d X k l i h. delivering d X k l.0 i h ∙ if_none (bit s.shown.certified i) _ (ap (λ b. when (may_deliver b s.left i) (turn.deliver i (group_at C i).kept)) e))

  pub seventh-left : s.active ≡ true → s.left ≡ true → Does L7 s turn.rule7 None
  seventh-left e f = all_rest L7 s turn.rule7 turn.rule7_for by7 (λ d X k l i h. delivering d X k l.0 i h ∙ if_none (bit s.shown.certified i) _ (ap₂ (λ a b. when (may_deliver a b i) (turn.deliver i (group_at C i).kept)) e f))

  pub seventh : {both set : ℕ} → s.active ≡ true → s.left ≡ false → Common s.shown.certified s.shown.stored both → Except both s.delivered set
      → IsAt L7 s turn.rule7_for set (λ i. Some (Deliver i (group_at C i).kept))
  unfolding action_is
  seventh {both} {set} e f b x d X B k t l i h =
      delivering d X k l.0 i h
      ∙ on-notice s d X B (Deliver i (group_at C i).kept) (bit set i) (bit s.shown.certified i) (may_deliver s.active s.left i) refl
      (x.bits i ∙ ap (λ y. y && not (bit s.delivered i)) (b.bits i) ∙ due-seven (bit s.shown.certified i) (bit s.shown.stored i) (bit s.delivered i)
      ∙ ap₂ (λ a l. bit s.shown.certified i && may_deliver a l i) (sym e) (sym f))

-- what the block keeps of a notice

module _ (C : List ℕ) (j : ℕ) (t : Told) (e : told_is t ≡ group_at C j) where
  pub kept-nothing : t.stored ≡ false → 0 ≡ (group_at C j).kept
  kept-nothing f = ap (λ b. kept_payload (when b t.kept)) (sym f) ∙ ap (λ g. g.kept) e

  pub kept_payload_lem : t.stored ≡ true → t.kept ≡ (group_at C j).kept
  kept_payload_lem f = ap (λ b. kept_payload (when b t.kept)) (sym f) ∙ ap (λ g. g.kept) e

-- ---- rule 10

by10 : By turn.rule10 turn.rule10_for
unfolding turn.rule10
by10 d X = refl

module _ (Y : List Stmt) (P : List ℕ) (s : Situation) where
  abbrev L10 : List Lent
  L10 = own_statements Y ∷ sends P ∷ []

  -- whether it may send notice i, where a says whether it stands
  may_send : Controller → List Stmt → Bool → ℕ → Bool
  may_send d X a i = a && not (turn.has_signed d X (leave d.number)) && not (turn.has_signed d X (prepare d.number i (get_or P i 0)))

  sending : (d : Controller) (X : List Stmt) → SituationOf d X s → SendsOf d s.requested P → (i : ℕ) → i < length d.senders
      → turn.rule10_for d X i ≡ (if bit s.requested i then when (may_send d X (turn.stands d X) i) (turn.sign (prepare d.number i (get_or P i 0))) else none)
  unfolding turn.rule10_for may_send
  sending d X k t i h = ap (λ o. given o (λ m. when (turn.stands d X && not (turn.has_signed d X (leave d.number)) && not (turn.has_signed d X (prepare d.number i m))) (turn.sign (prepare d.number i m)))) (t.at i h)
      ∙ by-request (bit s.requested i) (get_or P i 0) _

  pub tenth-none : s.requested ≡ 0 → Does L10 s turn.rule10 None
  tenth-none e = all_rest L10 s turn.rule10 turn.rule10_for by10 (λ d X k l i h. sending d X k l.1.0 i h ∙ if-false _ _ _ (ap (λ x. bit x i) e ∙ bit-zero i))

  pub tenth-off : s.stands ≡ false → Does L10 s turn.rule10 None
  unfolding may_send
  tenth-off e = all_rest L10 s turn.rule10 turn.rule10_for by10 (λ d X k l i h. sending d X k l.1.0 i h ∙ if_none (bit s.requested i) _ (ap (λ b. when (may_send d X b i) (turn.sign (prepare d.number i (get_or P i 0)))) (k.stands ∙ e)))

  -- whether it has signed leave
  leaving-is : (d : Controller) (X : List Stmt) → SituationOf d X s → Owns X Y s.number → turn.has_signed d X (leave d.number) ≡ any (same_stmt (leave s.number)) Y
  unfolding turn.has_signed
  leaving-is d X k y = rw k.number (sym (owns-same y (leave s.number) refl))

  sent_is : (d : Controller) (X : List Stmt) → SituationOf d X s → Owns X Y s.number → (i : ℕ) → turn.has_signed d X (prepare d.number i (get_or P i 0)) ≡ any (sent_by s.number P i) Y
  unfolding turn.has_signed sent_by
  sent_is d X k y i = rw k.number (sym (owns-same y (prepare s.number i (get_or P i 0)) refl))

  off-when : {A : Type 0} (a : A) (p q r : Bool) → q ≡ false → when (p && q && r) a ≡ none
  off-when a true q r e = rw e
  off-when a false q r e = refl

  pub tenth-left : not (any (same_stmt (leave s.number)) Y) ≡ false → Does L10 s turn.rule10 None
  unfolding may_send
  tenth-left e = all_rest L10 s turn.rule10 turn.rule10_for by10 (λ d X k l i h. sending d X k l.1.0 i h ∙ if_none (bit s.requested i) _ (off-when (turn.sign (prepare d.number i (get_or P i 0))) (turn.stands d X) (not (turn.has_signed d X (leave d.number))) (not (turn.has_signed d X (prepare d.number i (get_or P i 0)))) (ap not (leaving-is d X k l.0) ∙ e)))

  pub tenth : {sent set : ℕ} → s.stands ≡ true → not (any (same_stmt (leave s.number)) Y) ≡ true → Marks (sent_by s.number P) Y sent → Except s.requested sent set
      → IsAt L10 s turn.rule10_for set (λ i. Some (Prepare i (get_or P i 0)))
  unfolding may_send action_is statement_of
  tenth {sent} {set} e f m x d X B k t l i h =
      sending d X k l.1.0 i h
      ∙ on-notice s d X B (Prepare i (get_or P i 0)) (bit set i) (bit s.requested i) (may_send d X (turn.stands d X) i) (ap (λ n. some (turn.sign (prepare n i (get_or P i 0)))) k.number)
      (x.bits i ∙ ap (λ q. bit s.requested i && not q) (m.bits i (below_64 k h) ∙ sym (sent_is d X k l.0 i))
      ∙ ap₂ (λ p q. bit s.requested i && (p && q && not (turn.has_signed d X (prepare d.number i (get_or P i 0))))) (sym (k.stands ∙ e)) (sym (ap not (leaving-is d X k l.0) ∙ f)))

-- ---- rule 9

module _ (p : ℕ → Bool) where
  every-all : (n : ℕ) → ((i : ℕ) → i < n → p i ≡ true) → every n p ≡ true
  unfolding every
  every-all zero h = refl
  every-all (suc n) h = ap₂ ◌&&◌ (h n (omega arith)) (every-all n (λ i l. h i (omega arith)))

  every-not : (n i : ℕ) → i < n → p i ≡ false → every n p ≡ false
  unfolding every
  every-not zero i l e = absurd (omega arith)
  every-not (suc n) i l e = elim (dec_lt i n) [
    | yes m ↦ ap (λ b. p n && b) (every-not n i m e) ∙ and-false (p n)
    | no m ↦ (let q : n ≡ i = omega arith in ap (λ b. b && every n p) (ap p q ∙ e))
  ]

every-cong : (n : ℕ) (p q : ℕ → Bool) → ((i : ℕ) → i < n → p i ≡ q i) → every n p ≡ every n q
unfolding every
every-cong zero p q h = refl
every-cong (suc n) p q h = ap₂ ◌&&◌ (h n (omega arith)) (every-cong n p q (λ i l. h i (omega arith)))

not-waiting : (d c : Bool) → (d || not c) ≡ not (c && not d)
not-waiting true true = refl
not-waiting true false = refl
not-waiting false true = refl
not-waiting false false = refl

-- no notice of the first n is waited for
module _ (n delivered certified k : ℕ) (Y : List Stmt) {prepared either waiting : ℕ} (m : Marks (own_of k 6) Y prepared) (u : Union certified prepared either) (x : Except either delivered waiting) where
  waited : (i : ℕ) → i < min n 64 → (bit delivered i || not (bit certified i || any (own_of k 6 i) Y)) ≡ not (bit waiting i)
  waited i h =
      ap (λ b. bit delivered i || not (bit certified i || b)) (sym (m.bits i (omega arith))) ∙ ap (λ b. bit delivered i || not b) (sym (u.bits i))
      ∙ not-waiting (bit delivered i) (bit either i) ∙ ap not (sym (x.bits i))

  -- b tells whether there is none
  pub leave-may : (r : code.Option ℕ) (b : Bool) → LeastOf waiting n r → code.is_some r ≡ not b → b ≡ may_leave (min n 64) delivered certified k Y
  unfolding may_leave
  leave-may None true l e = sym (every-all _ (min n 64) (λ i j. waited i j ∙ ap not (l.none i j)))
  leave-may None false l e = absurd (false≢true e)
  leave-may (Some r) true l e = absurd (true≢false e)
  leave-may (Some r) false l e = sym (every-not _ (min n 64) r (omega (arith, l.below, l.notice)) (waited r (omega (arith, l.below, l.notice)) ∙ ap not l.has))

module _ (Y : List Stmt) (s : Situation) (d : Controller) (X : List Stmt) (k : SituationOf d X s) (y : Owns X Y s.number) where
  one-waits : (i : ℕ) → i < length d.senders → (d.delivered i || not (turn.is_kept d X i)) ≡ (bit s.delivered i || not (bit s.shown.certified i || any (own_of s.number 6 i) Y))
  unfolding turn.is_kept turn.own own_of
  one-waits i l = ap₂ (λ p q. p || not q) (k.delivered i l) (ap₂ ◌||◌ (k.certificate i l) (ap (λ n. any (own_of n 6 i) X) k.number ∙ sym (owns_of y 6 i)))

  waits : every (length d.senders) (λ i. d.delivered i || not (turn.is_kept d X i)) ≡ may_leave (min s.ring.notices 64) s.delivered s.shown.certified s.number Y
  unfolding may_leave
  waits = every-cong _ _ _ one-waits ∙ ap (λ n. every n (λ i. bit s.delivered i || not (bit s.shown.certified i || any (own_of s.number 6 i) Y))) k.notices

pub ninth : (Y : List Stmt) (s : Situation) → IsAny (own_statements Y ∷ []) s (rule9_at s.minute) (each (s.leaving ∷ not (any (same_stmt (leave s.number)) Y) ∷ may_leave (min s.ring.notices 64) s.delivered s.shown.certified s.number Y ∷ []) Leave)
unfolding turn.rule9 turn.has_signed action_is statement_of
ninth Y s d X B b k h = rw (owns-same h.0 (leave s.number) refl, waits Y s d X k h.0, k.leaving, k.number) (all3 s (candidates d.ring X) B b Leave refl _ _ _)

-- ---- what there is to ack

binding-told : (b : Binding) (p : Option ℕ) → binding_of (tells b p) ≡ b
unfolding binding_of
binding-told unbound p = refl
binding-told (bound m) p = refl
binding-told barred p = refl

given_nothing : (o : Option Stmt) → given {B = ℕ} o (λ s. none) ≡ none
given_nothing none = refl
given_nothing (some s) = refl

module _ (S : List ℕ) (X : List Stmt) (t : View) (C : List ℕ) (j : ℕ) where
  by-binding : (b : Binding) → binding_of (group_at C j) ≡ b → ackable S X t C j ≡ ack_for b (given (find (prepared_by (get_or S j 0) j) X) (λ s. when (member t (get_or S j 0)) (payload_of s)))
  unfolding ackable
  by-binding b e = ap (λ b. ack_for b (given (find (prepared_by (get_or S j 0) j) X) (λ s. when (member t (get_or S j 0)) (payload_of s)))) e

  module _ (g : Told) (e : told_is g ≡ group_at C j) where
    told-as : (b : bindings.Binding) → g.binding ≡ b → binding_of (group_at C j) ≡ binding_is b
    told-as b f = ap binding_of (sym e) ∙ binding-told (binding_is g.binding) (when g.stored g.kept) ∙ ap binding_is f

    pub ack-bound : (m : ℕ) → g.binding ≡ Bound m → Some m ≡ option_of (ackable S X t C j)
    ack-bound m f = ap option_of (sym (by-binding (bound m) (told-as (Bound m) f)))

    pub ack-barred : g.binding ≡ Barred → None ≡ option_of (ackable S X t C j)
    ack-barred f = ap option_of (sym (by-binding barred (told-as Barred f)))

    module _ (f : g.binding ≡ Unbound) (b : Bool) (is : b ≡ member t (get_or S j 0)) where
      as_member : (y : Bool) → b ≡ y → ackable S X t C j ≡ given (find (prepared_by (get_or S j 0) j) X) (λ s. when y (payload_of s))
      as_member y h = by-binding unbound (told-as Unbound f) ∙ ap (λ y. given (find (prepared_by (get_or S j 0) j) X) (λ s. when y (payload_of s))) (sym is ∙ h)

      pub ack-outside : b ≡ false → None ≡ option_of (ackable S X t C j)
      ack-outside h = ap option_of (sym (as_member false h ∙ given_nothing (find (prepared_by (get_or S j 0) j) X)))

      pub ack-first : (r : code.Option ℕ) → b ≡ true → r ≡ option_of (first_prepare (get_or S j 0) j X) → r ≡ option_of (ackable S X t C j)
      unfolding first_prepare
      ack-first r h q = q ∙ ap option_of (sym (as_member true h))

-- ---- the set of notices of which there is something to ack

all-bits : (i : ℕ) → i < 64 → bit 18446744073709551615 i ≡ true
unfolding set_of
all-bits i h = bit-set_of 64 (λ k. true) i h

module _ (S : List ℕ) (X : List Stmt) (t : View) (set n : ℕ) where
  pub outside-none : {outside : ℕ} (r : code.Option ℕ) → Except 18446744073709551615 set outside → LeastOf outside n r → code.is_some r ≡ false → PreparedOutside S X t set n 0
  outside-none None x l g = record { bits = λ i h e. absurd (true≢false (sym (x.bits i ∙ ap₂ (λ a b. a && not b) (all-bits i (omega arith)) e) ∙ l.none i h)) }
  outside-none (Some r) x l g = absurd (true≢false g)

  pub outside-some : {r : ℕ} → Marks (prepared_in t S) X r → PreparedOutside S X t set n r
  outside-some m = record { bits = λ i h e. m.bits i (omega arith) }

any-off : {A : Type 0} (l : List A) → any (λ a. false) l ≡ false
unfolding any
any-off [] = refl
any-off (a ∷ l) = any-off l

any_found : {A B : Type 0} (p : A → Bool) (f : A → B) (l : List A) → any p l ≡ is_some (given (find p l) (λ a. some (f a)))
unfolding any find
any_found p f [] = refl
any_found {A} {B} p f (a ∷ l) = go (p a) (any_found p f l)
  where
    go : (b : Bool) → any p l ≡ is_some (given (find p l) (λ a. some (f a))) → (b || any p l) ≡ is_some (given (if b then some a else find p l) (λ a. some (f a)))
    go true e = refl
    go false e = e

first_member : (X : List Stmt) (k i : ℕ) (b : Bool) → any (λ s. b && prepared_by k i s) X ≡ is_some (given (find (prepared_by k i) X) (λ s. when b (payload_of s)))
first_member X k i true = any_found (prepared_by k i) payload_of X
first_member X k i false = any-off X ∙ ap is_some (sym (given_nothing (find (prepared_by k i) X)))

-- by what is told: x that it is bound, y that it is barred; a that it is acked, p that it is prepared
ack-cases : (x y a p : Bool) (m : ℕ) (o : Option ℕ) → ((x || (y || a)) ≡ false → p ≡ is_some o) → ((x || p) && not (y || a)) ≡ (not a && is_some (ack_for (bound_or_barred x y m) o))
ack-cases x true a p m o h = and-false (x || p) ∙ sym (and-false (not a))
ack-cases true false a p m o h = sym (and-true (not a))
ack-cases false false true p m o h = and-false p
ack-cases false false false p m o h = and-true p ∙ h refl

module _ (S : List ℕ) (X : List Stmt) (t : View) (C : List ℕ) (acked n : ℕ) where
  pub acks-due : {b y out both prepared ready r : ℕ} → b ≡ block_word C 0 → y ≡ block_word C 1 → Union y acked out → Union b out both → PreparedOutside S X t both n prepared → Union b prepared ready → Except ready out r
      → AcksDue S X t C acked n r
  unfolding ackable prepared_in group_at binding_at
  acks-due {b} {y} {out} {both} {prepared} eb ey o u p q x = record {
    bits = λ i h.
        x.bits i ∙ ap₂ (λ a c. a && not c) (q.bits i) (o.bits i)
        ∙ ack-cases (bit b i) (bit y i) (bit acked i) (bit prepared i) (block_word C (3 + 2 * i)) (given (find (prepared_by (get_or S i 0) i) X) (λ s. when (member t (get_or S i 0)) (payload_of s)))
        (λ e. p.bits i h (u.bits i ∙ ap (λ c. bit b i || c) (o.bits i) ∙ e) ∙ first_member X (get_or S i 0) i (member t (get_or S i 0)))
        ∙ ap (λ g. not (bit acked i) && is_some (ack_for g (given (find (prepared_by (get_or S i 0) i) X) (λ s. when (member t (get_or S i 0)) (payload_of s)))))
        (ap₂ (λ v w. bound_or_barred (bit v i) (bit w i) (block_word C (3 + 2 * i))) eb ey ∙ sym (binding-told (binding_at C i) (when (bit (block_word C 2) i) (block_word C (4 + 2 * i)))));
  }

-- ---- rule 5

by5 : By turn.rule5 turn.rule5_for
unfolding turn.rule5
by5 d X = refl

-- what is done of notice i where o is to be acked
abbrev pub ack_of : ℕ → Option ℕ → code.Option Action
ack_of i none = None
ack_of i (some m) = Some (Ack i m)

module _ (X Y : List Stmt) (S C : List ℕ) (s : Situation) where
  abbrev L5 : List Lent
  L5 = statements X ∷ own_statements Y ∷ senders S ∷ told C ∷ []

  abbrev t : View
  t = view_is s.top

  -- the protocol's, by the first prepare
  by_cases : (d : Controller) (i : ℕ) (b : Binding) → turn.to_ack d X i b ≡ ack_for b (given (find (prepares d.senders i) X) (λ x. when (member (turn.T d X) (sender_of d.senders i)) (payload_of x)))
  unfolding turn.to_ack
  by_cases d i unbound = refl
  by_cases d i (bound m) = refl
  by_cases d i barred = refl

  to-ack-is : (d : Controller) → SituationOf d X s → d.senders ≡ senders_of S s.ring.notices → ToldOf d X C → (i : ℕ) → i < length d.senders → turn.to_ack d X i (d.binding i) ≡ ackable S X t C i
  unfolding prepares prepared_by senders_of
  to-ack-is d k e h i l =
      by_cases d i (d.binding i)
      ∙ ap₂ (λ v x. ack_for (d.binding i) (given (find (λ y. prepared_by x i y) X) (λ y. when (member v x) (payload_of y)))) k.top (ap (λ l. get_or l i 0) e ∙ list_of-at (min s.ring.notices 64) (λ i. get_or S i 0) i 0 (omega (arith, k.notices)))
      ∙ sym (by-binding S X t C i (d.binding i) (ap binding_of (h.at i l) ∙ binding-told (d.binding i) (turn.certificate d X i)))

  acking : (d : Controller) → SituationOf d X s → AllLent s d X (own_statements Y ∷ senders S ∷ told C ∷ []) → (i : ℕ) → i < length d.senders
      → turn.rule5_for d X i ≡ given (ackable S X t C i) (λ m. when (turn.stands d X && not (turn.own d X (acks_at (turn.T d X) i))) (turn.bind_and_sign i m (ack d.number (turn.T d X) i m)))
  unfolding turn.rule5_for
  acking d k l i h = ap (λ o. given o (λ m. when (turn.stands d X && not (turn.own d X (acks_at (turn.T d X) i))) (turn.bind_and_sign i m (ack d.number (turn.T d X) i m)))) (to-ack-is d k l.1.0 l.1.1.0 i h)

  -- where the record is lent, it is the one that is asked of
  fixed : (f : For) (set : ℕ) (A : ℕ → code.Option Action)
      → ((d : Controller) (B : List ℕ) → SituationOf d X s → AllLent s d X (own_statements Y ∷ senders S ∷ told C ∷ []) → (i : ℕ) → i < length d.senders → f d X i ≡ doing s d X B (answered (bit set i) (A i)))
      → IsAt L5 s f set A
  fixed f set A g d Z B k b h =
      subst (λ Z. SituationOf d Z s → AllLent s d Z (own_statements Y ∷ senders S ∷ told C ∷ []) → (i : ℕ) → i < length d.senders → f d Z i ≡ doing s d Z B (answered (bit set i) (A i))) h.0 (g d B) k h.1

  pub fifth-off : s.stands ≡ false → Does L5 s turn.rule5 None
  fifth-off e = all_rest L5 s turn.rule5 turn.rule5_for by5 (λ d Z k h. subst (λ Z. SituationOf d Z s → AllLent s d Z (own_statements Y ∷ senders S ∷ told C ∷ []) → (i : ℕ) → i < length d.senders → turn.rule5_for d Z i ≡ none) h.0
      (λ k l i h. acking d k l i h ∙ given-none (ackable S X t C i) _ (λ m. ap (λ b. when (b && not (turn.own d X (acks_at (turn.T d X) i))) (turn.bind_and_sign i m (ack d.number (turn.T d X) i m))) (k.stands ∙ e))) k h.1)

  ack-given : (d : Controller) (B : List ℕ) (i : ℕ) (x : ℕ → turn.Action) → ((m : ℕ) → some (x m) ≡ doing s d X B (Some (Ack i m))) → (o : Option ℕ) (on q p : Bool) → on ≡ (q && is_some o) → p ≡ q
      → given o (λ m. when p (x m)) ≡ doing s d X B (answered on (ack_of i o))
  ack-given d B i x is none on q p e f = rw (e, and-false q)
  ack-given d B i x is (some m) on true p e f = rw (e, f) (is m)
  ack-given d B i x is (some m) on false p e f = rw (e, f)

  module _ {acked due : ℕ} (m : Marks (own_of_at s.number 7 t) Y acked) (a : AcksDue S X t C acked s.ring.notices due) where
    pub fifth : s.stands ≡ true → IsAt L5 s turn.rule5_for due (λ i. ack_of i (ackable S X t C i))
    unfolding turn.own action_is statement_of
    fifth e = fixed turn.rule5_for due (λ i. ack_of i (ackable S X t C i)) (λ d B k l i h.
        acking d k l i h
        ∙ ack-given d B i (λ m. turn.bind_and_sign i m (ack d.number (turn.T d X) i m)) (λ m. ap₂ (λ n v. some (turn.bind_and_sign i m (ack n v i m))) k.number k.top) (ackable S X t C i) (bit due i) (not (bit acked i)) _
        (a.bits i (omega (arith, k.notices))) (ap₂ (λ p q. p && not q) (k.stands ∙ e) (at-marked k l.0 7 i m h)))

    module _ {r : ℕ} (l : Least due s.ring.notices r) where
      pub fifth-acks : s.stands ≡ true → (p : ℕ) → Some p ≡ option_of (ackable S X t C r) → Does L5 s turn.rule5 (Some (Ack r p))
      fifth-acks e p q = least-acts L5 s turn.rule5 turn.rule5_for by5 due (λ i. ack_of i (ackable S X t C i)) (fifth e) l (Ack r p) (ap (ack_of r) (sym (option-some (ackable S X t C r) p q)))

      -- there is something to ack of a notice in the set
      pub fifth-never : None ≡ option_of (ackable S X t C r) → ⊥
      fifth-never q =
          false≢true (sym (and-false (not (bit acked r))) ∙ ap (λ o. not (bit acked r) && is_some o) (sym (option-none (ackable S X t C r) q)) ∙ sym (a.bits r (omega (arith, l.below, l.notice))) ∙ l.has)

    pub fifth-rests : s.stands ≡ true → Misses due s.ring.notices → Does L5 s turn.rule5 None
    fifth-rests e l = least-rests L5 s turn.rule5 turn.rule5_for by5 due (λ i. ack_of i (ackable S X t C i)) (fifth e) l

-- ---- rules 6, 7 and 10 by the least

module _ (Y : List Stmt) (C : List ℕ) (s : Situation) {stored set : ℕ} (e : s.stands ≡ true) (m : Marks (own_of_at s.number 8 (view_is s.top)) Y stored) (x : Except s.shown.certified stored set) where
  pub sixth-rests : Misses set s.ring.notices → Does (L6 Y C s) s turn.rule6 None
  sixth-rests l = least-rests (L6 Y C s) s turn.rule6 turn.rule6_for by6 set (λ i. Some (Store i (group_at C i).kept)) (sixth Y C s e m x) l

  pub sixth-stores : {r : ℕ} → Least set s.ring.notices r → (p : ℕ) → p ≡ (group_at C r).kept → Does (L6 Y C s) s turn.rule6 (Some (Store r p))
  sixth-stores {r} l p q = least-acts (L6 Y C s) s turn.rule6 turn.rule6_for by6 set (λ i. Some (Store i (group_at C i).kept)) (sixth Y C s e m x) l (Store r p) (ap (λ x. Some (Store r x)) q)

module _ (C : List ℕ) (s : Situation) {both set : ℕ} (e : s.active ≡ true) (f : s.left ≡ false) (b : Common s.shown.certified s.shown.stored both) (x : Except both s.delivered set) where
  pub seventh-rests : Misses set s.ring.notices → Does (L7 C s) s turn.rule7 None
  seventh-rests l = least-rests (L7 C s) s turn.rule7 turn.rule7_for by7 set (λ i. Some (Deliver i (group_at C i).kept)) (seventh C s e f b x) l

  pub seventh-delivers : {r : ℕ} → Least set s.ring.notices r → (p : ℕ) → p ≡ (group_at C r).kept → Does (L7 C s) s turn.rule7 (Some (Deliver r p))
  seventh-delivers {r} l p q = least-acts (L7 C s) s turn.rule7 turn.rule7_for by7 set (λ i. Some (Deliver i (group_at C i).kept)) (seventh C s e f b x) l (Deliver r p) (ap (λ x. Some (Deliver r x)) q)

module _ (Y : List Stmt) (P : List ℕ) (s : Situation) {sent set : ℕ} (e : s.stands ≡ true) (f : not (any (same_stmt (leave s.number)) Y) ≡ true) (m : Marks (sent_by s.number P) Y sent)
    (x : Except s.requested sent set) where
  pub tenth-rests : Misses set s.ring.notices → Does (L10 Y P s) s turn.rule10 None
  tenth-rests l = least-rests (L10 Y P s) s turn.rule10 turn.rule10_for by10 set (λ i. Some (Prepare i (get_or P i 0))) (tenth Y P s e f m x) l

  pub tenth-prepares : {r : ℕ} → Least set s.ring.notices r → Does (L10 Y P s) s turn.rule10 (Some (Prepare r (get_or P r 0)))
  tenth-prepares {r} l = least-acts (L10 Y P s) s turn.rule10 turn.rule10_for by10 set (λ i. Some (Prepare i (get_or P i 0))) (tenth Y P s e f m x) l (Prepare r (get_or P r 0)) refl

-- A sender that follows the rules prepares one payload of a notice, so no rule-follower is ever barred from it.
-- Assumes nothing.
use Rattle.std.specs.Prelude.{if◌then◌else◌}
use mathlib.Core.Path.{◌≡◌, refl, sym, ap, subst, ◌∙◌}
use mathlib.Core.Logic.{◌≢◌, inl, inr}
use mathlib.Core.Bool.{Bool, true, false}
use mathlib.Core.List.Memᴰ
use mathlib.Core.List.{List, [], ◌∷◌}
use mathlib.Core.Option.{some}
use Prim.Native.Nat.{ℕ, zero, suc, ◌+◌, ◌≤◌}
use native.Mathlib.Decide.{dec_lt, le_ind}
use native.Mathlib.Omega.{arith}
use lib.Dec.{T, eqb}
use lib.ListN.{length, get_or-eq_default}
use Rattle.protocol.specs.Lists.{◌∈◌, ◌⊆◌}
use Rattle.protocol.specs.View.{Ring}
use Rattle.protocol.specs.Statement.{Group, Stmt, no_group, group_of, Binding, unbound, bound, barred, binding_of}
use Rattle.protocol.specs.Evidence.{sender_of, Prepared, CountedFor, Counted}
use Rattle.protocol.specs.Call.{started}
use Rattle.protocol.specs.Turn.{merge, merge_all, told, counted_reports}
use Rattle.protocol.specs.Run.{Run, returned, controller_of, record_of, statements, IsRun}
use Rattle.protocol.specs.Promises.{NeverBarred}
use Rattle.protocol.proofs.Says.{says-eqb}
use Rattle.protocol.proofs.Found.{some-injective, none≢some}
use Rattle.protocol.proofs.Monotone.{prepared-mono}
use Rattle.protocol.proofs.Rules.{unbound-told, counted-out}
use Rattle.protocol.proofs.Explained.{for-report, for-prepare, binding-after}
use Rattle.protocol.proofs.Moves.{rests, adds, signs, enters, delivers}
use Rattle.protocol.proofs.Steps.{Start, starts, begun, Next, waits, acts, fixed, next, appended, own_turn}
use Rattle.protocol.proofs.FieldRules.{says-fields, report-length}
use Rattle.protocol.proofs.Numbered.{list_of-length, put_is}
use Rattle.protocol.proofs.Model.{signing, known}

-- the reports in a rule-follower's record tell of every notice
module _ {run : Run} (is : IsRun run) {s : Stmt} (report : s.kind ≡ 5) where
  tells-of-all : (k : ℕ) → T (run.follows k) → (n : ℕ) → s ∈ record_of run k n → length s.groups ≡ length run.setting.senders
  unfolding returned told
  tells-of-all k ok zero m = go (begun is k (is.numbered k ok))
    where
      go : Start k run.setting → length s.groups ≡ length run.setting.senders
      go (starts t _ e) = absurd (Memᴰ.not-nil (subst (λ o. s ∈ o.statements) e m))
  tells-of-all k ok (suc n) m = go (tells-of-all k ok n) (next is k ok n)
    where
      same : length (controller_of run k n).senders ≡ length run.setting.senders
      same = ap length (fixed is k ok n).senders

      go : (s ∈ record_of run k n → length s.groups ≡ length run.setting.senders) → Next is k n → length s.groups ≡ length run.setting.senders
      go before (waits e _) = before (subst (λ o. s ∈ o.statements) e m)
      go before (acts _ _ (rests _ _ _ f _)) = before (subst (λ l. s ∈ l) f m)
      go before (acts _ _ (adds x _ _ _ f (_, _, r))) = appended is f before (λ i. report-length ((says-fields (controller_of run k n).ring _ s).sound (rw i r)) report ∙ same) m
      go before (acts _ _ (signs x _ _ _ _ f _ _ w)) = appended is f before (λ i. ap (λ s. length s.groups) i ∙ ap length (for-report w (ap (λ s. s.kind) (sym i) ∙ report)).groups ∙ list_of-length _ _ ∙ same) m
      go before (acts _ _ (enters _ _ _ _ _ f _)) = before (subst (λ l. s ∈ l) f m)
      go before (acts _ _ (delivers _ _ _ _ _ f _ _ _)) = before (subst (λ l. s ∈ l) f m)

module _ {run : Run} (is : IsRun run) (notice : ℕ) (honest : T (run.follows (sender_of run.setting.senders notice))) where
  open run use {follows, setting, events}
  open setting use {senders}

  abbrev sender : ℕ
  sender = sender_of senders notice

  -- ---- the sender prepares one payload

  abbrev Asked : ℕ → ℕ → Type 0
  Asked n m = (controller_of run sender n).send_requested notice ≡ some m

  -- what it is asked to send stays
  send-lasts : {i m : ℕ} → Asked i m → (n : ℕ) → i ≤ n → Asked n m
  send-lasts {m = m} p n l = le_ind (λ n. Asked n m) p (λ n _ q. one n q (next is sender honest n)) n l
    where
      one : (n : ℕ) → Asked n m → Next is sender n → Asked (suc n) m
      one n q (waits e _) = ap (λ o. o.controller.send_requested notice) e ∙ q
      one n q (acts _ _ (rests _ (inl f) h _ _)) = ap (λ g. g notice) (h.send_requested ∙ f) ∙ q
      one n q (acts _ _ (rests _ (inr (j, x, _, f, g)) h _ _)) = elim (put_is j (some x) (controller_of run sender n).send_requested notice) [
        | inl (s, _) ↦ absurd (none≢some (sym g ∙ ap (controller_of run sender n).send_requested (sym s) ∙ q))
        | inr r ↦ ap (λ g. g notice) (h.send_requested ∙ f) ∙ r ∙ q
      ]
      one n q (acts _ _ (adds _ _ _ h _ _)) = ap (λ g. g notice) h.send_requested ∙ q
      one n q (acts _ _ (signs _ _ _ _ h _ _ _ _)) = ap (λ g. g notice) h.send_requested ∙ q
      one n q (acts _ _ (enters _ _ _ _ h _ _)) = ap (λ g. g notice) h.send_requested ∙ q
      one n q (acts _ _ (delivers _ _ _ _ h _ _ _ _)) = ap (λ g. g notice) h.send_requested ∙ q

  abbrev Said : ℕ → Type 0
  Said m = Prepared senders (statements run) notice m

  asked : {m : ℕ} → Said m → (n : ℕ) × Asked n m
  unfolding statements
  asked (s, i, p) =
      let (n, _, t) = own_turn is honest p.origin (length events) i in
      (n, ap (controller_of run sender n).send_requested (sym p.notice) ∙ (for-prepare (signing is sender n honest t).why p.kind).asked ∙ ap some p.payload)

  one-payload : {m n : ℕ} → Said m → Said n → m ≡ n
  one-payload p q =
      let (i, e) = asked p in
      let (j, f) = asked q in
      some-injective (sym (send-lasts e (i + j) (omega arith)) ∙ send-lasts f (i + j) (omega arith))

  -- ---- bindings to what the sender prepared

  abbrev Fair : Binding → Type 0
  Fair unbound = Unit {0}
  Fair (bound m) = Said m
  Fair barred = ⊥

  merge-fair : (a b : Binding) → Fair a → Fair b → Fair (merge a b)
  unfolding merge
  merge-fair unbound b p q = q
  merge-fair (bound m) unbound p q = p
  merge-fair (bound m) (bound n) p q = go (eqb m n) (says-eqb.complete (one-payload p q))
    where
      go : (t : Bool) → T t → Fair (if t then bound m else barred)
      go true t = p
      go false t = elim t [ ]
  merge-fair (bound m) barred p q = elim q [ ]
  merge-fair barred b p q = elim p [ ]

  merge-all-fair : (b : Binding) (X : List Stmt) → Fair b → ((s : Stmt) → s ∈ X → Fair (binding_of (group_of s notice))) → Fair (merge_all notice b X)
  unfolding merge_all
  merge-all-fair b [] p f = p
  merge-all-fair b (s ∷ X) p f =
      merge-fair (binding_of (group_of s notice)) (merge_all notice b X) (f s (Memᴰ.head refl)) (merge-all-fair b X p (λ x i. f x (Memᴰ.tail i)))

  -- a report that counts tells no other
  told-fair : {R : Ring} {X : List Stmt} (g : Group) → X ⊆ statements run → CountedFor R senders X notice g → Fair (binding_of g)
  unfolding binding_of
  told-fair {X = X} g more d = go (eqb g.binding 1) (eqb g.binding 2) (λ t. d.bound (says-eqb.sound t)) (λ t. d.barred (says-eqb.sound t))
    where
      ours : {m : ℕ} → Prepared senders X notice m → Said m
      ours = prepared-mono more

      go : (a b : Bool) → (T a → Prepared senders X notice g.payload) → (T b → (m m' : ℕ) × (m ≢ m') × Prepared senders X notice m × Prepared senders X notice m')
          → Fair (if a then bound g.payload else if b then barred else unbound)
      go true b f h = ours (f tt)
      go false true f h = let (_, _, d, p, q) = h tt in d (one-payload (ours p) (ours q))
      go false false f h = tt

  -- and of a number beyond the notices of the setup it tells nothing
  counted-fair : {R : Ring} {X : List Stmt} (s : Stmt) → X ⊆ statements run → Counted R senders X s → length s.groups ≡ length senders → Fair (binding_of (group_of s notice))
  counted-fair s more d e = elim (dec_lt notice (length senders)) [
    | yes l ↦ told-fair (group_of s notice) more (d.notices notice l)
    | no l ↦ subst (λ g. Fair (binding_of g)) (sym (get_or-eq_default s.groups no_group (omega arith))) (subst Fair (sym unbound-told) tt)
  ]

  -- ---- a rule-follower, event by event

  fair : (k : ℕ) → T (follows k) → (n : ℕ) → Fair ((controller_of run k n).binding notice)
  unfolding returned started
  fair k ok zero = go (begun is k (is.numbered k ok))
    where
      go : Start k setting → Fair ((controller_of run k zero).binding notice)
      go (starts t _ e) = subst (λ o. Fair (o.controller.binding notice)) (sym e) tt
  fair k ok (suc n) = go (fair k ok n) (next is k ok n)
    where
      on : {b : ℕ → Binding} → (controller_of run k (suc n)).binding ≡ b → Fair (b notice) → Fair ((controller_of run k (suc n)).binding notice)
      on e p = subst (λ b. Fair (b notice)) (sym e) p

      go : Fair ((controller_of run k n).binding notice) → Next is k n → Fair ((controller_of run k (suc n)).binding notice)
      go p (waits e _) = on (ap (λ o. o.controller.binding) e) p
      go p (acts _ _ (rests _ _ h _ _)) = on h.binding p
      go p (acts _ _ (adds _ _ _ h _ _)) = on h.binding p
      go p (acts _ _ (signs _ _ _ _ h _ _ _ w)) = on h.binding (elim (binding-after notice w) [
        | inl f ↦ subst Fair (sym f) p
        | inr (_, (m, f, q)) ↦ subst Fair (sym f) (prepared-mono (known is k ok n) (subst (λ z. Prepared z (record_of run k n) notice m) (fixed is k ok n).senders q))
      ])
      go p (acts _ _ (enters _ _ _ _ h _ w)) =
          on h.binding (subst Fair (sym (w.merged notice)) (merge-all-fair ((controller_of run k n).binding notice) (counted_reports (controller_of run k n) (record_of run k n)) p
          (λ s i.
          let (j, d, r) = counted-out (controller_of run k n) (record_of run k n) i in
          counted-fair s (known is k ok n) (subst (λ z. Counted (controller_of run k n).ring z (record_of run k n) s) (fixed is k ok n).senders d) (tells-of-all is r k ok n j))))
      go p (acts _ _ (delivers _ _ _ _ h _ _ _ _)) = on h.binding p

pub never-barred : {run : Run} → IsRun run → NeverBarred run
unfolding NeverBarred
never-barred is notice n k honest ok e = subst (Fair is notice honest) e (fair is notice honest k ok n)

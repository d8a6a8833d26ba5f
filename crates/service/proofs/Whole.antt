-- The parts of the service screen, from the evidence as it is held, are its text.
-- Assumes nothing.
use Rattle.std.specs.Prelude.{if◌then◌else◌}
use Prim.Native.Nat.{ℕ, ◌≤◌, ◌<◌, min}
use native.Mathlib.Omega.{arith}
use mathlib.Core.Path.{◌≡◌, refl, sym, ap, ap₂, subst, ◌∙◌}
use mathlib.Core.Bool.{Bool, true, false, ◌&&◌}
use mathlib.Core.List.{List, [], ◌∷◌, ◌++◌, append_assoc}
use mathlib.Core.Option.{Option, some, none}
use lib.Dec.{ltb}
use lib.ListN.{length, get_or}
use borrow.Author.Tests.{lt-ltb, ltb-false}
use Rattle.protocol.specs.Sets.{bit}
use Rattle.protocol.specs.Lists.{is_some, list_of}
use Rattle.protocol.specs.View.{View}
use Rattle.protocol.specs.Statement.{Stmt, acks, tells}
use Rattle.protocol.specs.Evidence.{wished, candidates, certificates, is_stored}
use Rattle.protocol.specs.Signers.{set_behind, store_set, ack_set}
use Rattle.protocol.specs.Controller as protocol
use Rattle.protocol.specs.Turn as turn
use Rattle.protocol.proofs.Says.{is_true}
use Rattle.protocol.proofs.Found.{first-in, when-some}
use Rattle.protocol.proofs.Decided.{says-prepared}
use Rattle.protocol.proofs.Asked.{certificates-out}
use Rattle.protocol.proofs.Numbered.{list_of-length}
use Rattle.views.specs.View.{view_of, views_of}
use Rattle.views.specs.Held.{view_is, views_is}
use Rattle.views.proofs.Tables.{views-count}
use Rattle.views.proofs.Views.{passes}
use Rattle.windows.specs.Windows.{window_in, windows_in}
use Rattle.text.specs.Written.{Wrote}
use Rattle.text.proofs.Stores.{both, wrote_as}
use Rattle.pool.specs.Pool.{record_in}
use Rattle.evidence.specs.declared.Evidence.{Evidence}
use Rattle.evidence.specs.declared.Ring as declared
use Rattle.evidence.specs.Evidence.{ring_is, certificate_at, EvidenceOf, Settled, remaining_views}
use Rattle.evidence.specs.Notices.{senders_of, binding_held}
use Rattle.evidence.proofs.Fitting.{some-view, length_most, greatest-narrow, wished-narrow}
use Rattle.rules.specs.declared.Action.{Action}
use Rattle.rules.specs.declared.Situation.{Situation}
use Rattle.std.specs.Prelude as code
use Rattle.rules.specs.Rules.{SituationOf, ToldOf, Owns, own_statements, Does, rule9_at, merged_by}
use Rattle.rules.proofs.Applied.{acts-is}
use Rattle.engine.specs.declared.Controller.{Controller}
use Rattle.engine.specs.Meaning.{controller_is}
use Rattle.engine.specs.Situation.{RingOf, Situated, ToldTo}
use Rattle.engine.proofs.Numbers.{senders-count}
use Rattle.engine.proofs.Situations.{senders-of, of-controller, init-fits, the-certificate, situation}
use Rattle.service.specs.Service.{unset_word, left_word, conflict_word, refused_six_word, refused_seven_word, window_word, next_word, number_line, entered_line, stands_line, wished_line, candidates_line, certificate_text, notice_line, lines_below, or_nothing, without_windows, standing_line, evidence_text, notice_text, awaited, unreported, reports_text, waits_for_window, waits_text, many, agreed_text, conflict_text, service_text, ServiceShows}
use Rattle.service.specs.ServiceParts.{place_line, head_text, certified_text, held_text, held_line, awaited_on, lacks_reports, lines_for, reports_held, waits_held, with_no_windows, EvidenceHeld, conflict_screen}
use Rattle.service.proofs.NoticeLaws.{lines_same}

regroup : (a b c t : List ℕ) → (a ++ (b ++ c)) ++ t ≡ a ++ (b ++ (c ++ t))
regroup a b c t = simp append_assoc

-- ---- without windows a controller is otherwise the same

module _ (d : protocol.Controller) (X : List Stmt) where
  top-open : turn.T (without_windows d) X ≡ turn.T d X
  unfolding turn.T turn.G
  top-open = refl

  stands-open : turn.stands (without_windows d) X ≡ turn.stands d X
  unfolding turn.stands turn.has_entered turn.T turn.G
  stands-open = refl

  entered-open : (v : View) → turn.has_entered (without_windows d) X v ≡ turn.has_entered d X v
  unfolding turn.has_entered
  entered-open v = refl

  certificate-open : (i : ℕ) → turn.certificate (without_windows d) X i ≡ turn.certificate d X i
  unfolding turn.certificate
  certificate-open i = refl

  -- what the situation without windows tells

  module _ (s : Situation) (o : SituationOf (without_windows d) X s) where
    top-is : view_is s.top ≡ turn.T d X
    top-is = sym o.top ∙ top-open

    pub place_is : place_line s.left s.stands (view_is s.top) d.entered ≡ standing_line d X
    unfolding place_line standing_line
    place_is =
        ap₂ (λ left stands. if left then left_word else if stands then stands_line (view_is s.top) else entered_line d.entered)
        (sym o.left ∙ ap (λ t. bit t.left d.number) top-open) (sym o.stands ∙ stands-open)
        ∙ ap (λ t. if bit (turn.T d X).left d.number then left_word else if turn.stands d X then stands_line t else entered_line d.entered) top-is

    reports-same : reports_held d.ring d.senders X (turn.T d X) d.number (turn.has_entered d X (turn.T d X)) ≡ reports_text d X
    unfolding reports_held lines_for awaited_on lacks_reports remaining_views reports_text awaited unreported turn.remaining turn.needs_reports turn.T turn.G
    reports-same = refl

    reports-are : reports_held d.ring d.senders X (view_is s.top) s.number s.entered ≡ reports_text d X
    reports-are =
        ap₂ (reports_held d.ring d.senders X (view_is s.top)) (sym o.number) (sym o.entered ∙ entered-open (view_is s.top))
        ∙ ap (λ t. reports_held d.ring d.senders X t d.number (turn.has_entered d X t)) top-is ∙ reports-same

    waits-are : (window : Bool) → window ≡ waits_for_window d X → waits_held (reports_held d.ring d.senders X (view_is s.top) s.number s.entered) window ≡ waits_text d X
    unfolding waits_held waits_text
    waits-are window e = ap₂ (λ l b. or_nothing (l ++ (if b then window_word else []))) reports-are e

-- ---- what a leave waits for

module _ (c : Controller) (X : List Stmt) where
  windows-count : length (controller_is c).windows ≡ min c.windows 8
  unfolding controller_is windows_in
  windows-count = list_of-length (min c.windows 8) (λ i. window_in (get_or c.times i 0))

  pub window-none : c.windows ≡ 0 → false ≡ waits_for_window (controller_is c) X
  unfolding waits_for_window
  window-none e =
      let z : length (controller_is c).windows ≡ 0 = windows-count ∙ omega arith in
      sym (ap (λ n. ltb 0 n && is_some (turn.rule9 (without_windows (controller_is c)) X 0)) z)

  pub window-some : (s : Situation) (B : List ℕ) (Y : List Stmt) (a : code.Option Action) (r : Bool) → (c.windows ≡ 0 → ⊥) → SituationOf (without_windows (controller_is c)) X s → ToldOf (without_windows (controller_is c)) X B → s.minute ≡ 0
      → Owns X Y s.number → Does (own_statements Y ∷ []) s (rule9_at s.minute) a → r ≡ code.is_some a → r ≡ waits_for_window (controller_is c) X
  unfolding waits_for_window
  window-some s B Y a r n o t m y k f =
      let z : ltb 0 (length (controller_is c).windows) ≡ true = lt-ltb 0 (length (controller_is c).windows) (omega (arith, windows-count)) in
      f ∙ sym (acts-is s (candidates (controller_is c).ring X) B (merged_by (without_windows (controller_is c)) X) a) ∙ ap is_some (k.means (without_windows (controller_is c)) X B o t (y, tt) ∙ ap (turn.rule9 (without_windows (controller_is c)) X) m)
      ∙ sym (ap (λ b. b && is_some (turn.rule9 (without_windows (controller_is c)) X 0)) z)

-- ---- the evidence as it is held

module _ (c : Controller) (r : declared.Ring) (X : List Stmt) (C G P : List ℕ) (e : Evidence) (h : EvidenceHeld c r X C G P e) where
  abbrev d : protocol.Controller
  d = controller_is c

  shown : EvidenceOf d.ring d.senders X C G P e
  shown = of-controller h.ring h.of

  count-is : (n : ℕ) → n ≡ min c.notices 64 → n ≡ length d.senders
  unfolding controller_is
  count-is n f = f ∙ sym (senders-count c.senders c.notices)

  -- the text by whether it is set up and whether there is a conflict
  shape : Bool → Bool → List ℕ
  shape ready split =
      if ready then
      number_line d.number ++ ((if split then entered_line d.entered else standing_line d X) ++ (wished_line (wished d.ring X) ++ (if split then conflict_text d X else agreed_text d X)))
      else unset_word

  shaped : (b : Bool) → c.ready ≡ true → e.conflict ≡ b → shape true b ≡ service_text d X
  unfolding shape service_text controller_is
  shaped b f g = ap₂ shape (sym f) (sym g ∙ shown.conflict)

  -- ---- after a conflict

  conflict-line : e.conflict ≡ true → (i : ℕ) → held_line r.init X e P c.held c.delivered i ≡ notice_line i (d.binding i) [] (d.delivered i)
  unfolding held_line held_text controller_is
  conflict-line g i = ap (λ b. notice_line i (binding_held c.held i) (if b then [] else certified_text r.init X e P i (certificate_at e P i)) (bit c.delivered i)) g

  conflict-rest : e.conflict ≡ true → conflict_word ++ (lines_below (min c.notices 64) (held_line r.init X e P c.held c.delivered) ++ refused_seven_word) ≡ conflict_text d X
  unfolding conflict_text
  conflict-rest g =
      ap (λ t. conflict_word ++ (t ++ refused_seven_word))
      (ap (λ n. lines_below n (held_line r.init X e P c.held c.delivered)) (count-is (min c.notices 64) refl)
      ∙ lines_same (held_line r.init X e P c.held c.delivered) (λ i. notice_line i (d.binding i) [] (d.delivered i)) (length d.senders) (λ i l. conflict-line g i))

  pub conflict-is : c.ready ≡ true → e.conflict ≡ true → conflict_screen r.init X e P c ≡ service_text d X
  unfolding conflict_screen head_text place_line shape controller_is
  conflict-is f g =
      regroup (number_line c.number) (entered_line (views_is c.entered)) (wished_line (view_of e.wished)) _
      ∙ ap₂ (λ w t. number_line c.number ++ (entered_line (views_is c.entered) ++ (wished_line w ++ t))) shown.wished (conflict-rest g) ∙ shaped true f g

  -- ---- where there is none

  module _ (agree : e.conflict ≡ false) where
    stored_is : (i m : ℕ) → i < length d.senders → turn.certificate d X i ≡ some m → bit e.stored i ≡ is_stored d.ring X i m
    stored_is i m l f =
        let (b, y) = when-some (bit e.certified i) (sym (the-certificate X C G P c r h.ring e h.of agree i l) ∙ f) in
        shown.stored agree i l (is_true (bit e.certified i) b) ∙ ap (is_stored d.ring X i) y

    -- a certificate is for what was prepared
    acked-is : (i m : ℕ) → i < length d.senders → turn.certificate d X i ≡ some m → set_behind d.ring X (λ t. acks t i m) ≡ ack_set d.ring d.senders X i m
    unfolding ack_set turn.certificate
    acked-is i m l f =
        let k = certificates-out d.ring d.senders X (first-in (certificates d.ring d.senders X i) f) in
        sym (ap₂ (λ a b. if a && b then set_behind d.ring X (λ t. acks t i m) else 0) (lt-ltb i (length d.senders) l) (passes (says-prepared d.senders X i m) k.prepared))

    certified-is : (i : ℕ) → i < length d.senders → (o : Option ℕ) → turn.certificate d X i ≡ o → certified_text r.init X e P i o ≡ evidence_text d X i o
    unfolding certified_text evidence_text
    certified-is i l none f = refl
    certified-is i l (some m) f =
        ap (λ R. certificate_text m (set_behind R X (λ t. acks t i m)) (bit e.stored i) (store_set R X i m) ++ next_word) h.ring.is
        ∙ ap₂ (λ a b. certificate_text m a b (store_set d.ring X i m) ++ next_word) (acked-is i m l f) (stored_is i m l f)

    told_is : (i : ℕ) → i < length d.senders → held_text r.init X e P i ≡ evidence_text d X i (turn.certificate d X i)
    unfolding held_text
    told_is i l =
        ap (λ b. if b then [] else certified_text r.init X e P i (certificate_at e P i)) agree
        ∙ ap (certified_text r.init X e P i) (sym (the-certificate X C G P c r h.ring e h.of agree i l)) ∙ certified-is i l (turn.certificate d X i) refl

    line-is : (i : ℕ) → i < length d.senders → held_line r.init X e P c.held c.delivered i ≡ notice_text d X i
    unfolding held_line controller_is
    line-is i l = ap (λ t. notice_line i (binding_held c.held i) t (bit c.delivered i)) (told_is i l)

    lines_are : (n : ℕ) → n ≡ min c.notices 64 → lines_below n (held_line r.init X e P c.held c.delivered) ≡ lines_below (length d.senders) (notice_text d X)
    lines_are n f =
        ap (λ n. lines_below n (held_line r.init X e P c.held c.delivered)) (count-is n f)
        ∙ lines_same (held_line r.init X e P c.held c.delivered) (notice_text d X) (length d.senders) line-is

    candidates-are : (b : Bool) → e.many ≡ b → candidates_line e.many (views_of C e.count) ≡ candidates_line (many d X) (candidates d.ring X)
    unfolding candidates_line
    candidates-are true g = ap (λ b. candidates_line b (views_of C e.count)) g ∙ sym (ap (λ b. candidates_line b (candidates d.ring X)) (sym (shown.many agree) ∙ g))
    candidates-are false g = ap₂ candidates_line (shown.many agree) (shown.candidates agree g)

    -- no more candidates are to be written than an array holds
    pub few-candidates : e.many ≡ false → e.count ≤ 16
    few-candidates g =
        let l : length (candidates d.ring X) ≤ 16 = ltb-false 16 _ (sym (shown.many agree) ∙ g) in
        omega (arith, views-count C e.count, ap length (shown.candidates agree g))

    -- what `of_controller` asks
    pub looking : (0 < e.length) × (e.length ≤ 16)
    looking = (some-view d.ring d.senders X C G P e shown agree, length_most d.ring d.senders X C G P e shown agree)

    module _ (f : c.ready ≡ true) (s : Situation) (o : SituationOf (without_windows d) X s) (n : ℕ) (n-is : n ≡ min c.notices 64) where
      head-place : place_line s.left s.stands (view_is s.top) (views_is c.entered) ≡ standing_line d X
      unfolding controller_is
      head-place = place_is d X s o

      -- the rest of the screen after the notices
      Rest-is : List ℕ → Type 0
      Rest-is t = t ≡ (if many d X then refused_six_word else waits_text d X)

      whole_is : (t : List ℕ) → Rest-is t
          → head_text c.number s.left s.stands (view_is s.top) (views_is c.entered) (view_of e.wished)
          ++ (candidates_line e.many (views_of C e.count) ++ (lines_below n (held_line r.init X e P c.held c.delivered) ++ t)) ≡ service_text d X
      unfolding head_text agreed_text shape Rest-is controller_is
      whole_is t g =
          regroup (number_line c.number) (place_line s.left s.stands (view_is s.top) (views_is c.entered)) (wished_line (view_of e.wished)) _
          ∙ ap₂ (λ p w. number_line c.number ++ (p ++ (wished_line w ++ (candidates_line e.many (views_of C e.count) ++ (lines_below n (held_line r.init X e P c.held c.delivered) ++ t))))) head-place shown.wished
          ∙ ap₂ (λ k l. number_line c.number ++ (standing_line d X ++ (wished_line (wished d.ring X) ++ (k ++ (l ++ t))))) (candidates-are e.many refl) (lines_are n n-is)
          ∙ ap (λ t. number_line c.number ++ (standing_line d X ++ (wished_line (wished d.ring X) ++ (candidates_line (many d X) (candidates d.ring X) ++ (lines_below (length d.senders) (notice_text d X) ++ t))))) g
          ∙ shaped false f agree

      module _ {out₀ out₁ out₂ out₃ out₄ : List ℕ} {at₁ at₂ at₃ at₄ : ℕ}
          (w₁ : Wrote out₀ 0 (head_text c.number s.left s.stands (view_is s.top) (views_is c.entered) (view_of e.wished)) at₁ out₁)
          (w₂ : Wrote out₁ at₁ (candidates_line e.many (views_of C e.count)) at₂ out₂)
          (w₃ : Wrote out₂ at₂ (lines_below n (held_line r.init X e P c.held c.delivered)) at₃ out₃) where
        pub crowded-wrote : e.many ≡ true → Wrote out₃ at₃ refused_six_word at₄ out₄ → Wrote out₀ 0 (service_text d X) at₄ out₄
        unfolding Rest-is
        crowded-wrote g w = wrote_as (whole_is refused_six_word (sym (ap (λ b. if b then refused_six_word else waits_text d X) (sym (shown.many agree) ∙ g)))) (both w₁ (both w₂ (both w₃ w)))

        pub agreed-wrote : e.many ≡ false → Wrote out₃ at₃ (waits_text d X) at₄ out₄ → Wrote out₀ 0 (service_text d X) at₄ out₄
        unfolding Rest-is
        agreed-wrote g w = wrote_as (whole_is (waits_text d X) (sym (ap (λ b. if b then refused_six_word else waits_text d X) (sym (shown.many agree) ∙ g)))) (both w₁ (both w₂ (both w₃ w)))

-- ---- the situation without windows

module _ (c : Controller) (r : declared.Ring) (q : RingOf c r) where
  open_is : controller_is (with_no_windows c) ≡ without_windows (controller_is c)
  unfolding controller_is windows_in list_of
  open_is = refl

  ring-open : RingOf (with_no_windows c) r
  unfolding controller_is
  ring-open = record { is = q.is; notices = q.notices }

  pub situated : (W R C G P : List ℕ) (e : Evidence) → EvidenceOf (ring_is r) (senders_of c.senders r.notices) (record_in W R) C G P e → e.conflict ≡ false
      → (s : Situation) → Situated (with_no_windows c) r G e 0 s → SituationOf (without_windows (controller_is c)) (record_in W R) s
  situated W R C G P e o agree s l =
      subst (λ d. SituationOf d (record_in W R) s) open_is
      (situation (record_in W R) C G P (with_no_windows c) r ring-open e o agree (greatest-narrow r.init (senders_of c.senders r.notices) W R C G P e (init-fits q) o agree)
      (wished-narrow r.init (senders_of c.senders r.notices) W R C G P e o) 0 s l)

  module _ (X : List Stmt) (C G P : List ℕ) (e : Evidence) (k : Settled (ring_is r) (senders_of c.senders r.notices) X C G P e) where
    pub told_of : (B : List ℕ) (n : ℕ) → n ≡ min c.notices 64 → ToldTo c.held e P n B → ToldOf (without_windows (controller_is c)) X B
    unfolding controller_is
    told_of B n f t = record {
      at = λ i l. t.at i (omega (arith, senders-count c.senders c.notices))
          ∙ ap (tells (binding_held c.held i)) (sym (certificate-open (controller_is c) X i ∙ the-certificate X C G P c r q e k.of k.agree i l));
    }

    pub awaited-is : (s : Situation) → SituationOf (without_windows (controller_is c)) X s → (window : Bool) → window ≡ waits_for_window (controller_is c) X
        → waits_held (reports_held (ring_is r) (senders_of c.senders r.notices) X (view_is s.top) s.number s.entered) window ≡ waits_text (controller_is c) X
    awaited-is s o window f =
        ap₂ (λ R S. waits_held (reports_held R S X (view_is s.top) s.number s.entered) window) q.is (senders-of q) ∙ waits-are (controller_is c) X s o window f

-- ---- what is promised

module _ (d : protocol.Controller) (X : List Stmt) (out : List ℕ) where
  pub shows_nothing : length out < 32768 → ServiceShows d X out 0 out
  shows_nothing h = record { count = λ g. absurd (omega arith); fits = λ g. absurd (omega arith); is = λ g. absurd (omega arith); short = λ g. (refl, refl) }

  pub shows : {n : ℕ} {after : List ℕ} → 32768 ≤ length out → Wrote out 0 (service_text d X) n after → n ≤ 32768 → ServiceShows d X out n after
  shows h w m = record { count = λ g. w.next ∙ omega arith; fits = λ g. omega (arith, w.next); is = λ g. w.is; short = λ g. absurd (omega arith) }

pub unset-is : (c : Controller) (X : List Stmt) → c.ready ≡ false → unset_word ≡ service_text (controller_is c) X
unfolding service_text controller_is
unset-is c X f = rw f

-- What the functions that write the service screen promise each other: parts of its lines, from the evidence as it is held.
-- Assumes nothing.
use Rattle.std.specs.Prelude.{ℕ, min, Bool, true, false, not, Option, Some, None, ◌&&◌, List, [], ◌∷◌, ◌++◌, if◌then◌else◌}
use Rattle.std.proofs.Math.Option as known
use Rattle.std.proofs.Math.Option.{some, none}
use Rattle.protocol.specs.Sets.{bit, set_of}
use Rattle.protocol.specs.Lists.{filter}
use Rattle.protocol.specs.View.{View, Ring, member}
use Rattle.protocol.specs.Statement.{Stmt, Binding, acks}
use Rattle.protocol.specs.Evidence.{signs, signed_by_quorum, is_counted_on}
use Rattle.protocol.specs.Signers.{set_behind, store_set}
use Rattle.views.specs.View.{view_of, ring_of_word}
use Rattle.views.specs.Held.{view_is, views_is}
use Rattle.text.specs.Text.{dec_text}
use Rattle.evidence.specs.declared.Evidence.{Evidence}
use Rattle.evidence.specs.declared.Notice.{Notice}
use Rattle.evidence.specs.declared.Ring as held
use Rattle.evidence.specs.Evidence.{ring_is, certificate_at, EvidenceOf, remaining_views}
use Rattle.evidence.specs.Notices.{senders_of, binding_held}
use Rattle.engine.specs.declared.Controller.{Controller}
use Rattle.engine.specs.Situation.{RingOf}
use Rattle.service.specs.Service.{left_word, conflict_word, notice_word, next_word, uncertified_word, certificate_word, acked_word, refused_seven_word, window_word, set_text, stored_text, number_line, entered_line, stands_line, wished_line, binding_text, certificate_text, delivered_text, notice_line, lines_below, reports_lines, or_nothing}

-- ---- the head

-- Where a controller is that entered the views l: whether it left, or stands in t.
unfoldable pub place_line : Bool → Bool → View → List View → List ℕ
place_line left stands t l = if left then left_word else if stands then stands_line t else entered_line l

-- The first three lines, of controller k with the wished view w.
unfoldable pub head_text : ℕ → Bool → Bool → View → List View → View → List ℕ
head_text k left stands t l w = number_line k ++ (place_line left stands t l ++ wished_line w)

-- ---- of a notice

-- The line of notice i up to the evidence, and from it on.

unfoldable pub start_text : ℕ → Binding → List ℕ
start_text i b = notice_word ++ (dec_text i ++ ((58 ∷ 32 ∷ []) ++ (binding_text b ++ next_word)))

unfoldable pub end_text : Bool → List ℕ
end_text is = delivered_text is ++ (10 ∷ [])

-- The certificate for m by the set of those who acked it.
unfoldable pub acked_text : ℕ → ℕ → List ℕ
acked_text m acked = certificate_word ++ (dec_text m ++ (acked_word ++ set_text acked))

-- By the set of those who stored it, if it is stored.
abbrev pub stored_by : Option ℕ → List ℕ
stored_by (Some a) = stored_text true a
stored_by None = stored_text false 0

-- The same after the certificate for m and the set of those who acked it.
abbrev pub certificate_by : ℕ → ℕ → Option ℕ → List ℕ
certificate_by m acked (Some a) = certificate_text m acked true a
certificate_by m acked None = certificate_text m acked false 0

-- In the ring of the initial view init, with the record X, its evidence e and the payloads P of its certificates.
module _ (init : ℕ) (X : List Stmt) (e : Evidence) (P : List ℕ) where
  -- What is told of notice i by its certificate.
  unfoldable pub certified_text : ℕ → known.Option ℕ → List ℕ
  certified_text i none = uncertified_word ++ next_word
  certified_text i (some m) = certificate_text m (set_behind (ring_of_word init) X (λ t. acks t i m)) (bit e.stored i) (store_set (ring_of_word init) X i m) ++ next_word

  -- What is told of notice i: nothing after a conflict.
  unfoldable pub held_text : ℕ → List ℕ
  held_text i = if e.conflict then [] else certified_text i (certificate_at e P i)

  -- The line of notice i, with the bindings in H and the set of the delivered.
  unfoldable pub held_line : List Notice → ℕ → ℕ → List ℕ
  held_line H delivered i = notice_line i (binding_held H i) (held_text i) (bit delivered i)

-- ---- what it waits for

-- In the ring R with these senders and the record X.
module _ (R : Ring) (senders : List ℕ) (X : List Stmt) where
  -- The members of u of whom there is no counted report on it.
  unfoldable pub awaited_on : View → ℕ
  awaited_on u = set_of R.width (λ k. member u k && not (signs (is_counted_on R senders X u) X k))

  -- There is no quorum of counted reports on u.
  unfoldable pub lacks_reports : View → Bool
  lacks_reports u = not (signed_by_quorum R.width X u (is_counted_on R senders X u))

  -- The lines of those of the views l that lack reports.
  unfoldable pub lines_for : View → List View → List ℕ
  lines_for t l = reports_lines t awaited_on (filter lacks_reports l)

  -- The lines of controller k at the top t, whether it entered that or not.
  unfoldable pub reports_held : View → ℕ → Bool → List ℕ
  reports_held t k entered = if member t k && not entered then lines_for t (remaining_views R senders X) else []

-- The lines of the reports, and whether a window is awaited.
unfoldable pub waits_held : List ℕ → Bool → List ℕ
waits_held reports window = or_nothing (reports ++ (if window then window_word else []))

-- ---- the whole

-- A controller with no windows.
abbrev pub with_no_windows : Controller → Controller
with_no_windows c = record {
  ready = c.ready;
  number = c.number;
  init = c.init;
  notices = c.notices;
  senders = c.senders;
  entered = c.entered;
  held = c.held;
  sends = c.sends;
  delivered = c.delivered;
  requested = c.requested;
  joining = c.joining;
  leaving = c.leaving;
  windows = 0;
  times = c.times;
}

-- The evidence is that of the controller c with the record X, in its ring.
pub record EvidenceHeld (c : Controller) (r : held.Ring) (X : List Stmt) (C G P : List ℕ) (e : Evidence) : Type 0 where
  pub ring : RingOf c r
  pub of : EvidenceOf (ring_is r) (senders_of c.senders r.notices) X C G P e

-- The screen after a conflict.
unfoldable pub conflict_screen : ℕ → List Stmt → Evidence → List ℕ → Controller → List ℕ
conflict_screen init X e P c =
    head_text c.number false false (view_is c.init) (views_is c.entered) (view_of e.wished)
    ++ (conflict_word ++ (lines_below (min c.notices 64) (held_line init X e P c.held c.delivered) ++ refused_seven_word))

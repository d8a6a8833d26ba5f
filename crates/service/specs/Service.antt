-- The service screen of a controller (docs/SCREEN.md), as text: the list of its bytes' numbers.
-- Assumes nothing.
use Rattle.std.specs.Prelude.{◌≡◌, Bool, not, ◌&&◌, List, [], ◌∷◌, ◌++◌, ℕ, zero, suc, ◌≤◌, ◌<◌, ltb, length, if◌then◌else◌}
use Rattle.std.proofs.Math.Option.{Option, some, none}
use Rattle.std.proofs.lemmas.List.Edits.{sets}
use Rattle.protocol.specs.Sets.{bit, set_of}
use Rattle.protocol.specs.Lists.{filter, is_some}
use Rattle.protocol.specs.View.{View, member, controllers}
use Rattle.protocol.specs.History.{last}
use Rattle.protocol.specs.Statement.{Stmt, Binding, unbound, bound, barred}
use Rattle.protocol.specs.Evidence.{signs, wished, candidates, signed_by_quorum, is_counted_on, is_conflict, is_stored}
use Rattle.protocol.specs.Signers.{ack_set, store_set}
use Rattle.protocol.specs.Controller.{Controller}
use Rattle.protocol.specs.Turn.{T, has_entered, stands, certificate, remaining, rule9}
use Rattle.text.specs.Text.{dec_text, hex_text}
use Rattle.statements.specs.Text.{view_text}

-- ---- the words, in ASCII

-- "not set up\n"
abbrev pub unset_word : List ℕ
unset_word = 110 ∷ 111 ∷ 116 ∷ 32 ∷ 115 ∷ 101 ∷ 116 ∷ 32 ∷ 117 ∷ 112 ∷ 10 ∷ []

-- "controller "
abbrev pub controller_word : List ℕ
controller_word = 99 ∷ 111 ∷ 110 ∷ 116 ∷ 114 ∷ 111 ∷ 108 ∷ 108 ∷ 101 ∷ 114 ∷ 32 ∷ []

-- "left\n"
abbrev pub left_word : List ℕ
left_word = 108 ∷ 101 ∷ 102 ∷ 116 ∷ 10 ∷ []

-- "stands in "
abbrev pub stands_word : List ℕ
stands_word = 115 ∷ 116 ∷ 97 ∷ 110 ∷ 100 ∷ 115 ∷ 32 ∷ 105 ∷ 110 ∷ 32 ∷ []

-- "entered "
abbrev pub entered_word : List ℕ
entered_word = 101 ∷ 110 ∷ 116 ∷ 101 ∷ 114 ∷ 101 ∷ 100 ∷ 32 ∷ []

-- "entered nothing\n"
abbrev pub outside_word : List ℕ
outside_word = 101 ∷ 110 ∷ 116 ∷ 101 ∷ 114 ∷ 101 ∷ 100 ∷ 32 ∷ 110 ∷ 111 ∷ 116 ∷ 104 ∷ 105 ∷ 110 ∷ 103 ∷ 10 ∷ []

-- "wished "
abbrev pub wished_word : List ℕ
wished_word = 119 ∷ 105 ∷ 115 ∷ 104 ∷ 101 ∷ 100 ∷ 32 ∷ []

-- "candidates"
abbrev pub candidates_word : List ℕ
candidates_word = 99 ∷ 97 ∷ 110 ∷ 100 ∷ 105 ∷ 100 ∷ 97 ∷ 116 ∷ 101 ∷ 115 ∷ []

-- "candidates: more than 16\n"
abbrev pub many_word : List ℕ
many_word = 99 ∷ 97 ∷ 110 ∷ 100 ∷ 105 ∷ 100 ∷ 97 ∷ 116 ∷ 101 ∷ 115 ∷ 58 ∷ 32 ∷ 109 ∷ 111 ∷ 114 ∷ 101 ∷ 32 ∷ 116 ∷ 104 ∷ 97 ∷ 110 ∷ 32 ∷ 49 ∷ 54 ∷ 10 ∷ []

-- "conflict\n"
abbrev pub conflict_word : List ℕ
conflict_word = 99 ∷ 111 ∷ 110 ∷ 102 ∷ 108 ∷ 105 ∷ 99 ∷ 116 ∷ 10 ∷ []

-- "notice "
abbrev pub notice_word : List ℕ
notice_word = 110 ∷ 111 ∷ 116 ∷ 105 ∷ 99 ∷ 101 ∷ 32 ∷ []

-- "unbound"
abbrev pub unbound_word : List ℕ
unbound_word = 117 ∷ 110 ∷ 98 ∷ 111 ∷ 117 ∷ 110 ∷ 100 ∷ []

-- "bound to "
abbrev pub bound_word : List ℕ
bound_word = 98 ∷ 111 ∷ 117 ∷ 110 ∷ 100 ∷ 32 ∷ 116 ∷ 111 ∷ 32 ∷ []

-- "barred"
abbrev pub barred_word : List ℕ
barred_word = 98 ∷ 97 ∷ 114 ∷ 114 ∷ 101 ∷ 100 ∷ []

-- "; "
abbrev pub next_word : List ℕ
next_word = 59 ∷ 32 ∷ []

-- "no certificate; not stored"
abbrev pub uncertified_word : List ℕ
uncertified_word = 110 ∷ 111 ∷ 32 ∷ 99 ∷ 101 ∷ 114 ∷ 116 ∷ 105 ∷ 102 ∷ 105 ∷ 99 ∷ 97 ∷ 116 ∷ 101 ∷ 59 ∷ 32 ∷ 110 ∷ 111 ∷ 116 ∷ 32 ∷ 115 ∷ 116 ∷ 111 ∷ 114 ∷ 101 ∷ 100 ∷ []

-- "certificate for "
abbrev pub certificate_word : List ℕ
certificate_word = 99 ∷ 101 ∷ 114 ∷ 116 ∷ 105 ∷ 102 ∷ 105 ∷ 99 ∷ 97 ∷ 116 ∷ 101 ∷ 32 ∷ 102 ∷ 111 ∷ 114 ∷ 32 ∷ []

-- " acked by "
abbrev pub acked_word : List ℕ
acked_word = 32 ∷ 97 ∷ 99 ∷ 107 ∷ 101 ∷ 100 ∷ 32 ∷ 98 ∷ 121 ∷ 32 ∷ []

-- "stored by "
abbrev pub stored_word : List ℕ
stored_word = 115 ∷ 116 ∷ 111 ∷ 114 ∷ 101 ∷ 100 ∷ 32 ∷ 98 ∷ 121 ∷ 32 ∷ []

-- "not stored"
abbrev pub unstored_word : List ℕ
unstored_word = 110 ∷ 111 ∷ 116 ∷ 32 ∷ 115 ∷ 116 ∷ 111 ∷ 114 ∷ 101 ∷ 100 ∷ []

-- "delivered"
abbrev pub delivered_word : List ℕ
delivered_word = 100 ∷ 101 ∷ 108 ∷ 105 ∷ 118 ∷ 101 ∷ 114 ∷ 101 ∷ 100 ∷ []

-- "not delivered"
abbrev pub undelivered_word : List ℕ
undelivered_word = 110 ∷ 111 ∷ 116 ∷ 32 ∷ 100 ∷ 101 ∷ 108 ∷ 105 ∷ 118 ∷ 101 ∷ 114 ∷ 101 ∷ 100 ∷ []

-- "turns are refused with 7\n"
abbrev pub refused_seven_word : List ℕ
refused_seven_word = 116 ∷ 117 ∷ 114 ∷ 110 ∷ 115 ∷ 32 ∷ 97 ∷ 114 ∷ 101 ∷ 32 ∷ 114 ∷ 101 ∷ 102 ∷ 117 ∷ 115 ∷ 101 ∷ 100 ∷ 32 ∷ 119 ∷ 105 ∷ 116 ∷ 104 ∷ 32 ∷ 55 ∷ 10 ∷ []

-- "turns are refused with 6\n"
abbrev pub refused_six_word : List ℕ
refused_six_word = 116 ∷ 117 ∷ 114 ∷ 110 ∷ 115 ∷ 32 ∷ 97 ∷ 114 ∷ 101 ∷ 32 ∷ 114 ∷ 101 ∷ 102 ∷ 117 ∷ 115 ∷ 101 ∷ 100 ∷ 32 ∷ 119 ∷ 105 ∷ 116 ∷ 104 ∷ 32 ∷ 54 ∷ 10 ∷ []

-- "waits to enter "
abbrev pub enter_word : List ℕ
enter_word = 119 ∷ 97 ∷ 105 ∷ 116 ∷ 115 ∷ 32 ∷ 116 ∷ 111 ∷ 32 ∷ 101 ∷ 110 ∷ 116 ∷ 101 ∷ 114 ∷ 32 ∷ []

-- " for reports on "
abbrev pub reports_word : List ℕ
reports_word = 32 ∷ 102 ∷ 111 ∷ 114 ∷ 32 ∷ 114 ∷ 101 ∷ 112 ∷ 111 ∷ 114 ∷ 116 ∷ 115 ∷ 32 ∷ 111 ∷ 110 ∷ 32 ∷ []

-- " from "
abbrev pub from_word : List ℕ
from_word = 32 ∷ 102 ∷ 114 ∷ 111 ∷ 109 ∷ 32 ∷ []

-- "waits for a window to leave\n"
abbrev pub window_word : List ℕ
window_word = 119 ∷ 97 ∷ 105 ∷ 116 ∷ 115 ∷ 32 ∷ 102 ∷ 111 ∷ 114 ∷ 32 ∷ 97 ∷ 32 ∷ 119 ∷ 105 ∷ 110 ∷ 100 ∷ 111 ∷ 119 ∷ 32 ∷ 116 ∷ 111 ∷ 32 ∷ 108 ∷ 101 ∷ 97 ∷ 118 ∷ 101 ∷ 10 ∷ []

-- "waits for nothing\n"
abbrev pub nothing_word : List ℕ
nothing_word = 119 ∷ 97 ∷ 105 ∷ 116 ∷ 115 ∷ 32 ∷ 102 ∷ 111 ∷ 114 ∷ 32 ∷ 110 ∷ 111 ∷ 116 ∷ 104 ∷ 105 ∷ 110 ∷ 103 ∷ 10 ∷ []

-- ---- sets and views

-- The numbers below n that have p, rising, each after a space.
unfoldable pub numbers_below : ℕ → (ℕ → Bool) → List ℕ
numbers_below zero p = []
numbers_below (suc n) p = numbers_below n p ++ (if p n then 32 ∷ dec_text n else [])

-- A colon, and the controllers that have p.
unfoldable pub numbers_text : (ℕ → Bool) → List ℕ
numbers_text p = 58 ∷ numbers_below controllers p

-- A set: four digits, and its controllers.
unfoldable pub set_text : ℕ → List ℕ
set_text a = hex_text 4 a ++ numbers_text (bit a)

-- A view: eight digits, and its members.
unfoldable pub members_text : View → List ℕ
members_text v = view_text v ++ numbers_text (member v)

-- Each view after a space.
unfoldable pub views_text : List View → List ℕ
views_text [] = []
views_text (v ∷ l) = (32 ∷ view_text v) ++ views_text l

-- ---- the lines

unfoldable pub number_line : ℕ → List ℕ
number_line k = controller_word ++ (dec_text k ++ (10 ∷ []))

-- The view that it entered last.
unfoldable pub entered_line : List View → List ℕ
entered_line [] = outside_word
entered_line (v ∷ l) = entered_word ++ (members_text (last v l) ++ (10 ∷ []))

unfoldable pub stands_line : View → List ℕ
stands_line t = stands_word ++ (members_text t ++ (10 ∷ []))

unfoldable pub wished_line : View → List ℕ
wished_line v = wished_word ++ (members_text v ++ (10 ∷ []))

unfoldable pub candidates_line : Bool → List View → List ℕ
candidates_line many l = if many then many_word else candidates_word ++ (views_text l ++ (10 ∷ []))

-- ---- of a notice

unfoldable pub binding_text : Binding → List ℕ
binding_text unbound = unbound_word
binding_text (bound m) = bound_word ++ dec_text m
binding_text barred = barred_word

-- By the set a of those who stored it.
unfoldable pub stored_text : Bool → ℕ → List ℕ
stored_text is a = if is then stored_word ++ set_text a else unstored_word

-- The certificate for m by the set `acked`, and whether m is stored, by the set a.
unfoldable pub certificate_text : ℕ → ℕ → Bool → ℕ → List ℕ
certificate_text m acked is a = certificate_word ++ (dec_text m ++ (acked_word ++ (set_text acked ++ (next_word ++ stored_text is a))))

unfoldable pub delivered_text : Bool → List ℕ
delivered_text is = if is then delivered_word else undelivered_word

-- The line of notice i, with what stands between the first part and the last.
unfoldable pub notice_line : ℕ → Binding → List ℕ → Bool → List ℕ
notice_line i b middle is = notice_word ++ (dec_text i ++ ((58 ∷ 32 ∷ []) ++ (binding_text b ++ (next_word ++ (middle ++ (delivered_text is ++ (10 ∷ [])))))))

-- The lines of the notices below n, the least first.
unfoldable pub lines_below : ℕ → (ℕ → List ℕ) → List ℕ
lines_below zero line = []
lines_below (suc n) line = lines_below n line ++ line n

-- ---- what it waits for

-- To enter t it waits for reports on u from the set a.
unfoldable pub reports_line : View → View → ℕ → List ℕ
reports_line t u a = enter_word ++ (view_text t ++ (reports_word ++ (view_text u ++ (from_word ++ (set_text a ++ (10 ∷ []))))))

-- The lines of the views l, by the set that is awaited of each.
unfoldable pub reports_lines : View → (View → ℕ) → List View → List ℕ
reports_lines t awaited [] = []
reports_lines t awaited (u ∷ l) = reports_line t u (awaited u) ++ reports_lines t awaited l

unfoldable pub or_nothing : List ℕ → List ℕ
or_nothing [] = nothing_word
or_nothing (b ∷ t) = b ∷ t

-- A controller with no windows.
abbrev pub without_windows : Controller → Controller
without_windows c = record {
  is_set_up = c.is_set_up;
  number = c.number;
  ring = c.ring;
  senders = c.senders;
  windows = [];
  entered = c.entered;
  binding = c.binding;
  delivered = c.delivered;
  join_requested = c.join_requested;
  leave_requested = c.leave_requested;
  send_requested = c.send_requested;
}

-- ---- of a controller with its record

module _ (c : Controller) (X : List Stmt) where
  open c use {number, ring, senders}

  -- Where it is, if there is no conflict.
  unfoldable pub standing_line : List ℕ
  standing_line = if bit (T c X).left number then left_word else if stands c X then stands_line (T c X) else entered_line c.entered

  -- What stands of notice i between its binding and whether it was delivered, by its certificate.
  unfoldable pub evidence_text : ℕ → Option ℕ → List ℕ
  evidence_text i none = uncertified_word ++ next_word
  evidence_text i (some m) = certificate_text m (ack_set ring senders X i m) (is_stored ring X i m) (store_set ring X i m) ++ next_word

  abbrev pub notice_text : ℕ → List ℕ
  notice_text i = notice_line i (c.binding i) (evidence_text i (certificate c X i)) (c.delivered i)

  -- The members of u of whom there is no counted report on it.
  unfoldable pub awaited : View → ℕ
  awaited u = set_of ring.width (λ k. member u k && not (signs (is_counted_on ring senders X u) X k))

  -- The views that need reports and have no quorum of counted ones.
  unfoldable pub unreported : List View
  unreported = filter (λ u. not (signed_by_quorum ring.width X u (is_counted_on ring senders X u))) (remaining c X)

  unfoldable pub reports_text : List ℕ
  reports_text = if member (T c X) number && not (has_entered c X (T c X)) then reports_lines (T c X) awaited unreported else []

  -- "Rule 9 applies only inside a window": it would apply, were there no windows.
  unfoldable pub waits_for_window : Bool
  waits_for_window = ltb 0 (length c.windows) && is_some (rule9 (without_windows c) X 0)

  unfoldable pub waits_text : List ℕ
  waits_text = or_nothing (reports_text ++ (if waits_for_window then window_word else []))

  -- More than sixteen candidates: a turn gets 6.
  abbrev pub many : Bool
  many = ltb 16 (length (candidates ring X))

  unfoldable pub agreed_text : List ℕ
  agreed_text = candidates_line many (candidates ring X) ++ (lines_below (length senders) notice_text ++ (if many then refused_six_word else waits_text))

  -- After a conflict, where a turn gets 7, nothing is told that rests on candidates and sealed histories.
  unfoldable pub conflict_text : List ℕ
  conflict_text = conflict_word ++ (lines_below (length senders) (λ i. notice_line i (c.binding i) [] (c.delivered i)) ++ refused_seven_word)

  abbrev pub conflicting : Bool
  conflicting = is_conflict ring senders X

  -- The whole screen.
  unfoldable pub service_text : List ℕ
  service_text =
      if c.is_set_up then
      number_line number ++ ((if conflicting then entered_line c.entered else standing_line) ++ (wished_line (wished ring X) ++ (if conflicting then conflict_text else agreed_text)))
      else unset_word

-- n was answered for the memory out, which holds `after` then: the screen of c with the record X stands from the start if there are 32768 bytes, which are enough, and what is behind
-- it is as before; otherwise n is 0 and all is as before.
pub record ServiceShows (c : Controller) (X : List Stmt) (out : List ℕ) (n : ℕ) (after : List ℕ) : Type 0 where
  pub count : 32768 ≤ length out → n ≡ length (service_text c X)
  pub fits : 32768 ≤ length out → length (service_text c X) ≤ 32768
  pub is : 32768 ≤ length out → after ≡ sets out 0 (service_text c X)
  pub short : length out < 32768 → (n ≡ 0) × (after ≡ out)

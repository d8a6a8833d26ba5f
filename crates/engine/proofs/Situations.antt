-- What the rules look at is what the record shows.
-- Assumes nothing.
use mathlib.Core.Path.{◌≡◌, refl, sym, ap, ap₂, subst, ◌∙◌}
use mathlib.Core.Bool.{Bool, true, false, not, ◌&&◌}
use mathlib.Core.List.{List}
use mathlib.Core.Option.{some}
use Prim.Native.Nat.{ℕ, ◌-◌, ◌<◌, min}
use native.Mathlib.Omega.{arith}
use lib.Dec.{ltb}
use lib.ListN.{length, get_or}
use Rattle.protocol.specs.Sets.{bit}
use Rattle.protocol.specs.Lists.{any, all, is_some}
use Rattle.protocol.specs.View.{View, Ring, same_view, below}
use Rattle.protocol.specs.History.{top}
use Rattle.protocol.specs.Statement.{Stmt}
use Rattle.protocol.specs.Evidence.{is_stored}
use Rattle.protocol.specs.Window.{is_open}
use Rattle.protocol.specs.Controller as protocol
use Rattle.protocol.specs.Turn as turn
use Rattle.protocol.proofs.Bits.{Fits}
use Rattle.protocol.proofs.Says.{is_true}
use Rattle.protocol.proofs.Found.{when-some}
use Rattle.protocol.proofs.Numbered.{list_of-length, list_of-cong}
use Rattle.views.specs.declared.History.{History}
use Rattle.views.specs.View.{view_of, view_in, views_of, views_in}
use Rattle.views.specs.Held.{view_is, views_is, held_at}
use Rattle.views.proofs.Held.{held_fits}
use Rattle.views.proofs.Histories.{top-some}
use Rattle.evidence.specs.declared.Evidence.{Evidence}
use Rattle.evidence.specs.declared.Ring as declared
use Rattle.evidence.specs.Evidence.{ring_is, certificate_at, EvidenceOf, Narrow}
use Rattle.evidence.specs.Notices.{senders_of}
use Rattle.evidence.proofs.Fitting.{some-view}
use Rattle.windows.specs.Windows.{windows_in}
use Rattle.engine.specs.declared.Controller.{Controller}
use Rattle.rules.specs.declared.Situation.{Situation}
use Rattle.engine.specs.Meaning.{controller_is}
use Rattle.rules.specs.Rules.{SituationOf}
use Rattle.engine.specs.Situation.{not_above, RingOf, leaves_at, Situated}
use Rattle.engine.proofs.Numbers.{senders-count, some-when}

views-count : (h : History) → length (views_is h) ≡ min h.len 16
unfolding views_is
views-count h = list_of-length (min h.len 16) (held_at h.views)

slots-top : (R : Ring) (W : List ℕ) (n : ℕ) → 0 < n → view_of (get_or W (n - 1) 0) ≡ top R (views_of W n)
unfolding views_of
slots-top R W n h = top-some _ R n (λ e. omega arith)

-- ---- the controller's ring

module _ {c : Controller} {r : declared.Ring} (q : RingOf c r) where
  pub senders-of : senders_of c.senders r.notices ≡ (controller_is c).senders
  unfolding controller_is
  senders-of = ap (senders_of c.senders) q.notices

  -- the evidence in a ring is that of its controller
  pub of-controller : {X : List Stmt} {C G P : List ℕ} {e : Evidence} → EvidenceOf (ring_is r) (senders_of c.senders r.notices) X C G P e → EvidenceOf (controller_is c).ring (controller_is c).senders X C G P e
  of-controller {X} {C} {G} {P} {e} o =
      subst (λ l. EvidenceOf (controller_is c).ring l X C G P e) senders-of (subst (λ R. EvidenceOf R (senders_of c.senders r.notices) X C G P e) q.is o)

  -- the initial view of a controller's ring is of the sixteen controllers, as every struct's is
  pub init-fits : Fits 16 (view_of r.init)
  unfolding controller_is
  init-fits = subst (Fits 16) (sym (ap (λ R. R.init) q.is)) (held_fits c.init)

-- words without other bits are read as they are
pub read_whole : {list : List ℕ} {n : ℕ} → Narrow list n → views_in list n ≡ views_of list n
unfolding views_in views_of
read_whole {list} {n} k = list_of-cong n (λ i. view_in (get_or list i 0)) (λ i. view_of (get_or list i 0)) k.at

-- ---- a leave inside a window

module _ (c : Controller) (minute : ℕ) where
  pub leaves-never : c.leaving ≡ false → false ≡ leaves_at c minute
  unfolding leaves_at
  leaves-never e = rw e

  pub leaves-inside : (b : Bool) → c.leaving ≡ true → b ≡ is_open (windows_in c.times (min c.windows 8)) minute → b ≡ leaves_at c minute
  unfolding leaves_at controller_is
  leaves-inside b e f = f ∙ rw e

-- ---- what the rules look at

-- where there is no conflict, however many candidates there are
module _ (X : List Stmt) (C G P : List ℕ) (c : Controller) (r : declared.Ring) (q : RingOf c r) (e : Evidence) (o : EvidenceOf (ring_is r) (senders_of c.senders r.notices) X C G P e) (agree : e.conflict ≡ false) where
  abbrev d : protocol.Controller
  d = controller_is c

  shown : EvidenceOf d.ring d.senders X C G P e
  shown = of-controller q o

  -- the payload of the certificate for notice i
  pub the-certificate : (i : ℕ) → i < length d.senders → turn.certificate d X i ≡ certificate_at e P i
  unfolding turn.certificate
  the-certificate i l = sym (shown.certificate agree i l)

  module _ (narrow : Narrow G e.length) (whole : view_in e.wished ≡ view_of e.wished) (minute : ℕ) (s : Situation) (l : Situated c r G e minute s) where
    the-greatest : turn.G d X ≡ views_of G e.length
    unfolding turn.G
    the-greatest = sym (shown.greatest agree)

    the-top : turn.T d X ≡ view_is s.top
    unfolding turn.T
    the-top =
        let some = some-view (ring_is r) (senders_of c.senders r.notices) X C G P e o agree in
        ap (top d.ring) the-greatest ∙ sym (slots-top d.ring G e.length some) ∙ sym (narrow.at (e.length - 1) (omega arith)) ∙ sym l.top

    has-entered : (v : View) → turn.has_entered d X v ≡ any (same_view v) (views_is c.entered)
    unfolding turn.has_entered controller_is
    has-entered v = refl

    the-entered : turn.has_entered d X (view_is s.top) ≡ s.entered
    the-entered = has-entered (view_is s.top) ∙ sym l.entered

    at_the_top : (t : View) → all (λ u. not (below d.ring.width t u)) d.entered ≡ all (not_above t) (views_is c.entered)
    unfolding controller_is not_above
    at_the_top t = refl

    it-stands : turn.stands d X ≡ s.stands
    unfolding turn.stands
    it-stands =
        ap (λ t. turn.has_entered d X t && all (λ u. not (below d.ring.width t u)) d.entered) the-top
        ∙ ap₂ ◌&&◌ the-entered (at_the_top (view_is s.top)) ∙ sym l.stands

    some-entered : ltb 0 (length d.entered) ≡ s.active
    unfolding controller_is
    some-entered = ap (ltb 0) (views-count c.entered) ∙ sym l.active

    count-is : length d.senders ≡ min s.ring.notices 64
    unfolding controller_is
    count-is = senders-count c.senders c.notices ∙ ap (λ n. min n 64) (sym q.notices ∙ ap (λ x. x.notices) (sym l.ring))

    has-certificate : (i : ℕ) → i < length d.senders → is_some (turn.certificate d X i) ≡ bit s.shown.certified i
    has-certificate i h = ap is_some (the-certificate i h) ∙ some-when (bit e.certified i) (get_or P i 0) ∙ ap (λ x. bit x.certified i) (sym l.shown)

    is-stored : (i m : ℕ) → i < length d.senders → turn.certificate d X i ≡ some m → is_stored d.ring X i m ≡ bit s.shown.stored i
    is-stored i m h f =
        let (b, y) = when-some (bit e.certified i) (sym (the-certificate i h) ∙ f) in
        ap (is_stored d.ring X i) (sym y) ∙ sym (shown.stored agree i h (is_true (bit e.certified i) b)) ∙ ap (λ x. bit x.stored i) (sym l.shown)

    leaves : (d.leave_requested && is_open d.windows s.minute) ≡ s.leaving
    unfolding leaves_at controller_is
    leaves = ap (λ m. c.leaving && is_open (windows_in c.times (min c.windows 8)) m) l.minute ∙ sym l.leaving

    pub situation : SituationOf d X s
    unfolding controller_is
    situation = record {
      number = sym l.number;
      ring = sym q.is ∙ ap ring_is (sym l.ring);
      notices = count-is;
      delivered = λ i h. ap (λ n. bit n i) (sym l.delivered);
      joining = sym l.joining;
      leaving = leaves;
      active = some-entered;
      entered = the-entered;
      stands = it-stands;
      left = ap (λ t. bit t.left c.number) the-top ∙ sym l.left;
      top = the-top;
      wished = sym (whole ∙ shown.wished) ∙ ap (λ x. view_in x.wished) (sym l.shown);
      certificate = has-certificate;
      stored = is-stored;
    }

-- What a host calls are the calls of a run: crates/guarantee shows what is promised of it.
-- Assumes nothing.
use Rattle.std.specs.Prelude.{if◌then◌else◌}
use Prim.Native.Nat.{ℕ}
use native.Mathlib.Omega.{arith}
use mathlib.Core.Path.{◌≡◌, sym, subst}
use mathlib.Core.Bool.{Bool, true, false}
use mathlib.Core.List.{List}
use Rattle.protocol.specs.Statement.{Stmt}
use Rattle.protocol.specs.Controller as controller
use Rattle.protocol.specs.Call as call
use Rattle.protocol.specs.Run as run
use Rattle.engine.specs.declared.Controller.{Controller}
use Rattle.engine.specs.Meaning.{controller_is, Came}
use Rattle.engine.specs.Promise.{Starts, IsRefused, change_of, Called}
use Rattle.host.specs.Statement.{IsStatement}
use Rattle.pool.specs.Pool.{record_in}
use Rattle.host.specs.Memory.{notices_in, controller_at}
use Rattle.host.specs.Host.{Hosted, SetsUp, Joins, Leaves, Sends, TakesTurn, AddsText, no_statement, HostCalled}
use Rattle.host.proofs.Hosting.{is-idle}

barred : (c : Controller) (X : List Stmt) → IsRefused (no_statement (controller_is c) X).answer
unfolding no_statement controller_is
barred c X = go c.ready
  where
    go : (b : Bool) → IsRefused (if b then call.refuse (controller_is c) X controller.bad_statement else call.refuse (controller_is c) X controller.out_of_place).answer
    go true = tt
    go false = tt

module _ {F R F' R' : List ℕ} {n : ℕ} {value : List ℕ} where
  -- the engine's controller is the memory's
  at-memory : {W W' : List ℕ} {k : run.Call} {Met : Came → Type 0} (h : Hosted Met F R n F' R' value) → Called W R (controller_at F) k h.outcome W' R' → HostCalled W F R k n value W' F' R'
  at-memory {W} {W'} {k} h c = record {
    told = h.outcome.answer;
    answered = h.answered;
    valued = h.valued;
    called = subst (λ x. Called W R (controller_at F) k (record { answer = h.outcome.answer; controller = x }) W' R') (sym h.held) c;
  }

  pub setup-called : (number : ℕ) (s : call.Setup) → SetsUp F R number s n F' R' value → (W : List ℕ) → HostCalled W F R (run.setup_call number s) n value W F' R'
  unfolding run.outcome change_of Starts
  setup-called number s h W = at-memory h (h.met W)

  pub join-called : Joins F R n F' R' value → (W : List ℕ) → HostCalled W F R run.join_call n value W F' R'
  unfolding run.outcome change_of
  join-called h W = at-memory h (h.met W)

  pub leave-called : Leaves F R n F' R' value → (W : List ℕ) → HostCalled W F R run.leave_call n value W F' R'
  unfolding run.outcome change_of
  leave-called h W = at-memory h (h.met W)

  pub send-called : (notice payload : ℕ) → Sends F R notice payload n F' R' value → (W : List ℕ) → HostCalled W F R (run.send_call notice payload) n value W F' R'
  unfolding run.outcome change_of
  send-called notice payload h W = at-memory h (h.met W)

  pub turn-called : {W W' : List ℕ} (minute : ℕ) → TakesTurn W W' F R minute n F' R' value → HostCalled W F R (run.turn_call minute) n value W' F' R'
  unfolding run.outcome change_of
  turn-called minute h = at-memory h h.met

module _ {S W W' F R R' value : List ℕ} {n : ℕ} (a : AddsText S W W' F R n R' value) where
  pub add-called : (s : IsStatement (notices_in F) S) → HostCalled W F R (run.add_call s.statement) n value W' F R'
  unfolding run.outcome change_of
  add-called s = let h = a.statement s in at-memory h h.met

  -- a text that is no statement is refused, and all is as before
  pub unread-nothing : (IsStatement (notices_in F) S → ⊥) → (R' ≡ R) × (W' ≡ W)
  unread-nothing f =
      let h = a.none f in
      let t = barred (controller_at F) (record_in W R) in
      let l = is-idle W' h.outcome.answer (subst IsRefused (sym h.met.answer) t) in
      ((h.idle (omega (arith, h.answered))).1, (h.met.refused t).2)

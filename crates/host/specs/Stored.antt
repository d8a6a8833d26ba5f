-- What the functions that store a controller and tell an answer tell each other.
-- Assumes nothing.
use Rattle.std.specs.Prelude.{◌≡◌, Bool, List, ℕ, ◌+◌, ◌≤◌, ◌<◌, get_or, length, Result}
use Rattle.protocol.specs.Lists.{list_of}
use Rattle.views.specs.declared.History.{History}
use Rattle.evidence.specs.declared.Notice.{Notice}
use Rattle.pool.specs.Pool.{record_in}
use Rattle.engine.specs.declared.Answer.{Answer}
use Rattle.engine.specs.declared.Refusal.{Refusal}
use Rattle.engine.specs.declared.Controller.{Controller}
use Rattle.engine.specs.Meaning.{controller_is, Came}
use Rattle.engine.specs.Promise.{unchanged, Meets}
use Rattle.host.specs.Memory.{held_in, sender_in, notice_in, send_in, controller_at}
use Rattle.host.specs.Host.{answer_number, value_words, no_statement}

-- r has the words of the views that were entered.
pub record EnteredWords (h : History) (r : List ℕ) : Type 0 where
  pub long : length r ≡ 232
  pub count : get_or r 12 0 ≡ h.len
  pub back : list_of 16 (λ i. held_in (get_or r (16 + i) 0)) ≡ h.views

-- By f the words F' mean the list l, which has n words from word `from` on and may have words 8 and 9. All else of F from word 10 on stays.
pub record Column {A : Type 0} (from n : ℕ) (f : List ℕ → ℕ → A) (l : List A) (F F' : List ℕ) : Type 0 where
  pub long : length F' ≡ 232
  pub low : (i : ℕ) → 10 ≤ i → i < from → get_or F' i 0 ≡ get_or F i 0
  pub high : (i : ℕ) → from + n ≤ i → get_or F' i 0 ≡ get_or F i 0
  pub back : list_of n (f F') ≡ l

-- The words F' have the senders, bindings and payloads to send of the notices, and what F has in words 10 to 31 and from 224 on.
pub record NoticeWords (F S : List ℕ) (H : List Notice) (P F' : List ℕ) : Type 0 where
  pub long : length F' ≡ 232
  pub first : (i : ℕ) → 10 ≤ i → i < 32 → get_or F' i 0 ≡ get_or F i 0
  pub last : (i : ℕ) → 224 ≤ i → get_or F' i 0 ≡ get_or F i 0
  pub senders : list_of 64 (sender_in F') ≡ S
  pub held : list_of 64 (notice_in F') ≡ H
  pub sends : list_of 64 (send_in F') ≡ P

-- The engine returned o on the controller of the words F: its answer was told, and the words mean its controller; or nothing was done, and they are as they were.
pub record Finished (o : Came) (F : List ℕ) (answer : ℕ) (F' value : List ℕ) : Type 0 where
  pub answered : answer ≡ answer_number o.answer
  pub valued : value ≡ value_words o.answer
  pub held : answer < 4 → controller_at F' ≡ o.controller
  pub idle : 4 ≤ answer → F' ≡ F

-- An addition of what is no statement answers a, for every controller that is set up or not.
pub record NoneFor (ready : Bool) (a : Result Answer Refusal) : Type 0 where
  pub each : (c : Controller) → c.ready ≡ ready → (W R : List ℕ) → Meets W R c (no_statement (controller_is c) (record_in W R)) unchanged (record { answer = a; controller = c }) W R

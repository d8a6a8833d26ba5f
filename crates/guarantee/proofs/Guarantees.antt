-- THE THEOREMS, in the order in which a buyer meets them: what is promised of the rows, of a host's calls, of the engine's calls, and of a run.
-- Each of these promises the same: `Promises`, demand 3 of document 01, `NoConflict`, no refusal with 7, and `DeliveredSets`, that each delivered set is the one behind its store
-- quorum; all are said in crates/protocol/specs/Promises.antt.
-- Assumes nothing.
use Prim.Native.Nat.{ℕ}
use Rattle.protocol.specs.Run.{Run, IsRun}
use Rattle.protocol.specs.Promises.{observed, Promises, DeliveredSets, NoConflict, NeverBarred}
use Rattle.protocol.proofs.Promises.{promises, delivered-sets, no-conflict}
use Rattle.protocol.proofs.Sender.{never-barred}
use Rattle.protocol.specs.Alike.{MinutesApart}
use Rattle.protocol.proofs.Alike.{minutes-apart}
use Rattle.guarantee.specs.Hosts.{Host, HostRuns, host_calls}
use Rattle.guarantee.specs.Calls.{Engine, EngineRuns, engine_calls}
use Rattle.guarantee.specs.Rows.{Guarantee, InMemory}
use Rattle.guarantee.proofs.Calls.{calls-keep, calls-sets, calls-no-conflict}
use Rattle.guarantee.proofs.Hosts.{hosts-keep, hosts-sets, hosts-no-conflict}
use Rattle.guarantee.proofs.Printed.{guaranteed, left-in-memory}

-- The rows that are printed for any schedule, as bytes, with the replies that they show, where a setup is taken and few members of each sealed top are marked faulty;
-- and what the rows alone tell.
pub of-rows : Guarantee
of-rows = guaranteed

-- The same of what `run` of crates/bench leaves in the memory that a caller lends.
pub of-memory : InMemory
of-memory = left-in-memory

-- The numbers that a host gets, where its calls on each rule-follower are those of crates/pekdrav and the premises of a run hold.
pub of-hosts : {run : Run} → IsRun run → (h : ℕ → ℕ → Host) → HostRuns run h → Promises (host_calls run h) × NoConflict (host_calls run h) × DeliveredSets (host_calls run h)
of-hosts is h hosts = (hosts-keep is h hosts, hosts-no-conflict is h hosts, hosts-sets is h hosts)

-- What the engine answers, where the calls on each rule-follower meet its contracts and the premises of a run hold.
pub of_calls : {run : Run} → IsRun run → (e : ℕ → ℕ → Engine) → EngineRuns run e → Promises (engine_calls run e) × NoConflict (engine_calls run e) × DeliveredSets (engine_calls run e)
of_calls is e engines = (calls-keep is e engines, calls-no-conflict is e engines, calls-sets is e engines)

-- Any list of calls and lies in which nothing is forged and few break the rules.
pub of-runs : {run : Run} → IsRun run → Promises (observed run) × NoConflict (observed run) × DeliveredSets (observed run)
of-runs is = (promises is, no-conflict is, delivered-sets is)

-- Runs with no leave request that are alike but for their minutes, all in range, are equal in every answer, controller and record.
pub of-minutes : MinutesApart
of-minutes = minutes-apart

-- And where the sender of a notice follows the rules, nobody who does is ever barred from it.
pub never : {run : Run} → IsRun run → NeverBarred run
never is = never-barred is

use native.Mathlib.Omega.{arith}
use mathlib.Core.Path.{refl}
use mathlib.Core.List.{[]}
use lib.ListN.{get_or}
use Rattle.bench.proofs.Starts.{started_none, never-refused, started-next, started-all}
use Rattle.bench.proofs.lines.start_all.Goals as goal

pub loop-k-init : goal.loop-k-init
loop-k-init c = started_none _ _ 16 _ refl c.told-records

pub loop-k-preserved : goal.loop-k-preserved
loop-k-preserved c = started-next _ c.requires _ c.new-c.ensures _ _ (get_or c.loop-k.records c.loop-k.k []) _ (omega arith) c.in-Ok.ensures _ _ c.loop-k.invariant

pub returns : goal.returns
returns c = started-all _ _ _ _ (omega arith) c.loop-k.invariant

pub unreachable-requires : goal.unreachable-requires
unreachable-requires c = never-refused _ c.requires _ c.new-c.ensures _ _ (get_or c.loop-k.records c.loop-k.k []) _ (omega arith) c.in_default.ensures c.in_default.field-0 refl

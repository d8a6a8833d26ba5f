use native.Mathlib.Omega.{arith}
use mathlib.Core.Path.{ap}
use lib.ListN.{length}
use Rattle.text.proofs.Stores.{wrote_as}
use Rattle.statements.proofs.Written.{told-report-text, told-other-text}
use Rattle.statements.proofs.groups.put_told.Goals as goal

pub put_groups-requires : goal.put_groups-requires
put_groups-requires c = ((omega (arith, c.min.ensures)), omega (arith, c.requires, ap length (told-report-text c.args.st.now.kind c.args.st.now.groups c.args.st.now.payload c.args.block.now c.if-st.true _ c.min.ensures)))

pub returns-then-st : goal.returns-then-st
returns-then-st c = wrote_as (told-report-text c.args.st.now.kind c.args.st.now.groups c.args.st.now.payload c.args.block.now c.if-st.true _ c.min.ensures) c.put_groups.ensures

pub put_second-requires : goal.put_second-requires
put_second-requires c = omega (arith, c.requires, ap length (told-other-text c.args.st.now.kind c.args.st.now.groups c.args.st.now.payload c.args.block.now c.if-st.false))

pub returns-else-st : goal.returns-else-st
returns-else-st c = wrote_as (told-other-text c.args.st.now.kind c.args.st.now.groups c.args.st.now.payload c.args.block.now c.if-st.false) c.put_second.ensures

use native.Mathlib.Omega.{arith}
use mathlib.Core.Path.{ap}
use lib.ListN.{length}
use Rattle.text.specs.Text.{dec_text}
use Rattle.text.proofs.Stores.{both}
use Rattle.statements.proofs.Written.{sizes, all_runs}
use Rattle.statements.proofs.put_statement.Goals as goal

pub put_first-a-requires : goal.put_first-a-requires
put_first-a-requires c = omega (arith, c.requires.1, sizes c.args.st.now c.args.block.now)

pub put_number-b-requires : goal.put_number-b-requires
put_number-b-requires c = omega (arith, c.requires.1, sizes c.args.st.now c.args.block.now, ap (λ n. length (dec_text n)) c.from.ensures, c.put_first-a.ensures.next, c.put_first-a.auto)

pub put_told-c-requires : goal.put_told-c-requires
put_told-c-requires c = omega (arith, c.requires.1, sizes c.args.st.now c.args.block.now, ap (λ n. length (dec_text n)) c.from.ensures, c.put_first-a.ensures.next, c.put_first-a.auto, c.put_number-b.ensures.next, c.put_number-b.auto)

pub put_number-d-requires : goal.put_number-d-requires
put_number-d-requires c = omega (arith, c.requires.1, sizes c.args.st.now c.args.block.now, ap (λ n. length (dec_text n)) c.from.ensures, c.put_first-a.ensures.next, c.put_first-a.auto, c.put_number-b.ensures.next, c.put_number-b.auto, c.put_told-c.ensures.next, c.put_told-c.auto)

pub put_views-requires : goal.put_views-requires
put_views-requires c = (c.requires.0, omega (arith, c.requires.1, sizes c.args.st.now c.args.block.now, ap (λ n. length (dec_text n)) c.from.ensures, c.put_first-a.ensures.next, c.put_first-a.auto, c.put_number-b.ensures.next, c.put_number-b.auto, c.put_told-c.ensures.next, c.put_told-c.auto, c.put_number-d.ensures.next, c.put_number-d.auto))

pub returns : goal.returns
returns c = all_runs c.args.st.now c.args.block.now (both c.put_first-a.ensures (both (rw c.from.ensures at c.put_number-b.ensures) (both c.put_told-c.ensures (both c.put_number-d.ensures c.put_views.ensures.1))))

use native.Mathlib.Omega.{arith}
use mathlib.Core.Path.{ap}
use lib.ListN.{length}
use Rattle.text.specs.Text.{dec_text}
use Rattle.text.proofs.Stores.{both}
use Rattle.statements.specs.Parts.{start_text}
use Rattle.views.specs.Held.{view_is}
use Rattle.statements.proofs.Written.{first-size}
use Rattle.statements.proofs.put_first.Goals as goal

pub write_dec-a-requires : goal.write_dec-a-requires
write_dec-a-requires c = omega (arith, c.requires, first-size c.args.st.now.kind c.args.st.now.origin (view_is c.args.st.now.at) (view_is c.args.st.now.view), ap (λ n. length (dec_text n)) c.from.ensures)

pub put_number-b-requires : goal.put_number-b-requires
put_number-b-requires c = omega (arith, c.requires, first-size c.args.st.now.kind c.args.st.now.origin (view_is c.args.st.now.at) (view_is c.args.st.now.view), ap (λ n. length (dec_text n)) c.from.ensures, ap (λ n. length (dec_text n)) c.from-2.ensures, c.write_dec-a.ensures.next, c.write_dec-a.auto)

pub put_view-c-requires : goal.put_view-c-requires
put_view-c-requires c = omega (arith, c.requires, first-size c.args.st.now.kind c.args.st.now.origin (view_is c.args.st.now.at) (view_is c.args.st.now.view), ap (λ n. length (dec_text n)) c.from.ensures, ap (λ n. length (dec_text n)) c.from-2.ensures, c.write_dec-a.ensures.next, c.write_dec-a.auto, c.put_number-b.ensures.next, c.put_number-b.auto)

pub put_view-requires : goal.put_view-requires
put_view-requires c = omega (arith, c.requires, first-size c.args.st.now.kind c.args.st.now.origin (view_is c.args.st.now.at) (view_is c.args.st.now.view), ap (λ n. length (dec_text n)) c.from.ensures, ap (λ n. length (dec_text n)) c.from-2.ensures, c.write_dec-a.ensures.next, c.write_dec-a.auto, c.put_number-b.ensures.next, c.put_number-b.auto, c.put_view-c.ensures.0, c.put_view-c.auto)

pub returns : goal.returns
unfolding start_text
returns c = both (rw c.from.ensures at c.write_dec-a.ensures) (both (rw c.from-2.ensures at c.put_number-b.ensures) (both c.put_view-c.ensures.1 c.put_view.ensures.1))

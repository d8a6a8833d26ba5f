use native.Mathlib.Omega.{arith}
use mathlib.Core.Path.{sym, ap, ◌∙◌}
use lib.Dec.{leb}
use lib.ListN.{length}
use Rattle.statements.specs.Text.{text}
use Rattle.statements.specs.Meaning.{stmt_of}
use borrow.Author.Tests.{le-leb}
use Rattle.statements.proofs.Written.{text-size}
use Rattle.statements.proofs.Laws.{means-most}
use Rattle.statements.proofs.has_room.Goals as goal

pub returns-then-room-ge-LONGEST : goal.returns-then-room-ge-LONGEST
returns-then-room-ge-LONGEST c = le-leb 3120 c.args.room c.if-room-ge-LONGEST.true ∙ sym (le-leb (length (text (stmt_of c.args.st c.args.block.now))) c.args.room (omega (arith, means-most c.args.st c.args.block.now (omega arith) (omega arith) (omega arith) (omega arith) c.requires)))

pub returns-else-room-ge-LONGEST : goal.returns-else-room-ge-LONGEST
returns-else-room-ge-LONGEST c = ap (λ n. leb n c.args.room) (omega (arith, c.text_len.ensures.0, c.told_len.ensures.0, text-size c.args.st c.args.block.now))

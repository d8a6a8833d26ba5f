-- A record with its pool, as one value: the statements of its numbers.
-- Assumes nothing.
use Rattle.std.specs.Prelude.{List}
use Rattle.protocol.specs.Statement.{Stmt}
use Rattle.pool.specs.Pool.{record_in}
use Rattle.pool.specs.declared.listed.Record.{Record}

abbrev pub entries_of : Record → List Stmt
entries_of r = record_in r.words.now r.ids.now

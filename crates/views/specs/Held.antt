-- What the structs View and History mean: a view and a list of views of the protocol. A struct's set has 32 bits, and those from 16 on stand for no controller: they are not read.
-- Assumes nothing.
use Rattle.std.specs.Prelude.{List, ℕ, ◌%◌, min, get_or}
use Rattle.protocol.specs.Lists.{list_of}
use Rattle.protocol.specs.View.{View}
use Rattle.views.specs.declared.View as held
use Rattle.views.specs.declared.History.{History}

abbrev pub view_is : held.View → View
view_is v = record { joined = v.joined % 65536; left = v.left % 65536 }

-- View p of an array; past its end 00000000.
abbrev pub held_at : List held.View → ℕ → View
held_at l p = view_is (get_or l p (record { joined = 0; left = 0 }))

-- The first len views. A len above 16 counts as 16.
unfoldable pub views_is : History → List View
views_is h = list_of (min h.len 16) (held_at h.views)

-- Views in one word.
-- Assumes nothing.
use Rattle.std.specs.Prelude.{List, ℕ, ◌+◌, ◌*◌, ◌/◌, ◌%◌, get_or}
use Rattle.protocol.specs.Lists.{list_of}
use Rattle.protocol.specs.View.{View, Ring}

-- The view of a word: 32 bits of who joined, and above them 32 of who left.
unfoldable pub view_of : ℕ → View
view_of w = record { joined = w % 4294967296; left = w / 4294967296 % 4294967296 }

-- The same view, of the sixteen controllers alone: other bits of its sets are not read.
unfoldable pub view_in : ℕ → View
view_in w = record { joined = w % 65536; left = w / 4294967296 % 65536 }

-- The word of a view.
abbrev pub word_of : View → ℕ
word_of v = v.joined + v.left * 4294967296

-- The views of the first n words, as they stand, and of the sixteen controllers alone.

unfoldable pub views_of : List ℕ → ℕ → List View
views_of a n = list_of n (λ i. view_of (get_or a i 0))

unfoldable pub views_in : List ℕ → ℕ → List View
views_in a n = list_of n (λ i. view_in (get_or a i 0))

-- The ring of sixteen controllers whose initial view is that of the word.
abbrev pub ring_of_word : ℕ → Ring
ring_of_word init = record { width = 16; init = view_of init }

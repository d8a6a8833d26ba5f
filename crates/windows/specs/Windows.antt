-- What the words of windows mean. A window is one word: the weekday in its low 16 bits, the first minute in the next 16, the end in the high 32.
-- Every word means some window, and nothing has to hold of it.
-- Assumes nothing.
use Rattle.std.specs.Prelude.{List, ℕ, ◌/◌, ◌%◌, get_or}
use Rattle.protocol.specs.Lists.{list_of}
use Rattle.protocol.specs.Window.{Window}

-- The window of these three numbers.
abbrev pub window_of : ℕ → ℕ → ℕ → Window
window_of weekday first end = record { weekday = weekday; first = first; end = end }

-- The window that a word means.
abbrev pub window_in : ℕ → Window
window_in w = window_of (w % 65536) (w / 65536 % 65536) (w / 4294967296)

-- The first n windows of the words A.
unfoldable pub windows_in : List ℕ → ℕ → List Window
windows_in A n = list_of n (λ i. window_in (get_or A i 0))

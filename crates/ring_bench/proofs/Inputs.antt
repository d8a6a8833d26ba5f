-- The length of an array.
-- Assumes nothing.
use Prim.Native.Nat.{ℕ}
use mathlib.Core.Path.{◌≡◌, sym}
use lib.ListN.{length, replicate, length-replicate}

-- A filled array has its length. Said of any length: counting to 2,621,504 would run the checker out of stack.
pub filled-length : (n b : ℕ) → n ≡ length (replicate n b)
filled-length n b = sym (length-replicate n b)

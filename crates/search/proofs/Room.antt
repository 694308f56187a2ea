-- A row written into the room: the words before it and after it are what they were.
use Prim.Native.Nat.{ℕ, ◌+◌, ◌≤◌}
use native.Mathlib.Omega.{arith}
use mathlib.Core.Path.{◌≡◌, ◌∙◌}
use mathlib.Core.List.{List, ◌++◌}
use lib.ListN.{length, take, drop, length-append}
use lib.Seq.{take_at, drop_at, length-take-le}
use lib.IntN.{ℤ}
use Rattle.value_places.specs.Held.{put}
use Rattle.value_rows.proofs.Room.{put_is}

module _ (room : List ℤ) (n : ℕ) (ws : List ℤ) (h : n + length ws ≤ length room) where
  long_before : length (take n room ++ ws) ≡ n + length ws
  long_before = length-append (take n room) ws ∙ (let e = length-take-le n room (omega arith) in omega arith)

  pub put_before : take (n + length ws) (put room n ws) ≡ take n room ++ ws
  put_before = rw (put_is room n ws h) (take_at (take n room ++ ws) (drop (n + length ws) room) (n + length ws) long_before)

  pub put_after : drop (n + length ws) (put room n ws) ≡ drop (n + length ws) room
  put_after = rw (put_is room n ws h) (drop_at (take n room ++ ws) (drop (n + length ws) room) (n + length ws) long_before)

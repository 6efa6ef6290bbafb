-- Where a key stands among keys that rise, and what is to be done there.
use Rattle.std.specs.Prelude.{ℕ, suc, Bool, true, false, List, [], ◌∷◌, Result, Ok, Err}
use Rattle.std.specs.declared.cmp.Ordering.TheVariants.{Less, Equal, Greater}
use Rattle.std.specs.declared.cmp.Ordering.{Ordering}
use Rattle.base.specs.Bytes.{Bytes}
use Rattle.key_order.specs.Order.{order_of}
use Rattle.row_change.specs.declared.Change.TheVariants.{Leave, Remove, Replace, Insert}
use Rattle.row_change.specs.declared.Change.{Change}

abbrev pub by_order : Ordering → Result ℕ ℕ → Result ℕ ℕ → Result ℕ ℕ → Result ℕ ℕ
by_order Less less equal greater = less
by_order Equal less equal greater = equal
by_order Greater less equal greater = greater

-- the first key that is not below k: its place, the first being i, and whether it is k
unfoldable pub place_of : ℕ → Bytes → List Bytes → Result ℕ ℕ
place_of i k [] = Err i
place_of i k (x ∷ xs) = by_order (order_of x k) (place_of (suc i) k xs) (Ok i) (Err i)

-- whether a key was found
abbrev pub is_found : Result ℕ ℕ → Bool
is_found (Ok i) = true
is_found (Err i) = false

-- the change that removes a key's row, or that sets it
abbrev pub change_to : Bool → Result ℕ ℕ → Change
change_to true (Ok i) = Remove i
change_to true (Err i) = Leave
change_to false (Ok i) = Replace i
change_to false (Err i) = Insert i

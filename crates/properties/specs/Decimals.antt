-- Decimal numbers of a bounded length and size. Leading zeros count as digits.
use Rattle.std.specs.Prelude
use Rattle.std.specs.Prelude.{ℕ, ◌+◌, ◌-◌, ◌*◌, Bool, cond, ◌&&◌, [], ◌∷◌, leb, length, Some, None}
use Rattle.base.specs.Bytes.{Bytes, every}

abbrev pub is_digit : ℕ → Bool
is_digit b = leb 48 b && leb b 57

-- the number that some digits are behind a number that stands before them
unfoldable pub decimal_from : ℕ → Bytes → ℕ
decimal_from n [] = n
decimal_from n (b ∷ s) = decimal_from (n * 10 + (b - 48)) s

-- 1 to so many digits, and a number of at most so much
unfoldable pub decimal_of : ℕ → ℕ → Bytes → Prelude.Option ℕ
decimal_of digits most s =
    cond (leb 1 (length s) && leb (length s) digits && (every is_digit s && leb (decimal_from 0 s) most)) (Some (decimal_from 0 s)) None

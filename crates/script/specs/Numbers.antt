-- Numbers written in decimal.
use Rattle.std.specs.Prelude.{ℕ, ◌+◌, ◌-◌, ◌*◌, ◌^◌, min, cond, List, [], ◌∷◌, length}
use Rattle.base.specs.Bytes.{Bytes}
use Rattle.base.specs.Output.{largest}
use Rattle.properties.specs.Decimals.{is_digit}

-- the values of the digits of a text; every other byte is passed over
unfoldable pub digits_in : Bytes → List ℕ
digits_in [] = []
digits_in (b ∷ s) = cond (is_digit b) ((b - 48) ∷ digits_in s) (digits_in s)

-- the number of some digits: each weighs ten times as much as the next one
unfoldable pub decimal : List ℕ → ℕ
decimal [] = 0
decimal (d ∷ ds) = d * 10 ^ length ds + decimal ds

-- the number that the digits of a text are, or the largest number of a machine word where it is larger
unfoldable pub text_number : Bytes → ℕ
text_number s = min (decimal (digits_in s)) largest

-- a number with one digit more, or the largest number where that is larger
abbrev pub with_digit : ℕ → ℕ → ℕ
with_digit n d = min (n * 10 + d) largest

-- a number with one byte more
abbrev pub with_byte : ℕ → ℕ → ℕ
with_byte n b = cond (is_digit b) (with_digit n (b - 48)) n

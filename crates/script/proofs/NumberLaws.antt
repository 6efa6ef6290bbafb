-- Laws of decimal numbers that are cut off at the largest number. Assumes nothing.
use Prim.Native.Nat.{ℕ, ◌+◌, ◌-◌, ◌*◌, ◌^◌, min, ◌≤◌, ◌<◌}
use native.Mathlib.Nat.{pow-succ', mul_assoc, add-mul, mul-le-mul_left, one-le-pow, min-eq_left, min-eq_right, add_assoc}
use native.Mathlib.Omega.{arith}
use mathlib.Core.Bool.{Bool, true, false, cond}
use mathlib.Core.List.{List, [], ◌∷◌}
use mathlib.Core.Path.{◌≡◌, refl, sym, ◌∙◌}
use lib.Dec.{leb}
use lib.ListN.{length}
use borrow.Author.Tests.{leb-true, leb-false}
use Rattle.std.specs.Prelude.{fold}
use Rattle.base.specs.Bytes.{Bytes}
use Rattle.base.specs.Output.{largest}
use Rattle.properties.specs.Decimals.{is_digit}
use Rattle.script.specs.Numbers.{digits_in, decimal, text_number, with_digit, with_byte}

-- ---- one byte more
module _ (n b : ℕ) where
  with-bound : n ≤ largest → with_byte n b ≤ largest
  with-bound h = go (is_digit b)
    where
      go : (t : Bool) → cond t (with_digit n (b - 48)) n ≤ largest
      go true = omega arith
      go false = h

-- ---- all bytes
-- the number of some digits behind a number
abbrev pub number_behind : ℕ → List ℕ → ℕ
number_behind n ds = min (n * 10 ^ length ds + decimal ds) largest

-- a number that was cut off before is cut off behind
cut_off : (m p d : ℕ) → 1 ≤ p → min (m * p + d) largest ≡ min (min m largest * p + d) largest
cut_off m p d h = go (leb m largest) refl
  where
    go : (t : Bool) → leb m largest ≡ t → min (m * p + d) largest ≡ min (min m largest * p + d) largest
    go true e = rw (min-eq_left {n = m} {m = largest} (leb-true m largest e))
    go false e =
        let l : largest < m = leb-false m largest e in
        rw (min-eq_right {n = largest} {m = m} (omega arith)) (omega (arith, mul-le-mul_left m h))

-- one digit more
from_digit : (n d : ℕ) (ds : List ℕ) → number_behind n (d ∷ ds) ≡ number_behind (with_digit n d) ds
unfolding decimal
from_digit n d ds =
    let p = 10 ^ length ds in
    let e : n * (10 * p) + (d * p + decimal ds) ≡ (n * 10 + d) * p + decimal ds =
    rw (add-mul (n * 10) d p, mul_assoc n 10 p, add_assoc (n * (10 * p)) (d * p) (decimal ds)) in
    rw (pow-succ' 10 (length ds), e) (cut_off (n * 10 + d) p (decimal ds) (one-le-pow (length ds) 10 (omega arith)))

-- one byte more
from_byte : (n b : ℕ) (s : Bytes) → number_behind n (digits_in (b ∷ s)) ≡ number_behind (with_byte n b) (digits_in s)
unfolding digits_in
from_byte n b s = go (is_digit b)
  where
    go : (t : Bool) → number_behind n (cond t ((b - 48) ∷ digits_in s) (digits_in s)) ≡ number_behind (cond t (with_digit n (b - 48)) n) (digits_in s)
    go true = from_digit n (b - 48) (digits_in s)
    go false = refl

folded : (n : ℕ) (s : Bytes) → n ≤ largest → fold with_byte n s ≡ number_behind n (digits_in s)
unfolding digits_in decimal
folded n [] h = omega arith
folded n (b ∷ s) h = folded (with_byte n b) s (with-bound n b h) ∙ sym (from_byte n b s)

pub number_folded : (s : Bytes) → fold with_byte 0 s ≡ text_number s
unfolding text_number
number_folded s = folded 0 s (omega arith) ∙ omega arith

-- Laws of decimal numbers. Assumes nothing.
use Rattle.std.specs.Prelude
use Rattle.std.specs.Prelude.{Some, None}
use Prim.Native.Nat.{ℕ, ◌+◌, ◌-◌, ◌*◌, ◌≤◌, ◌<◌}
use native.Mathlib.Numerals.{add-one}
use native.Mathlib.Omega.{arith}
use mathlib.Core.Bool.{Bool, true, false, cond, ◌&&◌}
use mathlib.Core.List.{[], ◌∷◌}
use mathlib.Core.Path.{◌≡◌, refl, sym, ◌∙◌}
use lib.Dec.{leb}
use lib.ListN.{length, get_or, drop, drop_of_length-le}
use lib.Seq.{drop-cons}
use borrow.Author.Tests.{le-leb, lt-leb}
use Rattle.base.specs.Bytes.{Bytes, every}
use Rattle.properties.specs.Decimals.{is_digit, decimal_from, decimal_of}

-- a number only grows with each digit behind it
grows : (s : Bytes) (n : ℕ) → n ≤ decimal_from n s
unfolding decimal_from
grows [] n = omega arith
grows (b ∷ s) n = omega (arith, grows s (n * 10 + (b - 48)))

-- what is left to judge where the digits passed are the number n
abbrev pub digits_left : ℕ → ℕ → Bytes → Prelude.Option ℕ
digits_left most n s = cond (every is_digit s && leb (decimal_from n s) most) (Some (decimal_from n s)) None

module _ (digits most : ℕ) (s : Bytes) where
  pub no_digits : length s ≡ 0 → decimal_of digits most s ≡ None
  unfolding decimal_of
  no_digits h = rw h

  pub too_many : (length s ≡ 0 → ⊥) → digits < length s → decimal_of digits most s ≡ None
  unfolding decimal_of
  too_many h k = rw (le-leb 1 (length s) (omega (arith, h)), lt-leb (length s) digits k)

  pub digits_begin : (length s ≡ 0 → ⊥) → length s ≤ digits → decimal_of digits most s ≡ digits_left most 0 s
  unfolding decimal_of
  digits_begin h k = rw (le-leb 1 (length s) (omega (arith, h)), le-leb (length s) digits k)

-- a scan from the front, i digits being passed that are the number n
module _ (most : ℕ) (s : Bytes) (i n : ℕ) (x : Prelude.Option ℕ) (h : x ≡ digits_left most n (drop i s)) where
  pub digit_turn : i < length s → is_digit (get_or s i 0) ≡ true → x ≡ digits_left most (n * 10 + (get_or s i 0 - 48)) (drop (i + 1) s)
  unfolding decimal_from every
  digit_turn l d = h ∙ rw (drop-cons s i 0 l, d, add-one i)

  pub no_digit : i < length s → is_digit (get_or s i 0) ≡ false → None ≡ x
  unfolding every
  no_digit l d = sym (h ∙ rw (drop-cons s i 0 l, d))

  pub digits_done : length s ≤ i → n ≤ most → Some n ≡ x
  unfolding decimal_from every
  digits_done l k = sym (h ∙ rw (drop_of_length-le s l, le-leb n most k))

  pub too_large : most < n → None ≡ x
  too_large k = sym (h ∙ rw (lt-leb (decimal_from n (drop i s)) most (omega (arith, grows (drop i s) n))) (go (every is_digit (drop i s))))
    where
      go : (t : Bool) → cond (t && false) (Some (decimal_from n (drop i s))) None ≡ None
      go true = refl
      go false = refl

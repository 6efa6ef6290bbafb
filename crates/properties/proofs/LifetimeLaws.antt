-- No lifetime is longer than 86,400 seconds, and no properties are longer than 128 bytes. Assumes nothing.
use Rattle.std.specs.Prelude
use Rattle.std.specs.Prelude.{Some, None}
use Prim.Native.Nat.{ℕ, ◌≤◌}
use native.Mathlib.Omega.{arith}
use mathlib.Core.Bool.{Bool, true, false, cond, ◌&&◌}
use mathlib.Core.List.{List, [], ◌∷◌}
use mathlib.Core.Option.{Option, none, some}
use mathlib.Core.Path.{◌≡◌, refl}
use lib.Dec.{leb}
use lib.ListN.{length}
use borrow.Author.Tests.{leb-true}
use Rattle.base.specs.Bytes.{Bytes, every}
use Rattle.properties.specs.Decimals.{is_digit, decimal_from, decimal_of}
use Rattle.properties.specs.Properties.{Property, seconds_in, lasting, lifetime_of, judged, ttls, properties_in, properties_of, is_good}
use Rattle.properties.specs.declared.read.Lifetime.TheVariants.{Seconds}

decimal-most : (digits most : ℕ) (s : Bytes) (n : ℕ) → decimal_of digits most s ≡ Some n → n ≤ most
unfolding decimal_of
decimal-most digits most s n e = go (leb 1 (length s) && leb (length s) digits) (every is_digit s) (leb (decimal_from 0 s) most) refl e
  where
    go : (a b t : Bool) → leb (decimal_from 0 s) most ≡ t → cond (a && (b && t)) (Some (decimal_from 0 s)) None ≡ Some n → n ≤ most
    go true true true f g = let m : decimal_from 0 s ≡ n = cc in omega (arith, leb-true (decimal_from 0 s) most f)
    go true true false f g = absurd (let z : ◌≡◌ {A = ℕ} 0 1 = cc in omega arith)
    go true false t f g = absurd (let z : ◌≡◌ {A = ℕ} 0 1 = cc in omega arith)
    go false b t f g = absurd (let z : ◌≡◌ {A = ℕ} 0 1 = cc in omega arith)

lasting-most : (value : Bytes) (d : Prelude.Option ℕ) (n : ℕ) → seconds_in value ≡ d → lasting d ≡ Some (Seconds n) → n ≤ 86400
lasting-most value (Some m) n e g = let i : m ≡ n = cc in omega (arith, decimal-most 5 86400 value m e)
lasting-most value None n e g = absurd (let z : ◌≡◌ {A = ℕ} 0 1 = cc in omega arith)

lifetime_most : (values : List Bytes) (n : ℕ) → lifetime_of values ≡ Some (Seconds n) → n ≤ 86400
lifetime_most [] n e = absurd (let z : ◌≡◌ {A = ℕ} 0 1 = cc in omega arith)
lifetime_most (value ∷ []) n e = lasting-most value (seconds_in value) n refl e
lifetime_most (v ∷ w ∷ values) n e = absurd (let z : ◌≡◌ {A = ℕ} 0 1 = cc in omega arith)

pub seconds_most : (s : Bytes) (n : ℕ) → properties_of s ≡ Some (Seconds n) → n ≤ 86400
unfolding properties_of
seconds_most s n e = go (leb (length s) 128) (properties_in s) e
  where
    go : (t : Bool) (x : Option (List Property)) → cond t (judged x) None ≡ Some (Seconds n) → n ≤ 86400
    go true none f = absurd (let z : ◌≡◌ {A = ℕ} 0 1 = cc in omega arith)
    go true (some ps) f = lifetime_most (ttls ps) n f
    go false x f = absurd (let z : ◌≡◌ {A = ℕ} 0 1 = cc in omega arith)

pub good_length : (s : Bytes) → is_good (properties_of s) ≡ true → length s ≤ 128
unfolding properties_of
good_length s e = go (leb (length s) 128) refl e
  where
    go : (t : Bool) → leb (length s) 128 ≡ t → is_good (cond t (judged (properties_in s)) None) ≡ true → length s ≤ 128
    go true f g = leb-true (length s) 128 f
    go false f g = absurd (let z : ◌≡◌ {A = ℕ} 0 1 = cc in omega arith)

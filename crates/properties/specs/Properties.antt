-- Properties are lines: each a name, an equals sign and a value, and ended by a newline. They take 128 bytes at most.
-- One of them may be named ttl, and says how many seconds a row lives, in up to five digits.
use Rattle.std.specs.Prelude
use Rattle.std.specs.Prelude.{ℕ, Bool, true, false, cond, not, ◌&&◌, List, [], ◌∷◌, leb, length, Some, None}
use Rattle.std.proofs.Math.Option.{Option, none, some, map}
use Rattle.base.specs.Bytes.{Bytes, ascii, is_nil, same, holds}
use Rattle.base.specs.Cuts.{before, behind, pieces}
use Rattle.properties.specs.Decimals.{decimal_of}
use Rattle.properties.specs.declared.read.Lifetime.TheVariants.{Unlimited, Seconds}
use Rattle.properties.specs.declared.read.Lifetime.{Lifetime}

pub record Property : Type 0 where
  pub name : Bytes
  pub value : Bytes

-- the lines of a text, each without its newline; none where the last one lacks it
abbrev pub ended : List Bytes → Option (List Bytes)
ended [] = none
ended (last ∷ []) = cond (is_nil last) (some []) none
ended (line ∷ next ∷ others) = map (λ (lines : List Bytes). line ∷ lines) (ended (next ∷ others))

abbrev pub lines_in : Bytes → Option (List Bytes)
lines_in s = ended (pieces 10 s)

-- a line as a property: its name ends at the first equals sign
unfoldable pub property_in : Bytes → Option Property
property_in line =
    cond (not (holds 0 line) && (holds 61 line && not (is_nil (before 61 line)))) (some (record { name = before 61 line; value = behind 61 line })) none

-- one property for each line; none where a line is no property
abbrev pub together : Option Property → Option (List Property) → Option (List Property)
together none ps = none
together (some p) none = none
together (some p) (some ps) = some (p ∷ ps)

abbrev pub each : List Bytes → Option (List Property)
each [] = some []
each (line ∷ lines) = together (property_in line) (each lines)

abbrev pub each_of : Option (List Bytes) → Option (List Property)
each_of none = none
each_of (some lines) = each lines

-- the properties of a text; none where it is malformed
unfoldable pub properties_in : Bytes → Option (List Property)
properties_in s = each_of (lines_in s)

-- ---- the lifetime
-- the values of the properties named ttl
unfoldable pub ttls : List Property → List Bytes
ttls [] = []
ttls (p ∷ ps) = cond (same (ascii "ttl") p.name) (p.value ∷ ttls ps) (ttls ps)

-- the seconds of a ttl
abbrev pub seconds_in : Bytes → Prelude.Option ℕ
seconds_in value = decimal_of 5 86400 value

abbrev pub lasting : Prelude.Option ℕ → Prelude.Option Lifetime
lasting (Some n) = Some (Seconds n)
lasting None = None

-- no ttl, or one
abbrev pub lifetime_of : List Bytes → Prelude.Option Lifetime
lifetime_of [] = Some Unlimited
lifetime_of (value ∷ []) = lasting (seconds_in value)
lifetime_of (_ ∷ _ ∷ _) = None

abbrev pub judged : Option (List Property) → Prelude.Option Lifetime
judged none = None
judged (some ps) = lifetime_of (ttls ps)

-- what a properties frame says
unfoldable pub properties_of : Bytes → Prelude.Option Lifetime
properties_of s = cond (leb (length s) 128) (judged (properties_in s)) None

-- the seconds of a lifetime; 0 where it is unlimited
abbrev pub seconds_of : Lifetime → ℕ
seconds_of Unlimited = 0
seconds_of (Seconds n) = n

abbrev pub is_good : Prelude.Option Lifetime → Bool
is_good (Some l) = true
is_good None = false

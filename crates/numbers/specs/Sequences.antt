-- Sequence numbers, which are written as eight octets and kept up to 2^63 - 1.
use Rattle.std.specs.Prelude.{ℕ, suc, Bool, cond, leb, ltb, eqb, length, Option, Some, None}
use Rattle.base.specs.Bytes.{Bytes}
use Rattle.base.specs.Octets.{number}
use Rattle.numbers.specs.declared.sequence.Sequence.{Sequence}

abbrev pub max_sequence : ℕ
max_sequence = 9223372036854775807

-- a number as a sequence
abbrev pub sequence : ℕ → Sequence
sequence n = record { 0 = n }

-- what a sequence frame says: eight octets are a number
abbrev pub is_sequence : Bytes → Bool
is_sequence s = eqb (length s) 8

abbrev pub numbered_of : Bytes → Option Sequence
numbered_of s = cond (is_sequence s) (Some (sequence (number s))) None

abbrev pub is_kept : Sequence → Bool
is_kept n = leb n.0 max_sequence

-- the number of the next update: one more, up to the last
abbrev pub following_of : ℕ → Option Sequence
following_of n = cond (ltb n max_sequence) (Some (sequence (suc n))) None

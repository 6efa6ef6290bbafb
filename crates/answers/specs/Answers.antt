-- Answers as numbers: the kind, the number of the state after the call, and the refusal.
use Rattle.std.specs.Prelude.{ℕ, length}
use Rattle.std.proofs.Math.Option.{Option, none, some}
use Rattle.answers.specs.Refusals.{refusal_number}
use Rattle.answers.specs.declared.answer.Answer.{Answer}
use Rattle.answers.specs.declared.answer.Kind.TheVariants.{Refused, Started, Applied, Stale, Outside, Synced, Live, Heard, Wrote, Nothing, Found, Absent, Present, Gone}
use Rattle.answers.specs.declared.answer.Kind.{Kind}
use Rattle.answers.specs.declared.refusal.Refusal.{Refusal}
use Rattle.base.specs.Bytes.{Bytes}
use Rattle.numbers.specs.declared.sequence.Sequence.{Sequence}

abbrev pub answer : Kind → ℕ → Answer
answer kind written = record { kind = kind; written = written }

-- what a call answers that may have been refused: a refused one tells the number of the state that it was given, and an accepted one its kind and how
-- many bytes it wrote
abbrev pub answer_by : Option Refusal → Sequence → Kind → Bytes → Answer
answer_by none number kind bytes = answer kind (length bytes)
answer_by (some r) number kind bytes = answer (Refused r number) 0

-- the number by which hosts know each kind
abbrev pub kind_number : Kind → ℕ
kind_number (Refused r n) = 0
kind_number (Started n) = 1
kind_number (Applied n) = 2
kind_number (Stale n) = 3
kind_number (Outside n) = 4
kind_number (Synced n) = 5
kind_number (Live n) = 6
kind_number (Heard n) = 7
kind_number (Wrote n) = 8
kind_number (Nothing n) = 9
kind_number (Found n) = 10
kind_number (Absent n) = 11
kind_number (Present n) = 12
kind_number (Gone n) = 13

-- the number of the state after the call
abbrev pub sequence_in : Kind → Sequence
sequence_in (Refused r n) = n
sequence_in (Started n) = n
sequence_in (Applied n) = n
sequence_in (Stale n) = n
sequence_in (Outside n) = n
sequence_in (Synced n) = n
sequence_in (Live n) = n
sequence_in (Heard n) = n
sequence_in (Wrote n) = n
sequence_in (Nothing n) = n
sequence_in (Found n) = n
sequence_in (Absent n) = n
sequence_in (Present n) = n
sequence_in (Gone n) = n

-- the number of the refusal; 0 where the call is accepted
abbrev pub refusal_in : Kind → ℕ
refusal_in (Refused r n) = refusal_number r
refusal_in (Started n) = 0
refusal_in (Applied n) = 0
refusal_in (Stale n) = 0
refusal_in (Outside n) = 0
refusal_in (Synced n) = 0
refusal_in (Live n) = 0
refusal_in (Heard n) = 0
refusal_in (Wrote n) = 0
refusal_in (Nothing n) = 0
refusal_in (Found n) = 0
refusal_in (Absent n) = 0
refusal_in (Present n) = 0
refusal_in (Gone n) = 0

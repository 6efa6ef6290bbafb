-- The refusals, their numbers, and what a table of checks comes to.
use Rattle.std.specs.Prelude.{ℕ, Result, Ok, Err}
use Rattle.std.proofs.Math.Option.{Option, none, some}
use Rattle.answers.specs.declared.refusal.Refusal.TheVariants.{Framing, FrameCount, Word, BadKey, BadSubtree, BadSequence, BadUuid, BadProperties, BadValue, BadTick, Full, Exhausted, Phase, ShortOutput, BadIdentity, IllFormed}
use Rattle.answers.specs.declared.refusal.Refusal.{Refusal}

-- the number of each refusal
abbrev pub refusal_number : Refusal → ℕ
refusal_number Framing = 1
refusal_number FrameCount = 2
refusal_number Word = 3
refusal_number BadKey = 4
refusal_number BadSubtree = 5
refusal_number BadSequence = 6
refusal_number BadUuid = 7
refusal_number BadProperties = 8
refusal_number BadValue = 9
refusal_number BadTick = 10
refusal_number Full = 11
refusal_number Exhausted = 12
refusal_number Phase = 13
refusal_number ShortOutput = 14
refusal_number BadIdentity = 15
refusal_number IllFormed = 16

-- what is refused with, if anything, as the code tells it
abbrev pub verdict : Option Refusal → Result (Unit {0}) Refusal
verdict none = Ok tt
verdict (some r) = Err r

-- the number of a verdict's refusal; 0 where it accepts
abbrev pub verdict_number : Result (Unit {0}) Refusal → ℕ
verdict_number (Ok _) = 0
verdict_number (Err r) = refusal_number r

-- what holds after a call that is accepted, and after one that is refused
abbrev pub if_accepted : {A : Type 0} → Option Refusal → A → A → A
if_accepted none accepted refused = accepted
if_accepted (some r) accepted refused = refused

-- The start of a server: a number and a tick, and no rows. Refused, it is at number 0 and tick 0.
use Rattle.std.specs.Prelude.{ℕ, not, List, [], ◌∷◌, leb}
use Rattle.std.proofs.Math.Option.{Option, none, some}
use Rattle.answers.specs.Refusals.{if_accepted}
use Rattle.answers.specs.Answers.{answer}
use Rattle.answers.specs.declared.answer.Answer.{Answer}
use Rattle.answers.specs.declared.answer.Kind.TheVariants.{Refused, Started}
use Rattle.answers.specs.declared.refusal.Refusal.TheVariants.{BadSequence, BadTick}
use Rattle.answers.specs.declared.refusal.Refusal.{Refusal}
use Rattle.base.specs.Checks.Check.{when}
use Rattle.base.specs.Checks.{Check, first_refusal}
use Rattle.numbers.specs.Sequences.{sequence, max_sequence}
use Rattle.numbers.specs.Ticks.{max_tick}
use Rattle.server_state.specs.Views.{Entry, Ledger}

abbrev pub start_checks : ℕ → ℕ → List (Check Refusal)
start_checks n t =
    when (not (leb n max_sequence)) BadSequence
    ∷ when (not (leb t max_tick)) BadTick
    ∷ []

unfoldable pub start_refusal : ℕ → ℕ → Option Refusal
start_refusal n t = first_refusal (start_checks n t)

-- no rows; nothing was published before
abbrev pub empty_at : ℕ → ℕ → Ledger Entry
empty_at n t = record { number = n; last_tick = t; last_published = t; rows = [] }

unfoldable pub start_of : ℕ → ℕ → Ledger Entry
start_of n t = if_accepted (start_refusal n t) (empty_at n t) (empty_at 0 0)

abbrev pub start_answer_by : Option Refusal → ℕ → Answer
start_answer_by none n = answer (Started (sequence n)) 0
start_answer_by (some r) n = answer (Refused r (sequence 0)) 0

unfoldable pub start_answer : ℕ → ℕ → Answer
start_answer n t = start_answer_by (start_refusal n t) n

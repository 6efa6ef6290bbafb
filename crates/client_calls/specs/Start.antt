-- The start of a client: a subtree and a tick; it waits, has no rows, and is at number 0. Refused, its subtree is empty
-- and its tick is 0.
use Rattle.std.specs.Prelude.{ℕ, false, not, List, [], ◌∷◌, leb}
use Rattle.std.proofs.Math.Option.{Option, none, some}
use Rattle.answers.specs.Answers.{answer}
use Rattle.answers.specs.Refusals.{if_accepted}
use Rattle.answers.specs.declared.answer.Answer.{Answer}
use Rattle.answers.specs.declared.answer.Kind.TheVariants.{Refused, Started}
use Rattle.answers.specs.declared.refusal.Refusal.TheVariants.{BadSubtree, BadTick}
use Rattle.answers.specs.declared.refusal.Refusal.{Refusal}
use Rattle.base.specs.Bytes.{Bytes}
use Rattle.base.specs.Checks.Check.{when}
use Rattle.base.specs.Checks.{Check, first_refusal}
use Rattle.client_state.specs.Views.{Replica}
use Rattle.keys.specs.Keys.{is_subtree}
use Rattle.numbers.specs.Sequences.{sequence}
use Rattle.numbers.specs.Ticks.{max_tick}

abbrev pub start_checks : Bytes → ℕ → List (Check Refusal)
start_checks subtree t =
    when (not (is_subtree subtree)) BadSubtree
    ∷ when (not (leb t max_tick)) BadTick
    ∷ []

unfoldable pub start_refusal : Bytes → ℕ → Option Refusal
start_refusal subtree t = first_refusal (start_checks subtree t)

-- a client that waits
abbrev pub waiting_at : Bytes → ℕ → Replica
waiting_at subtree t = record { live = false; number = 0; clock = t; subtree = subtree; rows = [] }

unfoldable pub start_of : Bytes → ℕ → Replica
start_of subtree t = if_accepted (start_refusal subtree t) (waiting_at subtree t) (waiting_at [] 0)

abbrev pub start_answer_by : Option Refusal → Answer
start_answer_by none = answer (Started (sequence 0)) 0
start_answer_by (some r) = answer (Refused r (sequence 0)) 0

unfoldable pub start_answer : Bytes → ℕ → Answer
start_answer subtree t = start_answer_by (start_refusal subtree t)

-- A Tick that is repeated at the same tick, with no call between: what it makes of a ledger, and by when it has nothing left to do.
use Rattle.std.specs.Prelude.{ℕ, zero, suc, ◌≤◌, ◌≡◌}
use Rattle.std.proofs.Math.Option.{none, some}
use Rattle.answers.specs.Refusals.{if_accepted}
use Rattle.answers.specs.Answers.{answer}
use Rattle.answers.specs.declared.answer.Answer.{Answer}
use Rattle.answers.specs.declared.answer.Kind.TheVariants.{Refused, Nothing}
use Rattle.answers.specs.declared.refusal.Refusal.TheVariants.{Exhausted}
use Rattle.base.specs.Bytes.{Bytes}
use Rattle.base.specs.Checks.{first_refusal}
use Rattle.server_calls.specs.Calls.{tick}
use Rattle.server_calls.specs.Deeds.{quiet, deed}
use Rattle.server_calls.specs.Next.{accepted_next}
use Rattle.server_calls.specs.Promises.{Answered}
use Rattle.server_calls.specs.Refusals.{call_checks}
use Rattle.server_state.specs.Views.{Entry, Ledger, ledger_of}
use Rattle.server_state.specs.declared.Server.{Server}

-- what a Tick at tick t with `room` bytes of output makes of a ledger
unfoldable pub tick_step : ℕ → ℕ → Ledger Entry → Ledger Entry
tick_step t room v = if_accepted (first_refusal (call_checks (ledger_of v) (tick t room))) (accepted_next v (tick t room)) v

-- what k of them make of it
unfoldable pub ticked : ℕ → ℕ → ℕ → Ledger Entry → Ledger Entry
ticked zero t room v = v
ticked (suc k) t room v = ticked k t room (tick_step t room v)

-- after at most so many of them the next one is accepted and has nothing to do, or is refused for want of a number
pub data QuietBy (most t room : ℕ) (v : Ledger Entry) : Type 0 where
  quietens : (k : ℕ) → k ≤ most → first_refusal (call_checks (ledger_of (ticked k t room v)) (tick t room)) ≡ none
      → deed (ledger_of (ticked k t room v)) t ≡ quiet → QuietBy most t room v
  stops : (k : ℕ) → k ≤ most → first_refusal (call_checks (ledger_of (ticked k t room v)) (tick t room)) ≡ some Exhausted → QuietBy most t room v

-- ---- the same for the calls on a server: the states, the outputs before and after each call, and the answers
pub record Ticking (t room : ℕ) (state : ℕ → Server) (out : ℕ → Bytes) (given : ℕ → Answer) (out' : ℕ → Bytes) : Type 0 where
  pub each : (k : ℕ) → Answered (state k) (tick t room) (out k) (state (suc k)) (given k) (out' k)

-- after at most so many calls the next one answers Nothing and leaves its output, or is refused for want of a number
pub data SilentBy (most : ℕ) (state : ℕ → Server) (out : ℕ → Bytes) (given : ℕ → Answer) (out' : ℕ → Bytes) : Type 0 where
  silent : (k : ℕ) → k ≤ most → given k ≡ answer (Nothing (state k).header.number) 0 → out' k ≡ out k → SilentBy most state out given out'
  spent : (k : ℕ) → k ≤ most → given k ≡ answer (Refused Exhausted (state k).header.number) 0 → SilentBy most state out given out'

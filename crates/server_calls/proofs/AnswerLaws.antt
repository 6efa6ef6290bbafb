-- Laws of what a call promises that are the same for every call: what a refused call gives, what an accepted one, and
-- when a table of checks comes to the refusal of a call. Assumes nothing.
use mathlib.Core.List.{List, ◌++◌}
use mathlib.Core.Option.{none, some}
use mathlib.Core.Path.{◌≡◌, refl}
use lib.ListN.{length}
use Rattle.answers.proofs.PromiseLaws.{settle_refused, settle_accepted}
use Rattle.answers.specs.Answers.{answer}
use Rattle.answers.specs.declared.answer.Answer.{Answer}
use Rattle.answers.specs.declared.answer.Kind.TheVariants.{Refused}
use Rattle.answers.specs.declared.refusal.Refusal.{Refusal}
use Rattle.base.proofs.CheckLaws.{pass_all, same-behind}
use Rattle.base.specs.Bytes.{Bytes}
use Rattle.base.specs.Checks.{Check, first_refusal}
use Rattle.base.specs.Output.{put}
use Rattle.server_calls.specs.Answers.{accepted_kind, answer_for}
use Rattle.server_calls.specs.Calls.{Call}
use Rattle.server_calls.specs.Next.{accepted_next, next_of}
use Rattle.server_calls.specs.Output.{accepted_bytes, bytes_for}
use Rattle.server_calls.specs.Promises.{Answered}
use Rattle.server_calls.specs.Refusals.{call_checks, refusal_of}
use Rattle.server_state.specs.IllFormed.{ill_forms, WellFormed}
use Rattle.server_state.specs.Views.{view, ledger_of}
use Rattle.server_state.specs.declared.Server.{Server}

module _ (s : Server) (x : Call) (out : Bytes) (s' : Server) (a : Answer) where
  -- a refused call: the state and the output as they were, and the answer with the state's own number
  pub refused_call : (reason : Refusal) → refusal_of s x ≡ some reason → s' ≡ s → a ≡ answer (Refused reason s.header.number) 0 → Answered s x out s' a out
  unfolding answer_for next_of bytes_for
  refused_call reason e kept told =
      settle_refused view WellFormed (refusal_of s x) s.header.number (accepted_kind (view s) x) (accepted_next (view s) x) (accepted_bytes (view s) x) s out s' a out reason e kept told refl

  -- an accepted call: the answer, the ledger and the bytes of an accepted call, and a state that stays well-formed
  pub accepted_call : (out' : Bytes) → refusal_of s x ≡ none → a ≡ answer (accepted_kind (view s) x) (length (accepted_bytes (view s) x)) → view s' ≡ accepted_next (view s) x
      → out' ≡ put out 0 (accepted_bytes (view s) x) → (WellFormed s → WellFormed s') → Answered s x out s' a out'
  unfolding answer_for next_of bytes_for
  accepted_call out' e told became written stays =
      settle_accepted view WellFormed (refusal_of s x) s.header.number (accepted_kind (view s) x) (accepted_next (view s) x) (accepted_bytes (view s) x) s out s' a out' e told became written stays

-- on a well-formed state only the checks of the call refuse
pub well_refusal : (s : Server) (x : Call) → WellFormed s → refusal_of s x ≡ first_refusal (call_checks (ledger_of (view s)) x)
unfolding refusal_of
well_refusal s x w = pass_all (ill_forms s) (call_checks (ledger_of (view s)) x) w

-- a table behind the test of the state: it comes to the refusal of a call if it does so wherever the state is well-formed
pub refusal_is : (s : Server) (x : Call) (checks : List (Check Refusal)) → (WellFormed s → first_refusal checks ≡ first_refusal (call_checks (ledger_of (view s)) x))
    → first_refusal (ill_forms s ++ checks) ≡ refusal_of s x
unfolding refusal_of
refusal_is s x checks same = same-behind (ill_forms s) checks (call_checks (ledger_of (view s)) x) same

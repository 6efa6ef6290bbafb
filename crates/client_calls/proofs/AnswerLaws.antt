-- Laws of what a call promises that are the same for every call: what a refused call gives, what an accepted one, and
-- what refuses at an ill-formed state and at a well-formed one. Assumes nothing.
use mathlib.Core.Option.{none, some}
use mathlib.Core.Path.{◌≡◌, refl}
use lib.ListN.{length}
use Rattle.answers.proofs.PromiseLaws.{settle_refused, settle_accepted}
use Rattle.answers.specs.Answers.{answer}
use Rattle.answers.specs.declared.answer.Answer.{Answer}
use Rattle.answers.specs.declared.answer.Kind.TheVariants.{Refused}
use Rattle.answers.specs.declared.refusal.Refusal.{Refusal}
use Rattle.base.proofs.CheckLaws.{pass_all, stop_all}
use Rattle.base.specs.Bytes.{Bytes}
use Rattle.base.specs.Checks.{first_refusal}
use Rattle.base.specs.Output.{put}
use Rattle.client_calls.specs.Answers.{accepted_kind, answer_for}
use Rattle.client_calls.specs.Calls.{Call}
use Rattle.client_calls.specs.Next.{accepted_next, next_of}
use Rattle.client_calls.specs.Output.{accepted_bytes, bytes_for}
use Rattle.client_calls.specs.Promises.{Answered}
use Rattle.client_calls.specs.Refusals.{call_checks, refusal_of}
use Rattle.client_state.specs.IllFormed.{ill_forms, WellFormed}
use Rattle.client_state.specs.Views.{view}
use Rattle.client_state.specs.declared.Client.{Client}

module _ (c : Client) (x : Call) (out : Bytes) (c' : Client) (a : Answer) where
  -- a refused call: the state and the output as they were, and the answer with the state's own number
  pub refused_call : (reason : Refusal) → refusal_of c x ≡ some reason → c' ≡ c → a ≡ answer (Refused reason c.header.number) 0 → Answered c x out c' a out
  unfolding answer_for next_of bytes_for
  refused_call reason e kept told =
      settle_refused view WellFormed (refusal_of c x) c.header.number (accepted_kind (view c) x) (accepted_next (view c) x) (accepted_bytes (view c) x) c out c' a out reason e kept told refl

  -- an accepted call: the answer, the replica and the bytes of an accepted call, and a state that stays well-formed
  pub accepted_call : (out' : Bytes) → refusal_of c x ≡ none → a ≡ answer (accepted_kind (view c) x) (length (accepted_bytes (view c) x)) → view c' ≡ accepted_next (view c) x
      → out' ≡ put out 0 (accepted_bytes (view c) x) → (WellFormed c → WellFormed c') → Answered c x out c' a out'
  unfolding answer_for next_of bytes_for
  accepted_call out' e told became written stays =
      settle_accepted view WellFormed (refusal_of c x) c.header.number (accepted_kind (view c) x) (accepted_next (view c) x) (accepted_bytes (view c) x) c out c' a out' e told became written stays

module _ (c : Client) (x : Call) where
  -- an ill-formed state refuses every call
  pub ill_refusal : {r : Refusal} → first_refusal (ill_forms c) ≡ some r → refusal_of c x ≡ some r
  unfolding refusal_of
  ill_refusal {r} e = stop_all (ill_forms c) (call_checks (view c) x) r e

  -- on a well-formed state only the checks of the call refuse
  pub well_refusal : WellFormed c → refusal_of c x ≡ first_refusal (call_checks (view c) x)
  unfolding refusal_of
  well_refusal w = pass_all (ill_forms c) (call_checks (view c) x) w

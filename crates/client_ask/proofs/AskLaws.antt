-- Laws of asking whether the server is gone. Assumes nothing.
use Prim.Native.Nat.{ℕ, ◌-◌, ◌≤◌, ◌<◌}
use mathlib.Core.List.{[], ◌++◌}
use mathlib.Core.Option.{none}
use mathlib.Core.Path.{◌≡◌, refl, sym, ◌∙◌}
use borrow.Author.Tests.{lt-ltb, le-ltb}
use Rattle.std.specs.Prelude.{Result, Ok, Err}
use Rattle.answers.proofs.VerdictLaws.{accepted, refused}
use Rattle.answers.specs.Answers.{answer}
use Rattle.answers.specs.Refusals.{verdict}
use Rattle.answers.specs.declared.answer.Answer.{Answer}
use Rattle.answers.specs.declared.answer.Kind.TheVariants.{Refused, Present, Gone}
use Rattle.answers.specs.declared.refusal.Refusal.{Refusal}
use Rattle.base.specs.Checks.{first_refusal}
use Rattle.base.specs.Output.{put}
use Rattle.client_calls.proofs.QueryLaws.{query_refused, query_accepted}
use Rattle.client_calls.specs.Calls.{ask}
use Rattle.client_calls.specs.Next.{accepted_next}
use Rattle.client_calls.specs.Output.{accepted_bytes}
use Rattle.client_calls.specs.Promises.{Answered}
use Rattle.client_calls.specs.Refusals.{call_checks, refusal_of}
use Rattle.client_state.specs.IllFormed.{ill_forms}
use Rattle.client_state.specs.Views.{view}
use Rattle.client_state.specs.declared.Client.{Client}
use Rattle.ports.specs.Ports.{tick_checks}

-- of what is checked
module _ (c : Client) (t : ℕ) {v : Result (Unit {0}) Refusal} (is : v ≡ verdict (first_refusal (ill_forms c ++ tick_checks c.header.clock.0 t))) where
  pub ask-refused : {r : Refusal} → v ≡ Err r → {a : Answer} → a ≡ answer (Refused r c.header.number) 0 → Answered c (ask t) [] c a []
  unfolding refusal_of call_checks view
  ask-refused e told = query_refused c (ask t) [] (refused _ _ (sym e ∙ is)) told

  passes : v ≡ Ok tt → refusal_of c (ask t) ≡ none
  unfolding refusal_of call_checks view
  passes ok = accepted _ (sym ok ∙ is)

  module _ (ok : v ≡ Ok tt) {silent : ℕ} (silent-is : silent ≡ t - c.header.clock.0) {a : Answer} where
    pub is_gone : 5000 < silent → a ≡ answer (Gone c.header.number) 0 → Answered c (ask t) [] c a []
    unfolding accepted_next accepted_bytes view put
    is_gone h told = query_accepted c (ask t) [] [] (passes ok) refl (told ∙ rw (← silent-is, lt-ltb 5000 silent h)) refl

    pub is_present : silent ≤ 5000 → a ≡ answer (Present c.header.number) 0 → Answered c (ask t) [] c a []
    unfolding accepted_next accepted_bytes view put
    is_present h told = query_accepted c (ask t) [] [] (passes ok) refl (told ∙ rw (← silent-is, le-ltb 5000 silent h)) refl

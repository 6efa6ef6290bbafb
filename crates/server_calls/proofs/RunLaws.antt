-- The states that a server comes to are well-formed, so that no call on one is refused as ill-formed: of the checks only those of the state
-- refuse so. Assumes nothing.
use Prim.Native.Nat.{ℕ}
use mathlib.Core.Bool.{true}
use mathlib.Core.List.{◌++◌}
use mathlib.Core.Option.{some}
use mathlib.Core.Path.{◌≡◌, refl, sym, ◌∙◌}
use Rattle.answers.proofs.RefusalLaws.{spares, none_ill}
use Rattle.answers.specs.declared.refusal.Refusal.TheVariants.{IllFormed}
use Rattle.ports.specs.Ports.{tick_checks}
use Rattle.server_calls.proofs.AnswerLaws.{well_refusal}
use Rattle.server_calls.specs.Calls.{Call, kvset, tick, icanhaz}
use Rattle.server_calls.specs.Deeds.{Deed, expire, beat, quiet, deed}
use Rattle.server_calls.specs.Refusals.{deed_checks, call_checks, refusal_of}
use Rattle.server_calls.specs.Runs.Reached.{began, called}
use Rattle.server_calls.specs.Runs.{Reached}
use Rattle.server_state.specs.IllFormed.{WellFormed}
use Rattle.server_state.specs.Views.{Held, Ledger, view, ledger_of}
use Rattle.server_state.specs.declared.Server.{Server}

-- ---- every state that is reached is well-formed
pub reached_well_formed : {s : Server} → Reached s → WellFormed s
reached_well_formed (began n t s a b) = b.well_formed
reached_well_formed (called s x out s' a out' p q) = q.well_formed (reached_well_formed p)

-- ---- what refuses with another reason
deed_spares : (n last t room : ℕ) (d : Deed) → spares (tick_checks last t ++ deed_checks n d room) ≡ true
deed_spares n last t room (expire key) = refl
deed_spares n last t room beat = refl
deed_spares n last t room quiet = refl

call_spares : (b : Ledger Held) (x : Call) → spares (call_checks b x) ≡ true
unfolding call_checks
call_spares b (kvset msg t room) = refl
call_spares b (tick t room) = deed_spares b.number b.last_tick t room (deed b t)
call_spares b (icanhaz msg room) = refl

-- ---- calls on a well-formed state
pub not_ill_formed : (s : Server) (x : Call) → WellFormed s → refusal_of s x ≡ some IllFormed → ⊥
not_ill_formed s x w e = none_ill (call_checks (ledger_of (view s)) x) (call_spares (ledger_of (view s)) x) (sym (well_refusal s x w) ∙ e)

pub never_ill_formed : {s : Server} → Reached s → (x : Call) → refusal_of s x ≡ some IllFormed → ⊥
never_ill_formed {s} p x e = not_ill_formed s x (reached_well_formed p) e

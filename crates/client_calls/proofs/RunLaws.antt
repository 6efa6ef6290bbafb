-- The states that a client comes to are well-formed, so that no call on one is refused as ill-formed: of the checks
-- only those of the state refuse so. Assumes nothing.
use mathlib.Core.Bool.{Bool, true, false, not, cond}
use mathlib.Core.List.{List, [], ◌++◌}
use mathlib.Core.Option.{some}
use mathlib.Core.Path.{◌≡◌, refl, sym, ◌∙◌}
use lib.ListN.{length}
use Rattle.answers.proofs.RefusalLaws.{spares, none_ill}
use Rattle.answers.specs.declared.refusal.Refusal.TheVariants.{IllFormed}
use Rattle.answers.specs.declared.refusal.Refusal.{Refusal}
use Rattle.base.specs.Bytes.{Bytes, same}
use Rattle.base.specs.Checks.{Check}
use Rattle.client_state.specs.IllFormed.{WellFormed}
use Rattle.client_state.specs.Views.{Replica, view}
use Rattle.client_state.specs.declared.Client.{Client}
use Rattle.client_calls.proofs.AnswerLaws.{well_refusal}
use Rattle.client_calls.specs.Calls.{Call, snapshot, subscriber, write_icanhaz, write_kvset, ask, lookup}
use Rattle.client_calls.specs.Effects.{snapshot_effect, subscriber_effect}
use Rattle.client_calls.specs.Refusals.{effect_checks, time_checks, call_checks, refusal_of}
use Rattle.client_calls.specs.Runs.Reached.{began, called}
use Rattle.client_calls.specs.Runs.{Reached}
use Rattle.messages.specs.Fields.{fields_of}
use Rattle.frame_forms.specs.Words.{word_kthxbai, word_hugz}
use Rattle.ports.specs.Ports.{kthxbai_checks, kvsync_checks, hugz_checks, kvpub_checks, tick_checks}
use Rattle.rows.specs.Rows.{has_key}

-- ---- every state that is reached is well-formed
pub reached_well_formed : {c : Client} → Reached c → WellFormed c
reached_well_formed (began subtree t c a b) = b.well_formed
reached_well_formed (called c x out c' a out' p q) = q.well_formed (reached_well_formed p)

-- ---- what refuses with another reason
-- by the word in front
either : (b : Bool) (x y rest : List (Check Refusal)) → spares (x ++ rest) ≡ true → spares (y ++ rest) ≡ true → spares (cond b x y ++ rest) ≡ true
either true x y rest p q = p
either false x y rest p q = q

call_spares : (v : Replica) (x : Call) → spares (call_checks v x) ≡ true
unfolding call_checks
call_spares v (snapshot msg) =
    either (same word_kthxbai (fields_of msg).head) (kthxbai_checks v.subtree (fields_of msg)) (kvsync_checks v.subtree (fields_of msg))
    (effect_checks v.live (λ (k : Bytes). has_key k v.rows) (length v.rows) (snapshot_effect (fields_of msg))) refl refl
call_spares v (subscriber msg t) =
    let beats = same word_hugz (fields_of msg).head in
    let effect = effect_checks (not v.live) (λ (k : Bytes). has_key k v.rows) (length v.rows) (subscriber_effect v.number v.subtree (fields_of msg) t) in
    let rest = either beats (tick_checks v.clock t) [] effect refl refl in
    either beats (hugz_checks (fields_of msg)) (kvpub_checks (fields_of msg)) (time_checks v.clock (fields_of msg) t ++ effect) rest rest
call_spares v (write_icanhaz room) = refl
call_spares v (write_kvset key uuid properties value room) = refl
call_spares v (ask t) = refl
call_spares v (lookup key room) = refl

-- ---- calls on a well-formed state
pub not_ill_formed : (c : Client) (x : Call) → WellFormed c → refusal_of c x ≡ some IllFormed → ⊥
not_ill_formed c x w e = none_ill (call_checks (view c) x) (call_spares (view c) x) (sym (well_refusal c x w) ∙ e)

pub never_ill_formed : {c : Client} → Reached c → (x : Call) → refusal_of c x ≡ some IllFormed → ⊥
never_ill_formed {c} p x e = not_ill_formed c x (reached_well_formed p) e

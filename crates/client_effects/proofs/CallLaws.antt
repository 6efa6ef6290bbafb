-- Laws of the calls that hand in a message: the checks of the code come to the refusal of the call, and a message that
-- passes them all is known to be good. Assumes nothing.
use Prim.Native.Nat.{ℕ}
use mathlib.Core.Bool.{Bool, false}
use mathlib.Core.List.{List, [], ◌++◌}
use mathlib.Core.Option.{Option, none, some}
use mathlib.Core.Path.{◌≡◌, refl, sym, ap, ◌∙◌}
use lib.ListN.{length}
use Rattle.std.specs.Prelude.{Result, Err}
use Rattle.answers.specs.declared.refusal.Refusal.{Refusal}
use Rattle.base.proofs.CheckLaws.{passed, pass_all, stop_all, both_passed}
use Rattle.base.specs.Bytes.{Bytes}
use Rattle.base.specs.Checks.{Check, first_refusal}
use Rattle.client_calls.proofs.AnswerLaws.{ill_refusal, well_refusal}
use Rattle.client_calls.proofs.MessageLaws.{Sound}
use Rattle.client_calls.specs.Answers.{effect_kind, accepted_kind}
use Rattle.client_calls.specs.Calls.{Call}
use Rattle.client_calls.specs.Effects.{Effect, sync, finish, hear, stale, outside, apply}
use Rattle.client_calls.specs.Next.{effect_next, accepted_next}
use Rattle.client_calls.specs.Output.{accepted_bytes}
use Rattle.client_calls.specs.Refusals.{overfilled_by, effect_checks, call_checks, refusal_of}
use Rattle.client_effects.proofs.EffectLaws.{InPhase, InTime, Carries, Taken}
use Rattle.client_effects.proofs.PlanLaws.{held_among, over_same, checks_planned}
use Rattle.client_effects.specs.Plans.{plan_unless, plan_in_phase, effect_plan, message_plan}
use Rattle.client_effects.specs.declared.Plan.{Plan}
use Rattle.client_state.proofs.FormLaws.{good_client}
use Rattle.client_state.proofs.StateLaws.{as_many, row_count}
use Rattle.client_state.specs.IllFormed.{ill_forms, WellFormed}
use Rattle.client_state.specs.Views.{subtree_of, key_list, value_list, view}
use Rattle.client_state.specs.declared.Client.{Client}
use Rattle.frames.specs.Messages.{frame_at}
use Rattle.row_search.proofs.FindLaws.{held_found}
use Rattle.rows.specs.Rows.{has_key}
use Rattle.row_cells.specs.Texts.{rows_of}

-- the call x hands in the message msg, whose effect is e: what is checked before phase and room, and what is then known
-- of it
pub record Sends (c : Client) (x : Call) (msg : Bytes) (e : Effect) (port : List (Check Refusal)) (other_phase : Bool) : Type 0 where
  pub table : call_checks (view c) x ≡ port ++ effect_checks other_phase (λ (k : Bytes). has_key k (view c).rows) (length (view c).rows) e
  pub next : accepted_next (view c) x ≡ effect_next (view c) e
  pub kind : accepted_kind (view c) x ≡ effect_kind c.header.number.0 e
  pub bytes : accepted_bytes (view c) x ≡ []
  pub sound : first_refusal port ≡ none → Sound (subtree_of c) e × InTime e
  pub phase : other_phase ≡ false → InPhase e c.header.phase
  pub carries : Carries e (frame_at 0 msg) (frame_at 4 msg)

-- ---- whether a row is one too many, by the keys in the arrays and by the rows
module _ (held held' : Bytes → Bool) (n n' : ℕ) (as-held : (k : Bytes) → held k ≡ held' k) (counts : n ≡ n') where
  overfilled_same : (e : Effect) → overfilled_by held n e ≡ overfilled_by held' n' e
  overfilled_same (sync key value) = rw (as-held key, counts)
  overfilled_same (finish m) = refl
  overfilled_same (hear t) = refl
  overfilled_same stale = refl
  overfilled_same (outside m) = refl
  overfilled_same (apply m key value) = rw (as-held key, counts)

as_rows : (c : Client) → WellFormed c → (e : Effect)
    → overfilled_by (λ (k : Bytes). has_key k (view c).rows) (length (view c).rows) e ≡ overfilled_by (held_among (key_list c)) c.header.count e
unfolding view
as_rows c w e =
    overfilled_same (λ (k : Bytes). has_key k (rows_of (key_list c) (value_list c))) (held_among (key_list c)) (length (rows_of (key_list c) (value_list c))) c.header.count
    (λ k. held_found k (key_list c) (value_list c) (as_many c) (good_client c w).rows.rise) (row_count c) e

module _ {c : Client} {x : Call} {msg : Bytes} {e : Effect} {port : List (Check Refusal)} {other_phase : Bool} (m : Sends c x msg e port other_phase) where
  abbrev behind : List (Check Refusal)
  behind = effect_checks other_phase (held_among (key_list c)) c.header.count e

  well : WellFormed c → refusal_of c x ≡ first_refusal (port ++ behind)
  well w = well_refusal c x w ∙ ap first_refusal m.table ∙ rw (as_rows c w e)

  -- ---- the plan, by how far the checks go
  pub plan_ill : {r : Refusal} → first_refusal (ill_forms c) ≡ some r → Err r ≡ message_plan c x e
  plan_ill f = rw (ill_refusal c x f)

  pub plan_stopped : WellFormed c → {r : Refusal} → first_refusal port ≡ some r → Err r ≡ message_plan c x e
  plan_stopped w {r} f = rw (well w, stop_all port behind r f)

  pub plan_passed : WellFormed c → first_refusal port ≡ none → {p : Result Plan Refusal} → p ≡ plan_in_phase other_phase (effect_plan (key_list c) c.header e) → p ≡ message_plan c x e
  plan_passed w f is = is ∙ sym (checks_planned (key_list c) c.header e other_phase) ∙ ap (λ (r : Option Refusal). plan_unless r (effect_plan (key_list c) c.header e)) (sym (well w ∙ pass_all port behind f))

  -- ---- a message that is accepted
  pub taken : refusal_of c x ≡ none → Taken c e
  unfolding refusal_of
  taken f =
      let w = (both_passed (ill_forms c) (call_checks (view c) x) f).0 in
      let d = both_passed port behind (sym (well w) ∙ f) in
      let s = m.sound d.0 in
      record {
        good = good_client c w;
        sound = s.0;
        in_phase = m.phase (passed 0 behind d.1);
        in_time = s.1;
        room = sym (over_same (key_list c) e c.header.count) ∙ passed 1 behind d.1;
      }

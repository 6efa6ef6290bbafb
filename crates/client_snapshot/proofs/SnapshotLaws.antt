-- Laws of the snapshot entry: what its call hands in, and the plan of a message by what it is read as. Assumes nothing.
use Prim.Native.Nat.{ℕ}
use mathlib.Core.Bool.{Bool, true, false, not, cond}
use mathlib.Core.List.{List, []}
use mathlib.Core.Path.{◌≡◌, refl, ap, ◌∙◌}
use borrow.Author.Tests.{not-false}
use Rattle.std.specs.Prelude.{Result}
use Rattle.answers.specs.declared.refusal.Refusal.{Refusal}
use Rattle.base.proofs.CheckLaws.{both_passed}
use Rattle.base.specs.Bytes.{Bytes, same}
use Rattle.base.specs.Checks.{Check, first_refusal}
use Rattle.base.specs.Octets.{number}
use Rattle.client_calls.proofs.MessageLaws.{snapshot_sound}
use Rattle.client_calls.specs.Calls.{snapshot}
use Rattle.client_calls.specs.Effects.{finish, sync, snapshot_effect}
use Rattle.client_calls.specs.Next.{accepted_next}
use Rattle.client_calls.specs.Output.{accepted_bytes}
use Rattle.client_calls.specs.Refusals.{call_checks}
use Rattle.client_effects.proofs.CallLaws.{Sends}
use Rattle.client_effects.proofs.EffectLaws.{InPhase, InTime, Carries}
use Rattle.client_effects.specs.Plans.{plan_in_phase, effect_plan}
use Rattle.client_effects.specs.declared.Plan.{Plan}
use Rattle.client_ports.specs.Readings.{sent_of}
use Rattle.client_ports.specs.declared.snapshot.Sent.{Sent}
use Rattle.client_state.specs.Views.{is_waiting, subtree_of, view}
use Rattle.client_state.specs.declared.Client.{Client}
use Rattle.client_state.specs.declared.Header.{Header}
use Rattle.frame_forms.specs.Words.{word_kthxbai}
use Rattle.framing.specs.Splits.{IsSplit}
use Rattle.framing.specs.declared.Split.{Split}
use Rattle.messages.specs.Fields.{Fields, fields_of}
use Rattle.numbers.specs.Sequences.{sequence}
use Rattle.numbers.specs.declared.sequence.Sequence.{Sequence}
use Rattle.ports.proofs.PortLaws.{fields_are, snapshot_is}
use Rattle.ports.specs.Bodies.{fields_at, snapshot_by}
use Rattle.ports.specs.Ports.{framed, snapshot_checks, snapshot_port}

-- ---- by the word in front
module _ (f : Fields) where
  in_phase : (phase : ℕ) → is_waiting phase ≡ true → InPhase (snapshot_effect f) phase
  in_phase phase h = go (same word_kthxbai f.head)
    where
      go : (b : Bool) → InPhase (cond b (finish (number f.sequence)) (sync f.head f.value)) phase
      go true = h
      go false = h

  in_time : InTime (snapshot_effect f)
  in_time = go (same word_kthxbai f.head)
    where
      go : (b : Bool) → InTime (cond b (finish (number f.sequence)) (sync f.head f.value))
      go true = tt
      go false = tt

  carries : Carries (snapshot_effect f) f.head f.value
  carries = go (same word_kthxbai f.head)
    where
      go : (b : Bool) → Carries (cond b (finish (number f.sequence)) (sync f.head f.value)) f.head f.value
      go true = tt
      go false = (refl, refl)

-- ---- the call
pub snapshot-sends : (c : Client) (msg : Bytes) → Sends c (snapshot msg) msg (snapshot_effect (fields_of msg)) (snapshot_port (subtree_of c) msg) (not (is_waiting c.header.phase))
unfolding call_checks accepted_next accepted_bytes view
snapshot-sends c msg =
    let f = fields_of msg in
    record {
      table = refl;
      next = refl;
      kind = refl;
      bytes = refl;
      sound = λ e. (snapshot_sound (subtree_of c) f (both_passed (framed 5 msg) (snapshot_checks (subtree_of c) f) e).1, in_time f);
      phase = λ e. in_phase f c.header.phase (not-false _ e);
      carries = carries f;
    }

-- ---- what is read, by the split of the message and the part of the subtree's array that counts
pub sent_is : (msg : Bytes) (r : Split) → IsSplit msg r → {own subtree : Bytes} → own ≡ subtree → {s : Result Sent Refusal} → s ≡ sent_of (fields_at msg r.places) (first_refusal (snapshot_by own msg r))
    → s ≡ sent_of (fields_of msg) (first_refusal (snapshot_port subtree msg))
sent_is msg r h {own} own_is e =
    e
    ∙ ap (λ (port : List (Check Refusal)). sent_of (fields_at msg r.places) (first_refusal port)) (snapshot_is msg r h own)
    ∙ ap (λ (f : Fields). sent_of f (first_refusal (snapshot_port own msg))) (fields_are msg r h)
    ∙ ap (λ (b : Bytes). sent_of (fields_of msg) (first_refusal (snapshot_port b msg))) own_is

-- KTHXBAI, or else KVSYNC
module _ (keys : List Bytes) (h : Header) (f : Fields) (other_phase : Bool) {p : Result Plan Refusal} where
  pub ends : same word_kthxbai f.head ≡ true → {m : Sequence} → m ≡ sequence (number f.sequence) → p ≡ plan_in_phase other_phase (effect_plan [] h (finish m.0))
      → p ≡ plan_in_phase other_phase (effect_plan keys h (snapshot_effect f))
  ends word m-is is = is ∙ rw (word, m-is)

  pub syncs : same word_kthxbai f.head ≡ false → {key : Bytes} → key ≡ f.head → p ≡ plan_in_phase other_phase (effect_plan keys h (sync key []))
      → p ≡ plan_in_phase other_phase (effect_plan keys h (snapshot_effect f))
  syncs word key_is is = is ∙ rw (word, key_is)

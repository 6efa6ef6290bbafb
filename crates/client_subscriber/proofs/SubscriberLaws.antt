-- Laws of the subscriber entry: what its call hands in, and the plan of a message by what it is read as. Assumes
-- nothing.
use Prim.Native.Nat.{ℕ}
use mathlib.Core.Bool.{Bool, true, false, cond, not-not}
use mathlib.Core.List.{List, [], ◌++◌, append_assoc}
use mathlib.Core.Option.{Option, none, some}
use mathlib.Core.Path.{◌≡◌, refl, sym, ap, ◌∙◌}
use lib.Dec.{leb}
use borrow.Author.Tests.{leb-true, not-false}
use Rattle.std.specs.Prelude.{Result, Err}
use Rattle.answers.specs.declared.refusal.Refusal.{Refusal}
use Rattle.base.proofs.CheckLaws.{passed, pass_all, stop_all, both_passed}
use Rattle.base.specs.Bytes.{Bytes, same}
use Rattle.base.specs.Checks.{Check, first_refusal}
use Rattle.base.specs.Octets.{number}
use Rattle.client_calls.proofs.MessageLaws.{published_sound}
use Rattle.client_calls.specs.Calls.{subscriber}
use Rattle.client_calls.specs.Effects.{Effect, hear, stale, outside, apply, update_by, subscriber_effect}
use Rattle.client_calls.specs.Next.{accepted_next}
use Rattle.client_calls.specs.Output.{accepted_bytes}
use Rattle.client_calls.specs.Refusals.{time_checks, call_checks}
use Rattle.client_effects.proofs.CallLaws.{Sends, plan_stopped, plan_passed}
use Rattle.client_effects.proofs.EffectLaws.{InPhase, InTime, Carries}
use Rattle.client_effects.specs.Plans.{plan_unless, plan_in_phase, effect_plan, message_plan}
use Rattle.client_effects.specs.declared.Plan.{Plan}
use Rattle.client_ports.specs.Readings.{published_of}
use Rattle.client_ports.specs.declared.subscriber.Published.{Published}
use Rattle.client_state.specs.IllFormed.{WellFormed}
use Rattle.client_state.specs.Views.{is_waiting, subtree_of, key_list, view}
use Rattle.client_state.specs.declared.Client.{Client}
use Rattle.client_subscriber.specs.Plans.{published_effect}
use Rattle.frame_forms.specs.Words.{word_hugz}
use Rattle.framing.specs.Splits.{IsSplit}
use Rattle.framing.specs.declared.Split.{Split}
use Rattle.keys.specs.Keys.{under}
use Rattle.messages.specs.Fields.{Fields, fields_of}
use Rattle.numbers.specs.Sequences.{sequence}
use Rattle.numbers.specs.Ticks.{max_tick}
use Rattle.numbers.specs.declared.sequence.Sequence.{Sequence}
use Rattle.ports.proofs.PortLaws.{fields_are, subscriber_is}
use Rattle.ports.specs.Bodies.{fields_at, subscriber_by}
use Rattle.ports.specs.Ports.{framed, published_checks, subscriber_port, tick_checks}

-- ---- by the word in front, the number and the subtree
module _ (f : Fields) (n : ℕ) (subtree : Bytes) (t : ℕ) where
  -- of each of the four effects
  each : (P : Effect → Type 0) → P (hear t) → P stale → P (outside (number f.sequence)) → P (apply (number f.sequence) f.head f.value) → P (subscriber_effect n subtree f t)
  each P h s o a = go (same word_hugz f.head) (leb (number f.sequence) n) (under subtree f.head)
    where
      go : (beats old in_it : Bool) → P (cond beats (hear t) (cond old stale (cond in_it (apply (number f.sequence) f.head f.value) (outside (number f.sequence)))))
      go true old in_it = h
      go false true in_it = s
      go false false true = a
      go false false false = o

  in_time : (clock : ℕ) → first_refusal (time_checks clock f t) ≡ none → InTime (subscriber_effect n subtree f t)
  in_time clock e = go (same word_hugz f.head) (leb (number f.sequence) n) (under subtree f.head) e
    where
      go : (beats old in_it : Bool) → first_refusal (cond beats (tick_checks clock t) []) ≡ none
          → InTime (cond beats (hear t) (cond old stale (cond in_it (apply (number f.sequence) f.head f.value) (outside (number f.sequence)))))
      go true old in_it h = leb-true t max_tick (not-false _ (passed 0 (tick_checks clock t) h))
      go false true in_it h = tt
      go false false true h = tt
      go false false false h = tt

-- ---- the call
-- what is checked before phase and room
abbrev pub published_table : Client → Bytes → ℕ → List (Check Refusal)
published_table c msg t = subscriber_port msg ++ time_checks c.header.clock.0 (fields_of msg) t

pub subscriber-sends : (c : Client) (msg : Bytes) (t : ℕ) → Sends c (subscriber msg t) msg (published_effect c msg t) (published_table c msg t) (is_waiting c.header.phase)
unfolding call_checks accepted_next accepted_bytes view
subscriber-sends c msg t =
    let f = fields_of msg in
    let n = c.header.number.0 in
    let time = time_checks c.header.clock.0 f t in
    record {
      table = rw (not-not (is_waiting c.header.phase)) (sym (append_assoc (subscriber_port msg) time _));
      next = refl;
      kind = refl;
      bytes = refl;
      sound = λ e. let d = both_passed (subscriber_port msg) time e in (published_sound f n (subtree_of c) t (both_passed (framed 5 msg) (published_checks f) d.0).1, in_time f n (subtree_of c) t c.header.clock.0 d.1);
      phase = λ e. each f n (subtree_of c) t (λ (x : Effect). InPhase x c.header.phase) e e e e;
      carries = each f n (subtree_of c) t (λ (x : Effect). Carries x f.head f.value) tt tt tt (refl, refl);
    }

-- ---- what is read, by the split of the message
pub published_is : (msg : Bytes) (r : Split) → IsSplit msg r → {s : Result Published Refusal} → s ≡ published_of (fields_at msg r.places) (first_refusal (subscriber_by msg r))
    → s ≡ published_of (fields_of msg) (first_refusal (subscriber_port msg))
published_is msg r h e =
    e
    ∙ ap (λ (port : List (Check Refusal)). published_of (fields_at msg r.places) (first_refusal port)) (subscriber_is msg r h)
    ∙ ap (λ (f : Fields). published_of f (first_refusal (subscriber_port msg))) (fields_are msg r h)

module _ (c : Client) (w : WellFormed c) (msg : Bytes) (t : ℕ) where
  abbrev wanted : Result Plan Refusal
  wanted = message_plan c (subscriber msg t) (published_effect c msg t)

  abbrev time : List (Check Refusal)
  time = time_checks c.header.clock.0 (fields_of msg) t

  -- refused by its frames
  pub stops : {r : Refusal} → first_refusal (subscriber_port msg) ≡ some r → Err r ≡ wanted
  stops {r} e = plan_stopped (subscriber-sends c msg t) w (stop_all (subscriber_port msg) time r e)

  -- HUGZ
  pub hears : first_refusal (subscriber_port msg) ≡ none → same word_hugz (fields_of msg).head ≡ true → {p : Result Plan Refusal}
      → p ≡ plan_unless (first_refusal (tick_checks c.header.clock.0 t)) (plan_in_phase (is_waiting c.header.phase) (effect_plan [] c.header (hear t))) → p ≡ wanted
  hears e word {p} is = go (first_refusal (tick_checks c.header.clock.0 t)) refl is
    where
      on : first_refusal (published_table c msg t) ≡ first_refusal (tick_checks c.header.clock.0 t)
      on = pass_all (subscriber_port msg) time e ∙ rw word

      go : (x : Option Refusal) → first_refusal (tick_checks c.header.clock.0 t) ≡ x → p ≡ plan_unless x (plan_in_phase (is_waiting c.header.phase) (effect_plan [] c.header (hear t))) → p ≡ wanted
      go none f q = plan_passed (subscriber-sends c msg t) w (on ∙ f) (q ∙ rw word)
      go (some r) f q = q ∙ plan_stopped (subscriber-sends c msg t) w (on ∙ f)

  -- KVPUB
  pub updates : first_refusal (subscriber_port msg) ≡ none → same word_hugz (fields_of msg).head ≡ false → {m : Sequence} → m ≡ sequence (number (fields_of msg).sequence)
      → {own key value : Bytes} → own ≡ subtree_of c → key ≡ (fields_of msg).head → value ≡ (fields_of msg).value → {p : Result Plan Refusal}
      → p ≡ plan_in_phase (is_waiting c.header.phase) (effect_plan (key_list c) c.header (update_by c.header.number.0 own m.0 key value)) → p ≡ wanted
  unfolding first_refusal
  updates e word m-is own_is key_is value_is is =
      plan_passed (subscriber-sends c msg t) w (pass_all (subscriber_port msg) time e ∙ rw word) (is ∙ rw (m-is, own_is, key_is, value_is, word))

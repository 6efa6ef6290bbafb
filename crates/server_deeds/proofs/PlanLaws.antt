-- Laws of the plan of a Tick: the checks that are made step by step, and what is known of a plan that was made. Assumes
-- nothing.
use Rattle.std.specs.Prelude.{Result, Ok, Err}
use Prim.Native.Nat.{ℕ, suc, ◌-◌, ◌≤◌, ◌<◌, min}
use native.Mathlib.Omega.{arith}
use mathlib.Core.Option.{Option, none, some}
use mathlib.Core.Path.{◌≡◌, refl, sym, ap, ◌∙◌}
use lib.ListN.{length}
use borrow.Author.Tests.{lt-ltb, le-ltb, le-leb, lt-leb, eq-eqb, ne_eqb}
use Rattle.answers.specs.declared.refusal.Refusal.TheVariants.{Exhausted, ShortOutput}
use Rattle.answers.specs.declared.refusal.Refusal.{Refusal}
use Rattle.base.specs.Bytes.{Bytes}
use Rattle.base.specs.Checks.{first_refusal}
use Rattle.base.specs.Output.{largest}
use Rattle.keys.specs.Keys.{key_room}
use Rattle.messages.specs.Fields.{bytes_of, hugz, message_length}
use Rattle.numbers.specs.Sequences.{max_sequence, sequence}
use Rattle.numbers.specs.Ticks.{tick}
use Rattle.numbers.specs.declared.sequence.Sequence.{Sequence}
use Rattle.server_calls.proofs.LengthLaws.{expiry-length, expiry_bound, hugz-length}
use Rattle.server_calls.specs.Refusals.{expiry}
use Rattle.server_state.specs.declared.Header.{Header}
use Rattle.server_deeds.specs.Plans.{beat_header, quiet_header, or_refuse, expire_plan, beat_plan}
use Rattle.server_deeds.specs.declared.Plan.TheVariants.{Expire, Beat, Quiet}
use Rattle.server_deeds.specs.declared.Plan.{Plan}

-- ---- a row is due
module _ (h : Header) (t i room : ℕ) (key : Bytes) where
  pub exhausted : h.number.0 ≤ max_sequence → max_sequence ≤ h.number.0 → Err Exhausted ≡ expire_plan h t i key room
  unfolding first_refusal
  exhausted low g = rw (eq-eqb h.number.0 max_sequence (omega arith))

  module _ (g : h.number.0 < max_sequence) {read : Bytes} (own : read ≡ key) {m : ℕ} (m-is : m ≡ min (message_length (length read) 0 0 0) largest) where
    long : m ≡ min (length (expiry (suc h.number.0) key)) largest
    long = m-is ∙ rw (own, expiry-length (suc h.number.0) key)

    pub too_short : room < m → Err ShortOutput ≡ expire_plan h t i key room
    unfolding first_refusal
    too_short k = rw (ne_eqb h.number.0 max_sequence (λ q. omega arith), lt-ltb room (length (expiry (suc h.number.0) key)) (omega (arith, long)))

    pub goes : length key ≤ key_room → m ≤ room → {next : Sequence} → next ≡ sequence (suc h.number.0)
        → Ok (Expire i (record { number = next; last_tick = tick t; last_published = tick t; count = h.count - 1 })) ≡ expire_plan h t i key room
    unfolding first_refusal
    goes short k {next} next_is =
        rw (ne_eqb h.number.0 max_sequence (λ q. omega arith), le-ltb room (length (expiry (suc h.number.0) key)) (omega (arith, long, expiry_bound (suc h.number.0) key short)), next_is)

-- ---- no row is
module _ (h : Header) (t room : ℕ) {since : ℕ} (is : since ≡ t - h.last_published.0) where
  pub is_quiet : since < 1000 → Ok (Quiet (quiet_header h t)) ≡ beat_plan h t room
  unfolding first_refusal
  is_quiet k = rw (lt-leb 1000 (t - h.last_published.0) (omega arith))

  pub no_beat : 1000 ≤ since → room < 22 → Err ShortOutput ≡ beat_plan h t room
  unfolding first_refusal
  no_beat k l = rw (le-leb 1000 (t - h.last_published.0) (omega arith), lt-ltb room (length (bytes_of hugz)) (omega (arith, hugz-length)))

  pub beats : 1000 ≤ since → 22 ≤ room → Ok (Beat (beat_header h t)) ≡ beat_plan h t room
  unfolding first_refusal
  beats k l =
      rw (le-leb 1000 (t - h.last_published.0) (omega arith), le-ltb room (length (bytes_of hugz)) (omega (arith, hugz-length)))

-- ---- what is known of a plan
module _ (x : Option Refusal) (p : Plan) {found : Result Plan Refusal} (e : found ≡ or_refuse x p) where
  pub goes_on : {q : Plan} → found ≡ Ok q → (x ≡ none) × (p ≡ q)
  goes_on {q} g = go x (sym g ∙ e)
    where
      go : (y : Option Refusal) → Ok q ≡ or_refuse y p → (y ≡ none) × (p ≡ q)
      go none a = (refl, cc)
      go (some r) a = absurd (let z : ◌≡◌ {A = ℕ} 0 1 = cc in omega arith)

  pub stops_with : {r : Refusal} → found ≡ Err r → x ≡ some r
  stops_with {r} g = go x (sym g ∙ e)
    where
      go : (y : Option Refusal) → Err r ≡ or_refuse y p → y ≡ some r
      go none q = absurd (let z : ◌≡◌ {A = ℕ} 0 1 = cc in omega arith)
      go (some o) q = let i : o ≡ r = cc in ap some i

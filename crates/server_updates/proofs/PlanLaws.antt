-- Laws of the plan of a KVSET: the checks that are made step by step, and what is known of a plan that was made. Assumes
-- nothing.
use Prim.Native.Nat.{ℕ, suc, ◌+◌, ◌*◌, ◌≤◌, ◌<◌, min}
use native.Mathlib.Omega.{arith}
use mathlib.Core.Bool.{Bool, true, false, not, ◌&&◌}
use mathlib.Core.List.{List}
use mathlib.Core.Option.{Option, none, some}
use mathlib.Core.Path.{◌≡◌, refl, sym, ap, ◌∙◌}
use lib.Dec.{leb, eqb}
use lib.ListN.{length}
use borrow.Author.Tests.{lt-ltb, le-ltb, eq-eqb, ne_eqb}
use Rattle.std.specs.Prelude
use Rattle.std.specs.Prelude.{Result, Ok, Err, Some, None}
use Rattle.answers.specs.declared.refusal.Refusal.TheVariants.{Full, Exhausted, ShortOutput}
use Rattle.answers.specs.declared.refusal.Refusal.{Refusal}
use Rattle.base.proofs.ByteLaws.{nil_length}
use Rattle.base.specs.Bytes.{Bytes, is_nil}
use Rattle.base.specs.Checks.{first_refusal}
use Rattle.base.specs.Output.{largest}
use Rattle.messages.specs.Fields.{Fields, message_length}
use Rattle.numbers.specs.Sequences.{sequence, max_sequence}
use Rattle.numbers.specs.Ticks.{tick, max_tick}
use Rattle.numbers.specs.declared.sequence.Sequence.{Sequence}
use Rattle.ports.specs.Bodies.{lifetime_in}
use Rattle.ports.specs.Ports.{kvset_checks}
use Rattle.properties.proofs.LifetimeLaws.{seconds_most}
use Rattle.properties.specs.Properties.{properties_of, seconds_of}
use Rattle.properties.specs.declared.read.Lifetime.TheVariants.{Unlimited, Seconds}
use Rattle.properties.specs.declared.read.Lifetime.{Lifetime}
use Rattle.row_cells.specs.Sizes.{max_rows}
use Rattle.row_change.specs.Changes.{is_over, count_after, Fits}
use Rattle.row_change.specs.declared.Change.{Change}
use Rattle.row_search.proofs.FindLaws.{over_is, change_fits}
use Rattle.row_search.specs.Places.{place_of, change_to, is_found}
use Rattle.server_calls.proofs.LengthLaws.{update-length, update_bound}
use Rattle.server_calls.specs.Refusals.{update}
use Rattle.server_updates.specs.Plans.{expiry_from, change_by, stamps_for, planned, store_plan, update_plan}
use Rattle.server_updates.specs.declared.Plan.{Plan}
use Rattle.server_state.specs.Stamps.{max_expiry}
use Rattle.server_state.specs.declared.Header.{Header}
use Rattle.server_state.specs.declared.stamps.Stamps.{Stamps}

-- ---- the lifetime that properties give
pub lifetime_most : (s : Bytes) → seconds_of (lifetime_in (properties_of s)) ≤ 86400
lifetime_most s = go (properties_of s) refl
  where
    go : (p : Prelude.Option Lifetime) → properties_of s ≡ p → seconds_of (lifetime_in p) ≤ 86400
    go None e = omega arith
    go (Some Unlimited) e = omega arith
    go (Some (Seconds n)) e = seconds_most s n e

-- ---- expiries: a lifetime of at most 86,400 seconds after a tick in range is below the largest number
module _ (t n : ℕ) (l : Lifetime) (seconds : l ≡ Seconds n) (h : t ≤ max_tick) (k : seconds_of l ≤ 86400) where
  pub in_range : (1000 * n ≤ max_expiry) × (t + 1000 * n ≤ max_expiry)
  in_range = (omega (arith, ap seconds_of seconds), omega (arith, ap seconds_of seconds))

  pub expires_then : {e : ℕ} → e ≡ min (t + 1000 * n) largest → e ≡ expiry_from t l
  expires_then is = is ∙ rw seconds (omega (arith, in_range))

-- ---- a plan that goes on has passed all checks, and one that does not tells the first refusal
module _ (x : Option Refusal) (keys : List Bytes) (h : Header) (f : Fields) (t : ℕ) (lifetime : Lifetime) {found : Result Plan Refusal} (e : found ≡ store_plan x keys h f t lifetime) where
  pub goes_on : {plan : Plan} → found ≡ Ok plan → (x ≡ none) × (plan ≡ planned keys h f t lifetime)
  goes_on {plan} g = go x (sym g ∙ e)
    where
      go : (y : Option Refusal) → Ok plan ≡ store_plan y keys h f t lifetime → (y ≡ none) × (plan ≡ planned keys h f t lifetime)
      go none q = (refl, cc)
      go (some r) q = absurd (let z : ◌≡◌ {A = ℕ} 0 1 = cc in omega arith)

  pub stops_with : {r : Refusal} → found ≡ Err r → x ≡ some r
  stops_with {r} g = go x (sym g ∙ e)
    where
      go : (y : Option Refusal) → Err r ≡ store_plan y keys h f t lifetime → y ≡ some r
      go none q = absurd (let z : ◌≡◌ {A = ℕ} 0 1 = cc in omega arith)
      go (some o) q = let i : o ≡ r = cc in ap some i

-- ---- an update
module _ (keys : List Bytes) (h : Header) (f : Fields) (t room : ℕ) (lifetime : Lifetime) {key value : Bytes} (head-is : key ≡ f.head) (value_is : value ≡ f.value) {found : Result ℕ ℕ} {change : Change}
    (found-is : found ≡ place_of 0 key keys) {empty : Bool} (empty-is : empty ≡ eqb (length value) 0)
    (change_is : change ≡ change_to empty found) where
  pub change_right : change ≡ change_by keys f
  change_right = change_is ∙ rw (empty-is, nil_length value, found-is, head-is, value_is)

  over : {r : Bool} → r ≡ is_over change h.count → r ≡ (not (is_nil f.value) && (not (is_found (place_of 0 f.head keys)) && leb max_rows h.count))
  over e = e ∙ rw change_right (over_is (is_nil f.value) (place_of 0 f.head keys) h.count)

  abbrev plan : Result Plan Refusal
  plan = update_plan keys h f t lifetime room

  module _ {r : Bool} (o : r ≡ is_over change h.count) where
    pub full : r ≡ true → Err Full ≡ plan
    unfolding first_refusal
    full e = rw (sym (over o) ∙ e)

    module _ (e : r ≡ false) where
      pub fits : length keys ≡ h.count → h.count ≤ max_rows → Fits change h.count
      fits long few =
          rw change_right
          (change_fits f.head keys keys refl h.count long (is_nil f.value) few (over_is (is_nil f.value) (place_of 0 f.head keys) h.count ∙ sym (over o) ∙ e))

      pub exhausted : h.number.0 ≤ max_sequence → max_sequence ≤ h.number.0 → Err Exhausted ≡ plan
      unfolding first_refusal
      exhausted low g = rw (sym (over o) ∙ e, eq-eqb h.number.0 max_sequence (omega arith))

      module _ (g : h.number.0 < max_sequence) {uuid properties : Bytes} (uuid-is : uuid ≡ f.uuid) (properties-is : properties ≡ f.properties) {m : ℕ}
          (m-is : m ≡ min (message_length (length key) (length uuid) (length properties) (length value)) largest) where
        long : m ≡ min (length (update (suc h.number.0) f)) largest
        long = m-is ∙ rw (head-is, uuid-is, properties-is, value_is, update-length (suc h.number.0) f)

        pub too_short : room < m → Err ShortOutput ≡ plan
        unfolding first_refusal
        too_short k =
            rw (sym (over o) ∙ e, ne_eqb h.number.0 max_sequence (λ q. omega arith), lt-ltb room (length (update (suc h.number.0) f)) (omega (arith, long)))

        pub goes : first_refusal (kvset_checks f) ≡ none → m ≤ room → {next : Sequence} → next ≡ sequence (suc h.number.0) → {n : ℕ} → n ≡ count_after change h.count → {row : Stamps} → row ≡ stamps_for next.0 t lifetime
            → Ok (record { change = change; after = record { number = next; last_tick = tick t; last_published = tick t; count = n }; row = row }) ≡ plan
        unfolding first_refusal
        goes c k {next} next_is {n} n-is {row} row_is =
            rw (sym (over o) ∙ e, ne_eqb h.number.0 max_sequence (λ q. omega arith), le-ltb room (length (update (suc h.number.0) f)) (omega (arith, long, update_bound (suc h.number.0) f c)))
            (rw (row_is, n-is, next_is, change_right))

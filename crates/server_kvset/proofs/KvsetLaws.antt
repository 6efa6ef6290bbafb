-- What an accepted KVSET makes of a server: the update in every array is the update of the ledger, and the state stays
-- well-formed. Assumes nothing.
use Rattle.std.specs.Prelude
use Rattle.std.specs.Prelude.{Some, None, Result, Ok, Err}
use Prim.Native.Nat.{ℕ, suc, ◌+◌, ◌*◌, ◌≤◌, ◌<◌}
use native.Mathlib.Nat.{zero-add}
use native.Mathlib.Omega.{arith}
use mathlib.Core.Bool.{Bool, true, false, cond}
use mathlib.Core.List.{List, ◌++◌}
use mathlib.Core.Option.{Option, none, some}
use mathlib.Core.Path.{◌≡◌, refl, sym, ap, ◌∙◌}
use lib.Dec.{eqb}
use lib.ListN.{length}
use borrow.Author.Tests.{leb-true, le-leb, ltb-false, eqb-false, ne_eqb, not-false}
use Rattle.answers.specs.Answers.{answer}
use Rattle.answers.specs.declared.answer.Answer.{Answer}
use Rattle.answers.specs.declared.answer.Kind.TheVariants.{Wrote}
use Rattle.answers.specs.declared.refusal.Refusal.{Refusal}
use Rattle.base.proofs.CheckLaws.{passed, both_passed, test_of}
use Rattle.base.proofs.OutputLaws.{output, place}
use Rattle.base.specs.Bytes.{Bytes, is_nil}
use Rattle.base.specs.Checks.{Check, first_refusal}
use Rattle.base.specs.Output.{put, Written}
use Rattle.cells.specs.Cells.{cells}
use Rattle.frame_forms.specs.Lengths.{value_room}
use Rattle.frames.specs.Messages.{frame_at}
use Rattle.framing.specs.Splits.{body_in, IsSplit}
use Rattle.framing.specs.declared.Split.{Split}
use Rattle.keys.proofs.UnderLaws.{key-short as key-most}
use Rattle.keys.specs.Keys.{key_room, is_key}
use Rattle.messages.specs.Fields.{Fields, fields_of}
use Rattle.numbers.specs.Sequences.{sequence, max_sequence}
use Rattle.numbers.specs.Ticks.{max_tick}
use Rattle.ports.proofs.PortLaws.{kvset_is, fields_are, body_is}
use Rattle.ports.specs.Bodies.{fields_at, lifetime_in}
use Rattle.ports.specs.Ports.{kvset_port, tick_checks}
use Rattle.properties.specs.Properties.{properties_of, seconds_of}
use Rattle.properties.specs.declared.read.Lifetime.TheVariants.{Unlimited, Seconds}
use Rattle.properties.specs.declared.read.Lifetime.{Lifetime}
use Rattle.row_cells.specs.Faults.{GoodRows}
use Rattle.row_cells.specs.FreshRows.{cell_of, IsRow}
use Rattle.row_cells.specs.Texts.{cell_value, rows_of}
use Rattle.row_cells.specs.declared.fresh.Row.{Row}
use Rattle.row_change.specs.Changes.{changed, count_after, Fits, Altered}
use Rattle.row_change.specs.declared.Change.{Change}
use Rattle.row_search.proofs.FindLaws.{held_found, over_is, changed_removes, changed-sets, change_fits}
use Rattle.row_search.proofs.UpdateLaws.{update_good}
use Rattle.row_search.specs.Places.{place_of, change_to, is_found}
use Rattle.rows.proofs.RowLaws.{map-has_key, map-length}
use Rattle.rows.specs.Rows.{has_key, map_rows, set_row, remove_row}
use Rattle.server_calls.proofs.AnswerLaws.{accepted_call, refusal_is}
use Rattle.server_calls.specs.Answers.{accepted_kind}
use Rattle.server_calls.specs.Calls.{kvset}
use Rattle.server_calls.specs.Next.{entry_for, expiry_at, kvset_next, accepted_next}
use Rattle.server_calls.specs.Output.{accepted_bytes}
use Rattle.server_calls.specs.Promises.{Answered}
use Rattle.server_calls.specs.Refusals.{update, call_checks, refusal_of}
use Rattle.server_updates.specs.Plans.{stamps_for, expiry_from, change_by, header_after, planned, store_plan, update_table, kvset_plan}
use Rattle.server_updates.proofs.PlanLaws.{lifetime_most, goes_on, stops_with}
use Rattle.server_updates.specs.declared.Plan.{Plan}
use Rattle.server_state.proofs.FormLaws.{GoodServer, good_server, server_good}
use Rattle.server_state.proofs.StateLaws.{Restamped, key_count, as_many, row_count, rows-changed, good_after}
use Rattle.server_state.specs.IllFormed.{ill_forms, WellFormed}
use Rattle.server_state.specs.Stamps.{stamp_count, max_expiry, never, is_expiry, expiry_in, stamps_of}
use Rattle.server_state.specs.Views.{Entry, entry, lent, key_list, entry_list, plain, view, ledger_of}
use Rattle.server_state.specs.declared.Header.{Header}
use Rattle.server_state.specs.declared.Server.{Server}
use Rattle.server_state.specs.declared.stamps.Stamps.{Stamps}

-- ---- expiries
expiry_read : (t : ℕ) (l : Lifetime) → t ≤ max_tick → seconds_of l ≤ 86400 → (expiry_in (expiry_from t l) ≡ expiry_at t (Some l)) × (is_expiry (expiry_from t l) ≡ true)
expiry_read t Unlimited h k = (refl, refl)
expiry_read t (Seconds n) h k =
    let e : eqb (t + 1000 * n) never ≡ false = ne_eqb (t + 1000 * n) never (λ q. omega arith) in
    (rw e, rw (e, le-leb (t + 1000 * n) max_expiry (omega arith)))

expiry-same : (t : ℕ) (p : Prelude.Option Lifetime) → expiry_at t (Some (lifetime_in p)) ≡ expiry_at t p
expiry-same t None = refl
expiry-same t (Some l) = refl

-- ---- the checks of a KVSET after that of the state, as they are made over the rows
abbrev kvset_table : Server → Bytes → ℕ → ℕ → List (Check Refusal)
kvset_table s msg t room = kvset_port msg ++ (tick_checks s.header.last_tick.0 t ++ update_table (key_list s) s.header (fields_of msg) room)

module _ (s : Server) (g : GoodServer s) where
  held_is : (k : Bytes) → has_key k (map_rows plain (rows_of (key_list s) (entry_list s))) ≡ is_found (place_of 0 k (key_list s))
  held_is k = map-has_key plain k (rows_of (key_list s) (entry_list s)) ∙ held_found k (key_list s) (entry_list s) (as_many s) g.rows.rise

  held_count : length (map_rows plain (rows_of (key_list s) (entry_list s))) ≡ s.header.count
  held_count = map-length plain (rows_of (key_list s) (entry_list s)) ∙ row_count s

module _ (s : Server) (msg : Bytes) (t room : ℕ) where
  kvset-table : WellFormed s → first_refusal (kvset_table s msg t room) ≡ first_refusal (call_checks (ledger_of (view s)) (kvset msg t room))
  unfolding call_checks ledger_of view
  kvset-table w =
      let g = good_server s w in
      rw (held_is s g (frame_at 0 msg), held_count s g)

  kvset-refusal : first_refusal (ill_forms s ++ kvset_table s msg t room) ≡ refusal_of s (kvset msg t room)
  kvset-refusal = refusal_is s (kvset msg t room) (kvset_table s msg t room) kvset-table

  abbrev plan_for : List (Check Refusal) → Fields → Result Plan Refusal
  plan_for port f =
      store_plan (first_refusal (ill_forms s ++ (port ++ (tick_checks s.header.last_tick.0 t ++ update_table (key_list s) s.header f room))))
      (key_list s) s.header f t (lifetime_in (properties_of f.properties))

  abbrev lifetime : Lifetime
  lifetime = lifetime_in (properties_of (frame_at 3 msg))

  -- the plan that is made by the split of a message: the refusal of the call, or what is to be done
  plan_is : (split : Split) → IsSplit msg split → kvset_plan s msg split t room ≡ store_plan (refusal_of s (kvset msg t room)) (key_list s) s.header (fields_of msg) t lifetime
  unfolding kvset_plan
  plan_is split h =
      ap (λ (port : List (Check Refusal)). plan_for port (fields_at msg split.places)) (kvset_is msg split h)
      ∙ ap (plan_for (kvset_port msg)) (fields_are msg split h)
      ∙ ap (λ (x : Option Refusal). store_plan x (key_list s) s.header (fields_of msg) t lifetime) kvset-refusal

  kvset-next : accepted_next (view s) (kvset msg t room) ≡ kvset_next (view s) (fields_of msg) t
  unfolding accepted_next
  kvset-next = refl

  kvset-bytes : accepted_bytes (view s) (kvset msg t room) ≡ update (suc s.header.number.0) (fields_of msg)
  unfolding accepted_bytes view
  kvset-bytes = refl

  kvset-kind : accepted_kind (view s) (kvset msg t room) ≡ Wrote (sequence (suc s.header.number.0))
  unfolding view
  kvset-kind = refl

  -- ---- what an accepted KVSET is known to have passed
  module _ (clear : refusal_of s (kvset msg t room) ≡ none) where
    both : WellFormed s × (first_refusal (kvset_table s msg t room) ≡ none)
    both = both_passed (ill_forms s) (kvset_table s msg t room) (kvset-refusal ∙ clear)

    good : GoodServer s
    good = good_server s both.0

    test : (k : ℕ) → test_of k (kvset_table s msg t room) ≡ false
    test k = passed k (kvset_table s msg t room) both.1

    key_good : is_key (frame_at 0 msg) ≡ true
    key_good = not-false _ (test 2)

    key-short : length (frame_at 0 msg) ≤ key_room
    key-short = key-most (frame_at 0 msg) key_good

    value-short : length (frame_at 4 msg) ≤ value_room
    value-short = leb-true (length (frame_at 4 msg)) value_room (not-false _ (test 6))

    in_time : t ≤ max_tick
    in_time = leb-true t max_tick (not-false _ (test 7))

    number_left : s.header.number.0 < max_sequence
    number_left = omega (arith, good.number, eqb-false s.header.number.0 max_sequence (test 10))

    has_room : length (update (suc s.header.number.0) (fields_of msg)) ≤ room
    has_room = ltb-false room (length (update (suc s.header.number.0) (fields_of msg))) (test 11)

    abbrev change : Change
    change = change_by (key_list s) (fields_of msg)

    change_is_fit : Fits change s.header.count
    change_is_fit =
        change_fits (frame_at 0 msg) (key_list s) (entry_list s) (as_many s) s.header.count (key_count s) (is_nil (frame_at 4 msg)) good.rows.few
        (over_is (is_nil (frame_at 4 msg)) (place_of 0 (frame_at 0 msg) (key_list s)) s.header.count ∙ test 9)

    abbrev new : Entry
    new = entry_for (fields_of msg) t (suc s.header.number.0)

    -- what the change makes of the rows
    updated : (nil : Bool) → changed (change_to nil (place_of 0 (frame_at 0 msg) (key_list s))) (frame_at 0 msg, new) (rows_of (key_list s) (entry_list s))
        ≡ cond nil (remove_row (frame_at 0 msg) (rows_of (key_list s) (entry_list s))) (set_row (frame_at 0 msg) new (rows_of (key_list s) (entry_list s)))
    updated true = changed_removes (frame_at 0 msg) (key_list s) (entry_list s) (as_many s) new
    updated false = changed-sets (frame_at 0 msg) (key_list s) (entry_list s) (as_many s) new

    abbrev own : List ℕ
    own = stamps_of (stamps_for (suc s.header.number.0) t lifetime)

    -- the state after the change: the fresh row and its stamps
    module _ (row : Row) (is_row : IsRow row (frame_at 0 msg) (frame_at 4 msg)) {s' : Server}
        (c : Restamped change (cell_of row) row.lengths own s s') (header_is : s'.header ≡ header_after s.header change t) where
      expires : (expiry_in (expiry_from t lifetime) ≡ expiry_at t (Some lifetime)) × (is_expiry (expiry_from t lifetime) ≡ true)
      expires = expiry_read t lifetime in_time (lifetime_most (frame_at 3 msg))

      entry_is : entry (cell_value (cell_of row) row.lengths) own ≡ new
      entry_is = rw (is_row.value, expires.0 ∙ expiry-same t (properties_of (frame_at 3 msg)))

      rows_are : rows_of (key_list s') (entry_list s')
          ≡ cond (is_nil (frame_at 4 msg)) (remove_row (frame_at 0 msg) (rows_of (key_list s) (entry_list s))) (set_row (frame_at 0 msg) new (rows_of (key_list s) (entry_list s)))
      rows_are = rows-changed change_is_fit c ∙ rw (is_row.key, entry_is) (updated (is_nil (frame_at 4 msg)))

      view_is : view s' ≡ kvset_next (view s) (fields_of msg) t
      unfolding view kvset_next
      view_is = rw (rows_are, header_is)

      rows_good : GoodRows s'.header.count s'.bytes s'.lengths
      rows_good =
          rw c.of_count
          (update_good change_is_fit row c.of_rows good.rows (is_nil (frame_at 4 msg)) (frame_at 0 msg) (frame_at 4 msg) refl is_row key_good (λ e. e) value-short)

      number_is : s'.header.number.0 ≡ suc s.header.number.0
      number_is = rw header_is

      good_is : GoodServer s'
      good_is =
          good_after change_is_fit c good rows_good (λ h. rw (number_is, le-leb (suc s.header.number.0) (suc s.header.number.0) (omega arith), expires.1)) (omega (arith, number_is)) (omega (arith, number_is, number_left)) (rw header_is (omega arith)) (rw header_is in_time)

      kvset_done : {out out' : Bytes} {written : ℕ} {a : Answer} → Written out 0 (update (suc s.header.number.0) (fields_of msg)) written out' → length out ≡ room
          → a ≡ answer (Wrote (sequence (suc s.header.number.0))) written → Answered s (kvset msg t room) out s' a out'
      kvset_done {out} {out'} {a = a} wrote long told =
          let fits : 0 + length (update (suc s.header.number.0) (fields_of msg)) ≤ length out = omega (arith, has_room) in
          accepted_call s (kvset msg t room) out s' a out' clear (told ∙ rw (kvset-kind, kvset-bytes, place wrote fits, zero-add))
          (view_is ∙ sym kvset-next) (output wrote fits ∙ ap (put out 0) (sym kvset-bytes)) (λ w. server_good s' good_is)

-- ---- a plan that was made by the split of the message, and what was done by it
module _ (s : Server) (msg : Bytes) (t : ℕ) (out : Bytes) (split : Split) (is : IsSplit msg split) {found : Result Plan Refusal} (e : found ≡ kvset_plan s msg split t (length out)) where
  by_call : found ≡ store_plan (refusal_of s (kvset msg t (length out))) (key_list s) s.header (fields_of msg) t (lifetime s msg t (length out))
  by_call = e ∙ plan_is s msg t (length out) split is

  pub kvset_stopped : {r : Refusal} → found ≡ Err r → refusal_of s (kvset msg t (length out)) ≡ some r
  kvset_stopped g = stops_with (refusal_of s (kvset msg t (length out))) (key_list s) s.header (fields_of msg) t (lifetime s msg t (length out)) by_call g

  module _ {made : Change} {after : Header} {stored : Stamps} (g : found ≡ Ok (record { change = made; after = after; row = stored })) where
    gone_on : (refusal_of s (kvset msg t (length out)) ≡ none) × (record { change = made; after = after; row = stored } ≡ planned (key_list s) s.header (fields_of msg) t (lifetime s msg t (length out)))
    gone_on = goes_on (refusal_of s (kvset msg t (length out))) (key_list s) s.header (fields_of msg) t (lifetime s msg t (length out)) by_call g

    clear : refusal_of s (kvset msg t (length out)) ≡ none
    clear = gone_on.0

    made_is : made ≡ change_by (key_list s) (fields_of msg)
    made_is = ap (λ (p : Plan). p.change) gone_on.1

    after_is : after ≡ header_after s.header (change_by (key_list s) (fields_of msg)) t
    after_is = ap (λ (p : Plan). p.after) gone_on.1

    stored_is : stored ≡ stamps_for (suc s.header.number.0) t (lifetime s msg t (length out))
    stored_is = ap (λ (p : Plan). p.row) gone_on.1

    pub stored_fits : Fits made s.header.count
    stored_fits = rw made_is (change_is_fit s msg t (length out) clear)

    module _ {key value : Bytes} (key-at : key ≡ body_in msg split.places 0) (value-at : value ≡ body_in msg split.places 4) where
      key_is : key ≡ frame_at 0 msg
      key_is = key-at ∙ body_is msg split is 0 (omega arith)

      value_is : value ≡ frame_at 4 msg
      value_is = value-at ∙ body_is msg split is 4 (omega arith)

      stored_short : (length key ≤ key_room) × (length value ≤ value_room)
      stored_short = (rw key_is (key-short s msg t (length out) clear), rw value_is (value-short s msg t (length out) clear))

      pub kvset_stored : (row : Row) → ((length key ≤ key_room) × (length value ≤ value_room) → IsRow row key value) → {bytes' lengths' stamps' : List ℕ} → Altered made (cell_of row) row.lengths s.header.count s.bytes s.lengths bytes' lengths'
          → cells stamp_count (count_after made s.header.count) stamps' ≡ changed made (stamps_of stored) (cells stamp_count s.header.count s.stamps)
          → {written : ℕ} {out' : Bytes} → Written out 0 (update after.number.0 (fields_at msg split.places)) written out'
          → {h : Header} {a : Answer} → (h ≡ after) × (a ≡ answer (Wrote after.number) written)
          → Answered s (kvset msg t (length out)) out (lent bytes' lengths' stamps' h) a out'
      kvset_stored row is_row {bytes'} {lengths'} {stamps'} rows stamps {written} {out'} wrote {h} {a} left =
          rw left.0
          (kvset_done s msg t (length out) clear row (rw (key_is, value_is) at (is_row stored_short)) {s' = lent bytes' lengths' stamps' after}
          (record {
            of_rows = rw made_is at rows;
            of_stamps = rw (made_is, stored_is) at stamps;
            of_count = ap (λ (h : Header). h.count) after_is;
          })
          after_is {a = a} (rw (after_is, fields_are msg split is) at wrote) refl (left.1 ∙ ap (λ (h : Header). answer (Wrote h.number) written) after_is))

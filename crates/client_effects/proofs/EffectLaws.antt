-- What an effect that a client takes makes of it: the header and the rows are those of the replica after it, and the
-- state stays well-formed. Assumes nothing.
use Prim.Native.Nat.{ℕ, ◌≤◌}
use mathlib.Core.Bool.{Bool, true, false, not, cond, ◌&&◌}
use mathlib.Core.List.{List}
use mathlib.Core.Option.{some}
use mathlib.Core.Path.{◌≡◌, refl, sym, ap, ◌∙◌}
use lib.Dec.{eqb}
use lib.ListN.{length}
use Rattle.base.specs.Bytes.{Bytes, is_nil}
use Rattle.client_calls.proofs.MessageLaws.{Sound}
use Rattle.client_calls.specs.Effects.{Effect, sync, finish, hear, stale, outside, apply}
use Rattle.client_calls.specs.Next.{effect_next}
use Rattle.client_effects.proofs.PlanLaws.{clash, same_sizes}
use Rattle.client_effects.specs.Plans.{counted, effect_header, effect_row, row_change}
use Rattle.client_state.proofs.FormLaws.{GoodHeader, GoodClient}
use Rattle.client_state.proofs.StateLaws.{as_many}
use Rattle.client_state.specs.Views.{is_waiting, subtree_of, key_list, value_list, view}
use Rattle.client_state.specs.declared.Client.{Client}
use Rattle.client_state.specs.declared.Header.{Header}
use Rattle.frame_forms.specs.Lengths.{value_room}
use Rattle.keys.specs.Keys.{is_key, under}
use Rattle.numbers.specs.Ticks.{max_tick}
use Rattle.row_cells.specs.Faults.{GoodRows}
use Rattle.row_cells.specs.Texts.{rows_of}
use Rattle.row_change.proofs.ChangeLaws.{every-changed}
use Rattle.row_change.specs.Changes.{changed, is_over, stores}
use Rattle.row_search.proofs.FindLaws.{changed_removes, changed-sets}
use Rattle.row_search.specs.Places.{place_of, change_to}
use Rattle.rows.specs.Rows.{set_row, remove_row}

-- a message is for one of the two phases
abbrev pub InPhase : Effect → ℕ → Type 0
InPhase (sync key value) phase = is_waiting phase ≡ true
InPhase (finish n) phase = is_waiting phase ≡ true
InPhase (hear t) phase = is_waiting phase ≡ false
InPhase stale phase = is_waiting phase ≡ false
InPhase (outside n) phase = is_waiting phase ≡ false
InPhase (apply n key value) phase = is_waiting phase ≡ false

-- only a sign of life has a time
abbrev pub InTime : Effect → Type 0
InTime (sync key value) = Unit {0}
InTime (finish n) = Unit {0}
InTime (hear t) = t ≤ max_tick
InTime stale = Unit {0}
InTime (outside n) = Unit {0}
InTime (apply n key value) = Unit {0}

-- the key and the value that a message carries for a row
abbrev pub Carries : Effect → Bytes → Bytes → Type 0
Carries (sync k v) key value = (k ≡ key) × (v ≡ value)
Carries (finish n) key value = Unit {0}
Carries (hear t) key value = Unit {0}
Carries stale key value = Unit {0}
Carries (outside n) key value = Unit {0}
Carries (apply n k v) key value = (k ≡ key) × (v ≡ value)

-- what is known of the effect of a message that is accepted
pub record Taken (c : Client) (e : Effect) : Type 0 where
  pub good : GoodClient c
  pub sound : Sound (subtree_of c) e
  pub in_phase : InPhase e c.header.phase
  pub in_time : InTime e
  pub room : is_over (row_change (effect_row e) (key_list c)) c.header.count ≡ false

-- ---- a row that is set or removed
pub record RowKnown (c : Client) (key value : Bytes) (removes : Bool) : Type 0 where
  pub key_good : is_key key ≡ true
  pub in_it : under (subtree_of c) key ≡ true
  pub value_some : removes ≡ false → is_nil value ≡ false
  pub value-short : length value ≤ value_room

module _ (c : Client) (key value : Bytes) where
  pub row_known : (e : Effect) → Sound (subtree_of c) e → Carries e key value → {row : Bool × Bytes} → effect_row e ≡ some row → (row.1 ≡ key) × RowKnown c key value row.0
  row_known (sync k v) a w {row} p =
      let q : (false, k) ≡ row = cc in
      (ap (λ (r : Bool × Bytes). r.1) (sym q) ∙ w.0, record { key_good = rw w.0 at a.0; in_it = rw w.0 at a.1.0; value_some = λ z. rw w.1 at a.1.1.0; value-short = rw w.1 at a.1.1.1 })
  row_known (finish n) a w p = clash cc
  row_known (hear t) a w p = clash cc
  row_known stale a w p = clash cc
  row_known (outside n) a w p = clash cc
  row_known (apply n k v) a w {row} p =
      let q : (is_nil v, k) ≡ row = cc in
      (ap (λ (r : Bool × Bytes). r.1) (sym q) ∙ w.0, record { key_good = rw w.0 at a.0; in_it = rw w.0 at a.1.0; value_some = λ z. rw w.1 at (ap (λ (r : Bool × Bytes). r.0) q ∙ z); value-short = rw w.1 at a.1.1.0 })

-- ---- what is left of a client
-- c' is c after an effect, with the key and the value that the message carries
pub record Done (c : Client) (e : Effect) (key value : Bytes) (c' : Client) : Type 0 where
  pub count : ℕ
  pub header : c'.header ≡ counted (effect_header c.header e) count
  pub subtree : c'.subtree ≡ c.subtree
  pub keys : key_list c' ≡ changed (row_change (effect_row e) (key_list c)) key (key_list c)
  pub rows : rows_of (key_list c') (value_list c') ≡ changed (row_change (effect_row e) (key_list c)) (key, value) (rows_of (key_list c) (value_list c))
  pub good : GoodRows c'.header.count c'.bytes c'.lengths

-- the row of a key is removed, or set
changed_is : (removes : Bool) (key value : Bytes) (keys values : List Bytes) → length keys ≡ length values
    → changed (change_to removes (place_of 0 key keys)) (key, value) (rows_of keys values) ≡ cond removes (remove_row key (rows_of keys values)) (set_row key value (rows_of keys values))
changed_is true key value keys values e = changed_removes key keys values e value
changed_is false key value keys values e = changed-sets key keys values e value

-- a live client may have any number
live_any : (phase n : ℕ) → is_waiting phase ≡ false → (is_waiting phase && not (eqb n 0)) ≡ false
live_any phase n e = rw e

module _ (c : Client) (key value : Bytes) (c' : Client) where
  pub done_view : (e : Effect) → Carries e key value → Done c e key value c' → view c' ≡ effect_next (view c) e
  unfolding view effect_next
  done_view (sync k v) w d = rw (d.rows, d.subtree, d.header, w.0, w.1, changed_is false key value (key_list c) (value_list c) (as_many c))
  done_view (finish n) w d = rw (d.rows, d.subtree, d.header)
  done_view (hear t) w d = rw (d.rows, d.subtree, d.header)
  done_view stale w d = rw (d.rows, d.subtree, d.header)
  done_view (outside n) w d = rw (d.rows, d.subtree, d.header)
  done_view (apply n k v) w d = rw (d.rows, d.subtree, d.header, w.0, w.1, changed_is (is_nil value) key value (key_list c) (value_list c) (as_many c))

  header_good : (e : Effect) → Taken c e → (n : ℕ) → GoodHeader (counted (effect_header c.header e) n)
  header_good (sync k v) t n = record { number = t.good.header.number; clock = t.good.header.clock; waits = t.good.header.waits }
  header_good (finish m) t n = record { number = t.sound; clock = t.good.header.clock; waits = refl }
  header_good (hear tick) t n = record { number = t.good.header.number; clock = t.in_time; waits = t.good.header.waits }
  header_good stale t n = record { number = t.good.header.number; clock = t.good.header.clock; waits = t.good.header.waits }
  header_good (outside m) t n = record { number = t.sound; clock = t.good.header.clock; waits = live_any c.header.phase m t.in_phase }
  header_good (apply m k v) t n = record { number = t.sound.1.1.1; clock = t.good.header.clock; waits = live_any c.header.phase m t.in_phase }

  -- a row that is stored lies under the subtree
  stored_under : (e : Effect) → Sound (subtree_of c) e → Carries e key value → stores (row_change (effect_row e) (key_list c)) ≡ true → under (subtree_of c) key ≡ true
  stored_under (sync k v) a w s = (row_known c key value (sync k v) a w refl).1.in_it
  stored_under (finish n) a w s = clash cc
  stored_under (hear t) a w s = clash cc
  stored_under stale a w s = clash cc
  stored_under (outside n) a w s = clash cc
  stored_under (apply n k v) a w s = (row_known c key value (apply n k v) a w refl).1.in_it

  pub done_good : (e : Effect) → Taken c e → Carries e key value → Done c e key value c' → GoodClient c'
  done_good e t w d =
      let long : c'.header.subtree_length ≡ c.header.subtree_length = ap (λ (h : Header). h.subtree_length) d.header ∙ (same_sizes c.header e).1 in
      let own : subtree_of c' ≡ subtree_of c = rw (long, d.subtree) in
      record {
        rows = d.good;
        fits = rw long t.good.fits;
        is-subtree = rw own t.good.is-subtree;
        are_under = rw (own, d.keys) (every-changed (under (subtree_of c)) (row_change (effect_row e) (key_list c)) key (key_list c) t.good.are_under (stored_under e t.sound w));
        header = rw d.header (header_good e t d.count);
      }

-- A book stays sound, and what an accepted call is known to have passed: rows in key order, at most as many as there is room for, each with a key and a value of 1 to 256 bytes.
-- Assumes nothing.
use Prim.Native.Nat.{ℕ, suc, ◌-◌, ◌≤◌, ◌<◌}
use native.Mathlib.Omega.{arith}
use mathlib.Core.Bool.{Bool, true, false, cond, not, ◌&&◌}
use mathlib.Core.List.{List, [], ◌∷◌, ◌++◌}
use mathlib.Core.Option.{Option, none, some}
use mathlib.Core.Path.{◌≡◌, refl}
use lib.Dec.{leb}
use lib.ListN.{length}
use borrow.Author.Tests.{leb-true, leb-false, eqb-false, not-false}
use Rattle.std.specs.declared.cmp.Ordering.TheVariants.{Less, Equal, Greater}
use Rattle.std.specs.declared.cmp.Ordering.{Ordering}
use Rattle.answers.specs.Refusals.{if_accepted}
use Rattle.answers.specs.declared.refusal.Refusal.TheVariants.{BadKey, BadSequence}
use Rattle.answers.specs.declared.refusal.Refusal.{Refusal}
use Rattle.base.proofs.CheckLaws.{passed, both_passed}
use Rattle.base.specs.Bytes.{Bytes, is_nil, every}
use Rattle.base.specs.Checks.Check.{when}
use Rattle.base.specs.Checks.{Check, first_refusal}
use Rattle.cells.specs.Cells.{All}
use Rattle.frames.specs.Messages.{frame_at}
use Rattle.messages.specs.Fields.{fields_of}
use Rattle.keys.specs.Keys.{is_key}
use Rattle.numbers.specs.Sequences.{max_sequence, is_sequence}
use Rattle.key_order.specs.Order.{order_of}
use Rattle.ports.specs.Ports.{framed, payload_checks, kvset_checks, kvset_port, tick_checks}
use Rattle.rows.proofs.RowLaws.{sorted_set, sorted_remove, set_remove, length-set, length-remove}
use Rattle.rows.specs.Rows.{Rows, Sorted, place, set_row, part, remove_row, keys_in, has_key}
use Rattle.server_calls.specs.Start.{start_checks, start_refusal}
use Rattle.server_calls.specs.Calls.Call.{kvset, tick, icanhaz}
use Rattle.server_calls.specs.Calls.{Call}
use Rattle.server_calls.specs.Deeds.Deed.{expire, beat, quiet}
use Rattle.server_calls.specs.Deeds.{Deed, deed_of, deed}
use Rattle.server_calls.specs.Refusals.{store_checks, deed_checks, call_checks}
use Rattle.server_calls.proofs.DueLaws.{due_key}
use Rattle.server_calls.specs.Due.{least_due}
use Rattle.server_state.specs.Views.{Held}
use Rattle.joining.proofs.PublicationLaws.{GoodUpdate}
use Rattle.joining.specs.Book.ServerStart.{begin}
use Rattle.joining.specs.Book.{Book, ServerStart, blank, book_start, book_refusal, book_kvset, book_tick, entered, book_next, book_after}
use Rattle.base.specs.Logs.Log.{empty, ◌▷◌}
use Rattle.base.specs.Logs.{Log}
use Rattle.row_cells.specs.Sizes.{max_rows}

-- ---- what holds of all rows
module _ {A : Type 0} (P : Bytes × A → Type 0) where
  all_set : (k : Bytes) (a : A) (l : Rows A) → P (k, a) → All P l → All P (set_row k a l)
  unfolding set_row
  all_set k a [] p h = (p, tt)
  all_set k a (r ∷ l) p h = go (order_of k r.0) (all_set k a l p h.1)
    where
      go : (o : Ordering) → All P (set_row k a l) → All P (place o (k, a) r l (set_row k a l))
      go Less i = (p, h)
      go Equal i = (p, h.1)
      go Greater i = (h.0, i)

  all_remove : (k : Bytes) (l : Rows A) → All P l → All P (remove_row k l)
  unfolding remove_row
  all_remove k [] h = tt
  all_remove k (r ∷ l) h = go (order_of k r.0) (all_remove k l h.1)
    where
      go : (o : Ordering) → All P (remove_row k l) → All P (part o r l (remove_row k l))
      go Less i = h
      go Equal i = h.1
      go Greater i = (h.0, i)

-- ---- a sound book
pub record Fit (r : Bytes × Held) : Type 0 where
  pub key : is_key r.0 ≡ true
  pub filled : is_nil r.1.value ≡ false
  pub short : length r.1.value ≤ 256

pub record Sound (b : Book) : Type 0 where
  pub sorted : Sorted b.rows
  pub count : length b.rows ≤ max_rows
  pub number : b.number ≤ max_sequence
  pub fit : All Fit b.rows

fit_keys : (l : Rows Held) → All Fit l → every is_key (keys_in l) ≡ true
unfolding every keys_in
fit_keys [] h = refl
fit_keys (r ∷ l) h = rw (h.0.key, fit_keys l h.1)

-- ---- an accepted KVSET
module _ (b : Book) (msg : Bytes) (t room : ℕ) where
  abbrev front : List (Check Refusal)
  front = when (not (is_key (frame_at 0 msg))) BadKey ∷ when (not (is_sequence (frame_at 1 msg))) BadSequence ∷ []

  abbrev change : List (Check Refusal)
  change = store_checks (has_key (frame_at 0 msg) b.rows) (length b.rows) b.number (fields_of msg) room

  module _ (e : book_refusal b (kvset msg t room) ≡ none) where
    port_passed : first_refusal (kvset_port msg) ≡ none
    unfolding book_refusal call_checks
    port_passed = (both_passed (kvset_port msg) (tick_checks b.last_tick t ++ change) e).0

    change_passed : first_refusal change ≡ none
    unfolding book_refusal call_checks
    change_passed = (both_passed (tick_checks b.last_tick t) change (both_passed (kvset_port msg) (tick_checks b.last_tick t ++ change) e).1).1

    pub update_good : GoodUpdate (fields_of msg)
    update_good =
        let f = (both_passed (framed 5 msg) (kvset_checks (fields_of msg)) port_passed).1 in
        let p = both_passed front (payload_checks (frame_at 2 msg) (frame_at 3 msg) (frame_at 4 msg)) f in
        record { key = not-false _ (passed 0 front p.0); payload = p.1 }

    value-short : length (frame_at 4 msg) ≤ 256
    value-short = leb-true _ _ (not-false _ (passed 2 (payload_checks (frame_at 2 msg) (frame_at 3 msg) (frame_at 4 msg)) update_good.payload))

    pub kvset-below : b.number ≤ max_sequence → b.number < max_sequence
    kvset-below h = omega (arith, eqb-false b.number max_sequence (passed 1 change change_passed))

    has_room : (not (is_nil (frame_at 4 msg)) && (not (has_key (frame_at 0 msg) b.rows) && leb max_rows (length b.rows))) ≡ false
    has_room = passed 0 change change_passed

    sound_kvset : Sound b → Sound (book_kvset b (fields_of msg) t)
    unfolding book_kvset
    sound_kvset s = go _ (is_nil (frame_at 4 msg)) refl has_room
      where
        key : Bytes
        key = frame_at 0 msg

        held : Option ℕ → Held
        held expiry = record { value = frame_at 4 msg; expiry = expiry }

        few : (y : Bool) → has_key key b.rows ≡ y → (not y && leb max_rows (length b.rows)) ≡ false → cond y (length b.rows) (suc (length b.rows)) ≤ max_rows
        few true f g = s.count
        few false f g = leb-false max_rows (length b.rows) g

        go : (e : Option ℕ) (y : Bool) → is_nil (frame_at 4 msg) ≡ y → (not y && (not (has_key key b.rows) && leb max_rows (length b.rows))) ≡ false
            → Sound (record { number = suc b.number; last_tick = t; last_published = t; rows = cond y (remove_row key b.rows) (set_row key (held e) (remove_row key b.rows)) })
        go e true f g = record {
          sorted = sorted_remove key b.rows s.sorted;
          count = omega (arith, length-remove key b.rows, s.count);
          number = kvset-below s.number;
          fit = all_remove Fit key b.rows s.fit;
        }
        go e false f g = record {
          sorted = sorted_set key (held e) (remove_row key b.rows) (sorted_remove key b.rows s.sorted);
          count = rw (set_remove key (held e) b.rows s.sorted, length-set key (held e) b.rows s.sorted) (few (has_key key b.rows) refl g);
          number = kvset-below s.number;
          fit = all_set Fit key (held e) (remove_row key b.rows) (record { key = update_good.key; filled = f; short = value-short }) (all_remove Fit key b.rows s.fit);
        }

-- ---- an accepted Tick
module _ (b : Book) (t room : ℕ) (e : book_refusal b (tick t room) ≡ none) where
  pub deed-passed : first_refusal (deed_checks b.number (deed b t) room) ≡ none
  unfolding book_refusal call_checks
  deed-passed = (both_passed (tick_checks b.last_tick t) (deed_checks b.number (deed b t) room) e).1

pub expiry-below : (n room : ℕ) (key : Bytes) → first_refusal (deed_checks n (expire key) room) ≡ none → n ≤ max_sequence → n < max_sequence
expiry-below n room key e h = omega (arith, eqb-false n max_sequence (passed 0 (deed_checks n (expire key) room) e))

-- the key of the row that goes is a key
pub deed-key : (b : Book) (t : ℕ) (key : Bytes) → Sound b → deed b t ≡ expire key → is_key key ≡ true
unfolding deed
deed-key b t key s e = go (least_due t b.rows) refl e
  where
    idle : (y : Bool) → cond y beat quiet ≡ expire key → is_key key ≡ true
    idle true f = absurd (let z : ◌≡◌ {A = ℕ} 0 1 = cc in omega arith)
    idle false f = absurd (let z : ◌≡◌ {A = ℕ} 0 1 = cc in omega arith)

    go : (q : Option (Bytes × ℕ)) → least_due t b.rows ≡ q → deed_of t b.last_published q ≡ expire key → is_key key ≡ true
    go none f g = idle (leb 1000 (t - b.last_published)) g
    go (some d) f g = let k : d.0 ≡ key = cc in rw (← k) (due_key is_key t b.rows d (fit_keys b.rows s.fit) f)

sound_tick : (b : Book) (t room : ℕ) (d : Deed) → first_refusal (deed_checks b.number d room) ≡ none → Sound b → Sound (book_tick b d t)
unfolding book_tick
sound_tick b t room (expire key) e s = record {
  sorted = sorted_remove key b.rows s.sorted;
  count = omega (arith, length-remove key b.rows, s.count);
  number = expiry-below b.number room key e s.number;
  fit = all_remove Fit key b.rows s.fit;
}
sound_tick b t room beat e s = record { sorted = s.sorted; count = s.count; number = s.number; fit = s.fit }
sound_tick b t room quiet e s = record { sorted = s.sorted; count = s.count; number = s.number; fit = s.fit }

-- ---- any call
sound_entered : (b : Book) (x : Call) → book_refusal b x ≡ none → Sound b → Sound (entered b x)
unfolding entered
sound_entered b (kvset msg t room) e s = sound_kvset b msg t room e s
sound_entered b (tick t room) e s = sound_tick b t room (deed b t) (deed-passed b t room e) s
sound_entered b (icanhaz msg room) e s = s

sound_next : (b : Book) (x : Call) → Sound b → Sound (book_next b x)
unfolding book_next
sound_next b x s = go (book_refusal b x) refl
  where
    go : (r : Option Refusal) → book_refusal b x ≡ r → Sound (if_accepted r (entered b x) b)
    go none e = sound_entered b x e s
    go (some r) e = s

sound_blank : (n t : ℕ) → n ≤ max_sequence → Sound (blank n t)
sound_blank n t h = record { sorted = tt; count = omega arith; number = h; fit = tt }

sound_start : (p : ServerStart) → Sound (book_start p)
unfolding book_start start_refusal
sound_start (begin n t) = go (start_refusal n t) refl
  where
    go : (r : Option Refusal) → start_refusal n t ≡ r → Sound (if_accepted r (blank n t) (blank 0 0))
    go none e = sound_blank n t (leb-true n max_sequence (not-false _ (passed 0 (start_checks n t) e)))
    go (some r) e = sound_blank 0 0 (omega arith)

pub sound : (p : ServerStart) (S : Log Call) → Sound (book_after p S)
unfolding book_after
sound p empty = sound_start p
sound p (S ▷ x) = sound_next (book_after p S) x (sound p S)

-- A server is its book, and each call either leaves number and map as they are or makes one step, which one KVPUB carries. Assumes nothing.
use Prim.Native.Nat.{ℕ, suc, ◌<◌}
use mathlib.Core.Bool.{Bool, true, false, cond}
use mathlib.Core.List.{[]}
use mathlib.Core.Logic.{◌⊎◌, inl, inr}
use mathlib.Core.Option.{Option, none, some}
use mathlib.Core.Path.{◌≡◌, refl, sym, ap, subst, ◌∙◌}
use Rattle.answers.specs.Refusals.{if_accepted}
use Rattle.answers.specs.declared.refusal.Refusal.{Refusal}
use Rattle.base.specs.Bytes.{Bytes, is_nil}
use Rattle.base.specs.Checks.{first_refusal}
use Rattle.client_calls.specs.Next.{rows_after}
use Rattle.messages.specs.Fields.{Fields, bytes_of, fields, fields_of, hugz}
use Rattle.numbers.specs.Sequences.{max_sequence}
use Rattle.properties.specs.Properties.{properties_of}
use Rattle.round_trip.proofs.RoundTripProof.{nothing-more}
use Rattle.rows.proofs.RowLaws.{set_remove, map_set, map-remove}
use Rattle.rows.specs.Rows.{Rows, set_row, remove_row, map_rows}
use Rattle.server_calls.specs.Start.{start_refusal, start_of, empty_at}
use Rattle.server_calls.specs.Calls.Call.{kvset, tick, icanhaz}
use Rattle.server_calls.specs.Calls.{Call}
use Rattle.server_calls.specs.Deeds.Deed.{expire, beat, quiet}
use Rattle.server_calls.specs.Deeds.{Deed, deed}
use Rattle.server_calls.specs.Next.{entry_for, expiry_at, kvset_next, tick_next, accepted_next}
use Rattle.server_calls.specs.Output.{tick_bytes, accepted_bytes}
use Rattle.server_calls.specs.Refusals.{update, expiry, deed_checks}
use Rattle.server_state.specs.Views.{Held, Entry, Ledger, plain, ledger_of}
use Rattle.joining.proofs.BookLaws.{Sound, sound, update_good, kvset-below, deed-passed, expiry-below, deed-key}
use Rattle.joining.proofs.PublicationLaws.{GoodUpdate, update-written, hugz-written}
use Rattle.joining.specs.Book.ServerStart.{begin}
use Rattle.joining.specs.Book.{Book, ServerStart, blank, book_start, book_refusal, book_kvset, book_tick, entered, book_next, book_after, value_of, map_of}
use Rattle.joining.specs.Ends.{server_start, server_refusal, server_next, server_bytes, server_after, message, publishes}
use Rattle.base.specs.Logs.Log.{empty, ◌▷◌}
use Rattle.base.specs.Logs.{Log}

-- ---- the ledger of a server without the rows' numbers, and its book
ledger-kvset : (v : Ledger Entry) (f : Fields) (t : ℕ) → Sound (ledger_of v) → ledger_of (kvset_next v f t) ≡ book_kvset (ledger_of v) f t
unfolding ledger_of kvset_next book_kvset plain
ledger-kvset v f t s = go (is_nil f.value)
  where
    entry : Entry
    entry = entry_for f t (suc v.number)

    rows : Rows Held
    rows = map_rows plain v.rows

    with_rows : Rows Held → Ledger Held
    with_rows l = record { number = suc v.number; last_tick = t; last_published = t; rows = l }

    go : (b : Bool) → with_rows (map_rows plain (cond b (remove_row f.head v.rows) (set_row f.head entry v.rows)))
        ≡ with_rows (cond b (remove_row f.head rows) (set_row f.head (plain entry) (remove_row f.head rows)))
    go true = ap with_rows (map-remove plain f.head v.rows)
    go false = ap with_rows (map_set plain f.head entry v.rows ∙ sym (set_remove f.head (plain entry) rows s.sorted))

ledger-tick : (v : Ledger Entry) (d : Deed) (t : ℕ) → ledger_of (tick_next v d t) ≡ book_tick (ledger_of v) d t
unfolding ledger_of tick_next book_tick
ledger-tick v (expire key) t =
    ap (λ (l : Rows Held). record { number = suc v.number; last_tick = t; last_published = t; rows = l }) (map-remove plain key v.rows)
ledger-tick v beat t = refl
ledger-tick v quiet t = refl

ledger-entered : (v : Ledger Entry) (x : Call) → Sound (ledger_of v) → ledger_of (accepted_next v x) ≡ entered (ledger_of v) x
unfolding accepted_next entered
ledger-entered v (kvset msg t room) s = ledger-kvset v (fields_of msg) t s
ledger-entered v (tick t room) s = ledger-tick v (deed (ledger_of v) t) t
ledger-entered v (icanhaz msg room) s = refl

ledger_next : (v : Ledger Entry) (x : Call) → Sound (ledger_of v) → ledger_of (server_next v x) ≡ book_next (ledger_of v) x
unfolding server_next server_refusal book_next book_refusal
ledger_next v x s = go (book_refusal (ledger_of v) x)
  where
    go : (r : Option Refusal) → ledger_of (if_accepted r (accepted_next v x) v) ≡ if_accepted r (entered (ledger_of v) x) (ledger_of v)
    go none = ledger-entered v x s
    go (some r) = refl

ledger-start : (p : ServerStart) → ledger_of (server_start p) ≡ book_start p
unfolding ledger_of server_start start_of book_start map_rows
ledger-start (begin n t) = go (start_refusal n t)
  where
    go : (r : Option Refusal) → ledger_of (if_accepted r (empty_at n t) (empty_at 0 0)) ≡ if_accepted r (blank n t) (blank 0 0)
    go none = refl
    go (some r) = refl

pub server_is_book : (p : ServerStart) (S : Log Call) → ledger_of (server_after p S) ≡ book_after p S
unfolding server_after book_after
server_is_book p empty = ledger-start p
server_is_book p (S ▷ x) =
    ledger_next (server_after p S) x (rw (server_is_book p S) (sound p S)) ∙ ap (λ (b : Book). book_next b x) (server_is_book p S)

pub server_sound : (p : ServerStart) (S : Log Call) → Sound (ledger_of (server_after p S))
server_sound p S = rw (server_is_book p S) (sound p S)

pub server-number : (p : ServerStart) (S : Log Call) → (server_after p S).number ≡ (book_after p S).number
unfolding ledger_of
server-number p S = ap (λ (b : Book). b.number) (server_is_book p S)

-- ---- one call: what it makes of the book, and what it publishes
pub data Move (b b' : Book) (w : Option Bytes) : Type 0 where
  -- number and map stay, and no KVPUB is published
  stays : b'.number ≡ b.number → map_of b' ≡ map_of b → (w ≡ none) ⊎ (w ≡ some (bytes_of hugz)) → Move b b' w
  -- the number rises by one, and the KVPUB with the new number carries what changes
  steps : (f : Fields) → GoodUpdate f → b.number < max_sequence → b'.number ≡ suc b.number → map_of b' ≡ rows_after f.head f.value (map_of b)
      → w ≡ some (update (suc b.number) f) → Move b b' w

map-kvset : (b : Book) (f : Fields) (t : ℕ) → Sound b → map_of (book_kvset b f t) ≡ rows_after f.head f.value (map_of b)
unfolding book_kvset map_of value_of
map-kvset b f t s = go (is_nil f.value)
  where
    held : Held
    held = record { value = f.value; expiry = expiry_at t (properties_of f.properties) }

    go : (y : Bool) → map_rows value_of (cond y (remove_row f.head b.rows) (set_row f.head held (remove_row f.head b.rows)))
        ≡ cond y (remove_row f.head (map_rows value_of b.rows)) (set_row f.head f.value (map_rows value_of b.rows))
    go true = map-remove value_of f.head b.rows
    go false = ap (map_rows value_of) (set_remove f.head held b.rows s.sorted) ∙ map_set value_of f.head held b.rows

kvset-number : (b : Book) (f : Fields) (t : ℕ) → (book_kvset b f t).number ≡ suc b.number
unfolding book_kvset
kvset-number b f t = refl

-- a row that expires is removed by an update without UUID, properties and value
abbrev expiring : Bytes → Fields
expiring key = fields key [] [] [] []

module _ (v : Ledger Entry) (s : Sound (ledger_of v)) where
  kvset_move : (msg : Bytes) (t room : ℕ) (r : Option Refusal) → book_refusal (ledger_of v) (kvset msg t room) ≡ r
      → Move (ledger_of v) (if_accepted r (book_kvset (ledger_of v) (fields_of msg) t) (ledger_of v)) (message (if_accepted r (update (suc v.number) (fields_of msg)) []))
  unfolding ledger_of
  kvset_move msg t room none e =
      steps (fields_of msg) (update_good (ledger_of v) msg t room e) (kvset-below (ledger_of v) msg t room e s.number) (kvset-number (ledger_of v) (fields_of msg) t)
      (map-kvset (ledger_of v) (fields_of msg) t s) (update-written (suc v.number) (fields_of msg))
  kvset_move msg t room (some r) e = stays refl refl (inl refl)

  deed_move : (t room : ℕ) (d : Deed) → deed (ledger_of v) t ≡ d → first_refusal (deed_checks v.number d room) ≡ none
      → Move (ledger_of v) (book_tick (ledger_of v) d t) (message (tick_bytes v.number d))
  unfolding book_tick tick_bytes ledger_of map_of update expiry
  deed_move t room (expire key) f e =
      steps (expiring key) (record { key = deed-key (ledger_of v) t key s f; payload = nothing-more }) (expiry-below v.number room key e s.number) refl
      (map-remove value_of key (ledger_of v).rows) (update-written (suc v.number) (expiring key))
  deed_move t room beat f e = stays refl refl (inr hugz-written)
  deed_move t room quiet f e = stays refl refl (inl refl)

  tick_move : (t room : ℕ) (r : Option Refusal) → book_refusal (ledger_of v) (tick t room) ≡ r
      → Move (ledger_of v) (if_accepted r (book_tick (ledger_of v) (deed (ledger_of v) t) t) (ledger_of v)) (message (if_accepted r (tick_bytes v.number (deed (ledger_of v) t)) []))
  unfolding ledger_of
  tick_move t room none e = deed_move t room (deed (ledger_of v) t) refl (deed-passed (ledger_of v) t room e)
  tick_move t room (some r) e = stays refl refl (inl refl)

  move : (x : Call) → Move (ledger_of v) (book_next (ledger_of v) x) (publishes v x)
  unfolding book_next book_refusal entered publishes server_bytes server_refusal accepted_bytes
  move (kvset msg t room) = kvset_move msg t room (book_refusal (ledger_of v) (kvset msg t room)) refl
  move (tick t room) = tick_move t room (book_refusal (ledger_of v) (tick t room)) refl
  move (icanhaz msg room) = go (book_refusal (ledger_of v) (icanhaz msg room))
    where
      go : (r : Option Refusal) → Move (ledger_of v) (if_accepted r (ledger_of v) (ledger_of v)) none
      go none = stays refl refl (inl refl)
      go (some r) = stays refl refl (inl refl)

pub book_move : (p : ServerStart) (S : Log Call) (x : Call) → Move (book_after p S) (book_after p (S ▷ x)) (publishes (server_after p S) x)
unfolding book_after
book_move p S x =
    subst (λ (b : Book). Move b (book_next b x) (publishes (server_after p S) x)) (server_is_book p S) (move (server_after p S) (server_sound p S) x)

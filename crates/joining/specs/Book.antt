-- The book of a server: what its map is at each number. It is kept from the arguments of the calls alone, never from a state or an answer.
use Rattle.std.specs.Prelude.{ℕ, suc, cond, [], leb, ltb}
use Rattle.std.proofs.Math.Option.{Option, none, some}
use Rattle.answers.specs.Refusals.{if_accepted}
use Rattle.answers.specs.declared.refusal.Refusal.{Refusal}
use Rattle.base.specs.Bytes.{Bytes, is_nil}
use Rattle.base.specs.Checks.{first_refusal}
use Rattle.messages.specs.Fields.{Fields, fields_of}
use Rattle.properties.specs.Properties.{properties_of}
use Rattle.rows.specs.Rows.{Rows, set_row, remove_row, map_rows}
use Rattle.server_calls.specs.Start.{start_refusal}
use Rattle.server_calls.specs.Calls.Call.{kvset, tick, icanhaz}
use Rattle.server_calls.specs.Calls.{Call}
use Rattle.server_calls.specs.Deeds.Deed.{expire, beat, quiet}
use Rattle.server_calls.specs.Deeds.{Deed, deed}
use Rattle.server_calls.specs.Next.{expiry_at}
use Rattle.server_calls.specs.Refusals.{call_checks}
use Rattle.server_state.specs.Views.{Held, Ledger}
use Rattle.base.specs.Logs.Log.{empty, ◌▷◌}
use Rattle.base.specs.Logs.{Log, add}

-- a number, the last tick, when something was last published, and rows of key, value and expiry in key order
abbrev pub Book : Type 0
Book = Ledger Held

-- ---- how it begins
-- a start of a server: a number and a tick
pub data ServerStart : Type 0 where
  begin : ℕ → ℕ → ServerStart

abbrev pub blank : ℕ → ℕ → Book
blank n t = record { number = n; last_tick = t; last_published = t; rows = [] }

-- at the start's number and tick, and at 0 and 0 where it is refused; with no rows
unfoldable pub book_start : ServerStart → Book
book_start (begin n t) = if_accepted (start_refusal n t) (blank n t) (blank 0 0)

-- ---- what a call does to it
-- the refusal table, read over the book
unfoldable pub book_refusal : Book → Call → Option Refusal
book_refusal b x = first_refusal (call_checks b x)

-- a value that is not empty adds a row, with its expiry or none
abbrev pub added : Fields → ℕ → Rows Held → Rows Held
added f t rows = cond (is_nil f.value) rows (set_row f.head (record { value = f.value; expiry = expiry_at t (properties_of f.properties) }) rows)

-- KVSET: the number rises by one, and the key's row goes
unfoldable pub book_kvset : Book → Fields → ℕ → Book
book_kvset b f t = record { number = suc b.number; last_tick = t; last_published = t; rows = added f t (remove_row f.head b.rows) }

-- Tick: if a row is due, the number rises by one and that row goes
unfoldable pub book_tick : Book → Deed → ℕ → Book
book_tick b (expire key) t = record { number = suc b.number; last_tick = t; last_published = t; rows = remove_row key b.rows }
book_tick b beat t = record { number = b.number; last_tick = t; last_published = t; rows = b.rows }
book_tick b quiet t = record { number = b.number; last_tick = t; last_published = b.last_published; rows = b.rows }

-- a call that the table does not refuse
unfoldable pub entered : Book → Call → Book
entered b (kvset msg t room) = book_kvset b (fields_of msg) t
entered b (tick t room) = book_tick b (deed b t) t
entered b (icanhaz msg room) = b

-- one that it refuses changes nothing
unfoldable pub book_next : Book → Call → Book
book_next b x = if_accepted (book_refusal b x) (entered b x) b

unfoldable pub book_after : ServerStart → Log Call → Book
book_after p empty = book_start p
book_after p (S ▷ x) = book_next (book_after p S) x

-- ---- what it tells
unfoldable pub value_of : Held → Bytes
value_of h = h.value

-- keys and values
unfoldable pub map_of : Book → Rows Bytes
map_of b = map_rows value_of b.rows

-- the map at number n: that of the first book whose number is n or more
unfoldable pub map_at : ServerStart → Log Call → ℕ → Rows Bytes
map_at p empty n = map_of (book_start p)
map_at p (S ▷ x) n = cond (leb n (book_after p S).number) (map_at p S n) (map_of (book_after p (S ▷ x)))

-- the new number where a number rises
unfoldable pub rise : ℕ → ℕ → Option ℕ
rise old new = cond (ltb old new) (some new) none

-- the numbers that the book's number rose to, one after the other
unfoldable pub rises : ServerStart → Log Call → Log ℕ
rises p empty = empty
rises p (S ▷ x) = add (rises p S) (rise (book_after p S).number (book_after p (S ▷ x)).number)

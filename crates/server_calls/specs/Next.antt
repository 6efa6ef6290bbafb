-- What a call makes of a server's ledger.
use Rattle.std.specs.Prelude
use Rattle.std.specs.Prelude.{ℕ, suc, ◌+◌, ◌*◌, cond, Some, None}
use Rattle.std.proofs.Math.Option.{Option, none, some}
use Rattle.answers.specs.Refusals.{if_accepted}
use Rattle.base.specs.Bytes.{is_nil}
use Rattle.messages.specs.Fields.{Fields, fields_of}
use Rattle.properties.specs.Properties.{properties_of}
use Rattle.properties.specs.declared.read.Lifetime.TheVariants.{Unlimited, Seconds}
use Rattle.properties.specs.declared.read.Lifetime.{Lifetime}
use Rattle.rows.specs.Rows.{set_row, remove_row}
use Rattle.server_calls.specs.Calls.{Call, kvset, tick, icanhaz}
use Rattle.server_calls.specs.Deeds.{Deed, expire, beat, quiet, deed}
use Rattle.server_calls.specs.Refusals.{refusal_of}
use Rattle.server_state.specs.Views.{Entry, Ledger, view, ledger_of}
use Rattle.server_state.specs.declared.Server.{Server}

-- a row set at tick t with a lifetime of n seconds expires at t + 1000n
abbrev pub expiry_at : ℕ → Prelude.Option Lifetime → Option ℕ
expiry_at t (Some Unlimited) = none
expiry_at t (Some (Seconds n)) = some (t + 1000 * n)
expiry_at t None = none

-- what is held of an update at tick t under number n; no old expiry is kept
abbrev pub entry_for : Fields → ℕ → ℕ → Entry
entry_for f t n = record { value = f.value; expiry = expiry_at t (properties_of f.properties); number = n }

-- KVSET: the number rises by one. An empty value removes the row, if there is one; another is set, with the new number
unfoldable pub kvset_next : Ledger Entry → Fields → ℕ → Ledger Entry
kvset_next v f t = record {
  number = suc v.number;
  last_tick = t;
  last_published = t;
  rows = cond (is_nil f.value) (remove_row f.head v.rows)
      (set_row f.head (entry_for f t (suc v.number)) v.rows);
}

-- Tick: a row that expires goes, under a new number; each publication is noted
unfoldable pub tick_next : Ledger Entry → Deed → ℕ → Ledger Entry
tick_next v (expire key) t = record { number = suc v.number; last_tick = t; last_published = t; rows = remove_row key v.rows }
tick_next v beat t = record { number = v.number; last_tick = t; last_published = t; rows = v.rows }
tick_next v quiet t = record { number = v.number; last_tick = t; last_published = v.last_published; rows = v.rows }

-- a call that is accepted; a snapshot changes nothing
unfoldable pub accepted_next : Ledger Entry → Call → Ledger Entry
accepted_next v (kvset msg t room) = kvset_next v (fields_of msg) t
accepted_next v (tick t room) = tick_next v (deed (ledger_of v) t) t
accepted_next v (icanhaz msg room) = v

unfoldable pub next_of : Server → Call → Ledger Entry
next_of s x = if_accepted (refusal_of s x) (accepted_next (view s) x) (view s)

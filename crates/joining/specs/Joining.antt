-- Joining is the same whenever it is done: the statement. `Joined` is what is supposed of a list S of calls on a server and a list C of calls on a client, both from
-- their start, refused calls included; `Joining` is what is claimed. S and C are any lists, so that what is said of their end holds after each of their calls.
use Rattle.std.specs.Prelude.{ℕ, ◌≤◌, ◌<◌, max, true, ◌≡◌}
use Rattle.std.proofs.Math.Option.{Option, none, some}
use Rattle.base.specs.Bytes.{Bytes}
use Rattle.client_calls.specs.Calls.{Call as ClientCall}
use Rattle.client_calls.specs.Calls.Call.{subscriber}
use Rattle.client_state.specs.Views.{Replica}
use Rattle.keys.specs.Keys.{under}
use Rattle.rows.specs.Rows.{Rows, keep, held_under, map_rows}
use Rattle.server_calls.specs.Calls.{Call as ServerCall}
use Rattle.server_calls.specs.Calls.Call.{icanhaz}
use Rattle.server_state.specs.Views.{Entry, Ledger}
use Rattle.joining.specs.Book.{ServerStart, book_refusal, book_after, map_of, map_at, rises}
use Rattle.joining.specs.Ends.{ClientStart, server_after, published, answer_to, client_refusal, client_next, client_after, handed, hears, accepted, heard}
use Rattle.base.specs.Logs.Log.{empty, ◌▷◌}
use Rattle.base.specs.Logs.{Log, ◌⧺◌, Among}
use Rattle.joining.specs.Readings.{is_kvpub, key_of, number_of, kvpub_number, kvpub_numbers}

-- ---- what is supposed
-- The client first accepts the whole answer to one snapshot asked of the server, and no other message; every later message it accepts is one that this
-- server published, whatever is lost, repeated or late
pub record Took (p : ServerStart) (S : Log ServerCall) (q : ClientStart) (C : Log ClientCall) : Type 0 where
  -- the request and the length of the output, and the calls on the server before it and after it
  pub before : Log ServerCall
  pub request : Bytes
  pub room : ℕ
  pub after : Log ServerCall
  pub asked : S ≡ (before ▷ icanhaz request room) ⧺ after
  pub granted : book_refusal (book_after p before) (icanhaz request room) ≡ none
  -- what the client accepts behind the answer
  pub later : Log Bytes
  pub took : accepted q C ≡ answer_to (server_after p before) request room ⧺ later
  pub own : (b : Bytes) → Among b later → Among b (published p S)

-- a client has accepted every KVPUB of its subtree that is numbered between: above its own number, and below that of the message b
abbrev pub AllBetween : ServerStart → Log ServerCall → ClientStart → Log ClientCall → Bytes → Type 0
AllBetween p S q C b =
    (b' : Bytes) → Among b' (published p S) → is_kvpub b' ≡ true → under (client_after q C).subtree (key_of b') ≡ true → (client_after q C).number < number_of b'
    → number_of b' < number_of b → Among b' (heard q C)

-- a KVPUB numbered above the client's is accepted only then
abbrev pub NoGap : ServerStart → Log ServerCall → ClientStart → Log ClientCall → Type 0
NoGap p S q empty = Unit {0}
NoGap p S q (C ▷ x) =
    NoGap p S q C
    × ((b : Bytes) → hears (client_after q C) x ≡ some b → is_kvpub b ≡ true → (client_after q C).number < number_of b → AllBetween p S q C b)

-- both
pub record Joined (p : ServerStart) (S : Log ServerCall) (q : ClientStart) (C : Log ClientCall) : Type 0 where
  pub taken : Took p S q C
  pub no_gap : NoGap p S q C

-- m, the book's number when the snapshot is asked
abbrev pub joined_at : {p : ServerStart} {S : Log ServerCall} {q : ClientStart} {C : Log ClientCall} → Joined p S q C → ℕ
joined_at {p} j = (book_after p j.taken.before).number

-- the answer to it
abbrev pub answered : {p : ServerStart} {S : Log ServerCall} {q : ClientStart} {C : Log ClientCall} → Joined p S q C → Log Bytes
answered {p} j = answer_to (server_after p j.taken.before) j.taken.request j.taken.room

-- ---- what is claimed
-- the highest of m and the numbers of the KVPUBs among messages
abbrev pub at_least : ℕ → Option ℕ → ℕ
at_least c none = c
at_least c (some n) = max c n

unfoldable pub highest : ℕ → Log Bytes → ℕ
highest m empty = m
highest m (bs ▷ b) = at_least (highest m bs) (kvpub_number b)

-- the client v joined at m and accepted some messages since: its number is the highest of m and theirs, and its map is exactly the part under its subtree of the
-- server's map at that number
pub record Follows (p : ServerStart) (S : Log ServerCall) (v : Replica) (m : ℕ) (since : Log Bytes) : Type 0 where
  pub live : v.live ≡ true
  pub number : v.number ≡ highest m since
  pub least : m ≤ v.number
  pub most : v.number ≤ (book_after p S).number
  pub map : v.rows ≡ keep (under v.subtree) (map_at p S v.number)

-- the keys and values that a server holds
abbrev pub held : Entry → Bytes
held e = e.value

unfoldable pub held_by : Ledger Entry → Rows Bytes
held_by v = map_rows held v.rows

pub record Joining (p : ServerStart) (S : Log ServerCall) : Type 0 where
  -- the server's number, keys and values are the book's
  pub number : (server_after p S).number ≡ (book_after p S).number
  pub map : held_by (server_after p S) ≡ map_of (book_after p S)
  -- each number has one map: whenever the book has a number, its map is the map at that number
  pub one_map : (S₁ S₂ : Log ServerCall) → S ≡ S₁ ⧺ S₂ → map_at p S (book_after p S₁).number ≡ map_of (book_after p S₁)
  -- each rise of the book's number is published in exactly one KVPUB, with the new number, and there are no others
  pub published_once : kvpub_numbers (published p S) ≡ rises p S
  -- the client's number and map, once it has the answer (and some messages since), and after every later call
  pub follows : (q : ClientStart) (C D : Log ClientCall) (j : Joined p S q (C ⧺ D)) (since : Log Bytes) → accepted q C ≡ answered j ⧺ since
      → Follows p S (client_after q C) (joined_at j) since
  -- what it finds under a key of its subtree is what the server had under that key at the client's number
  pub finds : (q : ClientStart) (C : Log ClientCall) → Joined p S q C → (key : Bytes) → under (client_after q C).subtree key ≡ true
      → held_under key (client_after q C).rows ≡ held_under key (map_at p S (client_after q C).number)
  -- joining at m and following until n gives the map and number of joining at n
  pub whenever : (q₁ q₂ : ClientStart) (C₁ C₂ : Log ClientCall) (j₁ : Joined p S q₁ C₁) (j₂ : Joined p S q₂ C₂)
      → (client_after q₁ C₁).subtree ≡ (client_after q₂ C₂).subtree → j₂.taken.later ≡ empty → (client_after q₁ C₁).number ≡ joined_at j₂
      → ((client_after q₁ C₁).number ≡ (client_after q₂ C₂).number) × ((client_after q₁ C₁).rows ≡ (client_after q₂ C₂).rows)
  -- of two clients at one number, the narrower has the wider's map, cut to its own subtree
  pub narrower : (q₁ q₂ : ClientStart) (C₁ C₂ : Log ClientCall) → Joined p S q₁ C₁ → Joined p S q₂ C₂
      → (client_after q₁ C₁).number ≡ (client_after q₂ C₂).number → under (client_after q₁ C₁).subtree (client_after q₂ C₂).subtree ≡ true
      → (client_after q₂ C₂).rows ≡ keep (under (client_after q₂ C₂).subtree) (client_after q₁ C₁).rows
  -- a KVPUB accepted once changes nothing when it comes again, at either entry
  pub again : (q : ClientStart) (C : Log ClientCall) (b : Bytes) → Among b (heard q C) → is_kvpub b ≡ true
      → (x : ClientCall) → handed x ≡ some b → client_next (client_after q C) x ≡ client_after q C
  -- a client that follows refuses no KVPUB of the server that leaves no gap, so that it can always go on; it is never full
  pub goes_on : (q : ClientStart) (C : Log ClientCall) → Joined p S q C → (b : Bytes) (t : ℕ) → Among b (published p S)
      → is_kvpub b ≡ true → AllBetween p S q C b → client_refusal (client_after q C) (subscriber b t) ≡ none

-- What joining supposes is met: by the session, for each of its desks over the one list of calls on the server. And what the session comes to.
use Rattle.std.specs.Prelude.{ℕ, true, [], ◌∷◌, ◌≡◌}
use Rattle.std.proofs.Math.Option.{some}
use Rattle.answers.specs.declared.answer.Kind.TheVariants.{Refused, Applied, Stale, Outside, Synced, Live, Heard, Wrote, Found, Present}
use Rattle.answers.specs.declared.refusal.Refusal.TheVariants.{Framing, Phase, ShortOutput}
use Rattle.base.specs.Bytes.{Bytes}
use Rattle.client_calls.specs.Calls.Call.{write_icanhaz, lookup}
use Rattle.client_calls.specs.Calls.{Call as ClientCall}
use Rattle.joining.specs.Book.{book_after, map_of, map_at}
use Rattle.joining.specs.Ends.{ClientStart, server_refusal, server_bytes, server_after, published, client_bytes, client_after}
use Rattle.joining.specs.Joining.{AllBetween, Joined, joined_at, Follows}
use Rattle.base.specs.Logs.Log.{empty, ◌▷◌}
use Rattle.base.specs.Logs.{Log}
use Rattle.joining.specs.Readings.{kvpub_numbers}
use Rattle.joining_witness.specs.Kinds.{server_kinds, client_kinds}
use Rattle.joining_witness.specs.Session.{undo7, undo70, cut, new, first_identity, first_request, kvpub1, kvpub2, kvpub3, kvpub4, beating, opens, first_set, opening, asked, calls, first_start, first_waits, first_joins, first_follows, first_calls, second_start, second_calls, third_start, third_calls, fourth_start, fourth_calls}
use Rattle.joining_witness.specs.W1.{update_bytes, answer_bytes, beat_bytes}
use Rattle.messages.specs.Fields.{with_identity}
use Rattle.keys.specs.Keys.{under}
use Rattle.numbers.specs.Sequences.{sequence}
use Rattle.rows.specs.Rows.{Rows}
use Rattle.server_calls.specs.Calls.Call.{tick, icanhaz}

-- a desk meets all that is supposed, and what is claimed of it holds: it joins at m, accepts some messages since, and then has a number and rows
pub record Joins (q : ClientStart) (C : Log ClientCall) (m : ℕ) (since : Log Bytes) (n : ℕ) (kept : Rows Bytes) : Type 0 where
  pub joined : Joined opens calls q C
  pub joins_at : joined_at joined ≡ m
  pub later : joined.taken.later ≡ since
  pub follows : Follows opens calls (client_after q C) m since
  pub number : (client_after q C).number ≡ n
  pub rows : (client_after q C).rows ≡ kept

pub record Witness : Type 0 where
  -- ---- bytes
  -- W1: what the first KVSET writes
  pub update-bytes : server_bytes (server_after opens empty) first_set ≡ update_bytes
  -- W1: what the first desk is sent
  pub answer-bytes : server_bytes (server_after opens opening) (icanhaz first_request 80) ≡ answer_bytes
  -- an output that is one byte shorter is too short for it
  pub answer-room : server_refusal (server_after opens opening) (icanhaz first_request 79) ≡ some ShortOutput
  -- a sign of life
  pub beat-bytes : server_bytes (server_after opens asked) (tick 60000 22) ≡ beat_bytes
  -- the first desk's request is what it writes itself, behind its identity
  pub request-bytes : with_identity first_identity (client_bytes (client_after first_start first_waits) (write_icanhaz 521)) ≡ first_request
  -- it looks up the value that it heard of last
  pub lookup-bytes : client_bytes (client_after first_start first_follows) (lookup undo7 3) ≡ new
  -- ---- answers, in the order of the calls
  -- the server's: the opening, two snapshots, the changes, two snapshots, and the sign of life
  pub server-answers : server_kinds opens calls ≡
      empty
      ▷ Wrote (sequence 1) ▷ Wrote (sequence 2) ▷ Refused Framing (sequence 2) ▷ Refused ShortOutput (sequence 2)
      ▷ Wrote (sequence 2) ▷ Wrote (sequence 2)
      ▷ Wrote (sequence 3) ▷ Wrote (sequence 3) ▷ Wrote (sequence 4)
      ▷ Wrote (sequence 4) ▷ Wrote (sequence 4)
      ▷ Wrote (sequence 4)
  -- the first desk's: until it has its answer, then until the expiry, and behind that
  pub first_answers : client_kinds first_start first_calls ≡
      empty
      ▷ Present (sequence 0) ▷ Refused Phase (sequence 0) ▷ Wrote (sequence 0) ▷ Synced (sequence 0) ▷ Live (sequence 2)
      ▷ Applied (sequence 3) ▷ Found (sequence 3) ▷ Stale (sequence 3) ▷ Refused Framing (sequence 3) ▷ Applied (sequence 4)
      ▷ Wrote (sequence 4) ▷ Heard (sequence 4) ▷ Stale (sequence 4)
  -- the fourth desk's: the expiry is not of its subtree
  pub fourth-answers : client_kinds fourth_start fourth_calls ≡ empty ▷ Synced (sequence 0) ▷ Live (sequence 2) ▷ Outside (sequence 4)
  -- ---- the server
  -- what it publishes; at 2000 a sign of life, since nothing was published for a second
  pub publishes : published opens calls ≡ empty ▷ kvpub1 ▷ kvpub2 ▷ kvpub3 ▷ beating ▷ kvpub4 ▷ beating
  -- each number once, in order
  pub numbers : kvpub_numbers (published opens calls) ≡ empty ▷ 1 ▷ 2 ▷ 3 ▷ 4
  -- the book at the end: the row of clip 7 has expired
  pub book_number : (book_after opens calls).number ≡ 4
  pub book_map : map_of (book_after opens calls) ≡ (undo70, cut) ∷ []
  -- and its map at the numbers before
  pub map_at_2 : map_at opens calls 2 ≡ (undo7, cut) ∷ (undo70, cut) ∷ []
  pub map_at_3 : map_at opens calls 3 ≡ (undo7, new) ∷ (undo70, cut) ∷ []
  -- ---- the desks
  -- the first, once it has its answer
  pub first-joins : Joins first_start first_joins 2 empty 2 ((undo7, cut) ∷ [])
  -- after its first update
  pub first-follows : Joins first_start first_follows 2 (empty ▷ kvpub3) 3 ((undo7, new) ∷ [])
  -- and at its end, having accepted that update three times
  pub first : Joins first_start first_calls 2 (empty ▷ kvpub3 ▷ kvpub3 ▷ kvpub4 ▷ beating ▷ kvpub3) 4 []
  -- the second and the third join at the end
  pub second : Joins second_start second_calls 4 empty 4 []
  pub third : Joins third_start third_calls 4 empty 4 ((undo70, cut) ∷ [])
  -- the fourth never heard of number 3
  pub fourth : Joins fourth_start fourth_calls 2 (empty ▷ kvpub4) 4 ((undo70, cut) ∷ [])
  -- with its answer, the first desk can go on with the KVPUB numbered 3, and not with the next
  pub near : AllBetween opens calls first_start first_joins kvpub3
  pub too_far : AllBetween opens calls first_start first_joins kvpub4 → ⊥
  -- ---- pairs of desks
  -- the first and the second are as `whenever` supposes
  pub same-subtree : (client_after first_start first_calls).subtree ≡ (client_after second_start second_calls).subtree
  pub same_number : (client_after first_start first_calls).number ≡ joined_at second.joined
  -- the third is wider than the first and the fourth, and at their number, as `narrower` supposes
  pub wider_than_first : under (client_after third_start third_calls).subtree (client_after first_start first_calls).subtree ≡ true
  pub wider_than_fourth : under (client_after third_start third_calls).subtree (client_after fourth_start fourth_calls).subtree ≡ true

-- The session meets what joining supposes: all of it is computed. Assumes nothing.
use Prim.Native.Nat.{ℕ}
use native.Mathlib.Bridge.{le_by_compare, IsLe}
use mathlib.Core.Bool.{true}
use mathlib.Core.List.{[], ◌∷◌}
use mathlib.Core.Logic.{inl, inr}
use mathlib.Core.Option.{none}
use mathlib.Core.Path.{◌≡◌, refl, sym, ◌∙◌}
use lib.Dec.{leb}
use borrow.Author.Tests.{leb-true}
use Rattle.base.specs.Bytes.{Bytes}
use Rattle.client_calls.specs.Calls.{Call as ClientCall}
use Rattle.joining.specs.Book.{book_refusal, book_after, map_at}
use Rattle.joining.specs.Ends.{ClientStart, server_after, published, answer_to, client_after, accepted}
use Rattle.joining.specs.Joining.{AllBetween, highest}
use Rattle.base.specs.Logs.Log.{empty, ◌▷◌}
use Rattle.base.specs.Logs.{Log, ◌⧺◌}
use Rattle.joining_witness.proofs.Computed.{computed}
use Rattle.joining_witness.proofs.GapTests.{all_among, are_among, gapless, near, no_gap}
use Rattle.joining_witness.specs.Session.{undo7, undo70, cut, new, first_request, second_request, third_request, fourth_request, kvpub1, kvpub2, kvpub3, kvpub4, beating, opens, opening, joining, changes, calls, first_start, first_joins, first_follows, first_calls, second_start, second_calls, third_start, third_calls, fourth_start, fourth_calls}
use Rattle.joining_witness.specs.Witness.{Joins, Witness}
use Rattle.keys.specs.Keys.{under}
use Rattle.rows.specs.Rows.{Rows, keep}
use Rattle.server_calls.specs.Calls.Call.{tick, icanhaz}
use Rattle.server_calls.specs.Calls.{Call as ServerCall}

-- ---- what is published
abbrev all : Log Bytes
all = empty ▷ kvpub1 ▷ kvpub2 ▷ kvpub3 ▷ beating ▷ kvpub4 ▷ beating

publishes : published opens calls ≡ all
unfolding computed
publishes = refl

ends : (book_after opens calls).number ≡ 4
unfolding computed
ends = refl

-- ---- a desk, by equations that compute: where it asks, what it accepts, where it then is, and what is claimed of that
module _ (before : Log ServerCall) (request : Bytes) (room : ℕ) (after : Log ServerCall)
    (q : ClientStart) (C : Log ClientCall) (m : ℕ) (since : Log Bytes) (n : ℕ) (kept : Rows Bytes) where
  joins : calls ≡ (before ▷ icanhaz request room) ⧺ after
      → book_refusal (book_after opens before) (icanhaz request room) ≡ none → (book_after opens before).number ≡ m
      → accepted q C ≡ answer_to (server_after opens before) request room ⧺ since → all_among since all ≡ true → gapless all q C ≡ true
      → (client_after q C).live ≡ true → (client_after q C).number ≡ n → (client_after q C).rows ≡ kept
      → highest m since ≡ n → leb m n ≡ true → leb n 4 ≡ true → keep (under (client_after q C).subtree) (map_at opens calls n) ≡ kept → Joins q C m since n kept
  joins asked granted joined took own gaps live number rows top least most map = record {
    joined = record {
      taken = record {
        before = before;
        request = request;
        room = room;
        after = after;
        asked = asked;
        granted = granted;
        later = since;
        took = took;
        own = rw publishes (are_among since all own);
      };
      no_gap = no_gap opens calls all publishes q C gaps;
    };
    joins_at = joined;
    later = refl;
    follows = record {
      live = live;
      number = number ∙ sym top;
      least = rw number (leb-true m n least);
      most = rw (number, ends) (leb-true n 4 most);
      map = rw number (rows ∙ sym map);
    };
    number = number;
    rows = rows;
  }

-- what the server does behind the first desk's request
abbrev behind_first : Log ServerCall
behind_first = (empty ▷ icanhaz fourth_request 521) ⧺ changes ▷ icanhaz second_request 521 ▷ icanhaz third_request 521 ▷ tick 60000 22

first-joins : Joins first_start first_joins 2 empty 2 ((undo7, cut) ∷ [])
unfolding computed
first-joins =
    joins opening first_request 80 behind_first first_start first_joins 2 empty 2 ((undo7, cut) ∷ [])
    refl refl refl refl refl refl refl refl refl refl refl refl refl

first-follows : Joins first_start first_follows 2 (empty ▷ kvpub3) 3 ((undo7, new) ∷ [])
unfolding computed
first-follows =
    joins opening first_request 80 behind_first first_start first_follows 2 (empty ▷ kvpub3) 3 ((undo7, new) ∷ [])
    refl refl refl refl refl refl refl refl refl refl refl refl refl

first : Joins first_start first_calls 2 (empty ▷ kvpub3 ▷ kvpub3 ▷ kvpub4 ▷ beating ▷ kvpub3) 4 []
unfolding computed
first =
    joins opening first_request 80 behind_first first_start first_calls 2 (empty ▷ kvpub3 ▷ kvpub3 ▷ kvpub4 ▷ beating ▷ kvpub3) 4 []
    refl refl refl refl refl refl refl refl refl refl refl refl refl

second : Joins second_start second_calls 4 empty 4 []
unfolding computed
second =
    joins (joining ⧺ changes) second_request 521 (empty ▷ icanhaz third_request 521 ▷ tick 60000 22) second_start second_calls 4 empty 4 []
    refl refl refl refl refl refl refl refl refl refl refl refl refl

third : Joins third_start third_calls 4 empty 4 ((undo70, cut) ∷ [])
unfolding computed
third =
    joins ((joining ⧺ changes) ▷ icanhaz second_request 521) third_request 521 (empty ▷ tick 60000 22) third_start third_calls 4 empty 4 ((undo70, cut) ∷ [])
    refl refl refl refl refl refl refl refl refl refl refl refl refl

fourth : Joins fourth_start fourth_calls 2 (empty ▷ kvpub4) 4 ((undo70, cut) ∷ [])
unfolding computed
fourth =
    joins (opening ▷ icanhaz first_request 80) fourth_request 521 (changes ▷ icanhaz second_request 521 ▷ icanhaz third_request 521 ▷ tick 60000 22)
    fourth_start fourth_calls 2 (empty ▷ kvpub4) 4 ((undo70, cut) ∷ [])
    refl refl refl refl refl refl refl refl refl refl refl refl refl

-- ---- what the first desk can go on with
near-enough : AllBetween opens calls first_start first_joins kvpub3
unfolding computed
near-enough = near opens calls all publishes first_start first_joins kvpub3 refl

-- the KVPUB numbered 3 stands between, and it has not heard it
too_far : AllBetween opens calls first_start first_joins kvpub4 → ⊥
unfolding computed IsLe
too_far r = r kvpub3 (inr (inr (inr (inl refl)))) refl refl (le_by_compare 3 3 tt) (le_by_compare 4 4 tt)

pub witness : Witness
unfolding computed
witness = record {
  update-bytes = refl;
  answer-bytes = refl;
  answer-room = refl;
  beat-bytes = refl;
  request-bytes = refl;
  lookup-bytes = refl;
  server-answers = refl;
  first_answers = refl;
  fourth-answers = refl;
  publishes = publishes;
  numbers = refl;
  book_number = ends;
  book_map = refl;
  map_at_2 = refl;
  map_at_3 = refl;
  first-joins = first-joins;
  first-follows = first-follows;
  first = first;
  second = second;
  third = third;
  fourth = fourth;
  near = near-enough;
  too_far = too_far;
  same-subtree = refl;
  same_number = sym second.joins_at;
  wider_than_first = refl;
  wider_than_fourth = refl;
}

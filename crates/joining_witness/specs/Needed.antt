-- What joining supposes is needed: of three desks, one leaves a gap, one accepts what the server did not publish, and one takes a part of each of two answers. All
-- else is met, and the map is wrong.
use Rattle.std.specs.Prelude.{ℕ, true, [], ◌∷◌, ◌≡◌}
use Rattle.std.proofs.Math.Option.{none}
use Rattle.base.specs.Bytes.{Bytes, ascii}
use Rattle.client_calls.specs.Calls.Call.{snapshot, subscriber}
use Rattle.client_calls.specs.Calls.{Call as ClientCall}
use Rattle.joining.specs.Book.{book_refusal, book_after, map_at}
use Rattle.joining.specs.Ends.{server_after, published, answer_to, client_after, accepted}
use Rattle.joining.specs.Joining.{Took, NoGap, highest}
use Rattle.base.specs.Logs.Log.{empty, ◌▷◌}
use Rattle.base.specs.Logs.{Log, ◌⧺◌, Among}
use Rattle.joining_witness.specs.Session.{clip7, cut, new, setting, first_request, opens, first_start}
use Rattle.messages.specs.Fields.{bytes_of, kvpub, kvsync, kthxbai}
use Rattle.keys.specs.Keys.{under}
use Rattle.rows.specs.Rows.{keep}
use Rattle.server_calls.specs.Calls.Call.{kvset, icanhaz}
use Rattle.server_calls.specs.Calls.{Call as ServerCall}

-- ---- both lists
abbrev pub key_a : Bytes
key_a = ascii "/clip/7/a"

abbrev pub key_b : Bytes
key_b = ascii "/clip/7/b"

abbrev pub kvpub_a : Bytes
kvpub_a = bytes_of (kvpub 1 key_a [] [] cut)

abbrev pub kvpub_b : Bytes
kvpub_b = bytes_of (kvpub 2 key_b [] [] cut)

-- an empty server is asked, and then sets two rows
abbrev pub sets : Log ServerCall
sets = empty ▷ kvset (setting key_a [] cut) 1 521 ▷ kvset (setting key_b [] cut) 2 521

abbrev pub two_sets : Log ServerCall
two_sets = empty ▷ icanhaz first_request 521 ⧺ sets

abbrev pub joins : Log ClientCall
joins = empty ▷ snapshot (bytes_of (kthxbai 0 clip7))

-- ---- a gap
-- the first KVPUB is lost, and the second accepted all the same
abbrev pub skips : Log ClientCall
skips = joins ▷ subscriber kvpub_b 3

pub record NeededGap : Type 0 where
  pub took : Took opens two_sets first_start skips
  pub later : took.later ≡ empty ▷ kvpub_b
  pub gap : NoGap opens two_sets first_start skips → ⊥
  -- its number is that of the KVPUB, and its map lacks a row
  pub live : (client_after first_start skips).live ≡ true
  pub number : (client_after first_start skips).number ≡ highest 0 (empty ▷ kvpub_b)
  pub rows : (client_after first_start skips).rows ≡ (key_b, cut) ∷ []
  pub map : map_at opens two_sets 2 ≡ (key_a, cut) ∷ (key_b, cut) ∷ []
  pub wrong :
      (client_after first_start skips).rows ≡ keep (under (client_after first_start skips).subtree) (map_at opens two_sets (client_after first_start skips).number) → ⊥

-- ---- a message of another server
-- numbered as this server's first, with another value
abbrev pub foreign : Bytes
foreign = bytes_of (kvpub 1 key_a [] [] new)

abbrev pub strays : Log ClientCall
strays = joins ▷ subscriber foreign 3

-- all of `Took` but `own`
pub record NeededOwn : Type 0 where
  pub asked : two_sets ≡ (empty ▷ icanhaz first_request 521) ⧺ sets
  pub granted : book_refusal (book_after opens empty) (icanhaz first_request 521) ≡ none
  pub took : accepted first_start strays ≡ answer_to (server_after opens empty) first_request 521 ⧺ (empty ▷ foreign)
  pub not_own : Among foreign (published opens two_sets) → ⊥
  pub no_gap : NoGap opens two_sets first_start strays
  -- its number is right, and its map has another value
  pub live : (client_after first_start strays).live ≡ true
  pub number : (client_after first_start strays).number ≡ highest 0 (empty ▷ foreign)
  pub rows : (client_after first_start strays).rows ≡ (key_a, new) ∷ []
  pub map : map_at opens two_sets 1 ≡ (key_a, cut) ∷ []
  pub wrong :
      (client_after first_start strays).rows ≡ keep (under (client_after first_start strays).subtree) (map_at opens two_sets (client_after first_start strays).number)
      → ⊥

-- ---- two answers
-- a row is sent to the desk, and is removed before the desk asks again
abbrev pub one_set : Log ServerCall
one_set = empty ▷ kvset (setting key_a [] cut) 1 521

abbrev pub removed : Log ServerCall
removed = one_set ▷ icanhaz first_request 521 ▷ kvset (setting key_a [] []) 2 521

abbrev pub asked_twice : Log ServerCall
asked_twice = removed ▷ icanhaz first_request 521

-- the desk accepts the row of the first answer and the end of the second
abbrev pub row_a : Bytes
row_a = bytes_of (kvsync 1 key_a cut)

abbrev pub end_at : ℕ → Bytes
end_at n = bytes_of (kthxbai n clip7)

abbrev pub mixes : Log ClientCall
mixes = empty ▷ snapshot row_a ▷ snapshot (end_at 2)

pub record NeededWhole : Type 0 where
  pub first_answer : answer_to (server_after opens one_set) first_request 521 ≡ empty ▷ row_a ▷ end_at 1
  pub second-answer : answer_to (server_after opens removed) first_request 521 ≡ empty ▷ end_at 2
  pub accepts : accepted first_start mixes ≡ empty ▷ row_a ▷ end_at 2
  pub no_gap : NoGap opens asked_twice first_start mixes
  -- its number is the server's, and its map has a row that was removed
  pub live : (client_after first_start mixes).live ≡ true
  pub number : (client_after first_start mixes).number ≡ (book_after opens asked_twice).number
  pub rows : (client_after first_start mixes).rows ≡ (key_a, cut) ∷ []
  pub map : map_at opens asked_twice 2 ≡ []
  pub wrong :
      (client_after first_start mixes).rows ≡ keep (under (client_after first_start mixes).subtree) (map_at opens asked_twice (client_after first_start mixes).number)
      → ⊥

-- What joining supposes can always be met: whatever calls a server had, a client of any subtree can ask it, join, and follow it to its number.
use Rattle.std.specs.Prelude.{ℕ, ◌≤◌, true, ◌≡◌}
use Rattle.std.proofs.Math.Option.{none}
use Rattle.base.specs.Bytes.{Bytes}
use Rattle.client_calls.specs.Calls.Call.{snapshot}
use Rattle.client_calls.specs.Calls.{Call as ClientCall}
use Rattle.frames.specs.Messages.{frame_at}
use Rattle.messages.specs.Fields.{icanhaz as question, with_identity}
use Rattle.keys.specs.Keys.{is_subtree}
use Rattle.frame_forms.specs.Lengths.{is_identity}
use Rattle.numbers.specs.Ticks.{max_tick}
use Rattle.server_calls.specs.Calls.Call.{icanhaz}
use Rattle.server_calls.specs.Calls.{Call as ServerCall}
use Rattle.joining.specs.Book.{ServerStart, book_refusal, book_after}
use Rattle.joining.specs.Ends.ClientStart.{wait}
use Rattle.joining.specs.Ends.{ClientStart, server_after, answer_to, client_after}
use Rattle.joining.specs.Joining.{Joined}
use Rattle.base.specs.Logs.Log.{empty, ◌▷◌}
use Rattle.base.specs.Logs.{Log, ◌⧺◌}

-- messages handed in at the snapshot entry, one after the other
unfoldable pub handed_in : Log Bytes → Log ClientCall
handed_in empty = empty
handed_in (bs ▷ b) = handed_in bs ▷ snapshot b

pub record Possible (p : ServerStart) (S : Log ServerCall) : Type 0 where
  -- a request is granted where the output has room for the longest snapshot
  pub granted : (identity subtree : Bytes) → is_identity identity ≡ true → is_subtree subtree ≡ true
      → book_refusal (book_after p S) (icanhaz (with_identity identity (question subtree)) 40953) ≡ none
  -- a client that was started with the subtree of a request that was granted, and is handed the answer, has joined
  pub joins : (before : Log ServerCall) (request : Bytes) (room : ℕ) (after : Log ServerCall) → S ≡ (before ▷ icanhaz request room) ⧺ after
      → book_refusal (book_after p before) (icanhaz request room) ≡ none → (t : ℕ) → t ≤ max_tick
      → Joined p S (wait (frame_at 2 request) t) (handed_in (answer_to (server_after p before) request room))
  -- with some calls more, one that has joined is at the server's number
  pub catches_up : (q : ClientStart) (C : Log ClientCall) → Joined p S q C
      → (D : Log ClientCall) × Joined p S q (C ⧺ D) × ((client_after q (C ⧺ D)).number ≡ (book_after p S).number)

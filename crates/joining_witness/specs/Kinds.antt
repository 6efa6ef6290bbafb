-- What the calls of a list are answered, one after the other.
use Rattle.answers.specs.declared.answer.Kind.{Kind}
use Rattle.client_calls.specs.Calls.{Call as ClientCall}
use Rattle.joining.specs.Book.{ServerStart}
use Rattle.joining.specs.Ends.{ClientStart, server_answer, server_after, client_answer, client_after}
use Rattle.base.specs.Logs.Log.{empty, ◌▷◌}
use Rattle.base.specs.Logs.{Log}
use Rattle.server_calls.specs.Calls.{Call as ServerCall}

unfoldable pub server_kinds : ServerStart → Log ServerCall → Log Kind
server_kinds p empty = empty
server_kinds p (S ▷ x) = server_kinds p S ▷ (server_answer (server_after p S) x).kind

unfoldable pub client_kinds : ClientStart → Log ClientCall → Log Kind
client_kinds q empty = empty
client_kinds q (C ▷ x) = client_kinds q C ▷ (client_answer (client_after q C) x).kind

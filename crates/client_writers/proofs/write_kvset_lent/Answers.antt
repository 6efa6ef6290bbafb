-- `client_writers::write_kvset_lent` meets its contract: what is refused, and then the message, if there is room for it.
-- Assumes nothing.
use mathlib.Core.List.{List}
use mathlib.Core.Path.{sym, ◌∙◌}
use lib.ListN.{length}
use Rattle.answers.proofs.VerdictLaws.{accepted, refused}
use Rattle.answers.specs.declared.answer.Kind.TheVariants.{Wrote}
use Rattle.answers.specs.declared.refusal.Refusal.{Refusal}
use Rattle.base.specs.Bytes.{Bytes}
use Rattle.base.specs.Checks.{Check}
use Rattle.client_calls.proofs.QueryLaws.{Puts, put_refused, put_done}
use Rattle.client_calls.specs.Calls.{Call, write_kvset}
use Rattle.client_state.specs.Views.{lent}
use Rattle.client_state.specs.declared.Client.{Client}
use Rattle.client_writers.proofs.WriterLaws.{kvset_puts}
use Rattle.messages.specs.Fields.{bytes_of, kvset}
use Rattle.numbers.specs.declared.sequence.Sequence.{Sequence}
use Rattle.ports.specs.Ports.{update_checks}
use Rattle.client_writers.proofs.write_kvset_lent.Goals as goal
use Rattle.client_writers.proofs.write_kvset_lent.Goals.{Start}

abbrev state : (c : Start) → Client
state s = lent s.args.bytes.now s.args.lengths.now s.args.subtree.now s.args.header

abbrev number : (c : Start) → Sequence
number s = s.args.header.number

abbrev call : (c : Start) → Call
call s = write_kvset s.args.key.now s.args.uuid.now s.args.properties.now s.args.value.now (length s.args.out.now)

abbrev checks : (c : Start) → List (Check Refusal)
checks s = update_checks s.args.key.now s.args.uuid.now s.args.properties.now s.args.value.now

abbrev message : (c : Start) → Bytes
message s = bytes_of (kvset s.args.key.now s.args.uuid.now s.args.properties.now s.args.value.now)

puts : (s : Start) → Puts (state s) (call s) (checks s) (message s) (length s.args.out.now) (Wrote (number s))
puts s = kvset_puts (state s) (length s.args.out.now) s.args.key.now s.args.uuid.now s.args.properties.now s.args.value.now

pub returns-in-Err : goal.returns-in-Err
returns-in-Err c =
    let s = (goal.at.returns-in-Err c).Start in
    put_refused (state s) (call s) (checks s) (message s) s.args.out.now (Wrote (number s)) (puts s) (refused _ _ (sym c.in-Err.is ∙ c.check_kvset-checked.ensures)) c.without_output.ensures

pub returns-in-Ok : goal.returns-in-Ok
returns-in-Ok c =
    let s = (goal.at.returns-in-Ok c).Start in
    put_done (state s) (call s) (checks s) (message s) s.args.out.now (Wrote (number s)) (puts s) (accepted _ (sym c.in-Ok.is ∙ c.check_kvset-checked.ensures)) c.write_kvset-count.ensures c.written.ensures

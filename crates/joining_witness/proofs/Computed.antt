-- All that the entries are specified by, opened at once: a proof whose line names `computed` computes on closed lists of calls. Assumes nothing.
use Rattle.base.specs.Bytes.{prefix, same, holds, every}
use Rattle.base.specs.Checks.{first_refusal}
use Rattle.base.specs.Cuts.{before, behind, pieces}
use Rattle.base.specs.Octets.{number_from, octets}
use Rattle.client_calls.specs.Start.{start_refusal as client_start_refusal, start_of as waiting}
use Rattle.client_calls.specs.Next.{effect_next, accepted_next as client_becomes}
use Rattle.client_calls.specs.Output.{accepted_bytes as client_writes}
use Rattle.client_calls.specs.Refusals.{call_checks as client_checks}
use Rattle.frames.specs.Messages.{read_up_to, frames_in, frame, encode, frame_at}
use Rattle.frames.specs.Runs.{end_up_to, end_in, joined, cut_up_to, messages_in}
use Rattle.frames.specs.Steps.{short_of, long_of, flagged, step_of}
use Rattle.joining.specs.Book.{book_start, book_refusal, book_kvset, book_tick, entered, book_next, book_after, value_of, map_of, map_at}
use Rattle.joining.specs.Ends.{server_start, server_refusal, server_next, server_bytes, server_answer, server_after, publishes, published, answer_to, client_start, client_refusal, client_next, client_bytes, client_answer, client_after, accepts, hears, accepted, heard}
use Rattle.joining.specs.Joining.{highest}
use Rattle.joining.specs.Readings.{is_kvpub, key_of, number_of, kvpub_number, kvpub_numbers}
use Rattle.joining_witness.proofs.GapTests.{among, all_among, between, none_between, gapless}
use Rattle.joining_witness.specs.Kinds.{server_kinds, client_kinds}
use Rattle.messages.specs.Fields.{bytes_of}
use Rattle.keys.specs.Keys.{is_key, is_subtree}
use Rattle.key_order.specs.Order.{order_of}
use Rattle.properties.specs.Decimals.{decimal_from, decimal_of}
use Rattle.properties.specs.Properties.{property_in, properties_in, ttls, properties_of}
use Rattle.rows.specs.Rows.{set_row, remove_row, keep, has_key, held_under, map_rows}
use Rattle.server_calls.specs.Start.{start_refusal as server_start_refusal, start_of as begun}
use Rattle.server_calls.specs.Deeds.{deed}
use Rattle.server_calls.specs.Next.{kvset_next, tick_next, accepted_next as server_becomes}
use Rattle.server_calls.specs.Output.{tick_bytes, accepted_bytes as server_writes}
use Rattle.server_calls.specs.Refusals.{update, expiry, call_checks as server_checks}
use Rattle.server_calls.specs.Due.{least_due}
use Rattle.server_calls.specs.Snapshots.{syncs, snapshot_bytes, sum, snapshot_length}
use Rattle.server_state.specs.Views.{plain, ledger_of}

unfoldable pub computed : Unit {0}
unfolding prefix same holds every first_refusal before behind pieces number_from octets client_start_refusal waiting effect_next client_becomes client_writes client_checks read_up_to frames_in frame encode end_up_to end_in joined cut_up_to messages_in short_of long_of flagged step_of book_start book_refusal book_kvset book_tick entered book_next book_after value_of map_of map_at server_start server_refusal server_next server_bytes server_answer server_after publishes published answer_to client_start client_refusal client_next client_bytes client_answer client_after accepts hears accepted heard highest is_kvpub key_of number_of kvpub_number kvpub_numbers bytes_of frame_at is_key is_subtree order_of decimal_from decimal_of property_in properties_in ttls properties_of set_row remove_row keep has_key held_under map_rows server_start_refusal begun deed kvset_next tick_next server_becomes tick_bytes server_writes update expiry server_checks least_due syncs snapshot_bytes sum snapshot_length plain ledger_of server_kinds client_kinds among all_among between none_between gapless
computed = tt

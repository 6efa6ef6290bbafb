-- Both sides of each edge: the proof, row by row, by computation. Assumes nothing.
use mathlib.Core.Path.{refl}
use Rattle.base.specs.Bytes.{prefix, same, holds, every}
use Rattle.base.specs.Checks.{first_refusal}
use Rattle.base.specs.Cuts.{before, behind, pieces}
use Rattle.base.specs.Octets.{number_from, octets}
use Rattle.client_calls.specs.Start.{start_refusal, start_of, start_answer}
use Rattle.client_calls.specs.Next.{effect_next, accepted_next as client_becomes}
use Rattle.client_calls.specs.Output.{accepted_bytes as client_writes}
use Rattle.client_calls.specs.Refusals.{call_checks as client_checks}
use Rattle.edges.specs.Edges.{many, key, client_rows, server_rows, table, Edges}
use Rattle.edges.specs.Outcomes.{Holds}
use Rattle.frames.specs.Messages.{read_up_to, frames_in, frame, encode, frame_at}
use Rattle.frames.specs.Runs.{joined}
use Rattle.frames.specs.Steps.{short_of, long_of, flagged, step_of}
use Rattle.joining.specs.Ends.{server_refusal, server_next, server_bytes, server_answer, client_start, client_refusal, client_next, client_bytes, client_answer}
use Rattle.messages.specs.Fields.{bytes_of}
use Rattle.keys.specs.Keys.{is_key, is_subtree}
use Rattle.key_order.specs.Order.{order_of}
use Rattle.properties.specs.Decimals.{decimal_from, decimal_of}
use Rattle.properties.specs.Properties.{property_in, properties_in, ttls, properties_of}
use Rattle.rows.specs.Rows.{set_row, remove_row, keep, has_key, held_under, map_rows}
use Rattle.server_calls.specs.Deeds.{deed}
use Rattle.server_calls.specs.Next.{kvset_next, tick_next, accepted_next as server_becomes}
use Rattle.server_calls.specs.Output.{tick_bytes, accepted_bytes as server_writes}
use Rattle.server_calls.specs.Refusals.{update, expiry, call_checks as server_checks}
use Rattle.server_calls.specs.Due.{least_due}
use Rattle.server_calls.specs.Snapshots.{syncs, snapshot_bytes, sum, snapshot_length}
use Rattle.server_state.specs.Views.{plain, ledger_of}

-- one `refl` for each row, in the order of the table
pub edges : Edges
unfolding Holds many key client_rows server_rows table prefix same holds every first_refusal before behind pieces number_from octets start_refusal start_of start_answer effect_next client_becomes client_writes client_checks read_up_to frames_in frame encode joined short_of long_of flagged step_of server_refusal server_next server_bytes server_answer client_start client_refusal client_next client_bytes client_answer bytes_of frame_at is_key is_subtree order_of decimal_from decimal_of property_in properties_in ttls properties_of set_row remove_row keep has_key held_under map_rows deed kvset_next tick_next server_becomes tick_bytes server_writes update expiry server_checks least_due syncs snapshot_bytes sum snapshot_length plain ledger_of
edges = (refl, (refl, (refl, (refl, (refl, (refl, (refl, (refl, (refl, (refl, (refl, (refl, (refl, (refl, (refl, (refl, (refl, (refl, (refl, (refl, (refl, (refl, (refl, (refl, (refl, (refl, (refl, (refl, (refl, (refl, (refl, (refl, (refl, (refl, (refl, (refl, (refl, (refl, (refl, (refl, (refl, (refl, (refl, (refl, (refl, (refl, (refl, record {})))))))))))))))))))))))))))))))))))))))))))))))

-- What the writers put into the output, and after which checks. Assumes nothing.
use Prim.Native.Nat.{ℕ}
use native.Mathlib.Omega.{arith}
use mathlib.Core.Path.{refl}
use Rattle.answers.specs.declared.answer.Kind.TheVariants.{Wrote}
use Rattle.base.proofs.OctetLaws.{length-octets}
use Rattle.base.specs.Bytes.{Bytes}
use Rattle.client_calls.proofs.QueryLaws.{Puts}
use Rattle.client_calls.specs.Calls.{write_icanhaz, write_kvset}
use Rattle.client_calls.specs.Next.{accepted_next}
use Rattle.client_calls.specs.Output.{accepted_bytes}
use Rattle.client_calls.specs.Refusals.{call_checks}
use Rattle.client_state.specs.Views.{subtree_of, view}
use Rattle.client_state.specs.declared.Client.{Client}
use Rattle.client_writers.specs.Phases.{phase_check}
use Rattle.messages.proofs.WriteLaws.{bytes-length, icanhaz-length}
use Rattle.messages.specs.Fields.{bytes_of, kvset, icanhaz}
use Rattle.ports.specs.Ports.{update_checks}

-- ---- the messages
module _ (c : Client) (room : ℕ) where
  pub icanhaz_puts : Puts c (write_icanhaz room) (phase_check c.header.phase) (icanhaz (subtree_of c)) room (Wrote c.header.number)
  unfolding call_checks accepted_next accepted_bytes view
  icanhaz_puts = record { table = refl; next = refl; bytes = refl; kind_is = refl; some_bytes = omega (arith, icanhaz-length (subtree_of c)) }

  pub kvset_puts : (key uuid properties value : Bytes)
      → Puts c (write_kvset key uuid properties value room) (update_checks key uuid properties value) (bytes_of (kvset key uuid properties value)) room (Wrote c.header.number)
  unfolding call_checks accepted_next accepted_bytes view
  kvset_puts key uuid properties value =
      record { table = refl; next = refl; bytes = refl; kind_is = refl; some_bytes = omega (arith, bytes-length (kvset key uuid properties value) (length-octets 8 0)) }

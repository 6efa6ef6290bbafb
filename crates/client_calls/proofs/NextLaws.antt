-- Which calls leave a client's replica as it is. Assumes nothing.
use Prim.Native.Nat.{ℕ, ◌≤◌}
use mathlib.Core.Bool.{false}
use mathlib.Core.Option.{Option, none, some}
use mathlib.Core.Path.{◌≡◌, refl}
use borrow.Author.Tests.{le-leb}
use Rattle.answers.specs.Refusals.{if_accepted}
use Rattle.answers.specs.declared.refusal.Refusal.{Refusal}
use Rattle.base.specs.Bytes.{Bytes, same}
use Rattle.base.specs.Octets.{number}
use Rattle.client_state.specs.Views.{view}
use Rattle.client_state.specs.declared.Client.{Client}
use Rattle.client_calls.specs.Calls.{subscriber, write_icanhaz, write_kvset, ask, lookup}
use Rattle.client_calls.specs.Next.{effect_next, accepted_next, next_of}
use Rattle.client_calls.specs.Refusals.{refusal_of}
use Rattle.messages.specs.Fields.{fields_of}
use Rattle.frame_forms.specs.Words.{word_hugz}

-- what is the same accepted and refused
either : {A : Type 0} (x : Option Refusal) (a b : A) → a ≡ b → if_accepted x a b ≡ b
either none a b e = e
either (some r) a b e = refl

-- ---- the writers, asking and lookup: a client's own KVSET does not touch its map
module _ (c : Client) where
  pub icanhaz_keeps : (room : ℕ) → next_of c (write_icanhaz room) ≡ view c
  unfolding next_of accepted_next
  icanhaz_keeps room = either (refusal_of c (write_icanhaz room)) (view c) (view c) refl

  pub kvset_keeps : (key uuid properties value : Bytes) (room : ℕ) → next_of c (write_kvset key uuid properties value room) ≡ view c
  unfolding next_of accepted_next
  kvset_keeps key uuid properties value room = either (refusal_of c (write_kvset key uuid properties value room)) (view c) (view c) refl

  pub ask_keeps : (t : ℕ) → next_of c (ask t) ≡ view c
  unfolding next_of accepted_next
  ask_keeps t = either (refusal_of c (ask t)) (view c) (view c) refl

  pub lookup_keeps : (key : Bytes) (room : ℕ) → next_of c (lookup key room) ≡ view c
  unfolding next_of accepted_next
  lookup_keeps key room = either (refusal_of c (lookup key room)) (view c) (view c) refl

  -- ---- a KVPUB that is not new
  pub stale_keeps : (msg : Bytes) (t : ℕ) → same word_hugz (fields_of msg).head ≡ false → number (fields_of msg).sequence ≤ (view c).number
      → next_of c (subscriber msg t) ≡ view c
  unfolding next_of accepted_next effect_next
  stale_keeps msg t e h =
      either (refusal_of c (subscriber msg t)) _ (view c) (rw (e, le-leb (number (fields_of msg).sequence) (view c).number h))

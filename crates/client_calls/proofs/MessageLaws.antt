-- What a message is known to have whose frames a client's port lets pass. Assumes nothing.
use Prim.Native.Nat.{ℕ, ◌≤◌}
use mathlib.Core.Bool.{Bool, true, false, cond}
use mathlib.Core.Option.{none}
use mathlib.Core.Path.{◌≡◌, refl}
use lib.Dec.{leb}
use lib.ListN.{length}
use borrow.Author.Tests.{leb-true, not-false}
use Rattle.base.proofs.CheckLaws.{passed}
use Rattle.base.specs.Bytes.{Bytes, is_nil, same}
use Rattle.base.specs.Checks.{first_refusal}
use Rattle.base.specs.Octets.{number}
use Rattle.client_calls.specs.Effects.{Effect, sync, finish, hear, stale, outside, apply, snapshot_effect, update_effect, subscriber_effect}
use Rattle.messages.specs.Fields.{Fields}
use Rattle.keys.specs.Keys.{is_key, under}
use Rattle.numbers.specs.Sequences.{max_sequence}
use Rattle.frame_forms.specs.Lengths.{value_room}
use Rattle.frame_forms.specs.Words.{word_kthxbai, word_hugz}
use Rattle.ports.specs.Ports.{kvsync_checks, kthxbai_checks, snapshot_checks, kvpub_checks, hugz_checks, published_checks}

-- what is known of an effect, at a client of a subtree, by the frames alone
abbrev pub Sound : Bytes → Effect → Type 0
Sound subtree (sync key value) = (is_key key ≡ true) × ((under subtree key ≡ true) × ((is_nil value ≡ false) × (length value ≤ value_room)))
Sound subtree (finish n) = n ≤ max_sequence
Sound subtree (hear t) = Unit {0}
Sound subtree stale = Unit {0}
Sound subtree (outside n) = n ≤ max_sequence
Sound subtree (apply n key value) = (is_key key ≡ true) × ((under subtree key ≡ true) × ((length value ≤ value_room) × (n ≤ max_sequence)))

-- ---- at the snapshot entry
module _ (subtree : Bytes) (f : Fields) where
  thanks_sound : first_refusal (kthxbai_checks subtree f) ≡ none → Sound subtree (finish (number f.sequence))
  thanks_sound e = leb-true (number f.sequence) max_sequence (not-false _ (passed 2 (kthxbai_checks subtree f) e))

  sync_sound : first_refusal (kvsync_checks subtree f) ≡ none → Sound subtree (sync f.head f.value)
  sync_sound e =
      let rows = kvsync_checks subtree f in
      (not-false _ (passed 0 rows e), (not-false _ (passed 1 rows e), (passed 5 rows e, leb-true (length f.value) value_room (not-false _ (passed 6 rows e)))))

  pub snapshot_sound : first_refusal (snapshot_checks subtree f) ≡ none → Sound subtree (snapshot_effect f)
  snapshot_sound e = go (same word_kthxbai f.head) e
    where
      go : (t : Bool) → first_refusal (cond t (kthxbai_checks subtree f) (kvsync_checks subtree f)) ≡ none → Sound subtree (cond t (finish (number f.sequence)) (sync f.head f.value))
      go true h = thanks_sound h
      go false h = sync_sound h

-- ---- at the subscriber entry
module _ (f : Fields) where
  update_sound : (n : ℕ) (subtree : Bytes) → first_refusal (kvpub_checks f) ≡ none → Sound subtree (update_effect n subtree f)
  update_sound n subtree e = go (leb (number f.sequence) n) (under subtree f.head) refl
    where
      low : number f.sequence ≤ max_sequence
      low = leb-true (number f.sequence) max_sequence (not-false _ (passed 2 (kvpub_checks f) e))

      go : (old in_it : Bool) → under subtree f.head ≡ in_it
          → Sound subtree (cond old stale (cond in_it (apply (number f.sequence) f.head f.value) (outside (number f.sequence))))
      go true in_it h = tt
      go false true h = (not-false _ (passed 0 (kvpub_checks f) e), (h, (leb-true (length f.value) value_room (not-false _ (passed 5 (kvpub_checks f) e)), low)))
      go false false h = low

  pub published_sound : (n : ℕ) (subtree : Bytes) (t : ℕ) → first_refusal (published_checks f) ≡ none → Sound subtree (subscriber_effect n subtree f t)
  published_sound n subtree t e = go (same word_hugz f.head) e
    where
      go : (b : Bool) → first_refusal (cond b (hugz_checks f) (kvpub_checks f)) ≡ none → Sound subtree (cond b (hear t) (update_effect n subtree f))
      go true h = tt
      go false h = update_sound n subtree h

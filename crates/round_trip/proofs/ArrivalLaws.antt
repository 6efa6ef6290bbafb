-- A message of five frames that are short enough passes the framing of a port and gives its fields back. What else a
-- port asks is asked of the fields. Assumes nothing.
use Prim.Native.Nat.{ℕ, ◌≤◌}
use native.Mathlib.Omega.{arith}
use mathlib.Core.Bool.{Bool, true, false, not}
use mathlib.Core.List.{List, [], ◌∷◌, ◌++◌}
use mathlib.Core.Option.{none}
use mathlib.Core.Path.{◌≡◌, refl, sym, ap, ◌∙◌}
use lib.Dec.{leb}
use lib.ListN.{length}
use borrow.Author.Tests.{eq-eqb, le-leb}
use Rattle.answers.specs.declared.refusal.Refusal.TheVariants.{BadKey, BadSequence}
use Rattle.answers.specs.declared.refusal.Refusal.{Refusal}
use Rattle.base.proofs.ByteLaws.{same_eq, same_refl}
use Rattle.base.proofs.CheckLaws.{pass_all}
use Rattle.base.proofs.OctetLaws.{length-octets, number-octets}
use Rattle.base.specs.Bytes.{Bytes, is_nil, every, same, holds}
use Rattle.base.specs.Checks.Check.{when}
use Rattle.base.specs.Checks.{Check, first_refusal}
use Rattle.base.specs.Cuts.{pieces}
use Rattle.base.specs.Octets.{octets, number_from, number}
use Rattle.messages.proofs.RoundTrip.{Sizable, frames_back, fields_back}
use Rattle.messages.specs.Fields.{Fields, bytes_of, fields_of, kvset, kvpub, kvsync, kthxbai, hugz}
use Rattle.keys.proofs.UnderLaws.{key-short, subtree-short}
use Rattle.keys.specs.Keys.{is_key, is_subtree, under}
use Rattle.numbers.specs.Sequences.{max_sequence, is_sequence}
use Rattle.frame_forms.specs.Words.{word_kthxbai, word_hugz}
use Rattle.ports.specs.Ports.{framed, payload_checks, kvset_checks, kvset_port, snapshot_checks, snapshot_port, published_checks, subscriber_port}
use Rattle.ports.proofs.SizeLaws.{payload_short}
use Rattle.round_trip.specs.RoundTrip.{Arrives, Numbered}

-- ---- any message
framing-passes : (f : Fields) → Sizable f → first_refusal (framed 5 (bytes_of f)) ≡ none
unfolding first_refusal
framing-passes f z = rw (frames_back f z) refl

arrives : (checks : Fields → List (Check Refusal)) (f : Fields) → Sizable f → first_refusal (checks f) ≡ none → Arrives (λ (msg : Bytes). framed 5 msg ++ checks (fields_of msg)) (bytes_of f) f
arrives checks f z e = record {
  passes = pass_all (framed 5 (bytes_of f)) (checks (fields_of (bytes_of f))) (framing-passes f z) ∙ ap (λ (g : Fields). first_refusal (checks g)) (fields_back f z) ∙ e;
  fields = fields_back f z;
}

numbered : (port : Bytes → List (Check Refusal)) (f : Fields) (n : ℕ) → n ≤ max_sequence → f.sequence ≡ octets 8 n → Arrives port (bytes_of f) f → Numbered port (bytes_of f) f n
numbered port f n h e a = record { arrives = a; sequence = ap (λ (g : Fields). number g.sequence) a.fields ∙ ap number e ∙ number-octets 8 n (omega arith) }

-- a sequence frame
sequence_good : (n : ℕ) → is_sequence (octets 8 n) ≡ true
sequence_good n = eq-eqb (length (octets 8 n)) 8 (length-octets 8 n)

number_kept : (n : ℕ) → n ≤ max_sequence → number (octets 8 n) ≤ max_sequence
number_kept n h = rw (number-octets 8 n (omega arith)) h

-- ---- no word is a key
module _ (key : Bytes) (k : is_key key ≡ true) where
  not_word : (word : Bytes) → is_key word ≡ false → same word key ≡ false
  not_word word w = go (same word key) refl
    where
      go : (t : Bool) → same word key ≡ t → t ≡ false
      go true e = sym k ∙ ap is_key (sym (same_eq word key e)) ∙ w
      go false e = refl

  pub not_hugz : same word_hugz key ≡ false
  unfolding is_key pieces every holds
  not_hugz = not_word word_hugz refl

  pub not_kthxbai : same word_kthxbai key ≡ false
  unfolding is_key pieces every holds
  not_kthxbai = not_word word_kthxbai refl

-- ---- updates
module _ (key uuid properties value : Bytes) (k : is_key key ≡ true) (p : first_refusal (payload_checks uuid properties value) ≡ none) where
  -- its frames are short
  sizable : (n : ℕ) → Sizable (kvpub n key uuid properties value)
  sizable n =
      let a = key-short key k in
      let b = payload_short uuid properties value p in
      (omega arith, (omega (arith, length-octets 8 n), (omega arith, (omega arith, (omega arith, tt)))))

  kvset_front : first_refusal (when (not (is_key key)) BadKey ∷ when (not (is_sequence (octets 8 0))) BadSequence ∷ []) ≡ none
  unfolding first_refusal
  kvset_front = rw (k, sequence_good 0)

  pub kvset-arrives : Arrives kvset_port (bytes_of (kvset key uuid properties value)) (kvset key uuid properties value)
  kvset-arrives = arrives kvset_checks (kvset key uuid properties value) (sizable 0) (pass_all _ (payload_checks uuid properties value) kvset_front ∙ p)

  module _ (n : ℕ) (h : n ≤ max_sequence) where
    kvpub_front : first_refusal (when (not (is_key key)) BadKey ∷ when (not (is_sequence (octets 8 n))) BadSequence ∷ when (not (leb (number (octets 8 n)) max_sequence)) BadSequence ∷ []) ≡ none
    unfolding first_refusal
    kvpub_front = rw (k, sequence_good n, le-leb (number (octets 8 n)) max_sequence (number_kept n h))

    pub kvpub-arrives : Numbered subscriber_port (bytes_of (kvpub n key uuid properties value)) (kvpub n key uuid properties value) n
    kvpub-arrives =
        numbered subscriber_port (kvpub n key uuid properties value) n h refl
        (arrives published_checks (kvpub n key uuid properties value) (sizable n) (rw (not_hugz key k) (pass_all _ (payload_checks uuid properties value) kvpub_front ∙ p)))

-- ---- a sign of life
pub hugz-arrives : Arrives subscriber_port (bytes_of hugz) hugz
unfolding first_refusal same octets number_from
hugz-arrives = arrives published_checks hugz (omega arith, (omega arith, (omega arith, (omega arith, (omega arith, tt))))) refl

-- ---- a snapshot, without its identity
pub sync_sizes : (key value : Bytes) (n : ℕ) → is_key key ≡ true → length value ≤ 256 → Sizable (kvsync n key value)
sync_sizes key value n k short = let a = key-short key k in (omega arith, (omega (arith, length-octets 8 n), (omega arith, (omega arith, (omega arith, tt)))))

module _ (subtree key value : Bytes) (n : ℕ) (k : is_key key ≡ true) (u : under subtree key ≡ true) (some : is_nil value ≡ false) (short : length value ≤ 256) where
  sync_good : first_refusal (snapshot_checks subtree (kvsync n key value)) ≡ none
  unfolding first_refusal
  sync_good = rw (not_kthxbai key k, k, u, sequence_good n, some, le-leb (length value) 256 short)

  pub kvsync-arrives : Arrives (snapshot_port subtree) (bytes_of (kvsync n key value)) (kvsync n key value)
  kvsync-arrives = arrives (snapshot_checks subtree) (kvsync n key value) (sync_sizes key value n k short) sync_good

pub end_sizes : (subtree : Bytes) (n : ℕ) → is_subtree subtree ≡ true → Sizable (kthxbai n subtree)
end_sizes subtree n s = let a = subtree-short subtree s in (omega arith, (omega (arith, length-octets 8 n), (omega arith, (omega arith, (omega arith, tt)))))

module _ (subtree : Bytes) (n : ℕ) (s : is_subtree subtree ≡ true) (h : n ≤ max_sequence) where
  end_good : first_refusal (snapshot_checks subtree (kthxbai n subtree)) ≡ none
  unfolding first_refusal
  end_good = rw (same_refl word_kthxbai, same_refl subtree, sequence_good n, le-leb (number (octets 8 n)) max_sequence (number_kept n h))

  pub kthxbai-arrives : Numbered (snapshot_port subtree) (bytes_of (kthxbai n subtree)) (kthxbai n subtree) n
  kthxbai-arrives = numbered (snapshot_port subtree) (kthxbai n subtree) n h refl (arrives (snapshot_checks subtree) (kthxbai n subtree) (end_sizes subtree n s) end_good)

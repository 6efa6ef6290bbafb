-- Laws of what a message is found to be at a client's port. Assumes nothing.
use Prim.Native.Nat.{ℕ}
use native.Mathlib.Omega.{arith}
use mathlib.Core.Bool.{Bool, true, false, cond}
use mathlib.Core.Option.{Option, none, some}
use mathlib.Core.Path.{◌≡◌, refl, ap}
use Rattle.std.specs.Prelude.{Ok, Err}
use Rattle.answers.specs.declared.refusal.Refusal.{Refusal}
use Rattle.base.specs.Bytes.{same}
use Rattle.base.specs.Octets.{number}
use Rattle.client_ports.specs.Readings.{end_of, row_of, sent_of, beat_of, kvpub_of, published_of}
use Rattle.client_ports.specs.declared.snapshot.Sent.TheVariants.{Kthxbai, Kvsync}
use Rattle.client_ports.specs.declared.subscriber.Published.TheVariants.{Hugz, Kvpub}
use Rattle.messages.specs.Fields.{Fields}
use Rattle.numbers.specs.Sequences.{sequence}
use Rattle.frame_forms.specs.Words.{word_kthxbai, word_hugz}
use Rattle.numbers.specs.declared.sequence.Sequence.{Sequence}

-- ---- what is known of one that was read
abbrev clash : {A : Type 0} → ◌≡◌ {A = ℕ} 0 1 → A
clash z = absurd (omega arith)

module _ (f : Fields) (x : Option Refusal) where
  pub sent_not : (r : Refusal) → Err r ≡ sent_of f x → x ≡ some r
  unfolding sent_of end_of row_of
  sent_not r e = go (same word_kthxbai f.head) x e
    where
      go : (t : Bool) (x : Option Refusal) → Err r ≡ cond t (end_of f x) (row_of x) → x ≡ some r
      go true none e = clash cc
      go true (some q) e = let i : q ≡ r = cc in ap some i
      go false none e = clash cc
      go false (some q) e = let i : q ≡ r = cc in ap some i

  pub sent_end : (m : Sequence) → Ok (Kthxbai m) ≡ sent_of f x → (x ≡ none) × ((same word_kthxbai f.head ≡ true) × (m ≡ sequence (number f.sequence)))
  unfolding sent_of end_of row_of
  sent_end m e = go (same word_kthxbai f.head) x e
    where
      go : (t : Bool) (x : Option Refusal) → Ok (Kthxbai m) ≡ cond t (end_of f x) (row_of x) → (x ≡ none) × ((t ≡ true) × (m ≡ sequence (number f.sequence)))
      go true none e = (refl, (refl, cc))
      go true (some q) e = clash cc
      go false none e = clash cc
      go false (some q) e = clash cc

  pub sent_row : Ok Kvsync ≡ sent_of f x → (x ≡ none) × (same word_kthxbai f.head ≡ false)
  unfolding sent_of end_of row_of
  sent_row e = go (same word_kthxbai f.head) x e
    where
      go : (t : Bool) (x : Option Refusal) → Ok Kvsync ≡ cond t (end_of f x) (row_of x) → (x ≡ none) × (t ≡ false)
      go true none e = clash cc
      go true (some q) e = clash cc
      go false none e = (refl, refl)
      go false (some q) e = clash cc

  pub published_not : (r : Refusal) → Err r ≡ published_of f x → x ≡ some r
  unfolding published_of beat_of kvpub_of
  published_not r e = go (same word_hugz f.head) x e
    where
      go : (t : Bool) (x : Option Refusal) → Err r ≡ cond t (beat_of x) (kvpub_of f x) → x ≡ some r
      go true none e = clash cc
      go true (some q) e = let i : q ≡ r = cc in ap some i
      go false none e = clash cc
      go false (some q) e = let i : q ≡ r = cc in ap some i

  pub published-beat : Ok Hugz ≡ published_of f x → (x ≡ none) × (same word_hugz f.head ≡ true)
  unfolding published_of beat_of kvpub_of
  published-beat e = go (same word_hugz f.head) x e
    where
      go : (t : Bool) (x : Option Refusal) → Ok Hugz ≡ cond t (beat_of x) (kvpub_of f x) → (x ≡ none) × (t ≡ true)
      go true none e = (refl, refl)
      go true (some q) e = clash cc
      go false none e = clash cc
      go false (some q) e = clash cc

  pub published-update : (m : Sequence) → Ok (Kvpub m) ≡ published_of f x → (x ≡ none) × ((same word_hugz f.head ≡ false) × (m ≡ sequence (number f.sequence)))
  unfolding published_of beat_of kvpub_of
  published-update m e = go (same word_hugz f.head) x e
    where
      go : (t : Bool) (x : Option Refusal) → Ok (Kvpub m) ≡ cond t (beat_of x) (kvpub_of f x) → (x ≡ none) × ((t ≡ false) × (m ≡ sequence (number f.sequence)))
      go true none e = clash cc
      go true (some q) e = clash cc
      go false none e = (refl, (refl, cc))
      go false (some q) e = clash cc

-- What each port refuses by the frames of a message alone, and a call by its tick: tables of checks, in the order of
-- the refusals.
use Rattle.std.specs.Prelude.{ℕ, Bool, true, false, cond, not, List, [], ◌∷◌, ◌++◌, leb, ltb, eqb, length}
use Rattle.std.proofs.Math.Option.{Option, none, some}
use Rattle.answers.specs.declared.refusal.Refusal.TheVariants.{Framing, FrameCount, Word, BadKey, BadSubtree, BadSequence, BadUuid, BadProperties, BadValue, BadTick, BadIdentity}
use Rattle.answers.specs.declared.refusal.Refusal.{Refusal}
use Rattle.base.specs.Bytes.{Bytes, is_nil, same}
use Rattle.base.specs.Checks.Check.{when}
use Rattle.base.specs.Checks.{Check, first_refusal}
use Rattle.base.specs.Octets.{number}
use Rattle.frames.specs.Messages.{frames_in, parts_of, frame_at}
use Rattle.messages.specs.Fields.{Fields, fields_of}
use Rattle.keys.specs.Keys.{is_key, is_subtree, under}
use Rattle.frame_forms.specs.Lengths.{is_uuid, is_identity, is_value}
use Rattle.numbers.specs.Sequences.{max_sequence, is_sequence}
use Rattle.numbers.specs.Ticks.{max_tick}
use Rattle.frame_forms.specs.Words.{word_icanhaz, word_kthxbai, word_hugz}
use Rattle.properties.specs.Properties.{properties_of, is_good}

abbrev pub is_none : {A : Type 0} → Option A → Bool
is_none none = true
is_none (some _) = false

-- the framing, and how many frames the port takes
abbrev pub framed : ℕ → Bytes → List (Check Refusal)
framed n msg =
    when (is_none (frames_in msg)) Framing
    ∷ when (not (eqb (length (parts_of msg)) n)) FrameCount
    ∷ []

-- ---- frames of updates
abbrev pub payload_checks : Bytes → Bytes → Bytes → List (Check Refusal)
payload_checks uuid properties value =
    when (not (is_uuid uuid)) BadUuid
    ∷ when (not (is_good (properties_of properties))) BadProperties
    ∷ when (not (is_value value)) BadValue
    ∷ []

-- what a client may write into a KVSET
abbrev pub update_checks : Bytes → Bytes → Bytes → Bytes → List (Check Refusal)
update_checks key uuid properties value =
    when (not (is_key key)) BadKey
    ∷ payload_checks uuid properties value

-- the sequence is ignored, but not its length
abbrev pub kvset_checks : Fields → List (Check Refusal)
kvset_checks f =
    when (not (is_key f.head)) BadKey
    ∷ when (not (is_sequence f.sequence)) BadSequence
    ∷ payload_checks f.uuid f.properties f.value

abbrev pub kvpub_checks : Fields → List (Check Refusal)
kvpub_checks f =
    when (not (is_key f.head)) BadKey
    ∷ when (not (is_sequence f.sequence)) BadSequence
    ∷ when (not (leb (number f.sequence) max_sequence)) BadSequence
    ∷ payload_checks f.uuid f.properties f.value

-- ---- frames of messages without UUID and properties
abbrev pub bare_checks : Bytes → Bytes → List (Check Refusal)
bare_checks uuid properties =
    when (not (is_nil uuid)) BadUuid
    ∷ when (not (is_nil properties)) BadProperties
    ∷ []

-- the value of a row
abbrev pub row_value_checks : Bytes → List (Check Refusal)
row_value_checks value =
    when (is_nil value) BadValue
    ∷ when (not (is_value value)) BadValue
    ∷ []

-- the row of a snapshot of a subtree; its sequence is ignored, but not its length
abbrev pub kvsync_checks : Bytes → Fields → List (Check Refusal)
kvsync_checks subtree f =
    when (not (is_key f.head)) BadKey
    ∷ when (not (under subtree f.head)) BadSubtree
    ∷ when (not (is_sequence f.sequence)) BadSequence
    ∷ (bare_checks f.uuid f.properties ++ row_value_checks f.value)

-- the end of a snapshot of a subtree
abbrev pub kthxbai_checks : Bytes → Fields → List (Check Refusal)
kthxbai_checks subtree f =
    when (not (same subtree f.value)) BadSubtree
    ∷ when (not (is_sequence f.sequence)) BadSequence
    ∷ when (not (leb (number f.sequence) max_sequence)) BadSequence
    ∷ bare_checks f.uuid f.properties

abbrev pub hugz_checks : Fields → List (Check Refusal)
hugz_checks f =
    when (not (is_sequence f.sequence)) BadSequence
    ∷ when (not (eqb (number f.sequence) 0)) BadSequence
    ∷ (bare_checks f.uuid f.properties ++ (when (not (is_nil f.value)) BadValue ∷ []))

-- ---- frames by the first of them: a word where it is read, and else a key
abbrev pub snapshot_checks : Bytes → Fields → List (Check Refusal)
snapshot_checks subtree f = cond (same word_kthxbai f.head) (kthxbai_checks subtree f) (kvsync_checks subtree f)

abbrev pub published_checks : Fields → List (Check Refusal)
published_checks f = cond (same word_hugz f.head) (hugz_checks f) (kvpub_checks f)

-- ---- frames of a snapshot request behind its identity
abbrev pub icanhaz_checks : Bytes → Bytes → Bytes → List (Check Refusal)
icanhaz_checks identity word subtree =
    when (not (is_identity identity)) BadIdentity
    ∷ when (not (same word_icanhaz word)) Word
    ∷ when (not (is_subtree subtree)) BadSubtree
    ∷ []

-- ---- the ports
-- the server's, for KVSET
abbrev pub kvset_port : Bytes → List (Check Refusal)
kvset_port msg = framed 5 msg ++ kvset_checks (fields_of msg)

-- the server's, for ICANHAZ, with the identity in front
abbrev pub icanhaz_port : Bytes → List (Check Refusal)
icanhaz_port msg = framed 3 msg ++ icanhaz_checks (frame_at 0 msg) (frame_at 1 msg) (frame_at 2 msg)

-- the client's for snapshots: KTHXBAI, or else KVSYNC
abbrev pub snapshot_port : Bytes → Bytes → List (Check Refusal)
snapshot_port subtree msg = framed 5 msg ++ snapshot_checks subtree (fields_of msg)

-- the client's for what is published: HUGZ, or else KVPUB
abbrev pub subscriber_port : Bytes → List (Check Refusal)
subscriber_port msg = framed 5 msg ++ published_checks (fields_of msg)

-- ---- the tick of a call
-- out of range, or below the last one
abbrev pub tick_checks : ℕ → ℕ → List (Check Refusal)
tick_checks last t =
    when (not (leb t max_tick)) BadTick
    ∷ when (ltb t last) BadTick
    ∷ []

-- ---- the value entries
-- any five frames
abbrev pub value_port : Bytes → List (Check Refusal)
value_port msg = framed 5 msg

abbrev pub value_for : Option Refusal → Bytes → Bytes
value_for none value = value
value_for (some r) value = []

-- the value frame, or nothing where the message is refused
unfoldable pub value_in : Bytes → Bytes
value_in msg = value_for (first_refusal (value_port msg)) (frame_at 4 msg)

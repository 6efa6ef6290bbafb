-- The rooms are enough. Assumes nothing.
use Prim.Native.Nat.{ℕ, zero, suc, ◌+◌, ◌≤◌}
use native.Mathlib.Omega.{arith}
use mathlib.Core.Bool.{Bool, true, false, cond, not, ◌&&◌}
use mathlib.Core.List.{List, [], ◌∷◌, ◌++◌}
use mathlib.Core.Option
use mathlib.Core.Option.{Option, none, some}
use mathlib.Core.Path.{◌≡◌, refl, sym, ap, ◌∙◌}
use lib.Dec.{leb, eqb}
use lib.ListN.{length, get_or, drop, length-append, drop_of_length-le}
use lib.Seq.{drop-cons}
use borrow.Author.Tests.{le-leb, leb-true, eqb-true, not-false}
use Rattle.answers.specs.declared.refusal.Refusal.TheVariants.{Framing, BadKey, BadSubtree, BadSequence, BadValue}
use Rattle.answers.specs.declared.refusal.Refusal.{Refusal}
use Rattle.base.proofs.ByteLaws.{and_right, same_eq}
use Rattle.base.proofs.CheckLaws.{passed, both_passed}
use Rattle.base.specs.Bytes.{Bytes, is_nil, same}
use Rattle.base.specs.Checks.Check.{when}
use Rattle.base.specs.Checks.{Check, first_refusal}
use Rattle.base.specs.Logs.Log.{empty, ◌▷◌}
use Rattle.base.specs.Logs.{Log}
use Rattle.base.specs.Octets.{number}
use Rattle.frames.proofs.FrameLaws.{frame-length}
use Rattle.frames.specs.Messages.{frames_in, frame_length, frame, parts_of, frame_at}
use Rattle.messages.proofs.LengthLaws.{short-frame, value_frame}
use Rattle.messages.specs.Fields.{Fields, fields, fields_of}
use Rattle.keys.proofs.UnderLaws.{key-short, subtree-short}
use Rattle.keys.specs.Keys.{is_key, is_subtree, under}
use Rattle.frame_forms.specs.Lengths.{is_identity}
use Rattle.numbers.specs.Sequences.{max_sequence, is_sequence}
use Rattle.frame_forms.specs.Words.{word_icanhaz, word_kthxbai, word_hugz}
use Rattle.parts.proofs.BuildLaws.{whole_read, broken_read, reads_back}
use Rattle.parts.specs.Build.{Part, bodies, as_frames, complete, Bounded, holdable, held_in, ReadsBack}
use Rattle.parts.specs.declared.build.Built.{Built}
use Rattle.ports.specs.Ports.{is_none, framed, payload_checks, bare_checks, row_value_checks, kvset_checks, kvpub_checks, kvsync_checks, kthxbai_checks, hugz_checks, snapshot_checks, published_checks, icanhaz_checks, kvset_port, icanhaz_port, snapshot_port, subscriber_port}
use Rattle.ports.proofs.SizeLaws.{value-short, payload_short}
use Rattle.rooms.specs.Rooms.{takes, Handed, Enough, update_room, request_room, snapshot_room, AllRooms}

-- ---- how long frames are, one after another
abbrev total : List Bytes → ℕ
total [] = 0
total (b ∷ bs) = frame_length (length b) + total bs

total_one : (bs : List Bytes) (b : Bytes) → total (bs ++ (b ∷ [])) ≡ total bs + frame_length (length b)
total_one [] b = omega arith
total_one (a ∷ bs) b = omega (arith, total_one bs b)

frames_total : (ps : Log Part) → length (as_frames ps) ≡ total (bodies ps)
unfolding as_frames bodies
frames_total empty = refl
frames_total (ps ▷ p) =
    length-append (as_frames ps) (frame p.more p.body) ∙ omega (arith, frames_total ps, frame-length p.more p.body, total_one (bodies ps) p.body)

-- ---- a port that judges the framing first
-- broken framing is refused as such, and what passes takes at most so many bytes
record Judged (port : Bytes → List (Check Refusal)) (most : ℕ) : Type 0 where
  pub unsound : (s : Bytes) → frames_in s ≡ none → first_refusal (port s) ≡ some Framing
  pub short : (s : Bytes) (bs : List Bytes) → frames_in s ≡ some bs → first_refusal (port s) ≡ none → total bs ≤ most

some_taken : {C : Type 0} (x : Option Refusal) (r : Refusal) → x ≡ some r → is_none x ≡ true → C
some_taken x r e h = absurd (let z : ◌≡◌ {A = Bool} false true = rw e at h in let w : ◌≡◌ {A = ℕ} 0 1 = cc in omega arith)

none_taken : (x : Option Refusal) → is_none x ≡ true → x ≡ none
none_taken none h = refl
none_taken (some r) h = absurd (let w : ◌≡◌ {A = ℕ} 0 1 = cc in omega arith)

module _ (port : Bytes → List (Check Refusal)) (most : ℕ) (j : Judged port most) (room : ℕ) (ps : Log Part) (d : Bytes) (b : Built) (l : Bounded ps) (r : ReadsBack room ps d b) where
  refused : holdable room ps ≡ false → first_refusal (port (held_in d b)) ≡ some Framing
  refused h = j.unsound (held_in d b) (r.frames ∙ rw h)

  handed : Handed port room ps d b
  handed = record { own = own (holdable room ps) refl; broken = refused }
    where
      own : (t : Bool) → holdable room ps ≡ t → takes (port (held_in d b)) ≡ true → held_in d b ≡ as_frames ps
      own true e h = r.bytes e
      own false e h = some_taken (first_refusal (port (held_in d b))) Framing (refused e) h

  -- parts that the port takes are a message, and short
  fits : most ≤ room → takes (port (as_frames ps)) ≡ true → holdable room ps ≡ true
  fits m h = go (complete ps) refl
    where
      go : (t : Bool) → complete ps ≡ t → (t && leb (length (as_frames ps)) room) ≡ true
      go false e = some_taken (first_refusal (port (as_frames ps))) Framing (j.unsound (as_frames ps) (broken_read ps e l)) h
      go true e = le-leb (length (as_frames ps)) room (omega (arith, frames_total ps, j.short (as_frames ps) (bodies ps) (whole_read ps e l) (none_taken (first_refusal (port (as_frames ps))) h)))

  enough : Enough port room most ps d b
  enough = record { handed = handed; same = λ m. go m (takes (port (as_frames ps))) refl (holdable room ps) refl }
    where
      go : most ≤ room → (t : Bool) → takes (port (as_frames ps)) ≡ t → (u : Bool) → holdable room ps ≡ u → takes (port (held_in d b)) ≡ t
      go m t e true f = rw (r.bytes f) e
      go m true e false f = absurd (let z : ◌≡◌ {A = Bool} false true = sym f ∙ fits m e in let w : ◌≡◌ {A = ℕ} 0 1 = cc in omega arith)
      go m false e false f = rw (refused f)

-- ---- the ports
-- how long a frame is that passed a test
nil_short : (s : Bytes) → not (is_nil s) ≡ false → length s ≤ 0
nil_short [] h = omega arith
nil_short (x ∷ s) h = absurd (let w : ◌≡◌ {A = ℕ} 0 1 = cc in omega arith)

sequence-short : (s : Bytes) → not (is_sequence s) ≡ false → length s ≤ 8
sequence-short s h = omega (arith, eqb-true (length s) 8 (not-false (is_sequence s) h))

key_test : (s : Bytes) → not (is_key s) ≡ false → length s ≤ 96
key_test s h = key-short s (not-false (is_key s) h)

-- five frames of at most so many bytes
record Sizes (f : Fields) (u p : ℕ) : Type 0 where
  pub head : length f.head ≤ 96
  pub sequence : length f.sequence ≤ 8
  pub uuid : length f.uuid ≤ u
  pub properties : length f.properties ≤ p
  pub value : length f.value ≤ 256

sizes_total : (f : Fields) (u p : ℕ) → u ≤ 255 → p ≤ 255 → Sizes f u p → total (f.head ∷ f.sequence ∷ f.uuid ∷ f.properties ∷ f.value ∷ []) ≤ 377 + u + p
sizes_total f u p i j h =
    omega
    (arith, short-frame (length f.head) 96 h.head (omega arith), short-frame (length f.sequence) 8 h.sequence (omega arith), short-frame (length f.uuid) u h.uuid i, short-frame (length f.properties) p h.properties j, value_frame (length f.value) h.value)

payload_sizes : (f : Fields) → length f.head ≤ 96 → length f.sequence ≤ 8 → first_refusal (payload_checks f.uuid f.properties f.value) ≡ none → Sizes f 16 128
payload_sizes f k s e =
    let p = payload_short f.uuid f.properties f.value e in
    record { head = k; sequence = s; uuid = p.0; properties = p.1.0; value = p.1.1 }

bare_sizes : (f : Fields) → length f.head ≤ 96 → length f.sequence ≤ 8 → first_refusal (bare_checks f.uuid f.properties) ≡ none → length f.value ≤ 256 → Sizes f 0 0
bare_sizes f k s e v =
    let checks = bare_checks f.uuid f.properties in
    record { head = k; sequence = s; uuid = nil_short f.uuid (passed 0 checks e); properties = nil_short f.properties (passed 1 checks e); value = v }

more_sizes : (f : Fields) → Sizes f 0 0 → Sizes f 16 128
more_sizes f h =
    record { head = h.head; sequence = h.sequence; uuid = omega (arith, h.uuid); properties = omega (arith, h.properties); value = h.value }

-- the word of a frame
word_short : (word s : Bytes) → length word ≤ 96 → same word s ≡ true → length s ≤ 96
word_short word s h e = omega (arith, ap length (same_eq word s e))

-- the checks of each message
module _ (f : Fields) where
  kvset_sizes : first_refusal (kvset_checks f) ≡ none → Sizes f 16 128
  kvset_sizes e =
      payload_sizes f (key_test f.head (passed 0 (kvset_checks f) e)) (sequence-short f.sequence (passed 1 (kvset_checks f) e))
      (both_passed (when (not (is_key f.head)) BadKey ∷ when (not (is_sequence f.sequence)) BadSequence ∷ []) (payload_checks f.uuid f.properties f.value) e).1

  kvpub_sizes : first_refusal (kvpub_checks f) ≡ none → Sizes f 16 128
  kvpub_sizes e =
      payload_sizes f (key_test f.head (passed 0 (kvpub_checks f) e)) (sequence-short f.sequence (passed 1 (kvpub_checks f) e))
      (both_passed (when (not (is_key f.head)) BadKey ∷ when (not (is_sequence f.sequence)) BadSequence ∷ when (not (leb (number f.sequence) max_sequence)) BadSequence ∷ []) (payload_checks f.uuid f.properties f.value) e).1

  hugz_sizes : same word_hugz f.head ≡ true → first_refusal (hugz_checks f) ≡ none → Sizes f 0 0
  hugz_sizes w e =
      let b = (both_passed (when (not (is_sequence f.sequence)) BadSequence ∷ when (not (eqb (number f.sequence) 0)) BadSequence ∷ []) (bare_checks f.uuid f.properties ++ (when (not (is_nil f.value)) BadValue ∷ [])) e).1 in
      let c = both_passed (bare_checks f.uuid f.properties) (when (not (is_nil f.value)) BadValue ∷ []) b in
      bare_sizes f (word_short word_hugz f.head (omega arith) w) (sequence-short f.sequence (passed 0 (hugz_checks f) e)) c.0 (omega (arith, nil_short f.value (passed 0 (when (not (is_nil f.value)) BadValue ∷ []) c.1)))

  module _ (subtree : Bytes) where
    kvsync_sizes : first_refusal (kvsync_checks subtree f) ≡ none → Sizes f 0 0
    kvsync_sizes e =
        let b = (both_passed (when (not (is_key f.head)) BadKey ∷ when (not (under subtree f.head)) BadSubtree ∷ when (not (is_sequence f.sequence)) BadSequence ∷ []) (bare_checks f.uuid f.properties ++ row_value_checks f.value) e).1 in
        let c = both_passed (bare_checks f.uuid f.properties) (row_value_checks f.value) b in
        bare_sizes f (key_test f.head (passed 0 (kvsync_checks subtree f) e)) (sequence-short f.sequence (passed 2 (kvsync_checks subtree f) e)) c.0 (value-short f.value (passed 1 (row_value_checks f.value) c.1))

    kthxbai_sizes : is_subtree subtree ≡ true → same word_kthxbai f.head ≡ true → first_refusal (kthxbai_checks subtree f) ≡ none → Sizes f 0 0
    kthxbai_sizes g w e =
        let b = (both_passed (when (not (same subtree f.value)) BadSubtree ∷ when (not (is_sequence f.sequence)) BadSequence ∷ when (not (leb (number f.sequence) max_sequence)) BadSequence ∷ []) (bare_checks f.uuid f.properties) e).1 in
        bare_sizes f (word_short word_kthxbai f.head (omega arith) w) (sequence-short f.sequence (passed 1 (kthxbai_checks subtree f) e)) b
        (omega (arith, subtree-short subtree g, word_short subtree f.value (subtree-short subtree g) (not-false (same subtree f.value) (passed 0 (kthxbai_checks subtree f) e))))

-- checks that go by a word
by_word : {P : Type 0} (test : Bool) (a b : List (Check Refusal)) → first_refusal (cond test a b) ≡ none → (test ≡ true → first_refusal a ≡ none → P) → (first_refusal b ≡ none → P) → P
by_word true a b e f g = f refl e
by_word false a b e f g = g e

published_sizes : (f : Fields) → first_refusal (published_checks f) ≡ none → Sizes f 16 128
published_sizes f e = by_word (same word_hugz f.head) (hugz_checks f) (kvpub_checks f) e (λ w g. more_sizes f (hugz_sizes f w g)) (λ g. kvpub_sizes f g)

snapshot_sizes : (subtree : Bytes) (f : Fields) → is_subtree subtree ≡ true → first_refusal (snapshot_checks subtree f) ≡ none → Sizes f 0 0
snapshot_sizes subtree f g e =
    by_word (same word_kthxbai f.head) (kthxbai_checks subtree f) (kvsync_checks subtree f) e (λ w h. kthxbai_sizes f subtree g w h) (λ h. kvsync_sizes f subtree h)

-- the framing, and how many frames there are
unsound_first : (n : ℕ) (s : Bytes) (others : List (Check Refusal)) → frames_in s ≡ none → first_refusal (framed n s ++ others) ≡ some Framing
unfolding first_refusal
unsound_first n s others e = rw e

counted : (n : ℕ) (s : Bytes) (bs : List Bytes) → frames_in s ≡ some bs → first_refusal (framed n s) ≡ none → length bs ≡ n
counted n s bs e f =
    let h = eqb-true (length (parts_of s)) n (not-false (eqb (length (parts_of s)) n) (passed 1 (framed n s) f)) in
    ap (λ (x : Option (List Bytes)). length (Option.get_or x [])) (sym e) ∙ h

-- n entries of a list, from one of them on
abbrev entries : ℕ → ℕ → List Bytes → List Bytes
entries zero from bs = []
entries (suc n) from bs = get_or bs from [] ∷ entries n (suc from) bs

entries_are : (n from : ℕ) (bs : List Bytes) → length bs ≡ from + n → drop from bs ≡ entries n from bs
entries_are zero from bs h = drop_of_length-le bs {i = from} (omega arith)
entries_are (suc n) from bs h =
    drop-cons bs from [] (omega arith) ∙ ap (λ (l : List Bytes). get_or bs from [] ∷ l) (entries_are n (suc from) bs (omega arith))

-- a port of five frames whose checks bound them
five_judged : (checks : Fields → List (Check Refusal)) (u p : ℕ) → u ≤ 255 → p ≤ 255 → ((f : Fields) → first_refusal (checks f) ≡ none → Sizes f u p)
    → Judged (λ (s : Bytes). framed 5 s ++ checks (fields_of s)) (377 + u + p)
unfolding frame_at
five_judged checks u p i j sizes = record { unsound = λ s e. unsound_first 5 s (checks (fields_of s)) e; short = short }
  where
    of : (bs : List Bytes) → Fields
    of bs = fields (get_or bs 0 []) (get_or bs 1 []) (get_or bs 2 []) (get_or bs 3 []) (get_or bs 4 [])

    short : (s : Bytes) (bs : List Bytes) → frames_in s ≡ some bs → first_refusal (framed 5 s ++ checks (fields_of s)) ≡ none → total bs ≤ 377 + u + p
    short s bs e f =
        let b = both_passed (framed 5 s) (checks (fields_of s)) f in
        let n = entries_are 5 0 bs (counted 5 s bs e b.0) in
        rw n (sizes_total (of bs) u p i j (sizes (of bs) (ap (λ (x : Option (List Bytes)). first_refusal (checks (of (Option.get_or x [])))) (sym e) ∙ b.1)))

icanhaz-judged : Judged icanhaz_port 365
unfolding frame_at
icanhaz-judged = record { unsound = λ s e. unsound_first 3 s _ e; short = short }
  where
    sum : (i w t : Bytes) → first_refusal (icanhaz_checks i w t) ≡ none → total (i ∷ w ∷ t ∷ []) ≤ 365
    sum i w t e =
        let identity = leb-true (length i) 255 (and_right (leb 1 (length i)) (leb (length i) 255) (not-false (is_identity i) (passed 0 (icanhaz_checks i w t) e))) in
        let word = ap length (same_eq word_icanhaz w (not-false (same word_icanhaz w) (passed 1 (icanhaz_checks i w t) e))) in
        let subtree = subtree-short t (not-false (is_subtree t) (passed 2 (icanhaz_checks i w t) e)) in
        omega (arith, short-frame (length i) 255 identity (omega arith), short-frame (length w) 8 (omega arith) (omega arith), short-frame (length t) 96 subtree (omega arith))

    short : (s : Bytes) (bs : List Bytes) → frames_in s ≡ some bs → first_refusal (icanhaz_port s) ≡ none → total bs ≤ 365
    short s bs e f =
        let b = both_passed (framed 3 s) (icanhaz_checks (frame_at 0 s) (frame_at 1 s) (frame_at 2 s)) f in
        let n = entries_are 3 0 bs (counted 3 s bs e b.0) in
        rw n (sum (get_or bs 0 []) (get_or bs 1 []) (get_or bs 2 []) (ap (λ (x : Option (List Bytes)). first_refusal (icanhaz_checks (get_or (Option.get_or x []) 0 []) (get_or (Option.get_or x []) 1 []) (get_or (Option.get_or x []) 2 []))) (sym e) ∙ b.1))

-- ---- all of it
within : (port : Bytes → List (Check Refusal)) (n most : ℕ) → n ≤ most → Judged port n → Judged port most
within port n most h j = record { unsound = j.unsound; short = λ s bs e f. omega (arith, j.short s bs e f) }

pub all_rooms : AllRooms
all_rooms room ps d b most l r =
    let h = reads_back room ps d b most r in
    let update : 377 + 16 + 128 ≤ update_room = omega arith in
    let request : 365 ≤ request_room = omega arith in
    let row : 377 + 0 + 0 ≤ snapshot_room = omega arith in
    record {
      kvset = enough kvset_port update_room (within kvset_port _ update_room update (five_judged kvset_checks 16 128 (omega arith) (omega arith) kvset_sizes)) room ps d b l h;
      subscriber = enough subscriber_port update_room (within subscriber_port _ update_room update (five_judged published_checks 16 128 (omega arith) (omega arith) published_sizes)) room ps d b l h;
      icanhaz = enough icanhaz_port request_room (within icanhaz_port _ request_room request icanhaz-judged) room ps d b l h;
      snapshot = λ subtree g.
          enough (snapshot_port subtree) snapshot_room (within (snapshot_port subtree) _ snapshot_room row (five_judged (snapshot_checks subtree) 0 0 (omega arith) (omega arith) (λ f e. snapshot_sizes subtree f g e))) room ps d b l h;
    }

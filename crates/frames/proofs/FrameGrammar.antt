-- `frames_in` reads the grammar of messages, and nothing else that is made of octets. Assumes nothing.
use Prim.Native.Nat.{ℕ, zero, suc, ◌≤◌, ◌<◌}
use native.Mathlib.Omega.{arith}
use mathlib.Core.Bool.{Bool, true, false, cond}
use mathlib.Core.List.{List, [], ◌∷◌, ◌++◌, append_assoc, append-nil}
use mathlib.Core.Logic.{◌↔◌}
use mathlib.Core.Option.{some, map}
use mathlib.Core.Path.{◌≡◌, refl, sym, ap, ◌∙◌, subst, subst₃}
use lib.Dec.{leb}
use lib.ListN.{length, take, drop, take-append-drop}
use lib.Seq.{length-take-le}
use borrow.Author.Tests.{ltb-true, leb-true}
use Rattle.base.proofs.ByteLaws.{and_left, and_right}
use Rattle.base.proofs.OctetLaws.{is_octet, octets-number, number_bound, every_append}
use Rattle.std.specs.Prelude.{Some, None}
use Rattle.base.specs.Bytes.{Bytes, every}
use Rattle.base.specs.Octets.{number, octets}
use Rattle.frames.proofs.FrameLaws.{Begins, short_begins, long_begins, last_read, more_read}
use Rattle.frames.proofs.MessageLaws.{frames_step, none_some, prepended}
use Rattle.frames.proofs.StepLaws.{same_frame}
use Rattle.frames.specs.Grammar.IsFrame.{short, long}
use Rattle.frames.specs.Grammar.IsMessage.{further, final}
use Rattle.frames.specs.Grammar.{IsFrame, IsMessage}
use Rattle.frames.specs.Messages.{last, through, frames_in, flag_of}
use Rattle.frames.specs.Steps.{Step, found, frame_within, short_of, long_of, flagged, step_of}

-- ---- what the grammar makes is read
frame_read : (more : Bool) (b s rest : Bytes) → IsFrame more b s → Begins (s ++ rest) more b rest
frame_read more b s rest (short h) = short_begins more b rest
frame_read more b s rest (long h) = long_begins more b rest h

pub message_read : (bodies : List Bytes) (s : Bytes) → IsMessage bodies s → frames_in s ≡ some bodies
message_read bodies s (final body r h) = rw (sym (append-nil r)) (last_read (r ++ []) body (frame_read false body r [] h))
message_read bodies s (further body others r t h k) =
    more_read (r ++ t) body t (frame_read true body r t h) ∙ ap (map (λ (bs : List Bytes). body ∷ bs)) (message_read others t k)

-- ---- what is read, the grammar makes
-- the bytes that a step takes are a frame
record Front (s : Bytes) (start len : ℕ) (more : Bool) : Type 0 where
  pub front : Bytes
  pub is : IsFrame more (take len (drop start s)) front
  pub whole : s ≡ front ++ drop len (drop start s)

pub within_known : (a len left : ℕ) (more : Bool) (start n : ℕ) (m : Bool) → frame_within a len left more ≡ found start n m → (len ≤ left) × (a ≡ start) × (len ≡ n) × (more ≡ m)
within_known a len left more start n m e = go (leb len left) refl e
  where
    go : (t : Bool) → leb len left ≡ t → cond t (found a len more) None ≡ found start n m → (len ≤ left) × (a ≡ start) × (len ≡ n) × (more ≡ m)
    go true t e = let k = same_frame a len start n more m e in (leb-true len left t, k.0, k.1, k.2)
    go false t e = cc

short_front : (more : Bool) (size : ℕ) (rest : Bytes) → size < 256 → size ≤ length rest → Front (flag_of more false ∷ size ∷ rest) 2 size more
short_front more size rest o l =
    let n = length-take-le size rest l in
    record {
      front = flag_of more false ∷ size ∷ take size rest;
      is = subst (λ (k : ℕ). IsFrame more (take size rest) (flag_of more false ∷ k ∷ take size rest)) n (short (omega arith));
      whole = ap (λ (t : Bytes). flag_of more false ∷ size ∷ t) (sym (take-append-drop size rest));
    }

long_front : (more : Bool) (t : Bytes) (n : ℕ) → every is_octet t ≡ true → 8 ≤ length t → number (take 8 t) ≡ n → n ≤ length (drop 8 t)
    → Front (flag_of more true ∷ t) 9 n more
long_front more t n o l e k =
    let rest = drop 8 t in
    let size = (every_append (take 8 t) rest (rw (sym (take-append-drop 8 t)) at o)).0 in
    let eight = length-take-le 8 t l in
    let body : length (take n rest) ≡ n = length-take-le n rest k in
    let bound = number_bound 8 (take 8 t) eight size in
    let octs : octets 8 (length (take n rest)) ≡ take 8 t = ap (octets 8) (body ∙ sym e) ∙ octets-number 8 (take 8 t) eight size in
    record {
      front = flag_of more true ∷ take 8 t ++ take n rest;
      is = subst (λ (o : Bytes). IsFrame more (take n rest) (flag_of more true ∷ o ++ take n rest)) octs (long (omega arith));
      whole =
          ap (λ (x : Bytes). flag_of more true ∷ x)
          (sym (append_assoc (take 8 t) (take n rest) (drop n rest) ∙ ap (λ (x : Bytes). take 8 t ++ x) (take-append-drop n rest) ∙ take-append-drop 8 t));
    }

-- by the flag octet
module _ (start len : ℕ) (m : Bool) where
  read_short : (more : Bool) (t : Bytes) → every is_octet t ≡ true → short_of more t ≡ found start len m → Front (flag_of more false ∷ t) start len m
  unfolding short_of every
  read_short more [] o e = cc
  read_short more (size ∷ rest) o e =
      let h = within_known 2 size (length rest) more start len m e in
      subst₃ (λ (a : ℕ) (b : ℕ) (c : Bool). Front (flag_of more false ∷ size ∷ rest) a b c) h.1 h.2 h.3
      (short_front more size rest (ltb-true size 256 (and_left (is_octet size) (every is_octet rest) o)) h.0)

  read_long : (more : Bool) (t : Bytes) → every is_octet t ≡ true → long_of more t ≡ found start len m → Front (flag_of more true ∷ t) start len m
  unfolding long_of
  read_long more t o e = go (leb 8 (length t)) refl e
    where
      go : (u : Bool) → leb 8 (length t) ≡ u → cond u (frame_within 9 (number (take 8 t)) (length (drop 8 t)) more) None ≡ found start len m → Front (flag_of more true ∷ t) start len m
      go false u e = cc
      go true u e =
          let h = within_known 9 (number (take 8 t)) (length (drop 8 t)) more start len m e in
          subst₃ (λ (a : ℕ) (b : ℕ) (c : Bool). Front (flag_of more true ∷ t) a b c) h.1 h.2 h.3
          (long_front more t (number (take 8 t)) o (leb-true 8 (length t) u) refl h.0)

  step_front : (s : Bytes) → every is_octet s ≡ true → step_of s ≡ found start len m → Front s start len m
  unfolding step_of flagged every
  step_front [] o e = cc
  step_front (flag ∷ t) o e = go flag (and_right (is_octet flag) (every is_octet t) o) e
    where
      go : (flag : ℕ) → every is_octet t ≡ true → flagged flag t ≡ found start len m → Front (flag ∷ t) start len m
      go zero o e = read_short false t o e
      go (suc zero) o e = read_short true t o e
      go (suc (suc zero)) o e = read_long false t o e
      go (suc (suc (suc zero))) o e = read_long true t o e
      go (suc (suc (suc (suc n)))) o e = cc

-- ---- the whole message
pub ended : (body rest : Bytes) (bodies : List Bytes) → last body rest ≡ some bodies → (rest ≡ []) × (bodies ≡ body ∷ [])
ended body [] bodies e = (refl, cc)
ended body (x ∷ rest) bodies e = none_some bodies e

-- a message has a frame
pub some_frame : (s : Bytes) (bodies : List Bytes) → frames_in s ≡ some bodies → length bodies ≡ 0 → ⊥
some_frame s bodies e n = go (step_of s) (sym (frames_step s) ∙ e)
  where
    go : (x : Step) → through frames_in s x ≡ some bodies → ⊥
    go None e = none_some bodies e
    go (Some f) e = framed f.start f.len f.more e
      where
        framed : (start len : ℕ) (more : Bool) → through frames_in s (found start len more) ≡ some bodies → ⊥
        framed start len false e = omega (arith, n, ap length (ended (take len (drop start s)) (drop len (drop start s)) bodies e).1)
        framed start len true e = omega (arith, n, ap length (prepended (take len (drop start s)) (frames_in (drop len (drop start s))) bodies e).2)

one-frame : (s front body rest : Bytes) → s ≡ front ++ rest → rest ≡ [] → IsFrame false body front → IsMessage (body ∷ []) s
one-frame s front body rest e f h = rw (e, f, append-nil front) (final body front h)

more-frames : (s front body rest : Bytes) (bodies : List Bytes) → s ≡ front ++ rest → IsFrame true body front → IsMessage bodies rest → IsMessage (body ∷ bodies) s
more-frames s front body rest bodies e h k = rw e (further body bodies front rest h k)

pub message_known : (bodies : List Bytes) (s : Bytes) → every is_octet s ≡ true → frames_in s ≡ some bodies → IsMessage bodies s
message_known [] s o e = absurd (some_frame s [] e refl)
message_known (b ∷ bs) s o e = go (λ t p f. message_known bs t p f) (step_of s) refl (sym (frames_step s) ∙ e)
  where
    octets-behind : (start len : ℕ) (more : Bool) → Front s start len more → every is_octet (drop len (drop start s)) ≡ true
    octets-behind start len more f = (every_append f.front (drop len (drop start s)) (subst (λ (x : Bytes). every is_octet x ≡ true) f.whole o)).1

    go : ((t : Bytes) → every is_octet t ≡ true → frames_in t ≡ some bs → IsMessage bs t)
        → (x : Step) → step_of s ≡ x → through frames_in s x ≡ some (b ∷ bs) → IsMessage (b ∷ bs) s
    go ih None g f = none_some (b ∷ bs) f
    go ih (Some x) g f = framed x.start x.len x.more g f
      where
        framed : (start len : ℕ) (more : Bool) → step_of s ≡ found start len more → through frames_in s (found start len more) ≡ some (b ∷ bs)
            → IsMessage (b ∷ bs) s
        framed start len false g f =
            let k = ended (take len (drop start s)) (drop len (drop start s)) (b ∷ bs) f in
            let r = step_front start len false s o g in
            subst (λ (l : List Bytes). IsMessage l s) (sym k.1) (one-frame s r.front (take len (drop start s)) (drop len (drop start s)) r.whole k.0 r.is)
        framed start len true g f =
            let k = prepended (take len (drop start s)) (frames_in (drop len (drop start s))) (b ∷ bs) f in
            let r = step_front start len true s o g in
            let same : k.0 ≡ bs = cc in
            let rest = ih (drop len (drop start s)) (octets-behind start len true r) (k.1 ∙ ap some same) in
            let all : ◌≡◌ {A = List Bytes} (take len (drop start s) ∷ bs) (b ∷ bs) = ap (λ (l : List Bytes). take len (drop start s) ∷ l) (sym same) ∙ sym k.2 in
            subst (λ (l : List Bytes). IsMessage l s) all (more-frames s r.front (take len (drop start s)) (drop len (drop start s)) bs r.whole r.is rest)

-- reading a message is the grammar
pub message_is : (bodies : List Bytes) (s : Bytes) → every is_octet s ≡ true → (frames_in s ≡ some bodies) ↔ IsMessage bodies s
message_is bodies s o = (message_known bodies s o, message_read bodies s)

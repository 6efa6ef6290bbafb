-- The value frame of a message ends it. Assumes nothing.
use Prim.Native.Nat.{ℕ, zero, suc, ◌+◌, ◌-◌}
use native.Mathlib.Omega.{arith}
use mathlib.Core.Bool.{Bool, true, false, not}
use mathlib.Core.List.{List, [], ◌∷◌, ◌++◌, append_assoc, append-nil}
use mathlib.Core.Option
use mathlib.Core.Option.{Option, none, some}
use mathlib.Core.Path.{◌≡◌, refl, sym, ap, ◌∙◌}
use lib.Dec.{eqb}
use lib.ListN.{length, get_or, take, drop, take-append-drop, length-append}
use lib.Seq.{drop-append_seam}
use borrow.Author.Tests.{eqb-true}
use Rattle.std.specs.Prelude.{Some, None}
use Rattle.answers.specs.declared.refusal.Refusal.TheVariants.{Framing, FrameCount}
use Rattle.base.specs.Bytes.{Bytes}
use Rattle.base.specs.Checks.Check.{when}
use Rattle.base.specs.Checks.{first_refusal}
use Rattle.chp.specs.Values.{IsValueLength}
use Rattle.frames.proofs.FrameGrammar.{ended, some_frame}
use Rattle.frames.proofs.MessageLaws.{frames_step, none_some, prepended}
use Rattle.frames.specs.Messages.{through, frames_in, frame_at}
use Rattle.frames.specs.Steps.{Step, found, step_of}
use Rattle.ports.specs.Ports.{is_none, value_for, value_in}

-- some bytes end with others
pub record Ends (s b : Bytes) : Type 0 where
  pub front : Bytes
  pub is : s ≡ front ++ b

ends-drop : (n : ℕ) (s b : Bytes) → Ends (drop n s) b → Ends s b
ends-drop n s b h =
    record { front = take n s ++ h.front; is = sym (take-append-drop n s) ∙ ap (λ (t : Bytes). take n s ++ t) h.is ∙ sym (append_assoc (take n s) h.front b) }

ends-whole : (len : ℕ) (s : Bytes) → drop len s ≡ [] → Ends s (take len s)
ends-whole len s e = record { front = []; is = sym (take-append-drop len s) ∙ ap (λ (t : Bytes). take len s ++ t) e ∙ append-nil (take len s) }

-- the body of the last frame ends the message
last_ends : (k : ℕ) (s : Bytes) (bodies : List Bytes) → length bodies ≡ suc k → frames_in s ≡ some bodies → Ends s (get_or bodies k [])
last_ends zero s bodies n e = go (step_of s) (sym (frames_step s) ∙ e)
  where
    go : (x : Step) → through frames_in s x ≡ some bodies → Ends s (get_or bodies 0 [])
    go None e = none_some bodies e
    go (Some x) e = framed x.start x.len x.more e
      where
        framed : (start len : ℕ) (more : Bool) → through frames_in s (found start len more) ≡ some bodies → Ends s (get_or bodies 0 [])
        framed start len false e =
            let f = ended (take len (drop start s)) (drop len (drop start s)) bodies e in
            rw f.1 (ends-drop start s (take len (drop start s)) (ends-whole len (drop start s) f.0))
        framed start len true e =
            let f = prepended (take len (drop start s)) (frames_in (drop len (drop start s))) bodies e in
            absurd (some_frame (drop len (drop start s)) f.0 f.1 (omega (arith, n, ap length f.2)))
last_ends (suc k) s bodies n e = go (λ t bs m f. last_ends k t bs m f) (step_of s) (sym (frames_step s) ∙ e)
  where
    go : ((t : Bytes) (bs : List Bytes) → length bs ≡ suc k → frames_in t ≡ some bs → Ends t (get_or bs k [])) → (x : Step) → through frames_in s x ≡ some bodies → Ends s (get_or bodies (suc k) [])
    go ih None e = none_some bodies e
    go ih (Some x) e = framed x.start x.len x.more e
      where
        framed : (start len : ℕ) (more : Bool) → through frames_in s (found start len more) ≡ some bodies → Ends s (get_or bodies (suc k) [])
        framed start len false e = absurd (omega (arith, n, ap length (ended (take len (drop start s)) (drop len (drop start s)) bodies e).1))
        framed start len true e =
            let f = prepended (take len (drop start s)) (frames_in (drop len (drop start s))) bodies e in
            rw f.2 (ends-drop start s _ (ends-drop len (drop start s) _ (ih (drop len (drop start s)) f.0 (omega (arith, n, ap length f.2)) f.1)))

-- and so does what the value entry gives; nothing ends every message
value-ends : (msg : Bytes) → Ends msg (value_in msg)
unfolding value_in frame_at first_refusal
value-ends msg = go (frames_in msg) refl
  where
    nothing : Ends msg []
    nothing = record { front = msg; is = sym (append-nil msg) }

    counted : (bodies : List Bytes) → frames_in msg ≡ some bodies → (t : Bool) → eqb (length bodies) 5 ≡ t
        → Ends msg (value_for (first_refusal (when false Framing ∷ when (not t) FrameCount ∷ [])) (get_or bodies 4 []))
    counted bodies e true h = last_ends 4 msg bodies (eqb-true (length bodies) 5 h) e
    counted bodies e false h = nothing

    go : (x : Option (List Bytes)) → frames_in msg ≡ x
        → Ends msg (value_for (first_refusal (when (is_none x) Framing ∷ when (not (eqb (length (Option.get_or x [])) 5)) FrameCount ∷ [])) (get_or (Option.get_or x []) 4 []))
    go none e = nothing
    go (some bodies) e = counted bodies e (eqb (length bodies) 5) refl

-- ---- its length
pub value-length : (msg v : Bytes) → v ≡ value_in msg → IsValueLength msg (length v)
value-length msg v e =
    let h = value-ends msg in
    let long : length msg ≡ length h.front + length v = ap length h.is ∙ length-append h.front (value_in msg) ∙ ap (λ (b : Bytes). length h.front + length b) (sym e) in
    let from : length msg - length v ≡ length h.front = omega (arith, long) in
    record {
      within = omega (arith, long);
      is = ap (λ (n : ℕ). drop n msg) from ∙ ap (drop (length h.front)) h.is ∙ drop-append_seam h.front (value_in msg);
    }

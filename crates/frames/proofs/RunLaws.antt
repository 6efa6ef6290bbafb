-- Laws of messages one behind another: where each ends, and that whole messages are cut apart where they were joined.
-- Assumes nothing.
use Prim.Native.Nat.{ℕ, zero, suc, ◌+◌, ◌≤◌, ◌<◌}
use native.Mathlib.Omega.{arith}
use mathlib.Core.Bool.{Bool, true, false, cond}
use mathlib.Core.List.{List, [], ◌∷◌, ◌++◌, append_assoc, append-nil}
use mathlib.Core.Option.{Option, none, some, map, map-eq-some_iff}
use mathlib.Core.Path.{◌≡◌, refl, sym, ap, ◌∙◌}
use lib.Dec.{leb}
use lib.ListN.{length, take, drop, length-append, length-take, length-drop, take-append-drop}
use lib.Seq.{length-take-le, take-append_seam, drop-append_seam, take-append-le, drop-drop, take-add, take_at, drop_at}
use borrow.Author.Tests.{le-leb}
use Rattle.std.specs.Prelude.{Some, None}
use Rattle.base.specs.Bytes.{Bytes}
use Rattle.base.specs.Octets.{number}
use Rattle.frames.proofs.FrameGrammar.{within_known, ended}
use Rattle.frames.proofs.FrameLaws.{Sized, round_trip}
use Rattle.frames.proofs.MessageLaws.{enough, rest_less, frames_step, none_some, prepended}
use Rattle.frames.proofs.StepLaws.{Sound, step_sound, step_known}
use Rattle.frames.specs.Messages.{through, frames_in, encode}
use Rattle.frames.specs.Runs.{end_through, end_up_to, end_in, message_in, joined, cut_through, cut_up_to, messages_in}
use Rattle.frames.specs.Steps.{Step, found, frame_within, short_of, long_of, flagged, step_of}

-- ---- the end of the first message is that of its first frame, or of what is behind it; the bound on the number of
-- frames does not matter
end_nil : (k : ℕ) → end_up_to k [] ≡ none
unfolding end_up_to step_of
end_nil zero = refl
end_nil (suc k) = refl

end_same : (f g : Bytes → Option ℕ) (s : Bytes) (k : ℕ) → length s ≤ suc k → ((t : Bytes) → length t ≤ k → f t ≡ g t)
    → end_through f s (step_of s) ≡ end_through g s (step_of s)
end_same f g s k l same = go (step_of s) (step_sound s)
  where
    go : (x : Step) → Sound (length s) x → end_through f s x ≡ end_through g s x
    go None o = refl
    go (Some x) o = rw (same (drop x.len (drop x.start s)) (rest_less s x.start x.len k o.0 l))

pub end_step : (s : Bytes) → end_in s ≡ end_through end_in s (step_of s)
unfolding end_in end_up_to
end_step s = enough none (λ (f : Bytes → Option ℕ) (t : Bytes). end_through f t (step_of t)) end_up_to end_nil (λ k t. refl) end_same s

-- ---- the bytes of a frame are read as that frame, whatever stands behind them: f is the frame, r and q are what
-- stands there
within-again : (head size left other : ℕ) (more : Bool) (start len : ℕ) (m : Bool) → len ≤ other → frame_within head size left more ≡ found start len m
    → frame_within head size other more ≡ found start len m
within-again head size left other more start len m l e =
    let k = within_known head size left more start len m e in
    rw (le-leb size other (omega (arith, k.2))) (cc (k.1, k.2, k.3))

module _ (r q : Bytes) (start len : ℕ) (m : Bool) (h : 2 ≤ start) where
  module _ (more : Bool) where
    short-again : (f : Bytes) → suc (length f) ≡ start + len → short_of more (f ++ r) ≡ found start len m → short_of more (f ++ q) ≡ found start len m
    unfolding short_of
    short-again [] l e = absurd (omega arith)
    short-again (size ∷ f) l e =
        let k = within_known 2 size (length (f ++ r)) more start len m e in
        within-again 2 size (length (f ++ r)) (length (f ++ q)) more start len m (omega (arith, k.1, length-append f q)) e

    long-again : (f : Bytes) → suc (length f) ≡ start + len → long_of more (f ++ r) ≡ found start len m → long_of more (f ++ q) ≡ found start len m
    unfolding long_of
    long-again f l e = go (leb 8 (length (f ++ r))) e
      where
        go : (t : Bool) → cond t (frame_within 9 (number (take 8 (f ++ r))) (length (drop 8 (f ++ r))) more) None ≡ found start len m → long_of more (f ++ q) ≡ found start len m
        go false e = cc
        go true e =
            let k = within_known 9 (number (take 8 (f ++ r))) (length (drop 8 (f ++ r))) more start len m e in
            let i : 8 ≤ length f = omega (arith, k.1) in
            let a = length-append f q in
            rw (le-leb 8 (length (f ++ q)) (omega arith), take-append-le 8 f q i)
            (within-again 9 (number (take 8 f)) (length (drop 8 (f ++ r))) (length (drop 8 (f ++ q))) more start len m
            (omega (arith, k.1, length-drop 8 (f ++ q)))
            (rw (take-append-le 8 f r i) at e))

  step_again : (f : Bytes) → length f ≡ start + len → step_of (f ++ r) ≡ found start len m → step_of (f ++ q) ≡ found start len m
  unfolding step_of flagged
  step_again [] l e = absurd (omega arith)
  step_again (zero ∷ f) l e = short-again false f l e
  step_again (suc zero ∷ f) l e = short-again true f l e
  step_again (suc (suc zero) ∷ f) l e = long-again false f l e
  step_again (suc (suc (suc zero)) ∷ f) l e = long-again true f l e
  step_again (suc (suc (suc (suc n))) ∷ f) l e = cc

module _ (s : Bytes) (start len : ℕ) (more : Bool) (e : step_of s ≡ found start len more) where
  within : (2 ≤ start) × (start + len ≤ length s)
  within = step_known s start len more (sym e)

  rest_length : length s ≡ start + len + length (drop len (drop start s))
  rest_length = let k = within in simp length-drop (omega arith)

  rest_fewer : length (drop len (drop start s)) < length s
  rest_fewer = omega (arith, within, rest_length)

  -- t is the frame that s begins with, and other bytes behind it
  module _ (t behind : Bytes) (w : t ≡ take (start + len) s ++ behind) where
    front : length (take (start + len) s) ≡ start + len
    front = length-take-le (start + len) s within.1

    again_step : step_of t ≡ found start len more
    again_step =
        rw w (step_again (drop (start + len) s) behind start len more within.0 (take (start + len) s) front (rw take-append-drop e))

    again_rest : drop len (drop start t) ≡ behind
    again_rest = drop-drop len start t ∙ rw w (drop_at (take (start + len) s) behind (start + len) front)

    again-body : take len (drop start t) ≡ take len (drop start s)
    again-body =
        let k = within in
        let h : len ≤ length (drop start s) = simp length-drop (omega arith) in
        rw
        (w, take-add start len s, append_assoc (take start s) (take len (drop start s)) behind, drop_at (take start s) (take len (drop start s) ++ behind) start (length-take-le start s (omega arith)), take_at (take len (drop start s)) behind len (length-take-le len (drop start s) h))

-- ---- the first message and its end
-- what holds of some bytes if it holds of all shorter ones holds of all bytes
by_length : (P : Bytes → Type 0) → ((s : Bytes) → ((t : Bytes) → length t < length s → P t) → P s) → (s : Bytes) → P s
by_length P h s = go (suc (length s)) s (omega arith)
  where
    go : (k : ℕ) (t : Bytes) → length t < k → P t
    go zero t l = absurd (omega arith)
    go (suc k) t l = h t (λ u m. go k u (omega arith))

abbrev Ends : Bytes → Type 0
Ends s = (rest : Bytes) (bodies : List Bytes) → frames_in s ≡ some bodies → end_in (s ++ rest) ≡ some (length s)

-- a whole message ends where its bytes end, whatever stands behind it
pub end_before : (s rest : Bytes) (bodies : List Bytes) → frames_in s ≡ some bodies → end_in (s ++ rest) ≡ some (length s)
end_before = by_length Ends (λ s ih rest bodies f. go s ih rest bodies (step_of s) refl (sym (frames_step s) ∙ f))
  where
    parted : (s rest : Bytes) (start len : ℕ) → s ++ rest ≡ take (start + len) s ++ (drop len (drop start s) ++ rest)
    parted s rest start len =
        ap (λ (t : Bytes). t ++ rest) (sym (take-append-drop (start + len) s)) ∙ append_assoc (take (start + len) s) (drop (start + len) s) rest ∙ rw (drop-drop len start s)

    go : (s : Bytes) → ((t : Bytes) → length t < length s → Ends t) → (rest : Bytes) (bodies : List Bytes) (x : Step) → step_of s ≡ x
        → through frames_in s x ≡ some bodies → end_in (s ++ rest) ≡ some (length s)
    go s ih rest bodies None e f = none_some bodies f
    go s ih rest bodies (Some x) e f = framed x.start x.len x.more e f
      where
        framed : (start len : ℕ) (more : Bool) → step_of s ≡ found start len more → through frames_in s (found start len more) ≡ some bodies
            → end_in (s ++ rest) ≡ some (length s)
        framed start len false e f =
            let k = ended (take len (drop start s)) (drop len (drop start s)) bodies f in
            let w = parted s rest start len in
            end_step (s ++ rest) ∙ rw (again_step s start len false e (s ++ rest) _ w) (ap some (omega (arith, ap length k.0, rest_length s start len false e)))
        framed start len true e f =
            let k = prepended (take len (drop start s)) (frames_in (drop len (drop start s))) bodies f in
            let w = parted s rest start len in
            let i = ih (drop len (drop start s)) (rest_fewer s start len true e) rest k.0 k.1 in
            end_step (s ++ rest)
            ∙ rw (again_step s start len true e (s ++ rest) _ w, again_rest s start len true e (s ++ rest) _ w, i) (ap some (sym (rest_length s start len true e)))

pub end_whole : (s : Bytes) (bodies : List Bytes) → frames_in s ≡ some bodies → end_in s ≡ some (length s)
end_whole s bodies e = rw append-nil at (end_before s [] bodies e)

-- what is cut off reads as its first frame, and then as what is cut off behind that
module _ (s : Bytes) (n : ℕ) (f : end_in s ≡ some n) (start len : ℕ) where
  pub cut_last : step_of s ≡ found start len false → (n ≡ start + len) × (frames_in (take n s) ≡ some (take len (drop start s) ∷ []))
  cut_last e =
      let t = take (start + len) s in
      let w : t ≡ t ++ [] = sym (append-nil t) in
      let z : n ≡ start + len = go in
      (z, rw z (frames_step t ∙ rw (again_step s start len false e t [] w, again_rest s start len false e t [] w, again-body s start len false e t [] w)))
    where
      go : n ≡ start + len
      go = let g : some (start + len) ≡ some n = ap (end_through end_in s) (sym e) ∙ sym (end_step s) ∙ f in cc

  abbrev rest : Bytes
  rest = drop len (drop start s)

  pub cut-more : step_of s ≡ found start len true
      → (m : ℕ) × (end_in rest ≡ some m) × (n ≡ start + len + m) × (frames_in (take n s) ≡ map (λ (bodies : List Bytes). take len (drop start s) ∷ bodies) (frames_in (take m rest)))
  cut-more e =
      let k = (map-eq-some_iff (λ (m : ℕ). start + len + m) (end_in rest)).0 (ap (end_through end_in s) (sym e) ∙ sym (end_step s) ∙ f) in
      (k.0, k.1, sym k.2, ap (λ (m : ℕ). frames_in (take m s)) (sym k.2) ∙ read k.0)
    where
      read : (m : ℕ) → frames_in (take (start + len + m) s) ≡ map (λ (bodies : List Bytes). take len (drop start s) ∷ bodies) (frames_in (take m rest))
      read m =
          let t = take (start + len + m) s in
          let w : t ≡ take (start + len) s ++ take m rest = rw drop-drop (take-add (start + len) m s) in
          frames_step t ∙ rw (again_step s start len true e t _ w, again_rest s start len true e t _ w, again-body s start len true e t _ w)

abbrev Cut : Bytes → Type 0
Cut s = (n : ℕ) → end_in s ≡ some n → (bodies : List Bytes) × (frames_in (take n s) ≡ some bodies)

-- so it is a whole message
pub cut_sound : (s : Bytes) (n : ℕ) → end_in s ≡ some n → (bodies : List Bytes) × (frames_in (take n s) ≡ some bodies)
cut_sound = by_length Cut (λ s ih n f. go s ih n f (step_of s) refl)
  where
    go : (s : Bytes) → ((t : Bytes) → length t < length s → Cut t) → (n : ℕ) → end_in s ≡ some n → (x : Step) → step_of s ≡ x
        → (bodies : List Bytes) × (frames_in (take n s) ≡ some bodies)
    go s ih n f None e = none_some n (ap (end_through end_in s) (sym e) ∙ sym (end_step s) ∙ f)
    go s ih n f (Some x) e = framed x.start x.len x.more e
      where
        framed : (start len : ℕ) (more : Bool) → step_of s ≡ found start len more → (bodies : List Bytes) × (frames_in (take n s) ≡ some bodies)
        framed start len false e = (take len (drop start s) ∷ [], (cut_last s n f start len e).1)
        framed start len true e =
            let k = cut-more s n f start len e in
            let i = ih (drop len (drop start s)) (rest_fewer s start len true e) k.0 k.1 in
            (take len (drop start s) ∷ i.0, k.3 ∙ rw i.1)

-- a message that was written is found again
module _ (b : Bytes) (bs : List Bytes) (rest : Bytes) (h : Sized (b ∷ bs)) where
  pub end_written : end_in (encode b bs ++ rest) ≡ some (length (encode b bs))
  end_written = end_before (encode b bs) rest (b ∷ bs) (round_trip b bs h)

  pub first_written : message_in (encode b bs ++ rest) ≡ encode b bs
  unfolding message_in
  first_written = rw end_written (take-append_seam (encode b bs) rest)

-- a message is no longer than what begins with it
pub message-within : (s : Bytes) → length (message_in s) ≤ length s
unfolding message_in
message-within s = simp length-take (omega arith)

-- ---- a run is its first message and what is behind it; the bound on the number of messages does not matter
pub end_least : (s : Bytes) (n : ℕ) → end_in s ≡ some n → 2 ≤ n
end_least s n e = go (step_of s) (step_sound s) (sym (end_step s) ∙ e)
  where
    go : (x : Step) → Sound (length s) x → end_through end_in s x ≡ some n → 2 ≤ n
    go None o f = none_some n f
    go (Some x) o f = framed x.start x.len x.more o f
      where
        framed : (start len : ℕ) (more : Bool) → Sound (length s) (found start len more) → end_through end_in s (found start len more) ≡ some n → 2 ≤ n
        framed start len false o f = let z : start + len ≡ n = cc in omega arith
        framed start len true o f = let k = (map-eq-some_iff (λ (m : ℕ). start + len + m) (end_in (drop len (drop start s)))).0 f in omega (arith, k.2)

cut_nil : (k : ℕ) → cut_up_to k [] ≡ []
unfolding cut_up_to end_in end_up_to
cut_nil zero = refl
cut_nil (suc k) = refl

cut-same : (f g : Bytes → List Bytes) (s : Bytes) (k : ℕ) → length s ≤ suc k → ((t : Bytes) → length t ≤ k → f t ≡ g t)
    → cut_through f s (end_in s) ≡ cut_through g s (end_in s)
cut-same f g s k l same = go (end_in s) refl
  where
    go : (x : Option ℕ) → end_in s ≡ x → cut_through f s x ≡ cut_through g s x
    go none e = refl
    go (some n) e = let m = end_least s n e in ap (λ (ms : List Bytes). take n s ∷ ms) (same (drop n s) (simp length-drop (omega arith)))

pub cut_step : (s : Bytes) → messages_in s ≡ cut_through messages_in s (end_in s)
unfolding messages_in cut_up_to
cut_step s = enough [] (λ (f : Bytes → List Bytes) (t : Bytes). cut_through f t (end_in t)) cut_up_to cut_nil (λ k t. refl) cut-same s

-- each of some messages reads as frames
abbrev pub Whole : List Bytes → Type 0
Whole [] = Unit {0}
Whole (m ∷ ms) = ((bodies : List Bytes) × (frames_in m ≡ some bodies)) × Whole ms

-- whole messages that are joined are cut into them again
pub run-cut : (ms : List Bytes) → Whole ms → messages_in (joined ms) ≡ ms
unfolding joined messages_in cut_up_to
run-cut [] h = refl
run-cut (m ∷ ms) h =
    cut_step (m ++ joined ms)
    ∙ rw (end_before m (joined ms) h.0.0 h.0.1, take-append_seam m (joined ms), drop-append_seam m (joined ms), run-cut ms h.1)

-- a message behind the others
pub joined_last : (ms : List Bytes) (m : Bytes) → joined (ms ++ (m ∷ [])) ≡ joined ms ++ m
unfolding joined
joined_last [] m = append-nil m
joined_last (x ∷ ms) m = ap (λ (y : Bytes). x ++ y) (joined_last ms m) ∙ sym (append_assoc x (joined ms) m)

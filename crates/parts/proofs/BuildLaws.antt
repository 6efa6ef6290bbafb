-- What is built from parts reads back as the parts, or as broken framing. Assumes nothing.
use Prim.Native.Nat.{ℕ, ◌+◌, ◌≤◌, ◌<◌}
use native.Mathlib.Omega.{arith}
use mathlib.Core.Bool.{Bool, true, false, cond, not, ◌&&◌}
use mathlib.Core.List.{List, [], ◌∷◌, ◌++◌, append_assoc, append-nil}
use mathlib.Core.Logic.{◌⊎◌, inl, inr}
use mathlib.Core.Option.{Option, none, some, map}
use mathlib.Core.Path.{◌≡◌, refl, sym, ap, ◌∙◌}
use lib.Dec.{leb}
use lib.ListN.{length, take, length-append}
use borrow.Author.Tests.{le-leb, lt-leb, leb-true, leb-false, not-true}
use Rattle.base.proofs.ByteLaws.{and_left, and_right}
use Rattle.base.proofs.OutputLaws.{put-length, take_put}
use Rattle.base.specs.Bytes.{Bytes}
use Rattle.base.specs.Logs.Log.{empty, ◌▷◌}
use Rattle.base.specs.Logs.{Log}
use Rattle.base.specs.Output.{largest, put, fits, Written}
use Rattle.frames.proofs.FrameLaws.{frame-length, Begins, frame_begins, last_read, more_read}
use Rattle.frames.proofs.MessageLaws.{frames_step}
use Rattle.frames.specs.Messages.{frames_in, read_up_to, frame}
use Rattle.parts.specs.Build.Ran.{begun, added}
use Rattle.parts.specs.Build.{Part, part_of, bodies, as_frames, promising, complete, Bounded, holdable, grown, built_with, buffer_with, Put, held_in, Ran, ReadsBack}
use Rattle.parts.specs.declared.build.Built.TheVariants.{Open, Whole, Void}
use Rattle.parts.specs.declared.build.Built.{Built}

-- ---- frames, one after another
pub frame-holds : (more : Bool) (b : Bytes) → length b + 2 ≤ length (frame more b)
frame-holds more b = go (leb (length b) 255) (frame-length more b)
  where
    go : (t : Bool) → length (frame more b) ≡ cond t (length b + 2) (length b + 9) → length b + 2 ≤ length (frame more b)
    go true e = omega arith
    go false e = omega arith

grown-length : (ps : Log Part) (p : Part) → length (as_frames (ps ▷ p)) ≡ length (as_frames ps) + length (frame p.more p.body)
unfolding as_frames
grown-length ps p = length-append (as_frames ps) (frame p.more p.body)

map_none : (x : Option (List Bytes)) → x ≡ map (λ (bs : List Bytes). [] ++ bs) x
map_none none = refl
map_none (some bs) = refl

map-one : (front : List Bytes) (b : Bytes) (x : Option (List Bytes))
    → map (λ (bs : List Bytes). front ++ bs) (map (λ (bs : List Bytes). b ∷ bs) x) ≡ map (λ (bs : List Bytes). (front ++ (b ∷ [])) ++ bs) x
map-one front b none = refl
map-one front b (some bs) = ap some (sym (append_assoc front (b ∷ []) bs))

-- what fits into a buffer is bounded
bounded : (ps : Log Part) → length (as_frames ps) ≤ largest → Bounded ps
bounded empty l = tt
bounded (ps ▷ p) l =
    let n = grown-length ps p in
    let h = frame-holds p.more p.body in
    (bounded ps (omega arith), omega arith)

-- parts that promise another are read, and then what comes after them
promised_read : (ps : Log Part) (s : Bytes) → promising ps ≡ true → Bounded ps
    → frames_in (as_frames ps ++ s) ≡ map (λ (bs : List Bytes). bodies ps ++ bs) (frames_in s)
unfolding promising as_frames bodies
promised_read empty s h l = map_none (frames_in s)
promised_read (ps ▷ p) s h l =
    let b = p.body in
    ap frames_in (append_assoc (as_frames ps) (frame p.more b) s)
    ∙ promised_read ps (frame p.more b ++ s) (and_left (promising ps) p.more h) l.0
    ∙ rw (and_right (promising ps) p.more h)
    (ap (map (λ (bs : List Bytes). bodies ps ++ bs)) (more_read (frame true b ++ s) b s (frame_begins true b s (omega (arith, l.1)))) ∙ map-one (bodies ps) b (frames_in s))

frames_nil : frames_in [] ≡ none
unfolding frames_in read_up_to
frames_nil = refl

-- parts that all promise another are no message
open_read : (ps : Log Part) → promising ps ≡ true → Bounded ps → frames_in (as_frames ps) ≡ none
open_read ps h l = ap frames_in (sym (append-nil (as_frames ps))) ∙ promised_read ps [] h l ∙ rw frames_nil

-- with a last one they are one, unless something comes after it
last_surplus : (s b : Bytes) (x : ℕ) (t : Bytes) → Begins s false b (x ∷ t) → frames_in s ≡ none
last_surplus s b x t h = frames_step s ∙ rw (h.step, h.body, h.after)

module _ (ps : Log Part) (p : Part) (h : complete (ps ▷ p) ≡ true) (l : Bounded (ps ▷ p)) where
  abbrev b : Bytes
  b = p.body

  -- the last part, and what comes after it
  final_read : (s : Bytes) → frames_in (as_frames (ps ▷ p) ++ s) ≡ map (λ (bs : List Bytes). bodies ps ++ bs) (frames_in (frame false b ++ s))
  unfolding as_frames
  final_read s =
      ap frames_in (append_assoc (as_frames ps) (frame p.more b) s)
      ∙ promised_read ps (frame p.more b ++ s) (and_left (promising ps) (not p.more) h) l.0
      ∙ rw (not-true p.more (and_right (promising ps) (not p.more) h))

  begins_last : (s : Bytes) → Begins (frame false b ++ s) false b s
  begins_last s = frame_begins false b s (omega (arith, l.1))

  final-whole : frames_in (as_frames (ps ▷ p)) ≡ some (bodies (ps ▷ p))
  unfolding bodies
  final-whole = ap frames_in (sym (append-nil (as_frames (ps ▷ p)))) ∙ final_read [] ∙ rw (last_read (frame false b ++ []) b (begins_last []))

  final_surplus : (x : ℕ) (t : Bytes) → frames_in (as_frames (ps ▷ p) ++ (x ∷ t)) ≡ none
  final_surplus x t = final_read (x ∷ t) ∙ rw (last_surplus (frame false b ++ (x ∷ t)) b x t (begins_last (x ∷ t)))

not_complete : {C : Type 0} → complete empty ≡ true → C
not_complete h = cc

pub whole_read : (ps : Log Part) → complete ps ≡ true → Bounded ps → frames_in (as_frames ps) ≡ some (bodies ps)
whole_read empty h l = not_complete h
whole_read (ps ▷ p) h l = final-whole ps p h l

surplus_read : (ps : Log Part) (s : Bytes) → complete ps ≡ true → Bounded ps → (length s ≡ 0 → ⊥) → frames_in (as_frames ps ++ s) ≡ none
surplus_read empty s h l n = not_complete h
surplus_read (ps ▷ p) [] h l n = absurd (n refl)
surplus_read (ps ▷ p) (x ∷ t) h l n = final_surplus ps p h l x t

-- parts of which one before the last promises no other are no message, whatever comes after them
spoilt_read : (ps : Log Part) (s : Bytes) → promising ps ≡ false → complete ps ≡ false → Bounded ps → frames_in (as_frames ps ++ s) ≡ none
unfolding promising as_frames
spoilt_read empty s h k l = cc
spoilt_read (ps ▷ p) s h k l =
    ap frames_in (append_assoc (as_frames ps) f s) ∙ go (complete ps) refl (λ c. spoilt_read ps (f ++ s) (neither (promising ps) p.more h k) c l.0)
  where
    f : Bytes
    f = frame p.more p.body

    neither : (a b : Bool) → (a && b) ≡ false → (a && not b) ≡ false → a ≡ false
    neither false b e g = refl
    neither true true e g = e
    neither true false e g = g

    go : (t : Bool) → complete ps ≡ t → (complete ps ≡ false → frames_in (as_frames ps ++ (f ++ s)) ≡ none) → frames_in (as_frames ps ++ (f ++ s)) ≡ none
    go false e rest = rest e
    go true e rest = surplus_read ps (f ++ s) e l.0 (λ n. omega (arith, n, length-append f s, frame-holds p.more p.body))

pub broken_read : (ps : Log Part) → complete ps ≡ false → Bounded ps → frames_in (as_frames ps) ≡ none
broken_read ps h l = go (promising ps) refl
  where
    go : (t : Bool) → promising ps ≡ t → frames_in (as_frames ps) ≡ none
    go true e = open_read ps e l
    go false e = ap frames_in (sym (append-nil (as_frames ps))) ∙ spoilt_read ps [] e h l

-- ---- how far a message is built
-- after a last part none promises another
complete_closed : (ps : Log Part) → complete ps ≡ true → promising ps ≡ false
unfolding promising
complete_closed empty h = not_complete h
complete_closed (ps ▷ p) h = go (promising ps) p.more h
  where
    go : (a b : Bool) → (a && not b) ≡ true → (a && b) ≡ false
    go false b e = refl
    go true true e = sym e
    go true false e = refl

-- nothing that is added makes a message of the parts that so many bytes have room for
abbrev Lost : ℕ → Log Part → Type 0
Lost room ps = (room < length (as_frames ps)) ⊎ ((promising ps ≡ false) × (complete ps ≡ false))

data State (room : ℕ) (ps : Log Part) (d : Bytes) : Built → Type 0 where
  unfinished : promising ps ≡ true → length (as_frames ps) ≤ room → take (length (as_frames ps)) d ≡ as_frames ps → State room ps d (Open (length (as_frames ps)))
  finished : complete ps ≡ true → length (as_frames ps) ≤ room → take (length (as_frames ps)) d ≡ as_frames ps → State room ps d (Whole (length (as_frames ps)))
  lost : Lost room ps → State room ps d Void

record Reached (room : ℕ) (ps : Log Part) (d : Bytes) (b : Built) : Type 0 where
  pub long : length d ≡ room
  pub state : State room ps d b

closed : (room : ℕ) (ps : Log Part) (p : Part) → promising ps ≡ false → Lost room (ps ▷ p)
unfolding promising
closed room ps p h = inr (ap (λ (t : Bool). t && p.more) h, ap (λ (t : Bool). t && not p.more) h)

lost_on : (room : ℕ) (ps : Log Part) (p : Part) → Lost room ps → Lost room (ps ▷ p)
lost_on room ps p (inl l) = inl (omega (arith, grown-length ps p))
lost_on room ps p (inr h) = closed room ps p h.0

module _ (room : ℕ) (ps : Log Part) (p : Part) (d : Bytes) (n : length d ≡ room) where
  abbrev f : Bytes
  f = frame p.more p.body

  abbrev at : ℕ
  at = length (as_frames ps)

  fitting : promising ps ≡ true → take at d ≡ as_frames ps → at + length f ≤ room → (m : Bool) → p.more ≡ m
      → Reached room (ps ▷ p) (put d at f) (grown m (at + length f))
  unfolding promising as_frames
  fitting h e l m o =
      let g = grown-length ps p in
      let t : take (at + length f) (put d at f) ≡ as_frames ps ++ f = take_put d at f (omega arith) ∙ ap (λ (s : Bytes). s ++ f) e in
      record { long = put-length d at f (omega arith) ∙ n; state = go m o g t }
    where
      go : (m : Bool) → p.more ≡ m → length (as_frames ps ++ f) ≡ at + length f → take (at + length f) (put d at f) ≡ as_frames ps ++ f
          → State room (ps ▷ p) (put d at f) (grown m (at + length f))
      go true o g t = rw (← g) (unfinished (rw (h, o)) (omega arith) (rw g t))
      go false o g t = rw (← g) (finished (rw (h, o)) (omega arith) (rw g t))

  step : (b : Built) → State room ps d b → Reached room (ps ▷ p) (buffer_with d b p) (built_with d b p)
  step (Open k) (unfinished h l e) = go (fits d at f) refl
    where
      go : (t : Bool) → fits d at f ≡ t → Reached room (ps ▷ p) (cond t (put d at f) d) (cond t (grown p.more (at + length f)) Void)
      go true t = fitting h e (omega (arith, leb-true (at + length f) (length d) t)) p.more refl
      go false t = record { long = n; state = lost (inl (omega (arith, leb-false (at + length f) (length d) t, grown-length ps p))) }
  step (Whole k) (finished h l e) = record { long = n; state = lost (closed room ps p (complete_closed ps h)) }
  step Void (lost h) = record { long = n; state = lost (lost_on room ps p h) }

reached : (room : ℕ) (ps : Log Part) (d : Bytes) (b : Built) → Ran room ps d b → Reached room ps d b
unfolding promising as_frames
reached room ps d b (begun _ n) = record { long = n; state = unfinished refl (omega arith) refl }
reached room _ d' b' (added ps d b p _ _ r w) =
    let h = reached room ps d b r in
    rw (w.built, w.buffer) (step room ps p d h.long b h.state)

-- ---- the message
pub reads_back : (room : ℕ) (ps : Log Part) (d : Bytes) (b : Built) → room ≤ largest → Ran room ps d b → ReadsBack room ps d b
reads_back room ps d b most r = go b (reached room ps d b r).state
  where
    no : (t : Bool) → (complete ps ≡ true → ⊥) → complete ps ≡ t → (t && leb (length (as_frames ps)) room) ≡ false
    no true h e = absurd (h e)
    no false h e = refl

    none_of : (b : Built) → holdable room ps ≡ false → frames_in (held_in d b) ≡ none → ReadsBack room ps d b
    none_of b h e = record { frames = rw h e; bytes = λ t. cc }

    go : (b : Built) → State room ps d b → ReadsBack room ps d b
    go (Open k) (unfinished h l e) =
        none_of _ (no (complete ps) (λ c. cc (complete_closed ps c)) refl) (rw e (open_read ps h (bounded ps (omega arith))))
    go (Whole k) (finished h l e) =
        record { frames = rw (h, le-leb (length (as_frames ps)) room l, e) (whole_read ps h (bounded ps (omega arith))); bytes = λ t. e }
    go Void (lost (inl l)) = none_of Void (rw (lt-leb (length (as_frames ps)) room l) (and-false (complete ps))) frames_nil
      where
        and-false : (t : Bool) → (t && false) ≡ false
        and-false true = refl
        and-false false = refl
    go Void (lost (inr h)) = none_of Void (rw h.1 refl) frames_nil

-- ---- the code: a part is put, or it does not fit and the place does not move
module _ (d : Bytes) (at : ℕ) (more : Bool) (b : Bytes) (i : ℕ) (o : Bytes) (w : Written d at (frame more b) i o) where
  pub not_put : i ≡ at → Put d (Open at) (part_of more b) Void o
  not_put e = go (fits d at (frame more b)) refl
    where
      go : (t : Bool) → fits d at (frame more b) ≡ t → Put d (Open at) (part_of more b) Void o
      go true t = absurd (omega (arith, frame-holds more b, rw t at w.next))
      go false t = record { built = rw t refl; buffer = rw t (rw t at w.out) }

  pub is_put : (i ≡ at → ⊥) → (m : Bool) → more ≡ m → Put d (Open at) (part_of more b) (grown m i) o
  is_put n m e = go (fits d at (frame more b)) refl
    where
      go : (t : Bool) → fits d at (frame more b) ≡ t → Put d (Open at) (part_of more b) (grown m i) o
      go true t = record { built = rw t (ap (grown m) (rw t at w.next) ∙ ap (λ (x : Bool). grown x (at + length (frame more b))) (sym e)); buffer = rw t (rw t at w.out) }
      go false t = absurd (n (rw t at w.next))

pub at_open : {d : Bytes} {b : Built} {at : ℕ} {p : Part} {r : Built} {o : Bytes} → b ≡ Open at → Put d (Open at) p r o → Put d b p r o
at_open e h = rw e h

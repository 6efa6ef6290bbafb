-- Laws of the walk over a message's frames: what is known of the message behind each frame, and at the end. Assumes
-- nothing.
use Prim.Native.Nat.{ℕ, zero, suc, ◌+◌, ◌≤◌, ◌<◌}
use native.Mathlib.Omega.{arith}
use mathlib.Core.Bool.{Bool, true, false, cond}
use mathlib.Core.List.{List, [], ◌∷◌, ◌++◌, append_assoc}
use mathlib.Core.Option
use mathlib.Core.Option.{Option, none, some, map, map-eq-some_iff}
use mathlib.Core.Path.{◌≡◌, refl, sym, ap, ◌∙◌}
use lib.Dec.{leb, eqb}
use lib.ListN.{length, get_or, take, drop, set, length-append, length-set, length-drop, drop_of_length-le}
use lib.Seq.{drop-drop, get_or-set_same, get_or-set_other, get_or-append_seam}
use borrow.Author.Tests.{leb-true, eqb-true, eqb-false}
use Rattle.std.specs.Prelude.{Some, None, Ok, Err}
use Rattle.base.specs.Bytes.{Bytes}
use Rattle.frames.proofs.MessageLaws.{enough, rest_less, frames_step, none_some}
use Rattle.frames.proofs.RunLaws.{end_step}
use Rattle.frames.proofs.StepLaws.{Sound, step_sound, step_known}
use Rattle.frames.specs.Messages.{last, through, frames_in, frame_at}
use Rattle.frames.specs.Runs.{end_through, end_up_to, end_in, message_in}
use Rattle.frames.specs.Steps.{Step, found, step_of}
use Rattle.frame_reader.specs.Places.{step_at}
use Rattle.framing.specs.Splits.{framing_by, framing_of, stop_through, stop_up_to, stop_in, lies_at, placed_at, noted, IsSplit}
use Rattle.framing.specs.declared.Flaw.TheVariants.{Broken, Surplus}
use Rattle.framing.specs.declared.Places.{Places}
use Rattle.framing.specs.declared.Split.{Split}

-- ---- where the walk stops: behind the first frame, or where it stops behind that; the bound on the number of frames
-- does not matter
stop_nil : (k : ℕ) → stop_up_to k [] ≡ 0
unfolding stop_up_to step_of
stop_nil zero = refl
stop_nil (suc k) = refl

stop-same : (f g : Bytes → ℕ) (s : Bytes) (k : ℕ) → length s ≤ suc k → ((t : Bytes) → length t ≤ k → f t ≡ g t)
    → stop_through f s (step_of s) ≡ stop_through g s (step_of s)
stop-same f g s k l same = go (step_of s) (step_sound s)
  where
    go : (x : Step) → Sound (length s) x → stop_through f s x ≡ stop_through g s x
    go None o = refl
    go (Some x) o = rw (same (drop x.len (drop x.start s)) (rest_less s x.start x.len k o.0 l))

pub stop_step : (s : Bytes) → stop_in s ≡ stop_through stop_in s (step_of s)
unfolding stop_in stop_up_to
stop_step s = enough 0 (λ (f : Bytes → ℕ) (t : Bytes). stop_through f t (step_of t)) stop_up_to stop_nil (λ k t. refl) stop-same s

-- ---- places
abbrev pub nowhere : Places
nowhere = record { bodies = lies_at 0 0 ∷ lies_at 0 0 ∷ lies_at 0 0 ∷ lies_at 0 0 ∷ lies_at 0 0 ∷ [] }

nowhere_empty : (s : Bytes) (k : ℕ) → placed_at s nowhere k ≡ []
nowhere_empty s zero = refl
nowhere_empty s (suc zero) = refl
nowhere_empty s (suc (suc zero)) = refl
nowhere_empty s (suc (suc (suc zero))) = refl
nowhere_empty s (suc (suc (suc (suc zero)))) = refl
nowhere_empty s (suc (suc (suc (suc (suc k))))) = refl

abbrev Five : Places → Type 0
Five p = length p.bodies ≡ 5

-- the places of some bodies
abbrev Kept : Bytes → Places → List Bytes → Type 0
Kept s p bodies = (k : ℕ) → k < 5 → placed_at s p k ≡ get_or bodies k []

five_noted : (p : Places) (n start len : ℕ) → Five p → Five (noted p n start len)
five_noted p n start len f = go (leb 5 n)
  where
    go : (t : Bool) → Five (cond t p (record { bodies = set p.bodies n (lies_at start len) }))
    go true = f
    go false = length-set p.bodies n (lies_at start len) ∙ f

other : (bodies : List Bytes) (b : Bytes) (k : ℕ) → (k ≡ length bodies → ⊥) → get_or (bodies ++ (b ∷ [])) k [] ≡ get_or bodies k []
other [] b zero h = absurd (h refl)
other [] b (suc k) h = refl
other (c ∷ bodies) b zero h = refl
other (c ∷ bodies) b (suc k) h = other bodies b k (λ e. h (ap suc e))

kept_more : (s : Bytes) (p : Places) (bodies : List Bytes) (start len : ℕ) → Five p → Kept s p bodies
    → Kept s (noted p (length bodies) start len) (bodies ++ (take len (drop start s) ∷ []))
kept_more s p bodies start len f h k l = go (leb 5 (length bodies)) refl (eqb k (length bodies)) refl
  where
    go : (t : Bool) → leb 5 (length bodies) ≡ t → (u : Bool) → eqb k (length bodies) ≡ u
        → placed_at s (cond t p (record { bodies = set p.bodies (length bodies) (lies_at start len) })) k
        ≡ get_or (bodies ++ (take len (drop start s) ∷ [])) k []
    go t e true u = same t e (eqb-true k (length bodies) u)
      where
        same : (t : Bool) → leb 5 (length bodies) ≡ t → k ≡ length bodies
            → placed_at s (cond t p (record { bodies = set p.bodies (length bodies) (lies_at start len) })) k
            ≡ get_or (bodies ++ (take len (drop start s) ∷ [])) k []
        same true e w = absurd (omega (arith, leb-true 5 (length bodies) e, w, l))
        same false e w =
            rw (w, get_or-set_same p.bodies (length bodies) (lies_at start len) (lies_at 0 0) (omega (arith, w, l, f)))
            (sym (get_or-append_seam bodies (take len (drop start s)) [] []))
    go true e false u = h k l ∙ sym (other bodies (take len (drop start s)) k (eqb-false k (length bodies) u))
    go false e false u =
        rw (get_or-set_other p.bodies (length bodies) k (lies_at start len) (lies_at 0 0) (eqb-false k (length bodies) u))
        (h k l ∙ sym (other bodies (take len (drop start s)) k (eqb-false k (length bodies) u)))

-- ---- what is known of a message of which n frames are passed, at a place, with p noted
abbrev before : List Bytes → Option (List Bytes) → Option (List Bytes)
before bodies x = map (λ (more : List Bytes). bodies ++ more) x

abbrev past : ℕ → Option ℕ → Option ℕ
past n x = map (λ (m : ℕ). n + m) x

pub record Passed (s : Bytes) (p : Places) (at n : ℕ) : Type 0 where
  pub bodies : List Bytes
  pub many : length bodies ≡ n
  pub few : n ≤ at
  pub within : at ≤ length s
  pub five : Five p
  pub kept : Kept s p bodies
  pub frames : frames_in s ≡ before bodies (frames_in (drop at s))
  pub ends : end_in s ≡ past at (end_in (drop at s))
  pub stops : stop_in s ≡ at + stop_in (drop at s)

before_none : (x : Option (List Bytes)) → x ≡ before [] x
before_none none = refl
before_none (some bodies) = refl

before-one : (bodies : List Bytes) (b : Bytes) (x : Option (List Bytes))
    → before bodies (map (λ (more : List Bytes). b ∷ more) x) ≡ before (bodies ++ (b ∷ [])) x
before-one bodies b none = refl
before-one bodies b (some more) = ap some (sym (append_assoc bodies (b ∷ []) more))

past_none : (x : Option ℕ) → x ≡ past 0 x
past_none none = refl
past_none (some k) = ap some (omega arith)

past_past : (n m : ℕ) (x : Option ℕ) → past n (past m x) ≡ past (n + m) x
past_past n m none = refl
past_past n m (some k) = ap some (omega arith)

pub passed_none : (s : Bytes) → Passed s nowhere 0 0
passed_none s = record {
  bodies = [];
  many = refl;
  few = omega arith;
  within = omega arith;
  five = refl;
  kept = λ k l. nowhere_empty s k;
  frames = before_none (frames_in s);
  ends = past_none (end_in s);
  stops = omega arith;
}

module _ (s : Bytes) (p : Places) (at n : ℕ) (h : Passed s p at n) where
  rest_is : (start len : ℕ) → drop len (drop start (drop at s)) ≡ drop (at + (start + len)) s
  rest_is start len = rw (drop-drop len start (drop at s), drop-drop (start + len) at s)

  body_is : (start len : ℕ) → take len (drop start (drop at s)) ≡ take len (drop (at + start) s)
  body_is start len = ap (take len) (drop-drop start at s)

  -- the body of the next frame lies in the message
  pub lies : (start len : ℕ) (more : Bool) → found start len more ≡ step_at s at → (2 ≤ start) × (at + (start + len) ≤ length s)
  lies start len more e = omega (arith, step_known (drop at s) start len more e, length-drop at s, h.within)

  module _ (x : Step) (e : x ≡ step_at s at) where
    frames_by : frames_in s ≡ before h.bodies (through frames_in (drop at s) x)
    frames_by = h.frames ∙ ap (before h.bodies) (frames_step (drop at s) ∙ ap (through frames_in (drop at s)) (sym e))

    ends_by : end_in s ≡ past at (end_through end_in (drop at s) x)
    ends_by = h.ends ∙ ap (past at) (end_step (drop at s) ∙ ap (end_through end_in (drop at s)) (sym e))

    stops_by : stop_in s ≡ at + stop_through stop_in (drop at s) x
    stops_by = h.stops ∙ ap (λ (m : ℕ). at + m) (stop_step (drop at s) ∙ ap (stop_through stop_in (drop at s)) (sym e))

  -- no frame of a message is there if its framing is unsound
  unsound : frames_in s ≡ none → (k : ℕ) → k < 5 → placed_at s nowhere k ≡ frame_at k s
  unfolding frame_at
  unsound e k l = rw e (nowhere_empty s k)

  pub stopped_broken : None ≡ step_at s at → IsSplit s (record { framing = Err Broken; stop = at; places = nowhere })
  unfolding framing_of
  stopped_broken e = record {
    framing = sym (rw (ends_by None e));
    stop = omega (arith, stops_by None e);
    bodies = unsound (frames_by None e);
  }

  module _ (start len : ℕ) where
    abbrev bodies' : List Bytes
    bodies' = h.bodies ++ (take len (drop (at + start) s) ∷ [])

    many' : length bodies' ≡ n + 1
    many' = omega (arith, length-append h.bodies (take len (drop (at + start) s) ∷ []), h.many)

    kept' : Kept s (noted p n (at + start) len) bodies'
    kept' = rw h.many at (kept_more s p h.bodies (at + start) len h.five h.kept)

    pub passed-more : found start len true ≡ step_at s at → Passed s (noted p n (at + start) len) (at + (start + len)) (n + 1)
    passed-more e = record {
      bodies = bodies';
      many = many';
      few = omega (arith, lies start len true e, h.few);
      within = (lies start len true e).1;
      five = five_noted p n (at + start) len h.five;
      kept = kept';
      frames =
          frames_by (found start len true) e
          ∙ before-one h.bodies (take len (drop start (drop at s))) (frames_in (drop len (drop start (drop at s))))
          ∙ rw (body_is start len, rest_is start len);
      ends = ends_by (found start len true) e ∙ past_past at (start + len) (end_in (drop len (drop start (drop at s)))) ∙ rw (rest_is start len);
      stops = stops_by (found start len true) e ∙ rw (rest_is start len) (omega arith);
    }

    module _ (e : found start len false ≡ step_at s at) where
      frames_last : frames_in s ≡ before h.bodies (last (take len (drop (at + start) s)) (drop (at + (start + len)) s))
      frames_last = frames_by (found start len false) e ∙ rw (body_is start len, rest_is start len)

      pub stopped_last : length s ≤ at + (start + len)
          → IsSplit s (record { framing = Ok (n + 1); stop = at + (start + len); places = noted p n (at + start) len })
      unfolding framing_of frame_at
      stopped_last l =
          let f : frames_in s ≡ some bodies' = frames_last ∙ rw (drop_of_length-le s {i = at + (start + len)} l) in
          record {
            framing = sym (rw (ends_by (found start len false) e, f) (ap Ok many'));
            stop = sym (stops_by (found start len false) e);
            bodies = λ k m. kept' k m ∙ rw f;
          }

      pub stopped_surplus : at + (start + len) < length s → IsSplit s (record { framing = Err Surplus; stop = at + (start + len); places = nowhere })
      unfolding framing_of
      stopped_surplus l =
          let f : frames_in s ≡ none = frames_last ∙ go (drop (at + (start + len)) s) (omega (arith, length-drop (at + (start + len)) s)) in
          record {
            framing = sym (rw (ends_by (found start len false) e, f));
            stop = sym (stops_by (found start len false) e);
            bodies = unsound f;
          }
        where
          go : (t : Bytes) → 0 < length t → before h.bodies (last (take len (drop (at + start) s)) t) ≡ none
          go [] k = absurd (omega arith)
          go (x ∷ t) k = refl

-- ---- the message that some bytes begin with
-- where it ends, the walk stops
stop_end : (n : ℕ) (s : Bytes) (m : ℕ) → end_up_to n s ≡ some m → stop_up_to n s ≡ m
unfolding end_up_to stop_up_to
stop_end zero s m e = none_some m e
stop_end (suc n) s m e = go (λ t k f. stop_end n t k f) (step_of s) e
  where
    go : ((t : Bytes) (k : ℕ) → end_up_to n t ≡ some k → stop_up_to n t ≡ k) → (x : Step) → end_through (end_up_to n) s x ≡ some m → stop_through (stop_up_to n) s x ≡ m
    go ih None e = none_some m e
    go ih (Some x) e = framed x.start x.len x.more e
      where
        framed : (start len : ℕ) (more : Bool) → end_through (end_up_to n) s (found start len more) ≡ some m → stop_through (stop_up_to n) s (found start len more) ≡ m
        framed start len false e = cc
        framed start len true e =
            let k = (map-eq-some_iff (λ (m : ℕ). start + len + m) (end_up_to n (drop len (drop start s)))).0 e in
            ap (λ (i : ℕ). start + len + i) (ih (drop len (drop start s)) k.0 k.1) ∙ k.2

module _ (s : Bytes) (r : Split) (h : IsSplit s r) where
  pub message_none : Err Broken ≡ r.framing → [] ≡ message_in s
  unfolding framing_of message_in
  message_none e = go (end_in s) (frames_in s) (e ∙ h.framing)
    where
      go : (x : Option ℕ) (y : Option (List Bytes)) → Err Broken ≡ framing_by x y → [] ≡ take (Option.get_or x 0) s
      go none y e = refl
      go (some n) none e = cc
      go (some n) (some bodies) e = cc

  message_some : (n : ℕ) → end_in s ≡ some n → take r.stop s ≡ message_in s
  unfolding message_in stop_in end_in
  message_some n e = rw (e, h.stop ∙ stop_end (length s) s n e)

  pub message_whole : (r.framing ≡ Err Broken → ⊥) → take r.stop s ≡ message_in s
  unfolding framing_of
  message_whole n = go (end_in s) refl
    where
      go : (x : Option ℕ) → end_in s ≡ x → take r.stop s ≡ message_in s
      go none e = absurd (n (h.framing ∙ rw e))
      go (some m) e = message_some m e

-- What is taken of some bytes are the parts of the whole messages that they begin with. Assumes nothing.
use Prim.Native.Nat.{ℕ, zero, suc, ◌+◌, ◌-◌, ◌≤◌}
use native.Mathlib.Omega.{arith}
use mathlib.Core.Bool.{Bool, true, false, cond, not, ◌||◌}
use mathlib.Core.List.{List, [], ◌∷◌, ◌++◌}
use mathlib.Core.Option.{Option, none, some, map, get_or}
use mathlib.Core.Path.{◌≡◌, refl, sym, ap, ◌∙◌}
use lib.ListN.{length, take, drop, length-drop, drop_of_length-le}
use lib.Seq.{drop-drop}
use Rattle.std.specs.Prelude.{Some, None}
use Rattle.base.specs.Bytes.{Bytes, is_nil}
use Rattle.frames.proofs.FrameGrammar.{some_frame}
use Rattle.frames.proofs.MessageLaws.{none_some}
use Rattle.frames.proofs.RunLaws.{end_step, end_least, cut_last, cut-more, cut_sound, cut_step}
use Rattle.frames.proofs.StepLaws.{same_frame, step_known}
use Rattle.frames.specs.Messages.{frames_in}
use Rattle.frames.specs.Runs.{end_through, end_in, message_in, messages_in}
use Rattle.frames.specs.Steps.{Step, found, step_of}
use Rattle.parts.specs.Build.{Part, part_of}
use Rattle.parts.specs.Walk.{placed, begins_message, may_begin, taken_at, taken_on, taken, as_parts, as_parts_all, TakesApart}

-- ---- a walk ends: each part takes two bytes or more
few : (n : ℕ) (s : Bytes) (at : ℕ) (inside : Bool) → length (taken n s at inside) ≤ length s - at
unfolding taken taken_at
few zero s at inside = omega arith
few (suc n) s at inside = go (λ k more. few n s k more) (may_begin s at inside) (step_of (drop at s)) refl
  where
    go : ((k : ℕ) (more : Bool) → length (taken n s k more) ≤ length s - k) → (t : Bool) (x : Step) → step_of (drop at s) ≡ x → length (taken_on (taken n s) s (cond t (placed at x) None)) ≤ length s - at
    go ih false x e = omega arith
    go ih true None e = omega arith
    go ih true (Some f) e =
        omega (arith, ih (at + f.start + f.len) f.more, step_known (drop at s) f.start f.len f.more (sym e), length-drop at s)

-- ---- where a message begins
-- the end of a message that a step begins
ends_by : (s : Bytes) (k : ℕ) (x : Step) → end_in s ≡ some k → step_of s ≡ x → end_through end_in s x ≡ some k
ends_by s k x e f = ap (end_through end_in s) (sym f) ∙ sym (end_step s) ∙ e

-- no bytes begin no message
end_nil : {C : Type 0} (k : ℕ) → end_in [] ≡ some k → C
unfolding step_of
end_nil k e = none_some k (ends_by [] k None e refl)

begins : (s : Bytes) (at k : ℕ) → end_in (drop at s) ≡ some k → begins_message s at ≡ true
unfolding message_in
begins s at k e = rw e (go k (drop at s) e)
  where
    go : (k : ℕ) (t : Bytes) → end_in t ≡ some k → not (is_nil (take k t)) ≡ true
    go k [] e = end_nil k e
    go zero (x ∷ t) e = absurd (omega (arith, end_least (x ∷ t) 0 e))
    go (suc k) (x ∷ t) e = refl

begins_not : (s : Bytes) (at : ℕ) → end_in (drop at s) ≡ none → begins_message s at ≡ false
unfolding message_in
begins_not s at e = rw e

or_true : (t : Bool) → (t || true) ≡ true
or_true true = refl
or_true false = refl

-- ---- the parts of a message
parts_more : (b : Bytes) (bs : List Bytes) → (length bs ≡ 0 → ⊥) → as_parts (b ∷ bs) ≡ part_of true b ∷ as_parts bs
unfolding as_parts
parts_more b [] h = absurd (h refl)
parts_more b (c ∷ bs) h = refl

-- the parts of the message of k bytes that t begins with, and those of the messages after it
abbrev first : ℕ → Bytes → List Part
first k t = as_parts (get_or (frames_in (take k t)) []) ++ as_parts_all (messages_in (drop k t))

module _ (t : Bytes) (k : ℕ) (e : end_in t ≡ some k) (start len : ℕ) where
  first_last : step_of t ≡ found start len false → first k t ≡ part_of false (take len (drop start t)) ∷ as_parts_all (messages_in (drop len (drop start t)))
  unfolding as_parts
  first_last f =
      let c = cut_last t k e start len f in
      rw (c.1, c.0, ← drop-drop len start t)

  first_more : step_of t ≡ found start len true
      → (m : ℕ) × (end_in (drop len (drop start t)) ≡ some m) × (first k t ≡ part_of true (take len (drop start t)) ∷ first m (drop len (drop start t)))
  first_more f =
      let c = cut-more t k e start len f in
      let r = cut_sound (drop len (drop start t)) c.0 c.1 in
      (c.0, c.1, go c.0 c.2 c.3 r.0 r.1)
    where
      go : (m : ℕ) → k ≡ start + len + m → frames_in (take k t) ≡ map (λ (bodies : List Bytes). take len (drop start t) ∷ bodies) (frames_in (take m (drop len (drop start t))))
          → (bodies : List Bytes) → frames_in (take m (drop len (drop start t))) ≡ some bodies
          → first k t ≡ part_of true (take len (drop start t)) ∷ first m (drop len (drop start t))
      go m h i bodies r =
          let n : k ≡ start + (len + m) = omega arith in
          let d : drop k t ≡ drop m (drop len (drop start t)) = rw (drop-drop m len (drop start t), drop-drop (len + m) start t, n) in
          rw (i, r, d, parts_more (take len (drop start t)) bodies (some_frame _ bodies r))

-- ---- the parts that are taken
-- from a place between two messages, and from one where the rest of a message of k bytes begins
abbrev Between : ℕ → Type 0
Between n = (s : Bytes) (at : ℕ) → length s - at ≤ n → taken n s at false ≡ as_parts_all (messages_in (drop at s))

abbrev Within : ℕ → Type 0
Within n = (s : Bytes) (at k : ℕ) (inside : Bool) → length s - at ≤ n → end_in (drop at s) ≡ some k → taken n s at inside ≡ first k (drop at s)

-- both, of one call fewer
abbrev Fewer : ℕ → Type 0
Fewer zero = Unit {0}
Fewer (suc n) = Between n × Within n

-- the body of a frame, and what comes after it, counted from the front of all bytes
body-from : (s : Bytes) (at start len : ℕ) → take len (drop (at + start) s) ≡ take len (drop start (drop at s))
body-from s at start len = rw (drop-drop start at s)

rest_from : (s : Bytes) (at start len : ℕ) → drop (at + start + len) s ≡ drop len (drop start (drop at s))
rest_from s at start len = rw (drop-drop start at s, drop-drop len (at + start) s)

within : (n : ℕ) → Fewer n → Within n
unfolding taken taken_at may_begin
within zero ih s at k inside l e = end_nil k (rw (drop_of_length-le s {i = at} (omega arith)) at e)
within (suc n) ih s at k inside l e = rw (begins s at k e, or_true inside) (go (step_of (drop at s)) refl)
  where
    go : (x : Step) → step_of (drop at s) ≡ x → taken_on (taken n s) s (placed at x) ≡ first k (drop at s)
    go None f = none_some k (ends_by (drop at s) k None e f)
    go (Some x) f = framed x.start x.len x.more f
      where
        framed : (start len : ℕ) (more : Bool) → step_of (drop at s) ≡ found start len more → taken_on (taken n s) s (placed at (found start len more)) ≡ first k (drop at s)
        framed start len false f =
            let b = ih.0 s (at + start + len) (omega (arith, step_known (drop at s) start len false (sym f), length-drop at s)) in
            rw (b, body-from s at start len, rest_from s at start len) (sym (first_last (drop at s) k e start len f))
        framed start len true f =
            let c = first_more (drop at s) k e start len f in
            let w = ih.1 s (at + start + len) c.0 true (omega (arith, step_known (drop at s) start len true (sym f), length-drop at s)) (rw (rest_from s at start len) c.1) in
            rw (w, body-from s at start len, rest_from s at start len) (sym c.2)

nothing : (n : ℕ) (s : Bytes) (at : ℕ) → end_in (drop at s) ≡ none → taken n s at false ≡ []
unfolding taken taken_at may_begin
nothing zero s at e = refl
nothing (suc n) s at e = rw (begins_not s at e)

between : (n : ℕ) → Fewer n → Between n
unfolding as_parts_all
between n ih s at l = go (end_in (drop at s)) refl
  where
    go : (x : Option ℕ) → end_in (drop at s) ≡ x → taken n s at false ≡ as_parts_all (messages_in (drop at s))
    go none e = nothing n s at e ∙ rw (cut_step (drop at s), e)
    go (some k) e = within n ih s at k false l e ∙ rw (cut_step (drop at s), e)

all : (n : ℕ) → Between n × Within n
all zero = (between zero tt, within zero tt)
all (suc n) = let h = all n in (between (suc n) h, within (suc n) h)

pub takes_apart : (s : Bytes) → TakesApart s
takes_apart s =
    record {
      parts = λ n l. (all n).0 s 0 (omega arith);
      ends = λ n at inside. omega (arith, few n s at inside);
    }

-- nothing is taken from the end on
pub past_end : (s : Bytes) (at : ℕ) (inside : Bool) → length s ≤ at → taken_at s at inside ≡ None
unfolding taken_at step_of
past_end s at inside h = rw (drop_of_length-le s {i = at} h) (go (may_begin s at inside))
  where
    go : (t : Bool) → cond {A = Step} t None None ≡ None
    go true = refl
    go false = refl

-- what is taken moves the place on, and never past the end
pub taken_moves : (s : Bytes) (at : ℕ) (inside : Bool) (start len : ℕ) (more : Bool) → found start len more ≡ taken_at s at inside
    → (at + 2 ≤ start + len) × (start + len ≤ length s)
unfolding taken_at
taken_moves s at inside start len more e = go (may_begin s at inside) (step_of (drop at s)) refl e
  where
    go : (t : Bool) (x : Step) → step_of (drop at s) ≡ x → found start len more ≡ cond t (placed at x) None → (at + 2 ≤ start + len) × (start + len ≤ length s)
    go false x f h = cc
    go true None f h = cc
    go true (Some x) f h =
        let w = same_frame start len (at + x.start) x.len more x.more h in
        let k = step_known (drop at s) x.start x.len x.more (sym f) in
        (omega (arith, k, w.0, w.1), omega (arith, k, w.0, w.1, length-drop at s))

-- ---- the code
module _ (s : Bytes) (at : ℕ) (inside : Bool) where
  pub none_begins : may_begin s at inside ≡ false → None ≡ taken_at s at inside
  unfolding taken_at
  none_begins e = rw e

  pub none_there : None ≡ step_of (drop at s) → None ≡ taken_at s at inside
  unfolding taken_at
  none_there e = rw (← e) (go (may_begin s at inside))
    where
      go : (t : Bool) → None ≡ cond {A = Step} t None None
      go true = refl
      go false = refl

  pub one_there : (start len : ℕ) (more : Bool) → found start len more ≡ step_of (drop at s) → may_begin s at inside ≡ true → found (at + start) len more ≡ taken_at s at inside
  unfolding taken_at
  one_there start len more e h = rw (h, ← e)

  pub place-fits : (start len : ℕ) (more : Bool) → found start len more ≡ step_of (drop at s) → at + start ≤ length s
  place-fits start len more e = omega (arith, step_known (drop at s) start len more e, length-drop at s)

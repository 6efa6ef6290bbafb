-- Laws of a message as the list of its frames' bodies. Assumes nothing.
use Prim.Native.Nat.{ℕ, zero, suc, min, ◌≤◌}
use native.Mathlib.Omega.{arith}
use mathlib.Core.List.{List, [], ◌∷◌}
use mathlib.Core.Option.{Option, none, some, map}
use mathlib.Core.Path.{◌≡◌, refl, sym, ◌∙◌}
use lib.ListN.{length, drop, length-drop}
use Rattle.std.proofs.lemmas.List.{nil_from_length}
use Rattle.std.specs.Prelude.{Some, None}
use Rattle.base.specs.Bytes.{Bytes}
use Rattle.frames.proofs.StepLaws.{Sound, step_sound}
use Rattle.frames.specs.Messages.{through, read_up_to, frames_in}
use Rattle.frames.specs.Steps.{Step, step_of}

-- ---- what is read in turns, each of which takes a byte or more: as many turns as there are bytes are enough
module _ {A : Type 0} (nothing : A) (turn : (Bytes → A) → Bytes → A) (up_to : ℕ → Bytes → A) (nil : (k : ℕ) → up_to k [] ≡ nothing)
    (next : (k : ℕ) (s : Bytes) → up_to (suc k) s ≡ turn (up_to k) s)
    (same : (f g : Bytes → A) (s : Bytes) (k : ℕ) → length s ≤ suc k → ((t : Bytes) → length t ≤ k → f t ≡ g t) → turn f s ≡ turn g s) where
  bound : (k j : ℕ) (s : Bytes) → length s ≤ k → length s ≤ j → up_to k s ≡ up_to j s
  bound zero j s h l = rw (nil_from_length s (omega arith)) (nil zero ∙ sym (nil j))
  bound (suc k) zero s h l = rw (nil_from_length s (omega arith)) (nil (suc k) ∙ sym (nil zero))
  bound (suc k) (suc j) s h l =
      next k s ∙ same (up_to k) (up_to j) s (min k j) (omega arith) (λ t m. bound k j t (omega arith) (omega arith)) ∙ sym (next j s)

  pub enough : (s : Bytes) → up_to (length s) s ≡ turn (λ (t : Bytes). up_to (length t) t) s
  enough s =
      bound (length s) (suc (length s)) s (omega arith) (omega arith)
      ∙ next (length s) s
      ∙ same (up_to (length s)) (λ (t : Bytes). up_to (length t) t) s (length s) (omega arith) (λ t m. bound (length s) (length t) t m (omega arith))

-- ---- a message is its first frame and what is behind it; the bound on the number of frames does not matter
read_nil : (k : ℕ) → read_up_to k [] ≡ none
unfolding read_up_to step_of
read_nil zero = refl
read_nil (suc k) = refl

pub rest_less : (s : Bytes) (start len k : ℕ) → 2 ≤ start → length s ≤ suc k → length (drop len (drop start s)) ≤ k
rest_less s start len k h l = simp length-drop (omega arith)

through_same : (f g : Bytes → Option (List Bytes)) (s : Bytes) (k : ℕ) → length s ≤ suc k → ((t : Bytes) → length t ≤ k → f t ≡ g t)
    → through f s (step_of s) ≡ through g s (step_of s)
through_same f g s k l same = go (step_of s) (step_sound s)
  where
    go : (x : Step) → Sound (length s) x → through f s x ≡ through g s x
    go None o = refl
    go (Some x) o = rw (same (drop x.len (drop x.start s)) (rest_less s x.start x.len k o.0 l))

pub frames_step : (s : Bytes) → frames_in s ≡ through frames_in s (step_of s)
unfolding frames_in read_up_to
frames_step s = enough none (λ (f : Bytes → Option (List Bytes)) (t : Bytes). through f t (step_of t)) read_up_to read_nil (λ k t. refl) through_same s

-- ---- what is read
pub none_some : {A C : Type 0} (x : A) → ◌≡◌ {A = Option A} none (some x) → C
none_some x e = cc

pub prepended : (body : Bytes) (x : Option (List Bytes)) (bodies : List Bytes) → map (λ (bs : List Bytes). body ∷ bs) x ≡ some bodies
    → (others : List Bytes) × (x ≡ some others) × (bodies ≡ body ∷ others)
prepended body none bodies e = none_some bodies e
prepended body (some others) bodies e = (others, refl, cc)

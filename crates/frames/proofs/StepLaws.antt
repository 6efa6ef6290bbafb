-- Laws of the frame that some bytes begin with. Assumes nothing.
use Prim.Native.Nat.{ℕ, zero, suc, ◌+◌, ◌≤◌, ◌<◌}
use native.Mathlib.Omega.{arith}
use mathlib.Core.Bool.{Bool, true, false}
use mathlib.Core.List.{[], ◌∷◌}
use mathlib.Core.Path.{◌≡◌, refl, sym, ap, subst}
use lib.Dec.{leb}
use lib.ListN.{length, take, drop, length-drop}
use borrow.Author.Tests.{leb-true, le-leb, lt-leb, eq-eqb}
use Rattle.std.specs.Prelude.{Some, None}
use Rattle.std.proofs.lemmas.Bool.{cond_both}
use Rattle.std.proofs.lemmas.List.{nil_from_length}
use Rattle.std.specs.List.{IsSplitAt}
use Rattle.base.specs.Bytes.{Bytes}
use Rattle.base.specs.Octets.{number, eight_of}
use Rattle.frames.specs.declared.step.Frame.{Frame}
use Rattle.frames.specs.Steps.{Step, found, frame_within, short_of, long_of, flagged, step_of}

-- ---- the body that a frame names lies in the bytes, behind a head of two bytes or more
abbrev pub Sound : ℕ → Step → Type 0
Sound n (Some f) = (2 ≤ f.start) × (f.start + f.len ≤ n)
Sound n None = Unit {0}

within_sound : (n start len left : ℕ) (more : Bool) → 2 ≤ start → start + left ≤ n → Sound n (frame_within start len left more)
within_sound n start len left more h k = cond_both (leb len left) _ _ (Sound n) (λ e. omega (arith, leb-true len left e)) (λ e. tt)

short_sound : (more : Bool) (s : Bytes) → Sound (suc (length s)) (short_of more s)
unfolding short_of
short_sound more [] = tt
short_sound more (size ∷ s) = within_sound (suc (suc (length s))) 2 size (length s) more (omega arith) (omega arith)

long_sound : (more : Bool) (s : Bytes) → Sound (suc (length s)) (long_of more s)
unfolding long_of
long_sound more s =
    cond_both (leb 8 (length s)) _ _ (Sound (suc (length s)))
    (λ e. within_sound (suc (length s)) 9 (number (take 8 s)) (length (drop 8 s)) more (omega arith)
    (omega (arith, leb-true 8 (length s) e, length-drop 8 s)))
    (λ e. tt)

flagged_sound : (flag : ℕ) (s : Bytes) → Sound (suc (length s)) (flagged flag s)
unfolding flagged
flagged_sound zero s = short_sound false s
flagged_sound (suc zero) s = short_sound true s
flagged_sound (suc (suc zero)) s = long_sound false s
flagged_sound (suc (suc (suc zero))) s = long_sound true s
flagged_sound (suc (suc (suc (suc n)))) s = tt

pub step_sound : (s : Bytes) → Sound (length s) (step_of s)
unfolding step_of
step_sound [] = tt
step_sound (flag ∷ s) = flagged_sound flag s

pub step_known : (s : Bytes) (start len : ℕ) (more : Bool) → found start len more ≡ step_of s → (2 ≤ start) × (start + len ≤ length s)
step_known s start len more e = subst (Sound (length s)) (sym e) (step_sound s)

-- one frame has one start, one length and one flag
pub same_frame : (a n start len : ℕ) (more m : Bool) → found a n more ≡ found start len m → (a ≡ start) × (n ≡ len) × (more ≡ m)
same_frame a n start len more m e =
    let r : ◌≡◌ {A = Frame} (record { start = a; len = n; more = more }) (record { start = start; len = len; more = m }) = cc in
    (ap (λ (f : Frame). f.start) r, ap (λ (f : Frame). f.len) r, ap (λ (f : Frame). f.more) r)

-- ---- the step, as the code reads it
pub step_none : (s : Bytes) → length s ≡ 0 → None ≡ step_of s
unfolding step_of
step_none s h = rw (nil_from_length s h)

pub step_flag : (s rest : Bytes) (flag n : ℕ) → s ≡ flag ∷ rest → flag ≡ n → flagged n rest ≡ step_of s
unfolding step_of
step_flag s rest flag n e f = rw (e, f)

pub flagged-refused : (flag : ℕ) (s : Bytes) → 4 ≤ flag → None ≡ flagged flag s
unfolding flagged
flagged-refused zero s h = absurd (omega arith)
flagged-refused (suc zero) s h = absurd (omega arith)
flagged-refused (suc (suc zero)) s h = absurd (omega arith)
flagged-refused (suc (suc (suc zero))) s h = absurd (omega arith)
flagged-refused (suc (suc (suc (suc n)))) s h = refl

module _ (more : Bool) where
  pub short_none : (s : Bytes) → length s ≡ 0 → None ≡ short_of more s
  unfolding short_of
  short_none s h = rw (nil_from_length s h)

  module _ (s : Bytes) where
    pub long_none : length s < 8 → None ≡ long_of more s
    unfolding long_of
    long_none h = rw (lt-leb 8 (length s) h)

    -- the eight octets of a size are a number
    module _ (size rest : Bytes) (h : IsSplitAt s 8 size rest) where
      size_known : eight_of size ≡ Some (number size)
      unfolding eight_of
      size_known = rw (eq-eqb (length size) 8 h.3)

      pub long_never : None ≡ eight_of size → None ≡ long_of more s
      long_never e = let k = size_known in cc

      pub long_read : (n : ℕ) → Some n ≡ eight_of size → frame_within 9 n (length rest) more ≡ long_of more s
      unfolding long_of
      long_read n e =
          let k = size_known in
          let f : n ≡ number size = cc in
          rw (f, h.1, h.2, le-leb 8 (length s) h.0)

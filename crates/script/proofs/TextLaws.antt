-- Laws of text: a digit's value, the byte at the front, and text decoded from the front. Assumes nothing.
use Prim.Native.Nat.{ℕ, zero, suc, ◌+◌, ◌-◌, ◌≤◌, ◌<◌}
use native.Mathlib.Nat.{zero-add}
use native.Mathlib.Numerals.{add-one}
use native.Mathlib.Omega.{arith}
use mathlib.Core.Bool.{Bool, true, false, cond, ◌&&◌}
use mathlib.Core.List.{[], ◌∷◌}
use mathlib.Core.Path.{◌≡◌, refl, sym, ap, ◌∙◌}
use lib.Dec.{eqb, leb}
use lib.ListN.{length, get_or, take, drop, set, length-drop}
use lib.Seq.{length-take-le, take_all, drop-cons, paste, paste-zero, paste-suc}
use borrow.Author.Tests.{eqb-true, eqb-false, le-leb, lt-leb, ne_eqb}
use Rattle.base.proofs.ByteLaws.{and_left, and_right}
use Rattle.base.proofs.OutputLaws.{wrote}
use Rattle.base.specs.Bytes.{Bytes, prefix, holds}
use Rattle.base.specs.Cuts.{before}
use Rattle.base.specs.Output.{put, Written}
use Rattle.script.specs.Texts.{digit_of, octet_of, text_bytes, text_in, escaped, front_byte, front_width}

-- ---- digits
-- the digits by ranges, and a test of each byte
abbrev pub by_range : ℕ → ℕ
by_range b = cond (leb 48 b && leb b 57) (b - 48) (cond (leb 97 b && leb b 102) (b - 87) 0)

all_below : ℕ → (ℕ → Bool) → Bool
all_below zero test = true
all_below (suc n) test = test n && all_below n test

at_each : (n : ℕ) (test : ℕ → Bool) → all_below n test ≡ true → (b : ℕ) → b < n → test b ≡ true
unfolding all_below
at_each zero test e b h = absurd (omega arith)
at_each (suc n) test e b h = go (eqb b n) refl (at_each n test (and_right (test n) (all_below n test) e) b)
  where
    go : (t : Bool) → eqb b n ≡ t → (b < n → test b ≡ true) → test b ≡ true
    go true f ih = rw (eqb-true b n f) (and_left (test n) (all_below n test) e)
    go false f ih =
        let u = eqb-false b n f in
        ih (omega (arith, u))

digit_is : (b : ℕ) → b < 256 → by_range b ≡ digit_of b
unfolding digit_of holds before all_below
digit_is b h = eqb-true (by_range b) (digit_of b) (at_each 256 (λ (x : ℕ). eqb (by_range x) (digit_of x)) refl b h)

module _ (b : ℕ) (h : b < 256) where
  pub digit_number : 48 ≤ b → b ≤ 57 → b - 48 ≡ digit_of b
  digit_number k l = rw (le-leb 48 b k, le-leb b 57 l) at (digit_is b h)

  pub digit_letter : {d : ℕ} → 97 ≤ b → b ≤ 102 → d ≡ b - 87 → d ≡ digit_of b
  digit_letter k l e = e ∙ rw (le-leb 48 b (omega arith), lt-leb b 57 (omega arith), le-leb 97 b k, le-leb b 102 l) at (digit_is b h)

  pub digit_low : b < 48 → 0 ≡ digit_of b
  digit_low k = rw (lt-leb 48 b k, lt-leb 97 b (omega arith)) at (digit_is b h)

  pub digit_between : 57 < b → b < 97 → 0 ≡ digit_of b
  digit_between k l = rw (le-leb 48 b (omega arith), lt-leb b 57 k, lt-leb 97 b l) at (digit_is b h)

  pub digit_high : 102 < b → 0 ≡ digit_of b
  digit_high k = rw (le-leb 48 b (omega arith), lt-leb b 57 (omega arith), le-leb 97 b (omega arith), lt-leb b 102 k) at (digit_is b h)

-- ---- the front of a text
pub escaped_here : (s : Bytes) → 4 ≤ length s → get_or s 0 0 ≡ 92 → get_or s 1 0 ≡ 120 → escaped s ≡ true
unfolding escaped prefix
escaped_here [] h e f = absurd (omega arith)
escaped_here (a ∷ []) h e f = absurd (omega arith)
escaped_here (a ∷ b ∷ s) h e f = rw (le-leb 4 (length (a ∷ b ∷ s)) h, e, f)

pub unescaped_short : (s : Bytes) → length s < 4 → escaped s ≡ false
unfolding escaped
unescaped_short s h = rw (lt-leb 4 (length s) h)

pub unescaped_first : (s : Bytes) → 4 ≤ length s → (get_or s 0 0 ≡ 92 → ⊥) → escaped s ≡ false
unfolding escaped prefix
unescaped_first [] h e = absurd (omega arith)
unescaped_first (a ∷ s) h e = rw (le-leb 4 (length (a ∷ s)) h, ne_eqb 92 a (λ f. e (sym f)))

pub unescaped_second : (s : Bytes) → 4 ≤ length s → get_or s 0 0 ≡ 92 → (get_or s 1 0 ≡ 120 → ⊥) → escaped s ≡ false
unfolding escaped prefix
unescaped_second [] h e f = absurd (omega arith)
unescaped_second (a ∷ []) h e f = absurd (omega arith)
unescaped_second (a ∷ b ∷ s) h e f = rw (le-leb 4 (length (a ∷ b ∷ s)) h, e, ne_eqb 120 b (λ g. f (sym g)))

-- the bytes of a text are the one at its front and those of the rest
pub bytes_turn : (s : Bytes) → 0 < length s → text_bytes s ≡ front_byte s ∷ text_bytes (drop (front_width s) s)
unfolding text_bytes escaped prefix
bytes_turn [] h = absurd (omega arith)
bytes_turn (a ∷ []) h = refl
bytes_turn (a ∷ b ∷ []) h = refl
bytes_turn (a ∷ b ∷ c ∷ []) h = refl
bytes_turn (a ∷ b ∷ c ∷ d ∷ s) h = rw (le-leb 4 (length (a ∷ b ∷ c ∷ d ∷ s)) (omega arith)) (go (eqb 92 a && (eqb 120 b && true)))
  where
    go : (t : Bool)
        → cond t (octet_of c d ∷ text_bytes s) (a ∷ text_bytes (b ∷ c ∷ d ∷ s))
        ≡ cond t (octet_of c d) a ∷ text_bytes (drop (cond t 4 1) (a ∷ b ∷ c ∷ d ∷ s))
    go true = refl
    go false = refl

pub no_bytes : (s : Bytes) → length s ≤ 0 → length (text_bytes s) ≡ 0
unfolding text_bytes
no_bytes [] h = refl
no_bytes (b ∷ s) h = absurd (omega arith)

-- ---- text decoded from the front: of the text s, rest is left, and at bytes are put into the output d, which is now o
pub record Decoding (s d rest : Bytes) (at : ℕ) (o : Bytes) : Type 0 where
  pub left : drop at (text_bytes s) ≡ text_bytes rest
  pub passed : at ≤ length (text_bytes s)
  pub room : at ≤ length d
  pub out : o ≡ paste d 0 (text_bytes s) at

pub decode_begin : (s d : Bytes) → Decoding s d s 0 d
decode_begin s d = record { left = refl; passed = omega arith; room = omega arith; out = paste-zero d 0 (text_bytes s) }

module _ {s d rest : Bytes} {at : ℕ} {o : Bytes} (c : Decoding s d rest at o) where
  -- all that the output has room for
  written : text_in d s ≡ take at (text_bytes s) → Written d 0 (text_in d s) at o
  unfolding put
  written e =
      let l : length (take at (text_bytes s)) ≡ at = length-take-le at (text_bytes s) c.passed in
      rw e (wrote (rw l (omega (arith, c.room))) (rw l (sym (zero-add at))) (c.out ∙ rw l))

  pub decode_full : {n : ℕ} → length d ≤ at → n ≡ at → Written d 0 (text_in d s) n o
  decode_full h e = let z : at ≡ length d = omega (arith, c.room) in rw e (written (rw z))

  pub decode_done : length rest ≤ 0 → Written d 0 (text_in d s) at o
  decode_done h =
      let z : length (text_bytes s) ≤ at = omega (arith, length-drop at (text_bytes s), ap length c.left, no_bytes rest h) in
      written (take_all (length d) (text_bytes s) (omega (arith, c.room)) ∙ sym (take_all at (text_bytes s) z))

  module _ (k : at < length d) (h : 0 < length rest) where
    next_left : drop at (text_bytes s) ≡ front_byte rest ∷ text_bytes (drop (front_width rest) rest)
    next_left = c.left ∙ bytes_turn rest h

    inside : at < length (text_bytes s)
    inside = omega (arith, length-drop at (text_bytes s), ap length next_left)

    next_cut : get_or (text_bytes s) at 0 ∷ drop (suc at) (text_bytes s) ≡ front_byte rest ∷ text_bytes (drop (front_width rest) rest)
    next_cut = sym (drop-cons (text_bytes s) at 0 inside) ∙ next_left

    next_byte : front_byte rest ≡ get_or (text_bytes s) at 0
    next_byte = cc next_cut

    pub decode_turn : {b : ℕ} {next : Bytes} → b ≡ front_byte rest → next ≡ drop (front_width rest) rest → Decoding s d next (at + 1) (set o at b)
    decode_turn e f =
        record {
          left = rw (add-one at, f) (cc next_cut);
          passed = omega (arith, inside);
          room = omega arith;
          out =
              rw (c.out, e, next_byte, add-one at)
              (ap (λ (i : ℕ). set (paste d 0 (text_bytes s) at) i (get_or (text_bytes s) at 0)) (sym (zero-add at))
              ∙ paste-suc d 0 (text_bytes s) at 0 (omega arith) inside);
        }

-- Reading properties line by line finds what they say. Assumes nothing.
use Rattle.std.specs.Prelude
use Rattle.std.specs.Prelude.{Some, None}
use Prim.Native.Nat.{ℕ, ◌+◌, ◌-◌, ◌≤◌, ◌<◌}
use native.Mathlib.Omega.{arith}
use mathlib.Core.Bool.{Bool, true, false, cond}
use mathlib.Core.List.{List, [], ◌∷◌}
use mathlib.Core.Option.{Option, none, some, map}
use mathlib.Core.Path.{◌≡◌, refl, sym, ap, ◌∙◌}
use lib.ListN.{length, take, drop}
use borrow.Author.Tests.{le-leb, lt-leb}
use Rattle.base.proofs.CutLaws.{tail_part, cut_at, uncut, pieces_some}
use Rattle.base.specs.Bytes.{Bytes, ascii, is_nil, same}
use Rattle.base.specs.Cuts.{found_of, pieces}
use Rattle.properties.specs.Decimals.{decimal_of}
use Rattle.properties.specs.Lines.{line_with, line_for, line_of, with_line}
use Rattle.properties.specs.Properties.{Property, ended, property_in, together, each_of, properties_in, ttls, lifetime_of, judged, properties_of}
use Rattle.properties.specs.declared.read.Lifetime.TheVariants.{Unlimited, Seconds}
use Rattle.properties.specs.declared.read.Lifetime.{Lifetime}
use Rattle.properties.specs.declared.read.Line.TheVariants.{Other}

-- ---- what is said by properties of which the lines passed gave the lifetime l
abbrev given : Lifetime → List Bytes → Prelude.Option Lifetime
given Unlimited values = lifetime_of values
given (Seconds n) [] = Some (Seconds n)
given (Seconds n) (_ ∷ _) = None

abbrev judged_from : Lifetime → Option (List Property) → Prelude.Option Lifetime
judged_from l none = None
judged_from l (some ps) = given l (ttls ps)

-- the same, line by line
abbrev and_then : Prelude.Option Lifetime → (Lifetime → Prelude.Option Lifetime) → Prelude.Option Lifetime
and_then None f = None
and_then (Some l) f = f l

abbrev pub lines_left : Lifetime → List Bytes → Prelude.Option Lifetime
lines_left l [] = None
lines_left l (last ∷ []) = cond (is_nil last) (Some l) None
lines_left l (line ∷ next ∷ others) = and_then (with_line l (line_of line)) (λ (m : Lifetime). lines_left m (next ∷ others))

none_given : (l : Lifetime) → given l [] ≡ Some l
none_given Unlimited = refl
none_given (Seconds n) = refl

-- ---- one property more
module _ (f : Lifetime → Prelude.Option Lifetime) where
  nothing_left : (x : Prelude.Option Lifetime) → ((m : Lifetime) → f m ≡ None) → and_then x f ≡ None
  nothing_left None h = refl
  nothing_left (Some l) h = h l

  one_ttl : (l : Lifetime) (v : Bytes) (vs : List Bytes) → ((m : Lifetime) → f m ≡ given m vs)
      → and_then (with_line l (line_with (decimal_of 5 86400 v))) f ≡ given l (v ∷ vs)
  one_ttl l v vs h = go (decimal_of 5 86400 v) refl l vs h
    where
      go : (d : Prelude.Option ℕ) → decimal_of 5 86400 v ≡ d → (l : Lifetime) (vs : List Bytes) → ((m : Lifetime) → f m ≡ given m vs)
          → and_then (with_line l (line_with d)) f ≡ given l (v ∷ vs)
      go (Some n) e Unlimited [] h = h (Seconds n) ∙ rw e
      go (Some n) e Unlimited (w ∷ ws) h = h (Seconds n)
      go (Some n) e (Seconds m) vs h = refl
      go None e Unlimited [] h = rw e
      go None e Unlimited (w ∷ ws) h = refl
      go None e (Seconds m) vs h = refl

  one_more : (l : Lifetime) (p : Option Property) (ps : Option (List Property)) → ((m : Lifetime) → f m ≡ judged_from m ps)
      → and_then (with_line l (line_for p)) f ≡ judged_from l (together p ps)
  unfolding ttls
  one_more l none ps h = refl
  one_more l (some p) none h = nothing_left (with_line l (line_for (some p))) h
  one_more l (some p) (some ps) h = go (same (ascii "ttl") p.name)
    where
      go : (t : Bool) → and_then (with_line l (cond t (line_with (decimal_of 5 86400 p.value)) (Some Other))) f ≡ given l (cond t (p.value ∷ ttls ps) (ttls ps))
      go true = one_ttl l p.value (ttls ps) h
      go false = h l

pub all_of : (line : Bytes) (x : Option (List Bytes)) → each_of (map (λ (lines : List Bytes). line ∷ lines) x) ≡ together (property_in line) (each_of x)
all_of line none = go (property_in line)
  where
    go : (p : Option Property) → none ≡ together p none
    go none = refl
    go (some p) = refl
all_of line (some lines) = refl

lines_judged : (l : Lifetime) (ps : List Bytes) → lines_left l ps ≡ judged_from l (each_of (ended ps))
unfolding ttls
lines_judged l [] = refl
lines_judged l (last ∷ []) = go (is_nil last)
  where
    go : (t : Bool) → cond t (Some l) None ≡ judged_from l (each_of (cond t (some []) none))
    go true = sym (none_given l)
    go false = refl
lines_judged l (line ∷ next ∷ others) =
    one_more (λ (m : Lifetime). lines_left m (next ∷ others)) l (property_in line) (each_of (ended (next ∷ others))) (λ m. lines_judged m (next ∷ others))
    ∙ ap (judged_from l) (sym (all_of line (ended (next ∷ others))))

from_none : (x : Option (List Property)) → judged_from Unlimited x ≡ judged x
from_none none = refl
from_none (some ps) = refl

-- ---- the loop over the lines: x is what the whole says, and l what the lines passed gave
module _ (s : Bytes) where
  pub too_long : 128 < length s → properties_of s ≡ None
  unfolding properties_of
  too_long h = rw (lt-leb (length s) 128 h)

  pub lines_begin : length s ≤ 128 → properties_of s ≡ lines_left Unlimited (pieces 10 s)
  unfolding properties_of properties_in
  lines_begin h = rw (le-leb (length s) 128 h) (sym (lines_judged Unlimited (pieces 10 s) ∙ from_none (each_of (ended (pieces 10 s)))))

module _ (s : Bytes) (l : Lifetime) (x : Prelude.Option Lifetime) (h : x ≡ lines_left l (pieces 10 s)) where
  pub lines_end : length s ≤ 0 → Some l ≡ x
  unfolding pieces
  lines_end k = sym (h ∙ go s k)
    where
      go : (t : Bytes) → length t ≤ 0 → lines_left l (pieces 10 t) ≡ Some l
      go [] k = refl
      go (b ∷ t) k = absurd (omega arith)

  pub unended : 0 < length s → None ≡ found_of 10 s → None ≡ x
  unended k e = sym (h ∙ rw (uncut 10 s e).whole (go s k))
    where
      go : (t : Bytes) → 0 < length t → lines_left l (t ∷ []) ≡ None
      go [] k = absurd (omega arith)
      go (b ∷ t) k = refl

  module _ (end : ℕ) (e : Some end ≡ found_of 10 s) where
    by_line : x ≡ and_then (with_line l (line_of (take end s))) (λ (m : Lifetime). lines_left m (pieces 10 (drop (end + 1) s)))
    by_line = h ∙ rw (cut_at 10 s end e).split (go (pieces 10 (drop (end + 1) s)) (pieces_some 10 (drop (end + 1) s)))
      where
        go : (ps : List Bytes) → is_nil ps ≡ false
            → lines_left l (take end s ∷ ps) ≡ and_then (with_line l (line_of (take end s))) (λ (m : Lifetime). lines_left m ps)
        go [] k = cc
        go (p ∷ ps) k = refl

    pub bad_line : None ≡ with_line l (line_of (take end s)) → None ≡ x
    bad_line k = sym (by_line ∙ rw (← k))

    pub good_line : (m : Lifetime) → Some m ≡ with_line l (line_of (take end s)) → x ≡ lines_left m (pieces 10 (take (length s - (end + 1)) (drop (end + 1) s)))
    good_line m k = by_line ∙ rw (← k, tail_part s (end + 1))

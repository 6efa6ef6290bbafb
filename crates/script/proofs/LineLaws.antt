-- Laws of lines: the first bar, the fields behind it, and the line without some fields. Assumes nothing.
use Prim.Native.Nat.{ℕ, zero, suc, ◌+◌, ◌-◌, ◌≤◌, ◌<◌}
use native.Mathlib.Omega.{arith}
use mathlib.Core.Bool.{Bool, true, false, cond, ◌||◌}
use mathlib.Core.List.{List, [], ◌∷◌, ◌++◌}
use mathlib.Core.Path.{◌≡◌, refl, sym, ap, ◌∙◌}
use lib.Dec.{eqb, ltb, leb-suc-suc}
use lib.ListN.{length, get_or, take, drop}
use lib.Seq.{drop-nil}
use borrow.Author.Tests.{lt-ltb, lt-leb, eq-eqb, ne_eqb}
use Rattle.std.proofs.Common.{◌≢◌, Option, Some, None, MatchOption, unwrap_or, slice_get}
use Rattle.std.specs.List.{AllWithin, HoldsAt, slice_split, onto_first}
use Rattle.std.specs.Option.{option_map}
use Rattle.std.proofs.lemmas.Option.{unwrap_or-slice_get}
use Rattle.std.proofs.lemmas.Iterator.{index_from_first}
use Rattle.base.proofs.ByteLaws.{or_left, or_right}
use Rattle.base.proofs.CutLaws.{before-behind, before_free, pieces_free, pieces-cut, glue, glue_pieces}
use Rattle.base.specs.Bytes.{Bytes, holds}
use Rattle.base.specs.Cuts.{before, behind, on_first, pieces}
use Rattle.script.specs.Lines.{bar, barred, line_fields, field_at, from_field}

-- ---- the first place of a byte
module _ (b : ℕ) where
  -- where there is none
  pub before_all : (s : Bytes) → holds b s ≡ false → before b s ≡ s
  unfolding holds before
  before_all [] h = refl
  before_all (x ∷ s) h = rw (or_left (eqb x b) (holds b s) h, before_all s (or_right (eqb x b) (holds b s) h))

  pub behind_none : (s : Bytes) → holds b s ≡ false → behind b s ≡ []
  unfolding holds behind
  behind_none [] h = refl
  behind_none (x ∷ s) h = rw (or_left (eqb x b) (holds b s) h) (behind_none s (or_right (eqb x b) (holds b s) h))

  pub take-before : (s : Bytes) → take (length (before b s)) s ≡ before b s
  unfolding before
  take-before [] = refl
  take-before (x ∷ s) = go (eqb x b) (take-before s)
    where
      go : (t : Bool) → take (length (before b s)) s ≡ before b s
          → take (length (cond t [] (x ∷ before b s))) (x ∷ s) ≡ cond t [] (x ∷ before b s)
      go true h = refl
      go false h = ap (λ (l : Bytes). x ∷ l) h

  pub drop-before : (s : Bytes) → drop (suc (length (before b s))) s ≡ behind b s
  unfolding before behind
  drop-before [] = refl
  drop-before (x ∷ s) = go (eqb x b) (drop-before s)
    where
      go : (t : Bool) → drop (suc (length (before b s))) s ≡ behind b s
          → drop (suc (length (cond t [] (x ∷ before b s)))) (x ∷ s) ≡ cond t s (behind b s)
      go true h = refl
      go false h = h

  before_shorter : (s : Bytes) → ltb (length (before b s)) (length s) ≡ holds b s
  unfolding before holds
  before_shorter [] = refl
  before_shorter (x ∷ s) = go (eqb x b) (before_shorter s)
    where
      go : (t : Bool) → ltb (length (before b s)) (length s) ≡ holds b s
          → ltb (length (cond t [] (x ∷ before b s))) (suc (length s)) ≡ (t || holds b s)
      go true h = lt-ltb 0 (suc (length s)) (omega arith)
      go false h = leb-suc-suc (suc (length (before b s))) (length s) ∙ h

  -- whether b is there, by how many bytes are before it
  pub before_all_free : (s : Bytes) → length (before b s) ≡ length s → holds b s ≡ false
  before_all_free s h = sym (before_shorter s) ∙ lt-leb (suc (length (before b s))) (length s) (omega arith)

  pub before_less_holds : (s : Bytes) → length (before b s) < length s → holds b s ≡ true
  before_less_holds s h = sym (before_shorter s) ∙ lt-ltb (length (before b s)) (length s) h

  -- what is behind the first b is shorter than all
  pub behind_shorter : (s : Bytes) → holds b s ≡ true → length (behind b s) < length s
  unfolding holds behind
  behind_shorter [] h = absurd (let z : ◌≡◌ {A = ℕ} 0 1 = cc in omega arith)
  behind_shorter (x ∷ s) h = go (eqb x b) h (behind_shorter s)
    where
      go : (t : Bool) → (t || holds b s) ≡ true → (holds b s ≡ true → length (behind b s) < length s)
          → length (cond t s (behind b s)) < suc (length s)
      go true h ih = omega arith
      go false h ih = omega (arith, ih h)

  pub before_within : (s : Bytes) → length (before b s) ≤ length s
  unfolding before
  before_within [] = omega arith
  before_within (x ∷ s) = go (eqb x b) (before_within s)
    where
      go : (t : Bool) → length (before b s) ≤ length s → length (cond t [] (x ∷ before b s)) ≤ suc (length s)
      go true h = omega arith
      go false h = omega arith

  -- the place that a search finds, or else the number of all bytes
  pub place_is : (s : Bytes) (o : Option ℕ) → MatchOption o (AllWithin (λ x. x ≢ b) s 0 (length s)) (λ i. (i < length s) × HoldsAt (λ x. x ≡ b) s i × AllWithin (λ x. x ≢ b) s 0 i)
      → length (before b s) ≡ unwrap_or o (length s)
  unfolding before
  place_is =
      index_from_first (λ s. length (before b s)) (λ x. x ≡ b) (λ x. x ≢ b) refl
      (λ x s e. rw (eq-eqb x b e))
      (λ x s e. rw (ne_eqb x b e) (omega arith))

-- what is left of a line behind its first bar
pub left_shorter : {next : Bytes} (rest : Bytes) → holds bar rest ≡ true → next ≡ behind bar rest → length next < length rest
left_shorter rest h e = rw e (behind_shorter bar rest h)

-- ---- fields
pub fields-more : (s : Bytes) → holds bar s ≡ true → line_fields s ≡ before bar s ∷ line_fields (behind bar s)
fields-more s h = ap line_fields (before-behind bar s h) ∙ pieces-cut bar (before bar s) (behind bar s) (before_free bar s)

pub fields_last : (s : Bytes) → holds bar s ≡ false → line_fields s ≡ s ∷ []
fields_last s h = pieces_free bar s h

-- the fields of a line, with bars between them, are the line
line_glue : (fs : List Bytes) → barred fs ≡ glue bar fs
line_glue [] = refl
line_glue (f ∷ []) = refl
line_glue (f ∷ g ∷ fs) = ap (λ (l : Bytes). f ++ bar ∷ l) (line_glue (g ∷ fs))

from_first : (s : Bytes) → from_field 0 s ≡ s
unfolding from_field
from_first s = line_glue (line_fields s) ∙ glue_pieces bar s

-- a line of no bytes
from_none : (k : ℕ) → from_field k [] ≡ []
unfolding from_field pieces
from_none zero = refl
from_none (suc k) = rw (drop-nil {A = Bytes} k)

-- one field less
from_turn : (k : ℕ) (s : Bytes) → from_field (suc k) s ≡ from_field k (behind bar s)
unfolding from_field
from_turn k s = go (holds bar s) refl
  where
    go : (t : Bool) → holds bar s ≡ t → barred (drop (suc k) (line_fields s)) ≡ barred (drop k (line_fields (behind bar s)))
    go true e = rw (fields-more s e)
    go false e = rw (fields_last s e, behind_none bar s e, drop-nil {A = Bytes} k) (sym (from_none k))

-- the pieces are what the library splits the bytes into
pieces_split : (sep : ℕ) (s : Bytes) → slice_split (λ b. eqb b sep) s ≡ pieces sep s
unfolding pieces
pieces_split sep [] = refl
pieces_split sep (b ∷ s) = rw (pieces_split sep s) (go (eqb b sep) (pieces sep s))
  where
    go : (t : Bool) (ps : List Bytes) → cond t ([] ∷ ps) (onto_first b ps) ≡ cond t ([] ∷ ps) (on_first b ps)
    go true ps = refl
    go false [] = refl
    go false (p ∷ ps) = refl

-- field k, where v reads the bytes of what was found among the pieces, or of what is given where nothing was found
pub field_found : {A : Type 0} (v : A → Bytes) (s : Bytes) (k : ℕ) (o : Option A) (d : A) → v d ≡ []
    → option_map v o ≡ slice_get (slice_split (λ b. eqb b bar) s) k → v (unwrap_or o d) ≡ field_at k s
unfolding field_at
field_found {A = A} v s k o d e h =
    go o ∙ ap (λ u. unwrap_or u []) h ∙ unwrap_or-slice_get (slice_split (λ b. eqb b bar) s) k []
    ∙ ap (λ ps. get_or ps k []) (pieces_split bar s)
  where
    go : (o : Option A) → v (unwrap_or o d) ≡ unwrap_or (option_map v o) []
    go None = e
    go (Some x) = refl

-- ---- a walk over bars, i of which are passed; rest is what is left of the line
pub bars_begin : (k : ℕ) (line : Bytes) → from_field k line ≡ from_field (k - 0) line
bars_begin k line = ap (λ (j : ℕ). from_field j line) (omega arith)

module _ (k i : ℕ) (x rest : Bytes) (h : x ≡ from_field (k - i) rest) where
  pub bars_turn : {next : Bytes} → i < k → next ≡ behind bar rest → x ≡ from_field (k - (i + 1)) next
  bars_turn l e =
      let z : k - i ≡ suc (k - (i + 1)) = omega arith in
      h ∙ rw (z, e) (from_turn (k - (i + 1)) rest)

  -- where no bar is left
  pub bars_none : i < k → holds bar rest ≡ false → [] ≡ x
  bars_none l e =
      let z : k - i ≡ suc (k - (i + 1)) = omega arith in
      sym (h ∙ rw z (from_turn (k - (i + 1)) rest ∙ rw (behind_none bar rest e) (from_none (k - (i + 1)))))

  pub bars_done : k ≤ i → rest ≡ x
  bars_done l =
      let z : k - i ≡ 0 = omega arith in
      sym (h ∙ rw z (from_first rest))

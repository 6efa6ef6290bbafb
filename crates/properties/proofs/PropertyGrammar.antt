-- `properties_in` decides the grammar of properties, and finds the properties in it. Assumes nothing.
use Prim.Native.Nat.{ℕ, ◌<◌}
use native.Mathlib.Omega.{arith}
use mathlib.Core.Bool.{Bool, true, false, cond, not, ◌&&◌}
use mathlib.Core.List.{List, [], ◌∷◌, ◌++◌}
use mathlib.Core.Logic.{◌↔◌}
use mathlib.Core.Option.{Option, none, some, map}
use mathlib.Core.Path.{◌≡◌, refl, sym, ap, ◌∙◌, subst}
use lib.Dec.{eqb}
use lib.ListN.{length}
use borrow.Author.Tests.{not-true}
use Rattle.base.proofs.ByteLaws.{and_left, and_right, or_left, or_right, not_empty, some_bytes, lacks_tested, tested_lacks}
use Rattle.base.proofs.CutLaws.{holds_append, before-behind, before_free, before_first, behind-first, pieces_some, pieces-cut, glue, glue_pieces, without, pieces_without}
use Rattle.base.specs.Bytes.{Bytes, is_nil, holds, every}
use Rattle.base.specs.Cuts.{before, behind, pieces}
use Rattle.properties.proofs.PropertyLaws.{all_of}
use Rattle.properties.specs.Grammar.Text.{empty, entry}
use Rattle.properties.specs.Grammar.{Unbroken, Unsigned, Text}
use Rattle.properties.specs.Properties.{Property, ended, property_in, together, each_of, properties_in}

-- ---- one line
abbrev line_from : Property → Bytes
line_from p = p.name ++ (61 ∷ p.value)

module _ (p : Property) (l : 0 < length p.name) (n : Unsigned p.name) (v : Unbroken p.value) where
  line_free : holds 10 (line_from p) ≡ false
  unfolding holds
  line_free = rw (holds_append 10 p.name (61 ∷ p.value), lacks_tested 10 p.name n.1, lacks_tested 10 p.value v.0)

  line_nonzero : holds 0 (line_from p) ≡ false
  unfolding holds
  line_nonzero = rw (holds_append 0 p.name (61 ∷ p.value), lacks_tested 0 p.name n.2, lacks_tested 0 p.value v.1)

  line_signed : holds 61 (line_from p) ≡ true
  unfolding holds
  line_signed = rw (holds_append 61 p.name (61 ∷ p.value), lacks_tested 61 p.name n.0)

  named : is_nil p.name ≡ false
  named = not_empty p.name (λ e. omega arith)

  property_read : property_in (line_from p) ≡ some p
  unfolding property_in
  property_read =
      rw (line_nonzero, line_signed, before_first 61 p.value p.name (lacks_tested 61 p.name n.0), behind-first 61 p.value p.name (lacks_tested 61 p.name n.0), named)

-- a value has what the bytes behind an equals sign have
behind_sign : (b : ℕ) (s : Bytes) → eqb 61 b ≡ false → holds b (61 ∷ s) ≡ false → holds b s ≡ false
unfolding holds
behind_sign b s e h = or_right (eqb 61 b) (holds b s) h

-- what a line that is a property holds
record Line (line : Bytes) (p : Property) : Type 0 where
  pub is : line ≡ line_from p
  pub some_name : 0 < length p.name
  pub unsigned : Unsigned p.name
  pub unbroken : Unbroken p.value

property_test : Bytes → Bool
property_test line = not (holds 0 line) && (holds 61 line && not (is_nil (before 61 line)))

line_known : (line : Bytes) (p : Property) → holds 10 line ≡ false → property_in line ≡ some p → Line line p
unfolding property_in property_test
line_known line p free e = go (property_test line) refl e
  where
    x : Property
    x = record { name = before 61 line; value = behind 61 line }

    made : property_test line ≡ true → Line line x
    made t =
        let nonzero = not-true (holds 0 line) (and_left (not (holds 0 line)) (holds 61 line && not (is_nil (before 61 line))) t) in
        let signed = and_left (holds 61 line) (not (is_nil (before 61 line))) (and_right (not (holds 0 line)) (holds 61 line && not (is_nil (before 61 line))) t) in
        let split = before-behind 61 line signed in
        let zeros = sym (holds_append 0 (before 61 line) (61 ∷ behind 61 line)) ∙ ap (holds 0) (sym split) ∙ nonzero in
        let lines = sym (holds_append 10 (before 61 line) (61 ∷ behind 61 line)) ∙ ap (holds 10) (sym split) ∙ free in
        record {
          is = split;
          some_name =
              some_bytes (before 61 line) (not-true (is_nil (before 61 line)) (and_right (holds 61 line) (not (is_nil (before 61 line))) (and_right (not (holds 0 line)) (holds 61 line && not (is_nil (before 61 line))) t)));
          unsigned = (tested_lacks 61 (before 61 line) (before_free 61 line), tested_lacks 10 (before 61 line) (or_left (holds 10 (before 61 line)) (holds 10 (61 ∷ behind 61 line)) lines), tested_lacks 0 (before 61 line) (or_left (holds 0 (before 61 line)) (holds 0 (61 ∷ behind 61 line)) zeros));
          unbroken = (tested_lacks 10 (behind 61 line) (behind_sign 10 (behind 61 line) refl (or_right (holds 10 (before 61 line)) (holds 10 (61 ∷ behind 61 line)) lines)), tested_lacks 0 (behind 61 line) (behind_sign 0 (behind 61 line) refl (or_right (holds 0 (before 61 line)) (holds 0 (61 ∷ behind 61 line)) zeros)));
        }

    go : (t : Bool) → property_test line ≡ t → cond t (some x) none ≡ some p → Line line p
    go true t f = subst (Line line) (cc) (made t)
    go false t f = absurd (let z : ◌≡◌ {A = ℕ} 0 1 = cc in omega arith)

-- ---- the whole text
lines_more : (first : Bytes) (ps : List Bytes) → is_nil ps ≡ false → ended (first ∷ ps) ≡ map (λ (lines : List Bytes). first ∷ lines) (ended ps)
lines_more first [] h = cc
lines_more first (q ∷ ps) h = refl

pub text_read : (ps : List Property) (s : Bytes) → Text ps s → properties_in s ≡ some ps
unfolding properties_in pieces
text_read ps s empty = refl
text_read ps s (entry p rs rest l n v h) =
    rw (pieces-cut 10 (line_from p) rest (line_free p l n v), lines_more (line_from p) (pieces 10 rest) (pieces_some 10 rest), all_of (line_from p) (ended (pieces 10 rest)), property_read p l n v, text_read rs rest h)

two_known : (p : Option Property) (rs : Option (List Property)) (ps : List Property) → together p rs ≡ some ps
    → (x : Property) × (xs : List Property) × (p ≡ some x) × (rs ≡ some xs) × (ps ≡ x ∷ xs)
two_known none rs ps e = absurd (let z : ◌≡◌ {A = ℕ} 0 1 = cc in omega arith)
two_known (some x) none ps e = absurd (let z : ◌≡◌ {A = ℕ} 0 1 = cc in omega arith)
two_known (some x) (some xs) ps e = (x, xs, refl, refl, cc)

entry_known : (q rest : Bytes) (p : Property) (ps rs : List Property) → ps ≡ p ∷ rs → Line q p → Text rs rest → Text ps (q ++ (10 ∷ rest))
entry_known q rest p ps rs e l t = rw (e, l.is) (entry p rs rest l.some_name l.unsigned l.unbroken t)

lines_text : (qs : List Bytes) → every (without 10) qs ≡ true → (ps : List Property) → each_of (ended qs) ≡ some ps → Text ps (glue 10 qs)
unfolding every
lines_text [] h ps e = absurd (let z : ◌≡◌ {A = ℕ} 0 1 = cc in omega arith)
lines_text ([] ∷ []) h ps e = let z : ps ≡ [] = cc in rw z empty
lines_text ((b ∷ q) ∷ []) h ps e = absurd (let z : ◌≡◌ {A = ℕ} 0 1 = cc in omega arith)
lines_text (q ∷ r ∷ qs) h ps e =
    let k = two_known (property_in q) (each_of (ended (r ∷ qs))) ps (sym (all_of q (ended (r ∷ qs))) ∙ e) in
    let l = line_known q k.0 (not-true (holds 10 q) (and_left (without 10 q) (every (without 10) (r ∷ qs)) h)) k.2 in
    let t = lines_text (r ∷ qs) (and_right (without 10 q) (every (without 10) (r ∷ qs)) h) k.1 k.3 in
    entry_known q (glue 10 (r ∷ qs)) k.0 ps k.1 k.4 l t

pub text_known : (ps : List Property) (s : Bytes) → properties_in s ≡ some ps → Text ps s
unfolding properties_in
text_known ps s e = subst (Text ps) (glue_pieces 10 s) (lines_text (pieces 10 s) (pieces_without 10 s) ps e)

-- reading properties is the grammar
pub properties_are : (ps : List Property) (s : Bytes) → (properties_in s ≡ some ps) ↔ Text ps s
properties_are ps s = (text_known ps s, text_read ps s)

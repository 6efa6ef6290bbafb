-- Messages and frames told by numbers. Assumes nothing.
use Prim.Native.Nat.{ℕ, ◌+◌, min, ◌≤◌}
use native.Mathlib.Omega.{arith}
use mathlib.Core.Bool.{Bool, true, false, cond, not}
use mathlib.Core.List.{List, [], ◌∷◌}
use mathlib.Core.Path.{◌≡◌, refl, sym, ap, ◌∙◌}
use lib.Dec.{leb, eqb}
use lib.ListN.{length, get_or}
use borrow.Author.Tests.{leb-true, leb-false}
use Rattle.std.specs.Prelude.{None}
use Rattle.base.specs.Bytes.{Bytes}
use Rattle.base.specs.Output.{largest}
use Rattle.frames.specs.Steps.{found}
use Rattle.parts.proofs.WalkLaws.{past_end}
use Rattle.parts.specs.Build.{part_of, Put}
use Rattle.parts.specs.Numbers.{built_of, numbers_of, Added, after, is_body, body_or, FrameGiven}
use Rattle.parts.specs.Walk.{taken_at}
use Rattle.parts.specs.declared.build.Built.TheVariants.{Open, Whole, Void}
use Rattle.parts.specs.declared.build.Built.{Built}

-- ---- a message
built_back : (b : Built) → built_of (numbers_of b) ≡ b
built_back (Open n) = refl
built_back (Whole n) = refl
built_back Void = refl

pub is_added : {d : Bytes} {w : List ℕ} {more : ℕ} {body : Bytes} {w' : List ℕ} {d' : Bytes} {b r : Built}
    → b ≡ built_of w → Put d b (part_of (not (eqb more 0)) body) r d' → w' ≡ numbers_of r → Added d w more body w' d'
is_added {d} {w} {more} {body} {w'} {d'} {b} {r} e h f =
    let k : built_of w' ≡ r = ap built_of f ∙ built_back r in
    record { put = rw (← e, k) h; numbers = f ∙ ap numbers_of (sym k) }

-- ---- a frame
module _ (s : Bytes) (f : List ℕ) (at : ℕ) (long : length s ≤ largest) (e : at ≡ min (get_or f 0 0 + get_or f 1 0) largest) where
  -- a sum that is too large is as far behind the end as the largest number
  sum_told : (inside : Bool) → taken_at s at inside ≡ taken_at s (get_or f 0 0 + get_or f 1 0) inside
  sum_told inside = go (leb (get_or f 0 0 + get_or f 1 0) largest) refl
    where
      go : (t : Bool) → leb (get_or f 0 0 + get_or f 1 0) largest ≡ t → taken_at s at inside ≡ taken_at s (get_or f 0 0 + get_or f 1 0) inside
      go true t = ap (λ (n : ℕ). taken_at s n inside) (omega (arith, leb-true (get_or f 0 0 + get_or f 1 0) largest t))
      go false t =
          let l = leb-false (get_or f 0 0 + get_or f 1 0) largest t in
          past_end s at inside (omega arith) ∙ sym (past_end s (get_or f 0 0 + get_or f 1 0) inside (omega arith))

  pub none_given : None ≡ taken_at s at (not (eqb (get_or f 2 0) 0)) → FrameGiven s f 0 f
  none_given h =
      let k : None ≡ after s f = h ∙ sum_told (not (eqb (get_or f 2 0) 0)) in
      record { told = ap is_body k; frame = ap (body_or f) k }

  pub one_given : (start len : ℕ) (more : Bool) (n : ℕ) → found start len more ≡ taken_at s at (not (eqb (get_or f 2 0) 0)) → n ≡ cond more 1 0 → FrameGiven s f 1 (start ∷ len ∷ n ∷ [])
  one_given start len more n h m =
      let k : found start len more ≡ after s f = h ∙ sum_told (not (eqb (get_or f 2 0) 0)) in
      record { told = ap is_body k; frame = ap (λ (x : ℕ). start ∷ len ∷ x ∷ []) m ∙ ap (body_or f) k }

-- Laws of sequences. Assumes nothing.
use Prim.Native.Nat.{ℕ, suc, ◌≤◌, ◌<◌}
use native.Mathlib.Omega.{arith}
use mathlib.Core.Bool.{Bool, true, false, cond}
use mathlib.Core.Path.{◌≡◌, refl, sym, ap, ◌∙◌}
use lib.Dec.{eqb, ltb}
use lib.ListN.{length}
use borrow.Author.Tests.{ltb-true, ltb-false}
use Rattle.base.proofs.OctetLaws.{eight_octets}
use Rattle.base.specs.Bytes.{Bytes}
use Rattle.base.specs.Octets.{number, octets, eight_of}
use Rattle.std.specs.Prelude.{Option, Some, None}
use Rattle.numbers.specs.Sequences.{max_sequence, sequence, numbered_of, following_of}
use Rattle.numbers.specs.declared.sequence.Sequence.{Sequence}

-- a sequence frame is what its eight octets say
pub numbered : (s : Bytes) (n : ℕ) → Some n ≡ eight_of s → Some (sequence n) ≡ numbered_of s
unfolding eight_of
numbered s n e = go (eqb (length s) 8) e
  where
    go : (t : Bool) → Some n ≡ cond t (Some (number s)) None → Some (sequence n) ≡ cond t (Some (sequence (number s))) None
    go true e = ap (λ (m : ℕ). Some (sequence m)) (cc)
    go false e = absurd (let z : ◌≡◌ {A = ℕ} 0 1 = cc in omega arith)

pub unnumbered : (s : Bytes) → None ≡ eight_of s → None ≡ numbered_of s
unfolding eight_of
unnumbered s e = go (eqb (length s) 8) e
  where
    go : (t : Bool) → None ≡ cond t (Some (number s)) None → None ≡ cond t (Some (sequence (number s))) None
    go true e = absurd (let z : ◌≡◌ {A = ℕ} 0 1 = cc in omega arith)
    go false e = refl

-- a number that is written is read back
pub numbered-octets : (n : ℕ) → n < 18446744073709551616 → numbered_of (octets 8 n) ≡ Some (sequence n)
numbered-octets n h = sym (numbered (octets 8 n) n (sym (eight_octets n h)))

-- ---- the number of the next update
module _ (n : ℕ) {f : Option Sequence} (is : f ≡ following_of n) where
  pub next_none : f ≡ None → max_sequence ≤ n
  next_none e = go (ltb n max_sequence) refl (sym is ∙ e)
    where
      go : (t : Bool) → ltb n max_sequence ≡ t → cond t (Some (sequence (suc n))) None ≡ None → max_sequence ≤ n
      go true h q = absurd (let z : ◌≡◌ {A = ℕ} 0 1 = cc in omega arith)
      go false h q = ltb-false n max_sequence h

  pub next_some : {m : Sequence} → f ≡ Some m → (n < max_sequence) × (m ≡ sequence (suc n))
  next_some {m} e = go (ltb n max_sequence) refl (sym is ∙ e)
    where
      go : (t : Bool) → ltb n max_sequence ≡ t → cond t (Some (sequence (suc n))) None ≡ Some m → (n < max_sequence) × (m ≡ sequence (suc n))
      go true h q = (ltb-true n max_sequence h, cc)
      go false h q = absurd (let z : ◌≡◌ {A = ℕ} 0 1 = cc in omega arith)

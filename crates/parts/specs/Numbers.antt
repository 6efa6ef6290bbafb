-- Messages from and to sockets, told by numbers, as hosts have them.
use Rattle.std.specs.Prelude.{ℕ, zero, suc, ◌+◌, cond, not, List, [], ◌∷◌, ◌≡◌, eqb, get_or, Some, None}
use Rattle.base.specs.Bytes.{Bytes}
use Rattle.frames.specs.Steps.{Step}
use Rattle.parts.specs.Build.{part_of, Put}
use Rattle.parts.specs.Walk.{taken_at}
use Rattle.parts.specs.declared.build.Built.TheVariants.{Open, Whole, Void}
use Rattle.parts.specs.declared.build.Built.{Built}

-- ---- a message that is built: its length, and its stage
-- stage 0 is open, 1 is whole, any other is void
abbrev pub staged : ℕ → ℕ → Built
staged zero n = Open n
staged (suc zero) n = Whole n
staged (suc (suc _)) n = Void

abbrev pub built_of : List ℕ → Built
built_of w = staged (get_or w 1 0) (get_or w 0 0)

abbrev pub numbers_of : Built → List ℕ
numbers_of (Open n) = n ∷ 0 ∷ []
numbers_of (Whole n) = n ∷ 1 ∷ []
numbers_of Void = 0 ∷ 2 ∷ []

-- a part, with another to follow unless more is 0, is put into the buffer d of a message that is built as w says; then d' and w'
pub record Added (d : Bytes) (w : List ℕ) (more : ℕ) (body : Bytes) (w' : List ℕ) (d' : Bytes) : Type 0 where
  pub put : Put d (built_of w) (part_of (not (eqb more 0)) body) (built_of w') d'
  pub numbers : w' ≡ numbers_of (built_of w')

-- ---- a frame: where its body starts, how long it is, and whether another frame of the same message follows
-- the next frame begins where the body of f ends, inside a message if f has another after it
abbrev pub after : Bytes → List ℕ → Step
after s f = taken_at s (get_or f 0 0 + get_or f 1 0) (not (eqb (get_or f 2 0) 0))

abbrev pub is_body : Step → ℕ
is_body None = 0
is_body (Some x) = 1

abbrev pub body_or : List ℕ → Step → List ℕ
body_or f None = f
body_or f (Some x) = x.start ∷ x.len ∷ cond x.more 1 0 ∷ []

-- of the frame after f it is told whether there is one; then f' is that frame, and else f
pub record FrameGiven (s : Bytes) (f : List ℕ) (r : ℕ) (f' : List ℕ) : Type 0 where
  pub told : r ≡ is_body (after s f)
  pub frame : f' ≡ body_or f (after s f)

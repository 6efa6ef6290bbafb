-- Laws of a message without its first frame. Assumes nothing.
use Prim.Native.Nat.{ℕ, ◌+◌}
use mathlib.Core.Bool.{Bool}
use mathlib.Core.List.{[]}
use mathlib.Core.Path.{◌≡◌, sym}
use lib.ListN.{drop}
use lib.Seq.{drop-drop}
use Rattle.std.specs.Prelude.{None}
use Rattle.base.specs.Bytes.{Bytes}
use Rattle.frames.specs.Messages.{rest_of}
use Rattle.frames.specs.Steps.{found, step_of}

module _ (s : Bytes) where
  pub no_rest : None ≡ step_of s → [] ≡ rest_of s (step_of s)
  no_rest e = rw (← e)

  pub rest_is : (start len : ℕ) (more : Bool) → found start len more ≡ step_of s → drop (start + len) s ≡ rest_of s (step_of s)
  rest_is start len more e = rw (← e) (sym (drop-drop len start s))

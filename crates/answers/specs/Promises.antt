-- What every call and every start promises, at either end: `view` is what a state means, besides its bits.
use Rattle.std.proofs.Math.Option.{Option, some}
use Rattle.std.specs.Prelude.{◌≡◌}
use Rattle.answers.specs.declared.answer.Answer.{Answer}
use Rattle.answers.specs.declared.refusal.Refusal.{Refusal}
use Rattle.base.specs.Bytes.{Bytes}
use Rattle.base.specs.Output.{put}

-- a call on the state s, with the output `out`, gives the state s' and the answer a, and the output is then out': of its
-- refusal, if any, what it is to answer, what s' is to mean, and the bytes that it is to write
pub record Settled {State Meaning : Type 0} (view : State → Meaning) (WellFormed : State → Type 0)
    (refusal : Option Refusal) (told : Answer) (next : Meaning) (bytes : Bytes)
    (s : State) (out : Bytes) (s' : State) (a : Answer) (out' : Bytes) : Type 0 where
  pub answer : a ≡ told
  pub means : view s' ≡ next
  -- a refused call returns the state that it was given, whatever its bits
  pub refused : (reason : Refusal) → refusal ≡ some reason → s' ≡ s
  pub output : out' ≡ put out 0 bytes
  pub well_formed : WellFormed s → WellFormed s'

-- a start gives the state s and the answer a: of what it is to answer, and what s is to mean
pub record Begun {State Meaning : Type 0} (view : State → Meaning) (WellFormed : State → Type 0) (told : Answer) (first : Meaning) (s : State) (a : Answer) : Type 0 where
  pub answer : a ≡ told
  pub means : view s ≡ first
  pub well_formed : WellFormed s

-- A refused call and an accepted one keep the promise of every call. Assumes nothing.
use Prim.Native.Nat.{ℕ}
use native.Mathlib.Omega.{arith}
use mathlib.Core.List.{[]}
use mathlib.Core.Option.{Option, none, some}
use mathlib.Core.Path.{◌≡◌, refl, sym}
use lib.ListN.{length}
use Rattle.answers.specs.Answers.{answer, answer_by}
use Rattle.answers.specs.Promises.{Settled}
use Rattle.answers.specs.Refusals.{if_accepted}
use Rattle.answers.specs.declared.answer.Answer.{Answer}
use Rattle.answers.specs.declared.answer.Kind.TheVariants.{Refused}
use Rattle.answers.specs.declared.answer.Kind.{Kind}
use Rattle.answers.specs.declared.refusal.Refusal.{Refusal}
use Rattle.base.proofs.OutputLaws.{put-nothing}
use Rattle.base.specs.Bytes.{Bytes}
use Rattle.base.specs.Output.{put}
use Rattle.numbers.specs.declared.sequence.Sequence.{Sequence}

module _ {State Meaning : Type 0} (view : State → Meaning) (WellFormed : State → Type 0) (refusal : Option Refusal) (number : Sequence) (kind : Kind) (next : Meaning) (bytes : Bytes)
    (s : State) (out : Bytes) (s' : State) (a : Answer) (out' : Bytes) where
  abbrev Kept : Type 0
  Kept = Settled view WellFormed refusal (answer_by refusal number kind bytes) (if_accepted refusal next (view s)) (if_accepted refusal bytes []) s out s' a out'

  -- the state and the output as they were, and the answer with the state's own number
  pub settle_refused : (reason : Refusal) → refusal ≡ some reason → s' ≡ s → a ≡ answer (Refused reason number) 0 → out' ≡ out → Kept
  settle_refused reason e kept told same = record {
    answer = rw e told;
    means = rw (e, kept) refl;
    refused = λ other f. kept;
    output = rw (e, same) (sym (put-nothing out));
    well_formed = λ w. rw kept w;
  }

  -- all that an accepted call is to give, and a state that stays well-formed
  pub settle_accepted : refusal ≡ none → a ≡ answer kind (length bytes) → view s' ≡ next → out' ≡ put out 0 bytes → (WellFormed s → WellFormed s') → Kept
  settle_accepted e told became written stays = record {
    answer = rw e told;
    means = rw e became;
    refused = λ reason f. absurd (let z : ◌≡◌ {A = ℕ} 0 1 = cc in omega arith);
    output = rw e written;
    well_formed = stays;
  }

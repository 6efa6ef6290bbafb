-- What a call answers that has put bytes into the output.
use Rattle.std.specs.Prelude.{ℕ, cond, eqb}
use Rattle.answers.specs.Answers.{answer}
use Rattle.answers.specs.declared.answer.Answer.{Answer}
use Rattle.answers.specs.declared.answer.Kind.TheVariants.{Refused}
use Rattle.answers.specs.declared.answer.Kind.{Kind}
use Rattle.answers.specs.declared.refusal.Refusal.TheVariants.{ShortOutput}
use Rattle.numbers.specs.declared.sequence.Sequence.{Sequence}

-- of the kind that it has where they are written, the number of the state, and how many were: none where the output is
-- too short
abbrev pub written_of : Kind → Sequence → ℕ → Answer
written_of kind number written = cond (eqb written 0) (answer (Refused ShortOutput number) 0) (answer kind written)

-- Answers as hosts read them: four words.
use Rattle.std.specs.Prelude.{ℕ, List, [], ◌∷◌, ◌≡◌}
use Rattle.answers.specs.Answers.{kind_number, sequence_in, refusal_in}
use Rattle.answers.specs.declared.answer.Answer.{Answer}

-- the kind and the refusal by their numbers, the number of the state after the call, how many bytes were written
abbrev pub answer_words : Answer → List ℕ
answer_words a = kind_number a.kind ∷ refusal_in a.kind ∷ (sequence_in a.kind).0 ∷ a.written ∷ []

-- words say the answer that a call is to give, of which P holds
pub record InWords (P : Answer → Type 0) (a : Answer) (words : List ℕ) : Type 0 where
  pub answer : words ≡ answer_words a
  pub entry : P a

-- What an entry promises of headers and of its answer holds of them as words. Assumes nothing.
use Prim.Native.Nat.{ℕ}
use mathlib.Core.List.{List}
use mathlib.Core.Path.{◌≡◌, ap, ◌∙◌, subst}
use Rattle.answers.specs.declared.answer.Answer.{Answer}
use Rattle.host_words.specs.Answers.{answer_words, InWords}

-- P is promised of a header before, a header after and an answer; it fixes the answer
pub in_words : {H : Type 0} (P : H → H → Answer → Type 0) (g g' : H) (b : Answer) {h h' : H} {a : Answer} {words : List ℕ}
    → P h h' a → h ≡ g → h' ≡ g' → (P g g' a → a ≡ b) → words ≡ answer_words a → InWords (P g g') b words
in_words {H} P g g' b {h} {h'} {a} holds e e' fixed told =
    let moved = subst (λ (f : H). P g f a) e' (subst (λ (f : H). P f h' a) e holds) in
    record { answer = told ∙ ap answer_words (fixed moved); entry = subst (P g g') (fixed moved) moved }

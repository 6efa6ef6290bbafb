-- `base::octets::read_eight` meets its contract by the library's octets. Assumes nothing.
use Rattle.std.proofs.Common.{◌≡◌, ◌≢◌, length, sym, ap, ◌∙◌, Some, None, Result, Ok, Err}
use Rattle.std.proofs.lemmas.Bool.{eq-eqb, ne_eqb}
use Rattle.std.specs.Array.{IsWholeChunk}
use Rattle.std.specs.Int.{from_be_bytes, w64}
use Rattle.std.specs.Result.{MatchResult, result_ok}
use Rattle.base.specs.Bytes.{Bytes}
use Rattle.base.specs.Octets.{eight_of}
use Rattle.base.proofs.OctetLaws.{number-be}
use Rattle.base.proofs.octets.read_eight.Goals as goal

-- what the library says of bytes that are to be an array of eight
abbrev Tried : {E : Type 0} → Bytes → Result Bytes E → Type 0
Tried s r = MatchResult r (λ y. IsWholeChunk s y 8) (λ _. length s ≢ 8)

none_are : {E : Type 0} (s : Bytes) (r : Result Bytes E) → Tried s r → result_ok r ≡ None → None ≡ eight_of s
unfolding eight_of
none_are s (Ok y) h e = cc
none_are s (Err x) h e = rw (ne_eqb (length s) 8 h)

all_are : {E : Type 0} (s y : Bytes) (r : Result Bytes E) → Tried s r → result_ok r ≡ Some y → Some (from_be_bytes w64 y) ≡ eight_of s
unfolding eight_of
all_are s y (Ok z) h e =
    let f : y ≡ s = cc (h.same) in
    rw (f, eq-eqb (length s) 8 h.long, number-be s h.long)
all_are s y (Err x) h e = cc

pub returns-in_err-eight : goal.returns-in_err-eight
returns-in_err-eight c = c.from_residual.ensures ∙ none_are _ _ c.try_from.ensures.1 (sym c.ok.ensures.value ∙ c.in_err-eight.was)

pub returns : goal.returns
returns c = ap Some c.from_be_bytes.ensures ∙ all_are _ _ _ c.try_from.ensures.1 (sym c.ok.ensures.value ∙ c.in_ok-eight.was)

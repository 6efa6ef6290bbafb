-- A client's header as words, and a client whose header is lent as words.
use Rattle.std.specs.Prelude.{ℕ, List, [], ◌∷◌, get_or}
use Rattle.base.specs.Bytes.{Bytes}
use Rattle.client_state.specs.Views.{lent}
use Rattle.client_state.specs.declared.Client.{Client}
use Rattle.client_state.specs.declared.Header.{Header}
use Rattle.numbers.specs.Sequences.{sequence}
use Rattle.numbers.specs.Ticks.{tick}

-- the phase, the number, the clock, the length of the subtree, the count of rows
abbrev pub header_words : Header → List ℕ
header_words h = h.phase ∷ h.number.0 ∷ h.clock.0 ∷ h.subtree_length ∷ h.count ∷ []

-- and read back
abbrev pub header_in : List ℕ → Header
header_in words = record {
  phase = get_or words 0 0;
  number = sequence (get_or words 1 0);
  clock = tick (get_or words 2 0);
  subtree_length = get_or words 3 0;
  count = get_or words 4 0;
}

-- the state that a host lends
abbrev pub hosted_client : Bytes → List ℕ → Bytes → List ℕ → Client
hosted_client bytes lengths subtree header = lent bytes lengths subtree (header_in header)

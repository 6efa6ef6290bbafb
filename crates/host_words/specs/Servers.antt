-- A server's header as words, and a server whose header is lent as words.
use Rattle.std.specs.Prelude.{ℕ, List, [], ◌∷◌, get_or}
use Rattle.base.specs.Bytes.{Bytes}
use Rattle.numbers.specs.Sequences.{sequence}
use Rattle.numbers.specs.Ticks.{tick}
use Rattle.server_state.specs.Views.{lent}
use Rattle.server_state.specs.declared.Header.{Header}
use Rattle.server_state.specs.declared.Server.{Server}

-- the number, the last tick, the last publication, the count of rows
abbrev pub header_words : Header → List ℕ
header_words h = h.number.0 ∷ h.last_tick.0 ∷ h.last_published.0 ∷ h.count ∷ []

-- and read back
abbrev pub header_in : List ℕ → Header
header_in words = record {
  number = sequence (get_or words 0 0);
  last_tick = tick (get_or words 1 0);
  last_published = tick (get_or words 2 0);
  count = get_or words 3 0;
}

-- the state that a host lends
abbrev pub hosted_server : Bytes → List ℕ → List ℕ → List ℕ → Server
hosted_server bytes lengths stamps header = lent bytes lengths stamps (header_in header)

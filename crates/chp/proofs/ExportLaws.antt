-- What an entry promises, its exported call promises: header and answer are those of the entry, as words. A call that changes nothing leaves the header's
-- words as they are. Assumes nothing.
use Prim.Native.Nat.{ℕ}
use mathlib.Core.List.{List}
use mathlib.Core.Path.{◌≡◌, refl, sym, ap, ◌∙◌}
use lib.ListN.{replicate, take}
use Rattle.answers.specs.declared.answer.Answer.{Answer}
use Rattle.base.specs.Bytes.{Bytes}
use Rattle.base.specs.Output.{put}
use Rattle.chp.specs.Exports.{ServerBegan, ServerAnswered, ClientBegan, ClientAnswered}
use Rattle.client_calls.specs.Answers.{answer_for as client_answer}
use Rattle.client_calls.specs.Calls.{Call as ClientCall}
use Rattle.client_calls.specs.Promises.{Began as ClientEntryBegan, Answered as ClientEntryAnswered}
use Rattle.client_calls.specs.Start.{start_answer as client_started}
use Rattle.client_state.specs.Views.{lent as client}
use Rattle.client_state.specs.declared.Header.{Header as ClientHeader}
use Rattle.host_words.proofs.WordLaws.{in_words}
use Rattle.host_words.specs.Answers.{answer_words}
use Rattle.host_words.specs.Clients.{hosted_client, header_in as client_header_in, header_words as client_header_words}
use Rattle.host_words.specs.Servers.{hosted_server, header_in as server_header_in, header_words as server_header_words}
use Rattle.keys.specs.Keys.{key_room}
use Rattle.server_calls.specs.Answers.{answer_for as server_answer}
use Rattle.server_calls.specs.Calls.{Call as ServerCall}
use Rattle.server_calls.specs.Promises.{Began as ServerEntryBegan, Answered as ServerEntryAnswered}
use Rattle.server_calls.specs.Start.{start_answer as server_started}
use Rattle.server_state.specs.Views.{lent as server}
use Rattle.server_state.specs.declared.Header.{Header as ServerHeader}

module _ {a : Answer} {words : List ℕ} (told : words ≡ answer_words a) where
  -- ---- a server
  module _ {bytes : Bytes} {lengths stamps : List ℕ} {h : ServerHeader} where
    pub server-began : {header : List ℕ} (n t : ℕ) → ServerEntryBegan n t (server bytes lengths stamps h) a → header ≡ server_header_words h
        → ServerBegan n t (hosted_server bytes lengths stamps header) words
    server-began {header} n t began put =
        in_words (λ (f f' : ServerHeader) (b : Answer). ServerEntryBegan n t (server bytes lengths stamps f') b) h (server_header_in header) (server_started n t) began refl (sym (ap server_header_in put)) (λ p. p.answer) told

    module _ {bytes' : Bytes} {lengths' stamps' : List ℕ} {h' : ServerHeader} (header : List ℕ) (x : ServerCall) {out out' : Bytes} (read : h ≡ server_header_in header) where
      pub server-asked : ServerEntryAnswered (server bytes lengths stamps h) x out (server bytes' lengths' stamps' h') a out' → (g' : ServerHeader) → h' ≡ g'
          → ServerAnswered (hosted_server bytes lengths stamps header) x out (server bytes' lengths' stamps' g') words out'
      server-asked answered g' e =
          in_words (λ (f f' : ServerHeader) (b : Answer). ServerEntryAnswered (server bytes lengths stamps f) x out (server bytes' lengths' stamps' f') b out') (server_header_in header) g' (server_answer (hosted_server bytes lengths stamps header) x) answered read e (λ p. p.answer) told

      pub server-answered : {header' : List ℕ} → ServerEntryAnswered (server bytes lengths stamps h) x out (server bytes' lengths' stamps' h') a out'
          → header' ≡ server_header_words h' → ServerAnswered (hosted_server bytes lengths stamps header) x out (hosted_server bytes' lengths' stamps' header') words out'
      server-answered {header'} answered put = server-asked answered (server_header_in header') (sym (ap server_header_in put))

  -- ---- a client, in the same way
  module _ {bytes subtree : Bytes} {lengths : List ℕ} {h : ClientHeader} where
    pub client-began : {header : List ℕ} (wanted : Bytes) (t : ℕ) → ClientEntryBegan wanted t (client bytes lengths subtree h) a → header ≡ client_header_words h
        → ClientBegan wanted t (hosted_client bytes lengths subtree header) words
    client-began {header} wanted t began put =
        in_words (λ (f f' : ClientHeader) (b : Answer). ClientEntryBegan wanted t (client bytes lengths subtree f') b) h (client_header_in header) (client_started wanted t) began refl (sym (ap client_header_in put)) (λ p. p.answer) told

    module _ {bytes' : Bytes} {lengths' : List ℕ} {h' : ClientHeader} (header : List ℕ) (x : ClientCall) {out out' : Bytes} (read : h ≡ client_header_in header) where
      pub client-asked : ClientEntryAnswered (client bytes lengths subtree h) x out (client bytes' lengths' subtree h') a out' → (g' : ClientHeader) → h' ≡ g'
          → ClientAnswered (hosted_client bytes lengths subtree header) x out (client bytes' lengths' subtree g') words out'
      client-asked answered g' e =
          in_words (λ (f f' : ClientHeader) (b : Answer). ClientEntryAnswered (client bytes lengths subtree f) x out (client bytes' lengths' subtree f') b out') (client_header_in header) g' (client_answer (hosted_client bytes lengths subtree header) x) answered read e (λ p. p.answer) told

      pub client-answered : {header' : List ℕ} → ClientEntryAnswered (client bytes lengths subtree h) x out (client bytes' lengths' subtree h') a out'
          → header' ≡ client_header_words h' → ClientAnswered (hosted_client bytes lengths subtree header) x out (hosted_client bytes' lengths' subtree header') words out'
      client-answered {header'} answered put = client-asked answered (client_header_in header') (sym (ap client_header_in put))

-- what stands in the array of a subtree, by the header as words
pub padded_as_words : (h : ClientHeader) {subtree : Bytes} {header : List ℕ} → subtree ≡ put (replicate key_room 0) 0 (take h.subtree_length subtree) → header ≡ client_header_words h
    → subtree ≡ put (replicate key_room 0) 0 (take (client_header_in header).subtree_length subtree)
padded_as_words h {subtree} padded header_put =
    padded ∙ ap (λ (f : ClientHeader). put (replicate key_room 0) 0 (take f.subtree_length subtree)) (sym (ap client_header_in header_put))

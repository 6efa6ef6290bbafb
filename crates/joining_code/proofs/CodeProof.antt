-- The code runs as the theorem on joining supposes: states that are reached are well-formed, and on those only the checks of a call refuse. Assumes nothing.
use mathlib.Core.List.{[]}
use mathlib.Core.Option.{Option}
use mathlib.Core.Path.{◌≡◌, sym, ap, subst, ◌∙◌}
use Rattle.answers.specs.Answers.{answer_by}
use Rattle.answers.specs.Refusals.{if_accepted}
use Rattle.answers.specs.declared.answer.Answer.{Answer}
use Rattle.answers.specs.declared.answer.Kind.{Kind}
use Rattle.answers.specs.declared.refusal.Refusal.{Refusal}
use Rattle.base.specs.Bytes.{Bytes}
use Rattle.client_calls.proofs.RunLaws.{reached_well_formed as client-well-formed}
use Rattle.client_calls.specs.Runs.Reached.{began as client-reached-first, called as client-reached-next}
use Rattle.client_calls.specs.Runs.{Reached as ClientReached}
use Rattle.client_calls.proofs.AnswerLaws.{well_refusal as client-refusal}
use Rattle.client_calls.specs.Answers.{accepted_kind as client_kind, answer_for as client_answer_for}
use Rattle.client_calls.specs.Calls.{Call as ClientCall}
use Rattle.client_calls.specs.Next.{accepted_next as client_becomes, next_of as client_next_of}
use Rattle.client_calls.specs.Output.{accepted_bytes as client_writes, bytes_for as client_bytes_for}
use Rattle.client_calls.specs.Promises.{Answered as ClientAnswered}
use Rattle.client_state.specs.Views.{Replica, view as replica}
use Rattle.client_state.specs.declared.Client.{Client}
use Rattle.joining.proofs.JoiningProof.{joining}
use Rattle.joining.specs.Book.{ServerStart}
use Rattle.joining.specs.Ends.{server_start, server_refusal, server_next, server_bytes, server_answer, server_after, ClientStart, client_start, client_refusal, client_next, client_bytes, client_answer, client_after}
use Rattle.joining.specs.Joining.{Joined, joined_at, Follows, held_by}
use Rattle.base.specs.Logs.Log.{empty}
use Rattle.base.specs.Logs.{Log}
use Rattle.joining_code.specs.Code.{Steps, ServerSteps, ClientSteps, Linked}
use Rattle.joining_code.specs.Runs.ClientRan.{began as client-began, called as client-called}
use Rattle.joining_code.specs.Runs.ServerRan.{began as server-began, called as server-called}
use Rattle.joining_code.specs.Runs.{ServerRan, ClientRan}
use Rattle.numbers.specs.declared.sequence.Sequence.{Sequence}
use Rattle.server_calls.proofs.RunLaws.{reached_well_formed as server-well-formed}
use Rattle.server_calls.specs.Runs.Reached.{began as server-reached-first, called as server-reached-next}
use Rattle.server_calls.specs.Runs.{Reached as ServerReached}
use Rattle.server_calls.proofs.AnswerLaws.{well_refusal as server-refusal}
use Rattle.server_calls.specs.Answers.{accepted_kind as server_kind, answer_for as server_answer_for}
use Rattle.server_calls.specs.Calls.{Call as ServerCall}
use Rattle.server_calls.specs.Next.{accepted_next as server_becomes, next_of as server_next_of}
use Rattle.server_calls.specs.Output.{accepted_bytes as server_writes, bytes_for as server_bytes_for}
use Rattle.server_calls.specs.Promises.{Answered as ServerAnswered}
use Rattle.server_state.specs.Views.{Entry, Ledger, view as ledger}
use Rattle.server_state.specs.declared.Server.{Server}

-- ---- either end: what a call comes to, by its refusal
module _ {A : Type 0} (v becomes held : A) (number : Sequence) (kind : Kind) (bytes : Bytes) (given : Answer) (out after : Bytes) where
  abbrev By : Option Refusal → Type 0
  By r = Steps (if_accepted r becomes v) (answer_by r number kind bytes) (if_accepted r bytes []) held given out after

-- ---- a server
server-reached : {p : ServerStart} {S : Log ServerCall} {s : Server} → ServerRan p S s → ServerReached s
server-reached (server-began n t s a b) = server-reached-first n t s a b
server-reached (server-called p S s ran x out s' b out' a) = server-reached-next s x out s' b out' (server-reached ran) a

server-step : (s : Server) → ServerReached s → (x : ServerCall) (out : Bytes) (s' : Server) (b : Answer) (out' : Bytes) → ServerAnswered s x out s' b out'
    → ServerSteps (ledger s) x out s' b out'
unfolding server_answer_for server_answer server_next_of server_next server_bytes_for server_bytes server_refusal ledger
server-step s w x out s' b out' a =
    subst (By (ledger s) (server_becomes (ledger s) x) (ledger s') s.header.number (server_kind (ledger s) x) (server_writes (ledger s) x) b out out')
    (server-refusal s x (server-well-formed w)) (record { answers = a.answer; holds = a.means; output = a.output })

server-holds : {p : ServerStart} {S : Log ServerCall} {s : Server} → ServerRan p S s → ledger s ≡ server_after p S
unfolding server_after server_start
server-holds (server-began n t s a b) = b.means
server-holds (server-called p S s ran x out s' b out' a) =
    (server-step s (server-reached ran) x out s' b out' a).holds ∙ ap (λ (v : Ledger Entry). server_next v x) (server-holds ran)

-- the step of a run that a call makes
pub server_steps : {p : ServerStart} {S : Log ServerCall} {s : Server} → ServerRan p S s → (x : ServerCall) (out : Bytes) (s' : Server) (b : Answer) (out' : Bytes)
    → ServerAnswered s x out s' b out' → ServerSteps (server_after p S) x out s' b out'
server_steps {p} {S} {s} ran x out s' b out' a =
    subst (λ (v : Ledger Entry). ServerSteps v x out s' b out') (server-holds ran) (server-step s (server-reached ran) x out s' b out' a)

-- ---- a client
client-reached : {q : ClientStart} {C : Log ClientCall} {c : Client} → ClientRan q C c → ClientReached c
client-reached (client-began subtree t c a b) = client-reached-first subtree t c a b
client-reached (client-called q C c ran x out c' b out' a) = client-reached-next c x out c' b out' (client-reached ran) a

client-step : (c : Client) → ClientReached c → (x : ClientCall) (out : Bytes) (c' : Client) (b : Answer) (out' : Bytes) → ClientAnswered c x out c' b out'
    → ClientSteps (replica c) x out c' b out'
unfolding client_answer_for client_answer client_next_of client_next client_bytes_for client_bytes client_refusal replica
client-step c w x out c' b out' a =
    subst (By (replica c) (client_becomes (replica c) x) (replica c') c.header.number (client_kind (replica c) x) (client_writes (replica c) x) b out out')
    (client-refusal c x (client-well-formed w)) (record { answers = a.answer; holds = a.means; output = a.output })

client-holds : {q : ClientStart} {C : Log ClientCall} {c : Client} → ClientRan q C c → replica c ≡ client_after q C
unfolding client_after client_start
client-holds (client-began subtree t c a b) = b.means
client-holds (client-called q C c ran x out c' b out' a) =
    (client-step c (client-reached ran) x out c' b out' a).holds ∙ ap (λ (v : Replica). client_next v x) (client-holds ran)

pub client_steps : {q : ClientStart} {C : Log ClientCall} {c : Client} → ClientRan q C c → (x : ClientCall) (out : Bytes) (c' : Client) (b : Answer) (out' : Bytes)
    → ClientAnswered c x out c' b out' → ClientSteps (client_after q C) x out c' b out'
client_steps {q} {C} {c} ran x out c' b out' a =
    subst (λ (v : Replica). ClientSteps v x out c' b out') (client-holds ran) (client-step c (client-reached ran) x out c' b out' a)

-- ---- both
pub linked : Linked
linked p S s q C c ran ran' =
    let holds = server-holds ran in
    let holds' = client-holds ran' in
    let theorem = joining p S in
    record {
      server = holds;
      server_steps = server_steps ran;
      client = holds';
      client_steps = client_steps ran';
      number = ap (λ (v : Ledger Entry). v.number) holds ∙ theorem.number;
      map = ap held_by holds ∙ theorem.map;
      follows = λ (j : Joined p S q C).
          subst (λ (v : Replica). Follows p S v (joined_at j) j.taken.later) (sym holds') (theorem.follows q C empty j j.taken.later j.taken.took);
    }

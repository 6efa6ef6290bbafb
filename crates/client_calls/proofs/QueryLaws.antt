-- Laws of the calls that leave the state as it is: the writers, asking and lookup. Assumes nothing.
use Prim.Native.Nat.{ℕ, ◌+◌, ◌≤◌, ◌<◌}
use native.Mathlib.Omega.{arith}
use mathlib.Core.Bool.{Bool, true, false}
use mathlib.Core.List.{List, [], ◌∷◌, ◌++◌, append_assoc}
use mathlib.Core.Option.{Option, none, some}
use mathlib.Core.Path.{◌≡◌, refl, sym, ap, ◌∙◌}
use lib.Dec.{leb, ltb}
use lib.ListN.{length}
use borrow.Author.Tests.{lt-ltb, le-ltb, ne_eqb, leb-true, leb-false}
use Rattle.std.specs.Prelude.{Result, Ok, Err}
use Rattle.answers.specs.Answers.{answer}
use Rattle.answers.specs.Refusals.{verdict}
use Rattle.answers.specs.declared.answer.Answer.{Answer}
use Rattle.answers.specs.declared.answer.Kind.TheVariants.{Refused}
use Rattle.answers.specs.declared.answer.Kind.{Kind}
use Rattle.answers.specs.declared.refusal.Refusal.TheVariants.{ShortOutput}
use Rattle.answers.specs.declared.refusal.Refusal.{Refusal}
use Rattle.base.proofs.CheckLaws.{pass_all, stop_all}
use Rattle.base.proofs.OutputLaws.{place, output}
use Rattle.base.specs.Bytes.{Bytes}
use Rattle.base.specs.Checks.Check.{when}
use Rattle.base.specs.Checks.{Check, first_refusal}
use Rattle.base.specs.Output.{put, Written}
use Rattle.client_calls.proofs.AnswerLaws.{refused_call, accepted_call}
use Rattle.client_calls.specs.Answers.{accepted_kind}
use Rattle.client_calls.specs.Calls.{Call}
use Rattle.client_calls.specs.Next.{accepted_next}
use Rattle.client_calls.specs.Output.{accepted_bytes}
use Rattle.client_calls.specs.Promises.{Answered}
use Rattle.client_calls.specs.Refusals.{call_checks, refusal_of}
use Rattle.client_calls.specs.Written.{written_of}
use Rattle.client_state.specs.IllFormed.{ill_forms}
use Rattle.client_state.specs.Views.{view}
use Rattle.client_state.specs.declared.Client.{Client}

-- ---- checks behind those of the state
-- a verdict, and that of what is checked only where it accepts
abbrev pub if_passed : Result (Unit {0}) Refusal → Result (Unit {0}) Refusal → Result (Unit {0}) Refusal
if_passed (Ok u) behind = behind
if_passed (Err r) behind = Err r

pub verdict_behind : (a b : List (Check Refusal)) → verdict (first_refusal (a ++ b)) ≡ if_passed (verdict (first_refusal a)) (verdict (first_refusal b))
verdict_behind a b = go (first_refusal a) refl
  where
    go : (x : Option Refusal) → first_refusal a ≡ x → verdict (first_refusal (a ++ b)) ≡ if_passed (verdict x) (verdict (first_refusal b))
    go none e = ap verdict (pass_all a b e)
    go (some r) e = ap verdict (stop_all a b r e)

-- ---- a call that is refused, or accepted
module _ (c : Client) (x : Call) {a : Answer} where
  pub query_refused : (out : Bytes) {r : Refusal} → refusal_of c x ≡ some r → a ≡ answer (Refused r c.header.number) 0 → Answered c x out c a out
  query_refused out {r} e told = refused_call c x out c a r e refl told

  pub query_accepted : (out out' : Bytes) → refusal_of c x ≡ none → accepted_next (view c) x ≡ view c → a ≡ answer (accepted_kind (view c) x) (length (accepted_bytes (view c) x))
      → out' ≡ put out 0 (accepted_bytes (view c) x) → Answered c x out c a out'
  query_accepted out out' e next told written = accepted_call c x out c a out' e told (sym next) written (λ w. w)

-- ---- a call that puts bytes into the output, once it has passed the checks before that of the output
-- the call x: its checks between those of the state and that of the output, the bytes, which are not none, and the kind
-- of its answer
pub record Puts (c : Client) (x : Call) (checks : List (Check Refusal)) (xs : Bytes) (room : ℕ) (kind : Kind) : Type 0 where
  pub table : call_checks (view c) x ≡ checks ++ (when (ltb room (length xs)) ShortOutput ∷ [])
  pub next : accepted_next (view c) x ≡ view c
  pub bytes : accepted_bytes (view c) x ≡ xs
  pub kind_is : accepted_kind (view c) x ≡ kind
  pub some_bytes : 0 < length xs

module _ (c : Client) (x : Call) (checks : List (Check Refusal)) (xs out : Bytes) (kind : Kind) (p : Puts c x checks xs (length out) kind) where
  abbrev last : List (Check Refusal)
  last = when (ltb (length out) (length xs)) ShortOutput ∷ []

  whole : refusal_of c x ≡ first_refusal ((ill_forms c ++ checks) ++ last)
  unfolding refusal_of
  whole =
      ap (λ (table : List (Check Refusal)). first_refusal (ill_forms c ++ table)) p.table
      ∙ ap first_refusal (sym (append_assoc (ill_forms c) checks last))

  pub put_refused : {a : Answer} {r : Refusal} → first_refusal (ill_forms c ++ checks) ≡ some r → a ≡ answer (Refused r c.header.number) 0 → Answered c x out c a out
  put_refused {a} {r} e told = query_refused c x out (whole ∙ stop_all (ill_forms c ++ checks) last r e) told

  pub put_done : {a : Answer} → first_refusal (ill_forms c ++ checks) ≡ none → {i : ℕ} {out' : Bytes} → Written out 0 xs i out' → a ≡ written_of kind c.header.number i → Answered c x out c a out'
  unfolding first_refusal
  put_done {a} e {i} {out'} put_in told = go (leb (0 + length xs) (length out)) refl
    where
      behind : refusal_of c x ≡ first_refusal last
      behind = whole ∙ pass_all (ill_forms c ++ checks) last e

      go : (t : Bool) → leb (0 + length xs) (length out) ≡ t → Answered c x out c a out'
      go true h =
          let f : 0 + length xs ≤ length out = leb-true (0 + length xs) (length out) h in
          let n : i ≡ length xs = omega (arith, place put_in f) in
          query_accepted c x out out' (behind ∙ rw (le-ltb (length out) (length xs) (omega arith))) p.next
          (told ∙ rw (n, ne_eqb (length xs) 0 (λ q. omega (arith, p.some_bytes)), p.kind_is, p.bytes)) (output put_in f ∙ ap (put out 0) (sym p.bytes))
      go false h =
          let f : length out < 0 + length xs = leb-false (0 + length xs) (length out) h in
          let n : i ≡ 0 = rw h at put_in.next in
          let o : out ≡ out' = sym (rw h at put_in.out) in
          rw (← o) (query_refused c x out {r = ShortOutput} (behind ∙ rw (lt-ltb (length out) (length xs) (omega arith))) (told ∙ rw n))

-- A state without rows is well-formed, and its ledger is empty. Assumes nothing.
use Rattle.std.specs.Prelude.{Result, Ok, Err}
use Prim.Native.Nat.{ℕ, ◌≤◌}
use native.Mathlib.Omega.{arith}
use mathlib.Core.List.{List, zip_with}
use mathlib.Core.Path.{◌≡◌, refl, sym, ◌∙◌}
use borrow.Author.Tests.{leb-true, not-false}
use Rattle.answers.proofs.VerdictLaws.{accepted, refused}
use Rattle.answers.specs.Answers.{answer}
use Rattle.answers.specs.Refusals.{verdict}
use Rattle.answers.specs.declared.answer.Answer.{Answer}
use Rattle.answers.specs.declared.answer.Kind.TheVariants.{Refused, Started}
use Rattle.answers.specs.declared.refusal.Refusal.{Refusal}
use Rattle.base.proofs.CheckLaws.{passed}
use Rattle.base.specs.Bytes.{Bytes, every}
use Rattle.base.specs.Checks.{first_refusal}
use Rattle.cells.specs.Cells.{cells}
use Rattle.numbers.specs.Sequences.{sequence, max_sequence}
use Rattle.numbers.specs.Ticks.{max_tick}
use Rattle.row_cells.proofs.FaultLaws.{no_rows}
use Rattle.row_cells.specs.Texts.{keys_of, rows_of}
use Rattle.server_calls.specs.Promises.{Began}
use Rattle.server_calls.specs.Start.{start_checks, start_refusal, start_of, start_answer, empty_at}
use Rattle.server_start.specs.Headers.{header_at}
use Rattle.server_state.proofs.FormLaws.{GoodServer, server_good}
use Rattle.server_state.specs.Views.{lent, view, entry_list}
use Rattle.server_state.specs.declared.Header.{Header}

module _ (bytes : Bytes) (lengths stamps : List ℕ) where
  module _ (n t : ℕ) where
    empty-view : view (lent bytes lengths stamps (header_at n t)) ≡ empty_at n t
    unfolding view keys_of rows_of cells entry_list zip_with
    empty-view = refl

    empty_good : n ≤ max_sequence → t ≤ max_tick → GoodServer (lent bytes lengths stamps (header_at n t))
    unfolding cells every
    empty_good a b = record { rows = no_rows 0 bytes lengths refl; are_stamped = refl; number = a; published = omega arith; tick = b }

  -- a start, by what its checks come to
  module _ (n t : ℕ) {found : Result (Unit {0}) Refusal} (e : found ≡ verdict (first_refusal (start_checks n t))) {h : Header} {a : Answer} where
    pub start-refused : {r : Refusal} → found ≡ Err r → h ≡ header_at 0 0 → a ≡ answer (Refused r (sequence 0)) 0 → Began n t (lent bytes lengths stamps h) a
    unfolding start_answer start_of start_refusal
    start-refused {r} f header_is told =
        let q = refused r (first_refusal (start_checks n t)) (sym f ∙ e) in
        record {
          answer = told ∙ rw q;
          means = rw (header_is, q) (empty-view 0 0);
          well_formed = rw header_is (server_good (lent bytes lengths stamps (header_at 0 0)) (empty_good 0 0 (omega arith) (omega arith)));
        }

    pub start-accepted : found ≡ Ok tt → h ≡ header_at n t → a ≡ answer (Started (sequence n)) 0 → Began n t (lent bytes lengths stamps h) a
    unfolding start_answer start_of start_refusal
    start-accepted f header_is told =
        let q = accepted (first_refusal (start_checks n t)) (sym f ∙ e) in
        record {
          answer = told ∙ rw q;
          means = rw (header_is, q) (empty-view n t);
          well_formed = rw header_is (server_good (lent bytes lengths stamps (header_at n t)) (empty_good n t (leb-true n max_sequence (not-false _ (passed 0 (start_checks n t) q))) (leb-true t max_tick (not-false _ (passed 1 (start_checks n t) q)))));
        }

-- A client that waits and has no rows is well-formed, and its replica is empty. Assumes nothing.
use Prim.Native.Nat.{ℕ, ◌+◌, ◌≤◌}
use native.Mathlib.Omega.{arith}
use mathlib.Core.Bool.{true}
use mathlib.Core.List.{[], zip_with, append-nil}
use mathlib.Core.Path.{◌≡◌, refl, sym, ap, ◌∙◌}
use lib.ListN.{length, take}
use borrow.Author.Tests.{leb-true, not-false}
use Rattle.std.specs.Prelude.{Ok, Err}
use Rattle.answers.proofs.VerdictLaws.{accepted, refused}
use Rattle.answers.specs.Answers.{answer}
use Rattle.answers.specs.Refusals.{verdict}
use Rattle.answers.specs.declared.answer.Answer.{Answer}
use Rattle.answers.specs.declared.answer.Kind.TheVariants.{Refused, Started}
use Rattle.answers.specs.declared.refusal.Refusal.{Refusal}
use Rattle.base.proofs.CheckLaws.{passed}
use Rattle.base.proofs.OutputLaws.{place, output}
use Rattle.base.specs.Bytes.{Bytes, every}
use Rattle.base.specs.Checks.{first_refusal}
use Rattle.base.specs.Output.{put, Written}
use Rattle.cells.specs.Cells.{cells}
use Rattle.client_calls.specs.Promises.{Began}
use Rattle.client_calls.specs.Start.{start_checks, start_refusal, start_of, start_answer, waiting_at}
use Rattle.client_start.specs.Waiting.{waiting_header}
use Rattle.client_state.proofs.FormLaws.{client_good}
use Rattle.client_state.specs.IllFormed.{WellFormed}
use Rattle.client_state.specs.Views.{subtree_of, view}
use Rattle.client_state.specs.declared.Client.{Client}
use Rattle.keys.proofs.KeyLaws.{subtree-empty}
use Rattle.keys.proofs.UnderLaws.{subtree-short}
use Rattle.keys.specs.Keys.{key_room, is_subtree}
use Rattle.numbers.specs.Sequences.{sequence}
use Rattle.numbers.specs.Ticks.{max_tick}
use Rattle.row_cells.proofs.FaultLaws.{no_rows}
use Rattle.row_cells.proofs.TextLaws.{written_front}
use Rattle.row_cells.specs.Texts.{keys_of, values_of, rows_of}

-- c waits for a subtree from tick t on
pub record Waits (subtree : Bytes) (t : ℕ) (c : Client) : Type 0 where
  pub header : c.header ≡ waiting_header t (length subtree)
  pub subtree_is : subtree_of c ≡ subtree

module _ (subtree : Bytes) (t : ℕ) (c : Client) (w : Waits subtree t c) where
  waiting_view : view c ≡ waiting_at subtree t
  unfolding view keys_of values_of rows_of cells zip_with
  waiting_view = rw (w.subtree_is, w.header)

  none_held : c.header.count ≡ 0
  none_held = rw w.header

  waiting_good : is_subtree subtree ≡ true → t ≤ max_tick → WellFormed c
  unfolding keys_of cells every zip_with
  waiting_good s h =
      client_good c
      (record {
        rows = no_rows c.header.count c.bytes c.lengths none_held;
        fits = rw w.header (subtree-short subtree s);
        is-subtree = rw w.subtree_is s;
        are_under = rw none_held refl;
        header = rw w.header (record { number = omega arith; clock = h; waits = refl });
      })

-- an array that holds a client's subtree at its front holds what the client has for its subtree
pub padded : {subtree : Bytes} {t : ℕ} {c : Client} → Waits subtree t c → (d : Bytes) → c.subtree ≡ put d 0 subtree → c.subtree ≡ put d 0 (subtree_of c)
padded w d e = e ∙ ap (put d 0) (sym w.subtree_is)

module _ (subtree : Bytes) (t : ℕ) where
  known : Ok tt ≡ verdict (first_refusal (start_checks subtree t)) → is_subtree subtree ≡ true
  known e = not-false _ (passed 0 (start_checks subtree t) (accepted (first_refusal (start_checks subtree t)) e))

  -- a subtree that is accepted fits its array, of which it is then the front
  pub placed : Ok tt ≡ verdict (first_refusal (start_checks subtree t)) → (d : Bytes) → length d ≡ key_room → {i : ℕ} {o : Bytes} → Written d 0 subtree i o
      → (i ≡ length subtree) × (take i o ≡ subtree)
  placed e d z {i} {o} w =
      let s = subtree-short subtree (known e) in
      let f : 0 + length subtree ≤ length d = omega arith in
      let n : i ≡ length subtree = omega (arith, place w f) in
      (n, ap (take i) (sym (append-nil o)) ∙ written_front d subtree [] (omega arith) w n)

  pub filled : Ok tt ≡ verdict (first_refusal (start_checks subtree t)) → (d : Bytes) → length d ≡ key_room → {i : ℕ} {o : Bytes} → Written d 0 subtree i o → o ≡ put d 0 subtree
  filled e d z w =
      let s = subtree-short subtree (known e) in
      let f : 0 + length subtree ≤ length d = omega arith in
      output w f

  module _ (c : Client) (a : Answer) where
    pub begun : Ok tt ≡ verdict (first_refusal (start_checks subtree t)) → Waits subtree t c → a ≡ answer (Started (sequence 0)) 0 → Began subtree t c a
    unfolding start_of start_answer start_refusal
    begun e w told =
        let n = accepted (first_refusal (start_checks subtree t)) e in
        record {
          answer = rw n told;
          means = rw n (waiting_view subtree t c w);
          well_formed = waiting_good subtree t c w (known e) (leb-true t max_tick (not-false _ (passed 1 (start_checks subtree t) n)));
        }

    pub not_begun : (reason : Refusal) → Err reason ≡ verdict (first_refusal (start_checks subtree t)) → Waits [] 0 c → a ≡ answer (Refused reason (sequence 0)) 0 → Began subtree t c a
    unfolding start_of start_answer start_refusal
    not_begun reason e w told =
        let n = refused reason (first_refusal (start_checks subtree t)) e in
        record {
          answer = rw n told;
          means = rw n (waiting_view [] 0 c w);
          well_formed = waiting_good [] 0 c w (subtree-empty [] refl) (omega arith);
        }

-- What a well-formed state is known to have, and what is to be shown of one. Assumes nothing.
use Prim.Native.Nat.{ℕ, ◌+◌, ◌≤◌, ◌<◌}
use native.Mathlib.Numerals.{add-one}
use native.Mathlib.Omega.{arith}
use mathlib.Core.Bool.{Bool, true, false, not, ◌&&◌}
use mathlib.Core.List.{List, []}
use mathlib.Core.Path.{◌≡◌, refl, sym, ap, ◌∙◌}
use mathlib.Core.Option.{none}
use lib.Dec.{leb, ltb}
use lib.ListN.{length, get_or, take}
use borrow.Author.Tests.{le-ltb, ltb-true, ltb-false, le-leb, lt-leb, leb-true, not-false}
use Rattle.base.proofs.ByteLaws.{and_left, and_right}
use Rattle.base.proofs.CheckLaws.{passed, pass_all, both_passed}
use Rattle.base.specs.Bytes.{every}
use Rattle.base.specs.Checks.{first_refusal}
use Rattle.cells.specs.Cells.{cells}
use Rattle.numbers.specs.Sequences.{max_sequence}
use Rattle.numbers.specs.Ticks.{max_tick}
use Rattle.row_cells.proofs.FaultLaws.{good_rows, rows_good}
use Rattle.row_cells.specs.Faults.{row_faults, GoodRows}
use Rattle.row_checks.proofs.PassLaws.{every_more}
use Rattle.server_state.specs.IllFormed.{ill_forms, stamp_faults, stamped, WellFormed}
use Rattle.server_state.specs.Stamps.{stamp_count, stamp_number, stamp_expiry, is_expiry}
use Rattle.server_state.specs.declared.Server.{Server}

pub record GoodServer (s : Server) : Type 0 where
  pub rows : GoodRows s.header.count s.bytes s.lengths
  pub are_stamped : every (stamped s.header.number.0) (cells stamp_count s.header.count s.stamps) ≡ true
  pub number : s.header.number.0 ≤ max_sequence
  pub published : s.header.last_published.0 ≤ s.header.last_tick.0
  pub tick : s.header.last_tick.0 ≤ max_tick

pub good_server : (s : Server) → WellFormed s → GoodServer s
unfolding ill_forms
good_server s e =
    let h = s.header in
    let faults = stamp_faults s.stamps h in
    let both = both_passed (row_faults h.count s.bytes s.lengths) faults e in
    record {
      rows = good_rows h.count s.bytes s.lengths both.0;
      are_stamped = not-false _ (passed 0 faults both.1);
      number = leb-true h.number.0 max_sequence (not-false _ (passed 1 faults both.1));
      published = ltb-false h.last_tick.0 h.last_published.0 (passed 2 faults both.1);
      tick = leb-true h.last_tick.0 max_tick (not-false _ (passed 3 faults both.1));
    }

stamps_good : (s : Server) → GoodServer s → first_refusal (stamp_faults s.stamps s.header) ≡ none
unfolding first_refusal
stamps_good s g =
    let h = s.header in
    rw (g.are_stamped, le-leb h.number.0 max_sequence g.number, le-ltb h.last_tick.0 h.last_published.0 g.published, le-leb h.last_tick.0 max_tick g.tick)

pub server_good : (s : Server) → GoodServer s → WellFormed s
unfolding ill_forms
server_good s g =
    let h = s.header in
    pass_all (row_faults h.count s.bytes s.lengths) (stamp_faults s.stamps h) (rows_good h.count s.bytes s.lengths g.rows) ∙ stamps_good s g

-- a row of a state is one of a state of a higher number
pub stamped_higher : (m n : ℕ) → m ≤ n → (c : List ℕ) → stamped m c ≡ true → stamped n c ≡ true
stamped_higher m n h c e =
    let a = leb-true (stamp_number c) m (and_left (leb (stamp_number c) m) (is_expiry (stamp_expiry c)) e) in
    rw (le-leb (stamp_number c) n (omega arith), and_right (leb (stamp_number c) m) (is_expiry (stamp_expiry c)) e)

-- ---- a flag, after the stamps of one row more
not_above : (a b : ℕ) → not (ltb a b) ≡ leb b a
not_above a b = go (ltb a b) refl
  where
    go : (t : Bool) → ltb a b ≡ t → not t ≡ leb b a
    go true e = sym (lt-leb b a (ltb-true a b e))
    go false e = sym (le-leb b a (ltb-false a b e))

pub stamped-more : (n : ℕ) (cs : List (List ℕ)) (i : ℕ) (good : Bool) (cell : List ℕ) {above lasts : Bool} → get_or cs i [] ≡ cell → i < length cs → good ≡ every (stamped n) (take i cs)
    → above ≡ ltb n (stamp_number cell) → lasts ≡ is_expiry (stamp_expiry cell) → (good && (not above && lasts)) ≡ every (stamped n) (take (i + 1) cs)
stamped-more n cs i good cell own h e above-is lasts-is =
    rw (above-is, lasts-is, not_above n (stamp_number cell))
    (ap (λ (b : Bool). b && stamped n cell) e
    ∙ ap (λ (c : List ℕ). every (stamped n) (take i cs) && stamped n c) (sym own)
    ∙ sym (rw add-one (every_more (stamped n) cs i [] h)))

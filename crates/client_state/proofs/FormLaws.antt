-- What a well-formed state is known to have, and what is to be shown of one. Assumes nothing.
use Prim.Native.Nat.{◌≤◌}
use mathlib.Core.Bool.{true, false, not, ◌&&◌}
use mathlib.Core.List.{◌++◌}
use mathlib.Core.Option.{none}
use mathlib.Core.Path.{◌≡◌, ◌∙◌}
use lib.Dec.{eqb}
use borrow.Author.Tests.{le-ltb, ltb-false, le-leb, leb-true, not-false}
use Rattle.base.proofs.CheckLaws.{passed, pass_all, both_passed}
use Rattle.base.specs.Bytes.{every}
use Rattle.base.specs.Checks.{first_refusal}
use Rattle.client_state.specs.IllFormed.{header_faults, subtree_faults, ill_forms, WellFormed}
use Rattle.client_state.specs.Views.{is_waiting, subtree_of, key_list}
use Rattle.client_state.specs.declared.Client.{Client}
use Rattle.client_state.specs.declared.Header.{Header}
use Rattle.keys.specs.Keys.{key_room, is_subtree, under}
use Rattle.numbers.specs.Sequences.{max_sequence}
use Rattle.numbers.specs.Ticks.{max_tick}
use Rattle.row_cells.proofs.FaultLaws.{good_rows, rows_good}
use Rattle.row_cells.specs.Faults.{row_faults, GoodRows}

-- ---- a header in range
pub record GoodHeader (h : Header) : Type 0 where
  pub number : h.number.0 ≤ max_sequence
  pub clock : h.clock.0 ≤ max_tick
  pub waits : (is_waiting h.phase && not (eqb h.number.0 0)) ≡ false

good_header : (h : Header) → first_refusal (header_faults h) ≡ none → GoodHeader h
good_header h e =
    let faults = header_faults h in
    record {
      number = leb-true h.number.0 max_sequence (not-false _ (passed 0 faults e));
      clock = leb-true h.clock.0 max_tick (not-false _ (passed 1 faults e));
      waits = passed 2 faults e;
    }

header_good : (h : Header) → GoodHeader h → first_refusal (header_faults h) ≡ none
unfolding first_refusal
header_good h g = rw (le-leb h.number.0 max_sequence g.number, le-leb h.clock.0 max_tick g.clock, g.waits)

-- ---- a state
pub record GoodClient (c : Client) : Type 0 where
  pub rows : GoodRows c.header.count c.bytes c.lengths
  pub fits : c.header.subtree_length ≤ key_room
  pub is-subtree : is_subtree (subtree_of c) ≡ true
  pub are_under : every (under (subtree_of c)) (key_list c) ≡ true
  pub header : GoodHeader c.header

pub good_client : (c : Client) → WellFormed c → GoodClient c
unfolding ill_forms
good_client c e =
    let h = c.header in
    let faults = subtree_faults c in
    let a = both_passed (row_faults h.count c.bytes c.lengths) (faults ++ header_faults h) e in
    let b = both_passed faults (header_faults h) a.1 in
    record {
      rows = good_rows h.count c.bytes c.lengths a.0;
      fits = ltb-false key_room h.subtree_length (passed 0 faults b.0);
      is-subtree = not-false _ (passed 1 faults b.0);
      are_under = not-false _ (passed 2 faults b.0);
      header = good_header h b.1;
    }

subtree_good : (c : Client) → GoodClient c → first_refusal (subtree_faults c) ≡ none
unfolding first_refusal
subtree_good c g = rw (le-ltb key_room c.header.subtree_length g.fits, g.is-subtree, g.are_under)

pub client_good : (c : Client) → GoodClient c → WellFormed c
unfolding ill_forms
client_good c g =
    let h = c.header in
    pass_all (row_faults h.count c.bytes c.lengths) (subtree_faults c ++ header_faults h) (rows_good h.count c.bytes c.lengths g.rows)
    ∙ pass_all (subtree_faults c) (header_faults h) (subtree_good c g)
    ∙ header_good h g.header

-- Without one of its suppositions joining fails: computed. Assumes nothing.
use Prim.Native.Nat.{ℕ}
use native.Mathlib.Bridge.{le_by_compare, IsLe}
use native.Mathlib.Omega.{arith}
use mathlib.Core.List.{[], ◌∷◌}
use mathlib.Core.Logic.{inl, inr}
use mathlib.Core.Path.{◌≡◌, refl, ap}
use lib.ListN.{length, get_or}
use Rattle.base.specs.Bytes.{Bytes}
use Rattle.joining.specs.Ends.{published}
use Rattle.joining.specs.Joining.{NoGap}
use Rattle.base.specs.Logs.Log.{empty, ◌▷◌}
use Rattle.base.specs.Logs.{Log, Among}
use Rattle.joining_witness.proofs.Computed.{computed}
use Rattle.joining_witness.proofs.GapTests.{are_among, not_among, no_gap}
use Rattle.joining_witness.specs.Needed.{kvpub_a, kvpub_b, sets, two_sets, skips, foreign, strays, key_a, asked_twice, mixes, NeededGap, NeededOwn, NeededWhole}
use Rattle.joining_witness.specs.Session.{first_request, opens, first_start}
use Rattle.messages.specs.Fields.{bytes_of, kvpub}
use Rattle.rows.specs.Rows.{Rows}

-- what is published
abbrev all : Log Bytes
all = empty ▷ kvpub_a ▷ kvpub_b

publishes : published opens two_sets ≡ all
unfolding computed
publishes = refl

-- the last byte of the value under the only key, which tells `cut` from `new`
abbrev last_byte : Rows Bytes → ℕ
last_byte [] = 0
last_byte (r ∷ rows) = get_or r.1 2 0

-- ---- a gap
-- the first KVPUB is between, and was not heard
gap : NoGap opens two_sets first_start skips → ⊥
unfolding computed IsLe
gap g = g.1 kvpub_b refl refl (le_by_compare 1 2 tt) kvpub_a (inr (inl refl)) refl refl (le_by_compare 1 1 tt) (le_by_compare 2 2 tt)

pub needed-gap : NeededGap
unfolding computed
needed-gap = record {
  took = record {
    before = empty;
    request = first_request;
    room = 521;
    after = sets;
    asked = refl;
    granted = refl;
    later = empty ▷ kvpub_b;
    took = refl;
    own = are_among (empty ▷ kvpub_b) all refl;
  };
  later = refl;
  gap = gap;
  live = refl;
  number = refl;
  rows = refl;
  map = refl;
  wrong = λ e. let z : ◌≡◌ {A = ℕ} 1 2 = ap length e in absurd (omega arith);
}

-- ---- a message of another server
not_own : Among foreign (published opens two_sets) → ⊥
unfolding computed
not_own = not_among foreign all refl

pub needed-own : NeededOwn
unfolding computed
needed-own = record {
  asked = refl;
  granted = refl;
  took = refl;
  not_own = not_own;
  no_gap = no_gap opens two_sets all publishes first_start strays refl;
  live = refl;
  number = refl;
  rows = refl;
  map = refl;
  wrong = λ e. let z : ◌≡◌ {A = ℕ} 119 116 = ap last_byte e in absurd (omega arith);
}

-- ---- two answers
abbrev removal_a : Bytes
removal_a = bytes_of (kvpub 2 key_a [] [] [])

pub needed-whole : NeededWhole
unfolding computed
needed-whole = record {
  first_answer = refl;
  second-answer = refl;
  accepts = refl;
  no_gap = no_gap opens asked_twice (empty ▷ kvpub_a ▷ removal_a) refl first_start mixes refl;
  live = refl;
  number = refl;
  rows = refl;
  map = refl;
  wrong = λ e. let z : ◌≡◌ {A = ℕ} 1 0 = ap length e in absurd (omega arith);
}

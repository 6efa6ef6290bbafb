-- `chp::layout::chp_layout_marks` meets its contract: the value's marks are written over the key's from the value's place on. Assumes nothing.
use Prim.Native.Nat.{ℕ}
use mathlib.Core.List.{◌++◌}
use mathlib.Core.Path.{◌≡◌, refl, ◌∙◌}
use lib.ListN.{replicate}
use Rattle.base.specs.Output.{put}
use Rattle.chp.proofs.layout.chp_layout_marks.Goals as goal

cell : put {A = ℕ} (replicate 352 1) 96 (replicate 256 2) ≡ replicate 96 1 ++ replicate 256 2
unfolding put
cell = refl

pub returns : goal.returns
returns c = record {
  rows = refl;
  marks = record {
    of_cell = c.put_bytes.ensures.out ∙ cell;
    of_lengths = refl;
    of_stamps = refl;
    of_server = refl;
    of_subtree = refl;
    of_client = refl;
    of_answer = refl;
  };
}

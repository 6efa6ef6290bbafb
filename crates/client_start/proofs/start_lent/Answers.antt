-- `client_start::start_lent` meets its contract: the arrays are filled with zeros, and the subtree is put to the front
-- of its own. A start that is refused puts nothing there, and begins at tick 0. Assumes nothing.
use Prim.Native.Nat.{ℕ}
use mathlib.Core.List.{[]}
use mathlib.Core.Path.{◌≡◌, refl, sym, ap, ◌∙◌}
use lib.ListN.{replicate}
use Rattle.base.specs.Output.{put}
use Rattle.client_start.proofs.StartLaws.{Waits, placed, filled, padded, begun, not_begun}
use Rattle.client_start.specs.Waiting.{waiting_header}
use Rattle.client_start.proofs.start_lent.Goals as goal

blank : replicate {A = ℕ} 96 0 ≡ put (replicate 96 0) 0 []
unfolding put
blank = refl

-- what is refused
pub returns-in-Err : goal.returns-in-Err
returns-in-Err c =
    let a = c.args in
    let h = c.refused.ensures.0 ∙ c.waiting.ensures in
    let w : Waits [] 0 _ = record { header = h; subtree_is = rw h refl } in record {
      begins =
          not_begun a.wanted.now a.tick.0 _ _ _ (sym c.in-Err.is ∙ c.check_start.ensures)
          w
          (c.refused.ensures.1 ∙ rw c.waiting.ensures);
      zeroed = (refl, refl);
      padded = padded w (replicate 96 0) blank;
    }

-- what is accepted
pub returns-in-Ok : goal.returns-in-Ok
returns-in-Ok c =
    let a = c.args in
    let e = sym c.in-Ok.is ∙ c.check_start.ensures in
    let p = placed a.wanted.now a.tick.0 e _ refl c.put_bytes-length.ensures in
    let h = c.accepted.ensures.0 ∙ c.waiting-in-Ok.ensures in
    let w : Waits a.wanted.now a.tick.0 _ = record { header = h ∙ ap (waiting_header a.tick.0) p.0; subtree_is = rw h p.1 } in
    record {
      begins = begun a.wanted.now a.tick.0 _ _ e w c.accepted.ensures.1;
      zeroed = (refl, refl);
      padded = padded w (replicate 96 0) (filled a.wanted.now a.tick.0 e _ refl c.put_bytes-length.ensures);
    }

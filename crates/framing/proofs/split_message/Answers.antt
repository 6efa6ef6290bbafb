-- `framing::split_message` meets its contract: what is known of the message behind each frame (`Passed`) goes on from
-- frame to frame. Assumes nothing.
use Prim.Native.Nat.{◌+◌, ◌≤◌}
use native.Mathlib.Omega.{arith}
use mathlib.Core.Bool.{Bool, true, false}
use mathlib.Core.Path.{◌≡◌, refl, sym, ◌∙◌}
use lib.ListN.{length}
use Rattle.frame_reader.specs.Places.{step_at}
use Rattle.frames.specs.Steps.{found}
use Rattle.framing.proofs.SplitLaws.{passed-more, lies, stopped_broken, stopped_last, stopped_surplus}
use Rattle.framing.proofs.split_message.Goals as goal
use Rattle.framing.proofs.split_message.Goals.{In-Some}

told : (c : In-Some) (more : Bool) → c.in-Some.field-0.more ≡ more
    → found c.in-Some.field-0.start c.in-Some.field-0.len more ≡ step_at c.args.msg.now c.loop-start.at
told c more e = rw e at (sym c.in-Some.is ∙ c.frame_at.ensures)

within : (c : In-Some)
    → (2 ≤ c.in-Some.field-0.start) × (c.loop-start.at + (c.in-Some.field-0.start + c.in-Some.field-0.len) ≤ length c.args.msg.now)
within c = lies c.args.msg.now _ _ _ c.loop-start.invariant _ _ _ (told c _ refl)

pub overflow_add-at : goal.overflow_add-at
overflow_add-at c = omega (arith, within c)

pub overflow_add-at-in-Some : goal.overflow_add-at-in-Some
overflow_add-at-in-Some c = omega (arith, within ((goal.at.overflow_add-at-in-Some c).In-Some))

pub overflow_add-at-in-Some-2 : goal.overflow_add-at-in-Some-2
overflow_add-at-in-Some-2 c = omega (arith, within ((goal.at.overflow_add-at-in-Some-2 c).In-Some))

pub returns-then-at-msg : goal.returns-then-at-msg
returns-then-at-msg c =
    stopped_surplus _ _ _ _ c.loop-start.invariant _ _ (told ((goal.at.returns-then-at-msg c).In-Some) false c.if-not-more.true) c.if-at-msg.true

pub returns-then-not-more : goal.returns-then-not-more
returns-then-not-more c =
    rw c.note-places.ensures
    (stopped_last _ _ _ _ c.loop-start.invariant _ _ (told ((goal.at.returns-then-not-more c).In-Some) false c.if-not-more.true) c.if-at-msg.false)

pub loop-start-smaller : goal.loop-start-smaller
loop-start-smaller c = omega (arith, within ((goal.at.loop-start-smaller c).In-Some))

pub loop-start-preserved : goal.loop-start-preserved
loop-start-preserved c =
    rw c.note-places.ensures
    (passed-more _ _ _ _ c.loop-start.invariant _ _ (told ((goal.at.loop-start-preserved c).In-Some) true c.if-not-more.false))

pub returns : goal.returns
returns c = stopped_broken _ _ _ _ c.loop-start.invariant (sym c.in_default.is ∙ c.frame_at.ensures)

-- `keys::is_key` meets its contract: the flag tells of the bytes passed, and of all at the end. Assumes nothing.
use Prim.Native.Nat.{◌-◌}
use native.Mathlib.Omega.{arith}
use mathlib.Core.Path.{sym, ◌∙◌}
use lib.ListN.{get_or}
use Rattle.keys.proofs.KeyLaws.{clean_turn, clean_done, key_none, key-long, key_other, key_open, key-passed}
use Rattle.keys.proofs.is_key.Goals as goal

pub returns-then-s-lt1 : goal.returns-then-s-lt1
returns-then-s-lt1 c = sym (key_none _ c.if-s-lt1.true)

pub returns-then-s-gt-KEY_ROOM : goal.returns-then-s-gt-KEY_ROOM
returns-then-s-gt-KEY_ROOM c = sym (key-long _ c.if-s-gt-KEY_ROOM.true)

pub returns-then-s-ne47 : goal.returns-then-s-ne47
returns-then-s-ne47 c = sym (key_other _ c.if-s-lt1.false c.if-s-ne47.true)

pub returns-then-s-eq47 : goal.returns-then-s-eq47
returns-then-s-eq47 c = sym (key_open _ c.if-s-lt1.false c.if-s-ne47.false c.if-s-eq47.true)

pub loop-i-preserved : goal.loop-i-preserved
loop-i-preserved c =
    let l = c.loop-i in
    let s = c.args.s.now in
    clean_turn s l.i (get_or s (l.i - 1) 0) _ l.good l.invariant (omega arith)

pub returns : goal.returns
returns c =
    let l = c.loop-i in
    let s = c.args.s.now in
    sym (key-passed s c.if-s-lt1.false c.if-s-gt-KEY_ROOM.false c.if-s-ne47.false c.if-s-eq47.false ∙ clean_done s l.i (get_or s (l.i - 1) 0) _ l.good l.invariant (omega arith))

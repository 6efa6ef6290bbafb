-- `keys::is_subtree` meets its contract: the last byte is a slash, and a key stands before it. Assumes nothing.
use mathlib.Core.Path.{sym, ◌∙◌}
use Rattle.keys.proofs.KeyLaws.{subtree-empty, subtree-long, subtree_open, subtree_closed}
use Rattle.keys.proofs.is_subtree.Goals as goal

pub returns-then-n-eq0 : goal.returns-then-n-eq0
returns-then-n-eq0 c = sym (subtree-empty _ c.if-n-eq0.true)

pub returns-then-n-gt-KEY_ROOM : goal.returns-then-n-gt-KEY_ROOM
returns-then-n-gt-KEY_ROOM c = sym (subtree-long _ c.if-n-eq0.false c.if-n-gt-KEY_ROOM.true)

pub returns-then-s-n-ne47 : goal.returns-then-s-n-ne47
returns-then-s-n-ne47 c = sym (subtree_open _ c.if-n-eq0.false c.if-n-gt-KEY_ROOM.false c.if-s-n-ne47.true)

pub returns : goal.returns
returns c = c.is_key.ensures ∙ sym (subtree_closed _ c.if-n-eq0.false c.if-n-gt-KEY_ROOM.false c.if-s-n-ne47.false)

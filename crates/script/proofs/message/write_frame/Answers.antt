-- `script::message::write_frame` meets its contract: what is framed is what was put into the array. Assumes nothing.
use mathlib.Core.Path.{refl, sym, ◌∙◌}
use Rattle.script.proofs.MessageLaws.{put-length, put-body, sent_body}
use Rattle.script.proofs.message.write_frame.Goals as goal

pub slice_bounds-front-end : goal.slice_bounds-front-end
slice_bounds-front-end c = sym (put-length _ refl c.put_body-n.ensures)

pub returns : goal.returns
returns c = sent_body _ _ (c.front.ensures ∙ put-body _ refl c.put_body-n.ensures) c.put_frame.ensures

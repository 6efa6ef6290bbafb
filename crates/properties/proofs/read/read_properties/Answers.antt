-- `properties::read::read_properties` meets its contract: the whole says what the lines left say, behind what those passed gave. Assumes nothing.
use Rattle.std.proofs.Common.{◌+◌, ◌-◌, ◌<◌, ◌≡◌, arith, sym, ◌∙◌, length, take, drop, Some}
use Rattle.std.proofs.Math.Seq.{length-take-le}
use Rattle.std.proofs.lemmas.Bool.{eqb-true, eqb-false}
use Rattle.base.proofs.CutLaws.{tail_length, cut_at}
use Rattle.base.specs.Cuts.{found_of}
use Rattle.properties.proofs.PropertyLaws.{too_long, lines_begin, lines_end, unended, bad_line, good_line}
use Rattle.properties.proofs.read.read_properties.Goals as goal
use Rattle.properties.proofs.read.read_properties.Goals.{In_ok-end}

newline-at : (c : In_ok-end) → Some c.in_ok-end.end ≡ found_of 10 c.loop-rest.rest.now
newline-at c = sym c.in_ok-end.was ∙ c.find_byte.ensures

inside : (c : In_ok-end) → c.in_ok-end.end < length c.loop-rest.rest.now
inside c = (cut_at 10 _ _ (newline-at c)).below

left_shorter : (c : In_ok-end) → length (take (length c.loop-rest.rest.now - (c.in_ok-end.end + 1)) (drop (c.in_ok-end.end + 1) c.loop-rest.rest.now)) < length c.loop-rest.rest.now
left_shorter c = omega (arith, inside c, tail_length c.loop-rest.rest.now (c.in_ok-end.end + 1))

pub returns-then-s-gt-PROPERTIES_ROOM : goal.returns-then-s-gt-PROPERTIES_ROOM
returns-then-s-gt-PROPERTIES_ROOM c =
    let s = c.args.s.now in
    sym (too_long s (omega (arith, c.if-s-gt-PROPERTIES_ROOM.true)))

pub loop-rest-init : goal.loop-rest-init
loop-rest-init c = (lines_begin _ c.if-s-gt-PROPERTIES_ROOM.false, omega arith)

pub returns-in_err-end : goal.returns-in_err-end
returns-in_err-end c =
    let n = eqb-false _ _ (sym c.is_empty.ensures ∙ c.loop-rest-test.true) in
    c.from_residual.ensures ∙ unended _ _ _ c.loop-rest.invariant.0 (omega (arith, n)) (sym c.in_err-end.was ∙ c.find_byte.ensures)

pub slice_bounds-add_line-end : goal.slice_bounds-add_line-end
slice_bounds-add_line-end c = sym (length-take-le c.in_ok-end.end c.loop-rest.rest.now (omega (arith, inside ((goal.at.slice_bounds-add_line-end c).In_ok-end))))

pub returns-in_err-lifetime : goal.returns-in_err-lifetime
returns-in_err-lifetime c =
    c.from_residual-in_err-lifetime.ensures
    ∙ bad_line _ _ _ c.loop-rest.invariant.0 _ (newline-at ((goal.at.returns-in_err-lifetime c).In_ok-end)) (sym c.in_err-lifetime.was ∙ c.add_line.ensures)

pub overflow_add-rest : goal.overflow_add-rest
overflow_add-rest c = omega (arith, inside ((goal.at.overflow_add-rest c).In_ok-end), c.loop-rest.invariant.1, c.well_formed)

pub slice_bounds-rest-count : goal.slice_bounds-rest-count
slice_bounds-rest-count c = omega (arith, inside ((goal.at.slice_bounds-rest-count c).In_ok-end))

pub slice_bounds-rest-start : goal.slice_bounds-rest-start
slice_bounds-rest-start c = omega (arith, inside ((goal.at.slice_bounds-rest-start c).In_ok-end))

pub loop-rest-preserved : goal.loop-rest-preserved
loop-rest-preserved c =
    let e = (goal.at.loop-rest-preserved c).In_ok-end in
    (good_line _ _ _ c.loop-rest.invariant.0 _ (newline-at e) _ (sym c.in_ok-lifetime.was ∙ c.add_line.ensures), omega (arith, left_shorter e, c.loop-rest.invariant.1))

pub returns : goal.returns
returns c =
    let n = eqb-true _ _ (sym c.is_empty.ensures ∙ c.loop-rest-test.false) in
    lines_end _ _ _ c.loop-rest.invariant.0 (omega (arith, n))

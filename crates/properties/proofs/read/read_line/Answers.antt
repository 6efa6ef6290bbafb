-- `properties::read::read_line` meets its contract: no zero byte, a name before the first equals sign, and digits behind `ttl=`. Assumes nothing.
use Rattle.std.proofs.Common.{◌<◌, ◌≡◌, arith, sym, ◌∙◌, Some, None, length}
use Rattle.std.proofs.Math.Seq.{length-take-le}
use Rattle.base.proofs.CutLaws.{cut_at}
use Rattle.base.specs.Cuts.{found_of}
use Rattle.properties.proofs.LineLaws.{nothing, something, line_nul, line_bare, line_nameless, line_other, line_ttl}
use Rattle.properties.proofs.read.read_line.Goals as goal
use Rattle.properties.proofs.read.read_line.Goals.{Else-is_some, In_ok-sign}

free : (c : Else-is_some) → None ≡ found_of 0 c.args.line.now
free c = nothing _ (sym c.is_some.ensures ∙ c.if-is_some.false) ∙ c.find_byte.ensures

sign_at : (c : In_ok-sign) → Some c.in_ok-sign.sign ≡ found_of 61 c.args.line.now
sign_at c = sym c.in_ok-sign.was ∙ c.find_byte-2.ensures

inside : (c : In_ok-sign) → c.in_ok-sign.sign < length c.args.line.now
inside c = (cut_at 61 _ _ (sign_at c)).below

pub returns-then-is_some : goal.returns-then-is_some
returns-then-is_some c =
    let s = something _ (sym c.is_some.ensures ∙ c.if-is_some.true) in
    line_nul _ s.0 (s.1 ∙ c.find_byte.ensures)

pub returns-in_err-sign : goal.returns-in_err-sign
returns-in_err-sign c =
    c.from_residual.ensures ∙ line_bare _ (free ((goal.at.returns-in_err-sign c).Else-is_some)) (sym c.in_err-sign.was ∙ c.find_byte-2.ensures)

pub returns-then-sign-eq0 : goal.returns-then-sign-eq0
returns-then-sign-eq0 c = line_nameless _ (free ((goal.at.returns-then-sign-eq0 c).Else-is_some)) _ (sign_at ((goal.at.returns-then-sign-eq0 c).In_ok-sign)) c.if-sign-eq0.true

pub slice_bounds-same_bytes-end-2 : goal.slice_bounds-same_bytes-end-2
slice_bounds-same_bytes-end-2 c =
    sym (length-take-le c.in_ok-sign.sign c.args.line.now (omega (arith, inside ((goal.at.slice_bounds-same_bytes-end-2 c).In_ok-sign))))

pub returns-then-not-same_bytes : goal.returns-then-not-same_bytes
returns-then-not-same_bytes c =
    line_other _ (free ((goal.at.returns-then-not-same_bytes c).Else-is_some)) _ (sign_at ((goal.at.returns-then-not-same_bytes c).In_ok-sign)) c.if-sign-eq0.false
    (sym c.same_bytes.ensures ∙ c.if-not-same_bytes.true)

pub overflow_add-sign : goal.overflow_add-sign
overflow_add-sign c = omega (arith, inside ((goal.at.overflow_add-sign c).In_ok-sign))

pub slice_bounds-read_decimal-count : goal.slice_bounds-read_decimal-count
slice_bounds-read_decimal-count c = omega (arith, inside ((goal.at.slice_bounds-read_decimal-count c).In_ok-sign))

pub slice_bounds-read_decimal-start : goal.slice_bounds-read_decimal-start
slice_bounds-read_decimal-start c = omega (arith, inside ((goal.at.slice_bounds-read_decimal-start c).In_ok-sign))

pub returns-in_err-seconds : goal.returns-in_err-seconds
returns-in_err-seconds c =
    c.from_residual-in_err-seconds.ensures
    ∙ line_ttl _ (free ((goal.at.returns-in_err-seconds c).Else-is_some)) _
    (sign_at ((goal.at.returns-in_err-seconds c).In_ok-sign)) c.if-sign-eq0.false (sym c.same_bytes.ensures ∙ c.if-not-same_bytes.false) None
    (sym c.in_err-seconds.was ∙ c.read_decimal.ensures)

pub returns : goal.returns
returns c =
    line_ttl _ (free ((goal.at.returns c).Else-is_some)) _
    (sign_at ((goal.at.returns c).In_ok-sign)) c.if-sign-eq0.false (sym c.same_bytes.ensures ∙ c.if-not-same_bytes.false) (Some c.in_ok-seconds.seconds)
    (sym c.in_ok-seconds.was ∙ c.read_decimal.ensures)

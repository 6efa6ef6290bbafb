-- `script::line::field` meets its contract: the fields are what the line is split into at its bars. Assumes nothing.
use Rattle.std.proofs.Common.{eqb, ap, ◌∙◌, refl, rules, tests}
use Rattle.std.proofs.lemmas.Iterator.Consumers.{nth_from_yields_List}
use Rattle.std.proofs.lemmas.Iterator.Splits.{YieldsList-from_slice_split}
use Rattle.script.proofs.LineLaws.{field_found}
use Rattle.script.specs.Lines.{bar}
use Rattle.script.proofs.line.field.Goals as goal

pub returns : goal.returns
returns c =
    let e = c.split.ensures in
    ap (λ r. r.now) c.unwrap_or.ensures
    ∙ field_found (λ r. r.now) c.args.line.now c.args.k _ _ refl
    (nth_from_yields_List _ _ c.args.k c.nth.ensures.ran
    (YieldsList-from_slice_split _ (λ b. eqb b bar) c.args.line.now e.rest e.done e.closure (λ x b q k. search (rules, tests))))

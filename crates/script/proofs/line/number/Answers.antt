-- `script::line::number` meets its contract: the digits are taken in one by one. Assumes nothing.
use Rattle.std.proofs.Common.{◌∙◌, rules}
use Rattle.std.proofs.lemmas.Iterator.{YieldsList-from_slice}
use Rattle.std.proofs.lemmas.Iterator.Consumers.{fold_from_yields_List}
use Rattle.script.proofs.NumberLaws.{number_folded}
use Rattle.script.specs.Numbers.{with_byte}
use Rattle.script.proofs.line.number.Goals as goal

pub returns : goal.returns
returns c =
    fold_from_yields_List _ with_byte 0 _ c.fold.ensures.ran (YieldsList-from_slice c.args.s.now cc) (λ a x b q k. search rules)
    ∙ number_folded c.args.s.now

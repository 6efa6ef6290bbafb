-- `script::input::read` meets its contract: what is read is what is left of the reader, cut off. Assumes nothing.
use Rattle.std.proofs.Common.{◌≡◌, ℕ, List, [], ◌++◌, take, Option, Some, None, IfSome, ◌∙◌}
use Rattle.std.specs.Option.{option_map}
use Rattle.script.proofs.input.read.Goals as goal

cut : (o : Option (List ℕ)) (b n : List ℕ) → IfSome (option_map (take 65536) o) (λ xs. b ≡ n ++ xs) → n ≡ [] → IfSome o (λ xs. b ≡ take 65536 xs)
cut None b n h e = tt
cut (Some xs) b n h e = h ∙ rw e

pub returns : goal.returns
returns g c =
    let e = c.take.ensures in
    cut _ _ _ (rw (e.limit, e.inner) at c.in_ok-read_to_end.ensures.bytes) c.new-text.ensures.items

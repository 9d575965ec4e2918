use Rattle.std.proofs.Common.{ℕ, ◌<◌, length, slice_get}
use Rattle.rx_typed.specs.PlainTree.{plain-TypedTree}
use Rattle.rx_hoist_naming.specs.DeclaredNames.{declared_names}
use Rattle.rx_hoist_naming.proofs.RunLemmas.{in_a_run}
use Rattle.rx_hoist_naming.proofs.laws.runs_have_names.Goals as goal

pub returns : goal.returns
returns c = λ p names t few meant typed f a r h s.
    in_a_run (λ (x : ℕ). x < length (declared_names (slice_get p f.item))) (plain-TypedTree f.tree) r h s (c.variables_have_names.ensures p names t few meant typed f a)

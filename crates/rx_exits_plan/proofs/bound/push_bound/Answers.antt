use Rattle.std.proofs.Common.{◌≡◌, ◌++◌, List, ℕ, OnOk, subst, sym}
use Rattle.rx_typed.specs.PlainTree.{plain-Pattern}
use Rattle.rx_exits_plan.proofs.BoundLemmas.{bound_is}
use Rattle.rx_exits_plan.proofs.bound.push_bound.Goals as goal

pub returns : goal.returns
returns c =
    subst (λ (l : List ℕ). OnOk c.push_pattern.result (c.push_pattern.new.variables ≡ c.args.variables.now ++ l)) (sym (bound_is (plain-Pattern c.args.pattern.now))) c.push_pattern.ensures

use Rattle.std.proofs.Common.{sym, ap, ◌∙◌, [], length, arith}
use Rattle.rx_resolve_names.proofs.scope.Scope.len.Goals as goal
use Rattle.rx_resolve_names.proofs.Entering.{length_variables}

pub returns : goal.returns
returns c = c.len.ensures ∙ sym (length_variables [] c.self.inside.entered.items ∙ omega arith) ∙ ap length c.self.view_is

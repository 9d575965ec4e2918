use Rattle.std.proofs.Common.{List, ap, ◌∙◌}
use Rattle.std.specs.Option.{is_some}
use Rattle.rx_typeck_typed.specs.declared.typed.TypedFn.{TypedFn}
use Rattle.rx_lower.specs.Functions.{function_at}
use Rattle.rx_check.specs.Front.{Front}
use Rattle.rx_check.proofs.front_end.FrontEnd.is_function.Goals as goal

pub returns : goal.returns
returns c = c.is_among.ensures ∙ ap (λ (l : List TypedFn). is_some (function_at l c.args.item)) (c.as_slice.ensures ∙ ap (λ (x : Front). x.typed.functions) c.self.view_is)

use Rattle.std.proofs.Common.{◌≡◌, Bool, sym, subst}
use Rattle.rx_typed.specs.Named.{some_diverges}
use Rattle.rx_typed.specs.Naming.{of_optional, of_statements}
use Rattle.rx_hoist_extraction.specs.Run.{as_statements}
use Rattle.rx_engine_blocks.specs.DemandsLike.{Is}
use Rattle.rx_engine_blocks.specs.DemandsLike.Is.{itself}
use Rattle.rx_engine_typing.specs.Renumbered.{no_holes, RenumberedFunction}
use Rattle.rx_engine_changed.specs.Beside.{Instead}
use Rattle.rx_engine_changed.specs.Round.{with_others}
use Rattle.rx_engine_changed.proofs.laws.functions_with_a_call_are_valid.Goals as goal

same : {a b : Bool} → b ≡ a → Is a b
same {a} {b} e = subst (λ (z : Bool). Is a z) (sym e) itself

pub returns-clause-within : goal.returns-clause-within
returns-clause-within c R run call f g x D E k A W ordered valid fit =
    c.functions_with_others_for_a_run_are_valid.ensures x.numbers.by x.numbers.back D E k A W x.numbers.loops (of_statements (as_statements run) x.such.cursor).0 (of_statements (as_statements call) x.such.cursor').0 (same x.such.diverges) f g
    (subst (λ (i : Instead). RenumberedFunction x.numbers.by x.numbers.loops (with_others x.numbers.by x.numbers.loops no_holes i) f g) x.such.is x.like) ordered valid fit

pub returns-clause-at_the_end : goal.returns-clause-at_the_end
returns-clause-at_the_end c R run call o l f g x D E k A W ordered valid fit =
    let y = x.such in
    c.functions_with_others_for_an_end_are_valid.ensures x.numbers.by x.numbers.back D E k A W x.numbers.loops y.node y.node.span (some_diverges y.front)
    (of_statements (as_statements run) y.cursor).0 (of_optional y.site o (of_statements (as_statements run) y.cursor).1).0 (of_statements (as_statements call) y.cursor').0 (of_optional y.site l (of_statements (as_statements call) y.cursor').1).0
    (same y.ends.0) (same (y.ends.1 (some_diverges y.front))) f g
    (subst (λ (i : Instead). RenumberedFunction x.numbers.by x.numbers.loops (with_others x.numbers.by x.numbers.loops no_holes i) f g) y.is x.like) ordered valid fit

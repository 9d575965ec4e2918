use Rattle.std.proofs.Common.{slice_get, ap, sym, ◌∙◌}
use Rattle.rx_typed.specs.Types.{Declarations, result_declared}
use Rattle.rx_parse_grammar.proofs.Numbered.{text_numbered}
use Rattle.rx_hoist_naming.proofs.Plans.{plan_formed}
use Rattle.rx_hoist_naming.proofs.laws.named_plans_are_formed.Goals as goal

pub returns : goal.returns
returns c = λ A bytes names t lexed parsed short meant typed declared among word q sits plan agree few.
    let numbered = text_numbered bytes A.program parsed short in
    let formed = c.texts_are_formed.ensures bytes parsed.tokens A.program parsed.height parsed.lexed parsed.derived in
    plan_formed A bytes lexed short formed numbered q plan agree (c.runs_have_names.ensures A.program names t numbered meant typed A.function among q.run q.home sits)
    (c.types_name_types.ensures.tables A.program names t numbered meant typed A.function among)
    (λ u e. c.types_name_types.ensures.results A.program names t numbered meant typed A.function.item u (ap (λ (D : Declarations). result_declared (slice_get D A.function.item)) (sym declared) ∙ e)) word few

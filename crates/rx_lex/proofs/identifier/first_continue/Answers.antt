use Rattle.std.proofs.Common.{sym, ◌∙◌}
use Rattle.rx_lex.proofs.NameTests.{char_continues, char_stops}
use Rattle.rx_lex.proofs.identifier.first_continue.Goals as goal

pub returns-then-is_continue : goal.returns-then-is_continue
returns-then-is_continue c =
    char_continues c.args.rest.now _ c.in-Some.first c.len_utf8.result c.utf8.rest (sym c.chars.ensures.rest ∙ c.in-Some.ensures.steps.0)
    c.len_utf8.ensures.len c.len_utf8.ensures.lower_bound (sym c.is_continue.ensures ∙ c.if-is_continue.true)

pub returns-else-is_continue : goal.returns-else-is_continue
returns-else-is_continue c =
    char_stops c.args.rest.now _ c.in-Some.first c.utf8.rest (sym c.chars.ensures.rest ∙ c.in-Some.ensures.steps.0) (sym c.is_continue.ensures ∙ c.if-is_continue.false)

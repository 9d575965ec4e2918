use Rattle.std.proofs.Common.{List, map, ap, sym, subst, ◌∙◌}
use Rattle.rx_tree.specs.declared.tree.Item.{Item}
use Rattle.rx_tree.specs.PlainOf.{plain-Func, plain-Item, plain-Program}
use Rattle.rx_lex.specs.Tok.{Tok, toks}
use Rattle.rx_compact_call.specs.Named.{function_named}
use Rattle.rx_compact_call.specs.Making.{Shortens}
use Rattle.rx_compact_call.proofs.Writing.{answers, unnamed, fits_there, few_items, accepted_by}
use Rattle.rx_compact_call.proofs.compacting.of_checked.Goals as goal

pub function_named-requires : goal.function_named-requires
function_named-requires c = few_items c.as_slice.result.now c.args.program.now.items c.as_slice.ensures c.requires.checked.front.numbered.items

pub returns-in-None : goal.returns-in-None
returns-in-None c = let p = plain-Program c.args.program.now in
    unnamed c.args.text.now c.args.name.now p c.requires.parses c.args.checked.now.front.typed (accepted_by p c.args.checked.now c.requires.checked)
    (c.in-None.ensures ∙ ap (λ (l : List Item). function_named c.args.name.now 0 (map plain-Item l)) c.as_slice.ensures)

pub of_function-requires-clause-fits : goal.of_function-requires-clause-fits
of_function-requires-clause-fits c = let p = plain-Program c.args.program.now in let x = c.requires.parses in
    fits_there c.short_signatures_fit.ensures c.args.text.now c.args.name.now p x (toks c.in-Ok.tokens.list) (c.in-Ok.ensures.only x.tokens x.lexed)
    c.in-Some.chosen.number (plain-Func c.in-Some.chosen.function.now)
    (sym (c.in-Some.ensures ∙ ap (λ (l : List Item). function_named c.args.name.now 0 (map plain-Item l)) c.as_slice.ensures))

pub returns-in-Ok : goal.returns-in-Ok
returns-in-Ok c = let p = plain-Program c.args.program.now in let x = c.requires.parses in let D = c.args.checked.now.front.typed.decls.items in
    let i = c.in-Some.chosen.number in let f = plain-Func c.in-Some.chosen.function.now in
    answers c.args.text.now c.args.name.now p x c.args.checked.now.front.typed (accepted_by p c.args.checked.now c.requires.checked) i f
    (sym (c.in-Some.ensures ∙ ap (λ (l : List Item). function_named c.args.name.now 0 (map plain-Item l)) c.as_slice.ensures)) c.of_function.result
    (subst (λ (ts : List Tok). Shortens D i c.args.text.now ts f c.of_function.result) (c.in-Ok.ensures.only x.tokens x.lexed) c.of_function.ensures)

use Rattle.std.proofs.Common.{ap, ◌∙◌}
use Rattle.rx_tree.specs.PlainOf.{plain-Func}
use Rattle.rx_lex.specs.Tok.{toks}
use Rattle.rx_check.specs.Front.{Front}
use Rattle.rx_typeck_typed.specs.declared.typed.Typed.{Typed}
use Rattle.rx_compact_call.proofs.Writing.{made_there, made_none, made_short, short_or_long}
use Rattle.rx_compact_call.proofs.compacting.of_function.Goals as goal

pub characters-requires : goal.characters-requires
characters-requires c = c.requires.lexed.text

pub returns-in-Ok-Some : goal.returns-in-Ok-Some
returns-in-Ok-Some c =
    let D = c.args.checked.now.front.typed.decls.items in let E = c.typed.result.now.decls.items in let i = c.args.chosen.number in
    let all = toks c.args.tokens.now.list in let f = plain-Func c.args.chosen.function.now in
    let same = ap (λ (t : Typed). t.decls.items) (c.typed.ensures.same ∙ ap (λ (x : Front). x.typed) c.front.ensures) in
    let made = made_there D E i c.args.text.now c.characters.result.now all f _ _ same c.characters.ensures c.in-Ok-Some.field-0-is c.in-Ok-Some.ensures in
    short_or_long D i c.args.text.now all f c.in-Ok-Some.short (made_short D i c.args.text.now all f c.in-Ok-Some.short made c.requires.fits) c.limited.result c.limited.ensures

pub unreachable-requires : goal.unreachable-requires
unreachable-requires c =
    let D = c.args.checked.now.front.typed.decls.items in let E = c.typed.result.now.decls.items in let i = c.args.chosen.number in
    let all = toks c.args.tokens.now.list in let f = plain-Func c.args.chosen.function.now in
    let same = ap (λ (t : Typed). t.decls.items) (c.typed.ensures.same ∙ ap (λ (x : Front). x.typed) c.front.ensures) in
    made_none D i c.args.text.now all f (made_there D E i c.args.text.now c.characters.result.now all f _ _ same c.characters.ensures c.in-Ok-None.field-0-is c.in-Ok-None.ensures) c.requires.fits

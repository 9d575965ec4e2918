use Rattle.std.proofs.Common.{◌≡◌, ◌∙◌, ◌∷◌, ◌<◌, None, sym, false, Ok, Err, ap, rules, arith}
use Rattle.rx_lex.specs.Tok.{Tok}
use Rattle.rx_tree.specs.Plain as plain
use Rattle.rx_tree.specs.PlainOf.{plain-TypeText}
use Rattle.rx_parse_grammar.specs.grammar.Words.{join, second_ampersand}
use Rattle.rx_parse_grammar.specs.parser.Symbols.{head, tail}
use Rattle.rx_parse_grammar.specs.parser.Steps.{ReadsAs, node}
use Rattle.rx_parse_grammar.specs.parser.Types.{typ, two_references}
use Rattle.rx_parse_cursor.specs.GotOf.{got_of}
use Rattle.rx_parse_cursor.proofs.ListSteps.{carried}
use Rattle.rx_parse_types.proofs.TypeSteps.{two_fault, two_made}
use Rattle.rx_parse_types.proofs.types.TypeLevel.two_references.Goals as goal

pub returns-in_err-target-clause-reads : goal.returns-in_err-target-clause-reads
returns-in_err-target-clause-reads g c =
    let below = c.args.self.now.below in
    let i = c.args.cursor.now in
    let z : 0 < below = first_of (omega arith, search rules) in
    let a : c.read.result ≡ Err c.in_err-target.field-0.0 = search rules in
    let b : c.from_residual.result ≡ Err c.in_err-target.field-0.0 = search rules in
    let h : ReadsAs (got_of plain-TypeText) (typ below (second_ampersand (head i) ∷ tail i)) c.read.result c.read.new.cursor = rw (← c.halve-start.ensures.after) c.read.ensures.reads in
    carried (got_of plain-TypeText) (got_of plain-TypeText) (typ below (second_ampersand (head i) ∷ tail i)) (two_references (typ below) below i)
    c.read.result c.from_residual.result c.in_err-target.field-0.0 c.read.new.cursor c.read.new.cursor a b h
    (λ k. two_fault (typ below) below i c.in_err-target.field-0.0 z c.requires.two k)

pub returns-clause-reads : goal.returns-clause-reads
returns-clause-reads g c =
    let below = c.args.self.now.below in
    let i = c.args.cursor.now in
    let x = c.in_ok-target.target in
    let z : 0 < below = first_of (omega arith, search rules) in
    two_made (typ below) below i c.read.new.cursor (got_of plain-TypeText x) z c.requires.two (ap (typ below) (sym c.halve-start.ensures.after) ∙ c.in_ok-target.ensures.reads)
    ∙ ap (λ (t : Tok). Ok (node (λ s. plain.ref_type s None false (plain-TypeText x.tree)) (join t.span x.span) x.height, c.read.new.cursor)) (sym c.halve-start.ensures.token)
    ∙ ap (λ x. Ok (x, c.read.new.cursor)) (sym c.in_ok-reference_to.ensures.tree)

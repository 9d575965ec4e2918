use Rattle.std.proofs.Common.{◌≡◌, ap, sym, ◌∙◌, Ok, Err, map, length}
use Rattle.rx_tree.specs.declared.tree.Item.{Item}
use Rattle.rx_tree.specs.PlainOf.{plain-Item}
use Rattle.rx_lex.specs.Tok.{toks}
use Rattle.rx_parse_grammar.specs.parser.Items as spec
use Rattle.rx_parse_grammar.specs.parser.Steps.{ReadsAs}
use Rattle.rx_parse_cursor.specs.declared.got.Found.{Found}
use Rattle.rx_parse_cursor.proofs.Placed.{are_placed}
use Rattle.rx_parse_items.specs.ItemsOf.{file_of}
use Rattle.rx_parse.proofs.Whole.{found, same_tree, memory, cause}
use Rattle.rx_parse.proofs.program.read_tokens.Goals as goal

pub new-cursor-requires : goal.new-cursor-requires
new-cursor-requires c = are_placed c.args.bytes.now c.args.tokens.now c.requires.lexed

pub returns-in-Ok-clause-found : goal.returns-in-Ok-clause-found
returns-in-Ok-clause-found c =
    let e : spec.file c.args.most (toks c.args.tokens.now) ≡ Ok (file_of c.in-Ok.found, c.file.new.cursor) =
    ap (spec.file c.args.most) (sym c.new-cursor.ensures) ∙ c.in-Ok.ensures in
    found c.args.most c.args.bytes.now (toks c.args.tokens.now) c.file.new.cursor (map plain-Item c.in-Ok.found.list) c.in-Ok.found.height c.requires.lexed e

pub returns-in-Ok-clause-only : goal.returns-in-Ok-clause-only
returns-in-Ok-clause-only c p n d low =
    let e : spec.file c.args.most (toks c.args.tokens.now) ≡ Ok (file_of c.in-Ok.found, c.file.new.cursor) =
    ap (spec.file c.args.most) (sym c.new-cursor.ensures) ∙ c.in-Ok.ensures in
    same_tree c.args.most c.args.bytes.now (toks c.args.tokens.now) c.file.new.cursor (map plain-Item c.in-Ok.found.list) p c.in-Ok.found.height n c.requires.lexed e d low

pub returns-in-Err-clause-only : goal.returns-in-Err-clause-only
returns-in-Err-clause-only c p n d low =
    let r : ReadsAs {A = Found Item} file_of (spec.file c.args.most (toks c.args.tokens.now)) (Err c.in-Err.stop) c.file.new.cursor =
    rw (sym c.new-cursor.ensures) c.in-Err.ensures in
    c.of_stop.ensures ∙ memory c.args.most c.args.bytes.now (toks c.args.tokens.now) c.file.new.cursor c.in-Err.stop p n (length c.args.bytes.now) c.requires.lexed r d low

pub returns-in-Err-clause-fault : goal.returns-in-Err-clause-fault
returns-in-Err-clause-fault c =
    let r : ReadsAs {A = Found Item} file_of (spec.file c.args.most (toks c.args.tokens.now)) (Err c.in-Err.stop) c.file.new.cursor =
    rw (sym c.new-cursor.ensures) c.in-Err.ensures in
    rw c.of_stop.ensures (cause c.args.most c.args.bytes.now (toks c.args.tokens.now) c.file.new.cursor c.in-Err.stop c.requires.lexed r)

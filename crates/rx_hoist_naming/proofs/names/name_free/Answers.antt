use Rattle.std.proofs.Common.{◌≡◌, true, false, List, ap, sym, ◌∙◌}
use Rattle.rx_lex.specs.declared.token.Token.{Token}
use Rattle.rx_lex.specs.Tok.{toks}
use Rattle.rx_lex.specs.Words.{is_identifier}
use Rattle.rx_hoist_naming.specs.NamesWords.{identifiers}
use Rattle.rx_hoist_naming.specs.NameTest.{is_taken}
use Rattle.rx_hoist_naming.proofs.Free.{name_is_free}
use Rattle.rx_hoist_naming.proofs.names.name_free.Goals as goal

pub returns-in-Ok-false-is_taken : goal.returns-in-Ok-false-is_taken
returns-in-Ok-false-is_taken c =
    let told = c.in-Ok-true.ensures in
    let says_so = c.in-Ok-true.field-0-test in
    let word : is_identifier c.args.name.now ≡ true = cc in
    let same = ap (λ (l : List Token). is_taken (identifiers (toks l)) c.args.name.now) c.as_slice.ensures in
    let tells = c.in-Ok-false-is_taken.ensures in
    let not_so = c.in-Ok-false-is_taken.field-0-test in
    let free : is_taken (identifiers (toks c.args.tokens.now.list)) c.args.name.now ≡ false = cc in
    name_is_free (identifiers (toks c.args.tokens.now.list)) c.args.name.now word free

use Rattle.std.proofs.Common.{sym, ◌∙◌}
use Rattle.rx_lex.proofs.NameTests.{not_begun, stops_early, spells_all, ascii_is_name, form_answer}
use Rattle.rx_lex.proofs.identifier.is_name.Goals as goal

pub returns-then-not-begins_name : goal.returns-then-not-begins_name
returns-then-not-begins_name c = sym (not_begun c.args.word.now (sym c.begins_name.ensures ∙ c.if-not-begins_name.true))

pub returns-then-run_length-word : goal.returns-then-run_length-word
returns-then-run_length-word c =
    sym (stops_early c.args.word.now c.run_length.result c.if-run_length-word.true c.run_length.ensures.text c.run_length.ensures.rest c.run_length.ensures.ends)

pub returns-then-is_ascii : goal.returns-then-is_ascii
returns-then-is_ascii c =
    ascii_is_name c.args.word.now c.if-is_ascii.ensures.cases
    (spells_all c.args.word.now c.run_length.result (sym c.begins_name.ensures ∙ c.if-not-begins_name.false) c.run_length.ensures.within c.if-run_length-word.false c.run_length.ensures.run)

pub returns : goal.returns
returns c =
    form_answer c.args.word.now c.is_nfc.result c.utf8.word
    (spells_all c.args.word.now c.run_length.result (sym c.begins_name.ensures ∙ c.if-not-begins_name.false) c.run_length.ensures.within c.if-run_length-word.false c.run_length.ensures.run)
    c.is_nfc.ensures.answer

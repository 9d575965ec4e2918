use Rattle.std.proofs.Common.{option_map, ap}
use Rattle.std.proofs.lemmas.Result.{on_ok_weaker}
use Rattle.rx_tree.specs.PlainOf.{plain-Pattern, plain-TypeText}
use Rattle.rx_splice_laws.specs.Moving.{type_edits}
use Rattle.rx_splice_edits.specs.Deciding.{moving_of, tokens_of}
use Rattle.rx_splice_edits.proofs.Places.{has_one, has_none}
use Rattle.rx_splice_edits.proofs.decided.Decided.push_type.Goals as goal

pub returns-in-Some : goal.returns-in-Some
returns-in-Some c =
    let d = c.args.self.now in
    let p = plain-Pattern c.args.pattern.now in
    has_one (option_map plain-TypeText c.args.typ.now) _ (type_edits (tokens_of d) p ((moving_of d).typ p)) c.args.out.now (ap (option_map plain-TypeText)
    c.in-Some.is)

pub returns-in-None : goal.returns-in-None
returns-in-None c =
    let d = c.args.self.now in
    let p = plain-Pattern c.args.pattern.now in
    on_ok_weaker c.push_pinned.result
    (has_none (option_map plain-TypeText c.args.typ.now) (type_edits (tokens_of d) p ((moving_of d).typ p)) c.args.out.now c.push_pinned.new.out
    (ap (option_map plain-TypeText) c.in-None.is)) c.push_pinned.ensures

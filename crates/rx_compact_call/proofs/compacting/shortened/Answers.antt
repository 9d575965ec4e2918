use Rattle.std.proofs.Common.{ℕ, List, map, Option, SomeIff, IfOk, subst}
use Rattle.rx_tree.specs.PlainOf.{plain-Func}
use Rattle.rx_lex.specs.Tok.{toks}
use Rattle.rx_lex.specs.declared.token.Token.{Token}
use Rattle.rx_hoist_made.proofs.Dropped.{ok_map}
use Rattle.rx_splice.specs.Edits.{AreEdits}
use Rattle.rx_splice_laws.specs.Edits.{written}
use Rattle.rx_compact_text.specs.CompactedText.{compacted_edits, compacted_text}
use Rattle.rx_compact_known.specs.Knowing.{knows}
use Rattle.rx_compact_call.specs.Making.{IsMadeOf}
use Rattle.rx_compact_call.proofs.Writing.{made_of}
use Rattle.rx_compact_call.proofs.compacting.shortened.Goals as goal

pub returns : goal.returns
returns c =
    let D = c.args.decls.now.items in let i = c.args.chosen.number in let text = c.args.text.now in let f = plain-Func c.args.chosen.function.now in
    let o = knows c.in_ok-known.known in let b = c.in_ok-single.single in
    subst (λ (l : List Token). IfOk c.compacted_text.result (IsMadeOf D i text (toks l) f)) c.as_slice.ensures
    (ok_map (λ (it : Option (List ℕ)). SomeIff it (AreEdits text (map written (compacted_edits o b text (toks c.as_slice.result.now) f))) (compacted_text o b text (toks c.as_slice.result.now) f))
    (IsMadeOf D i text (toks c.as_slice.result.now) f) c.compacted_text.result
    (made_of D i text (toks c.as_slice.result.now) f o b c.in_ok-known.ensures c.in_ok-single.ensures) c.compacted_text.ensures)

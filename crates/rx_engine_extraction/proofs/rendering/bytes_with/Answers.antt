use Rattle.std.proofs.Common.{[], Some, drop, refl, ap, ◌∙◌}
use Rattle.rx_tree.specs.PlainOf.{plain-Block, plain-Func}
use Rattle.rx_tree.specs.Positions.{a_block}
use Rattle.rx_lex.specs.Tok.{toks}
use Rattle.rx_hoist_extraction.specs.Run.{labels_on, chosen_parts}
use Rattle.rx_hoist_made.specs.PlainParts.{plain-Labels}
use Rattle.rx_hoist.proofs.HoistingLemmas.{block_placed}
use Rattle.rx_engine_extraction.specs.Made.{run_of}
use Rattle.rx_engine_extraction.proofs.Cutting.{spliced_as}
use Rattle.rx_engine_extraction.proofs.rendering.bytes_with.Goals as goal

pub returns : goal.returns
returns c = λ bs new.
    let g = c.args.given.now in let r = run_of c.args.run.now in let f = plain-Func c.args.function.now in
    let same = c.from_on-way.ensures ∙ ap (drop 1) c.as_slice.ensures in
    let block = block_placed r f.body (plain-Block c.args.other.now) (plain-Block c.block_at-block.result.now) c.from_on-way.result.now c.requires.other same c.block_at-block.ensures in
    spliced_as c.spliced_text.result c.spliced_text.ensures r f bs refl refl
    (ap plain-Labels c.as_slice-3.ensures.value ∙ c.in_ok-labels.ensures ∙ ap (λ w. labels_on (Some (a_block f.body)) w []) same)
    (c.run_parts.ensures ∙ ap (chosen_parts r) block) (record { exits = new.exits; function = new.function })
    g.text.now (toks g.tokens.now.list) c.characters.ensures (ap toks c.as_slice-2.ensures)

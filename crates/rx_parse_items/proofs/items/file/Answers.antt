-- The loop over items reads what the parser reads, turn by turn, and so does what follows it.
use Rattle.std.proofs.Common.{◌≡◌, ◌∙◌, true, false, Err, map, rules, arith}
use Rattle.std.proofs.lemmas.Grind.{common_steps}
use Rattle.rx_tree.specs.PlainOf.{plain-Item}
use Rattle.rx_parse_grammar.specs.declared.symbol.Symbol.TheVariants as symbol
use Rattle.rx_parse_grammar.specs.parser.Steps.{sees}
use Rattle.rx_parse_grammar.specs.parser.Items.{item, file, items_from}
use Rattle.rx_parse_cursor.proofs.Turns.{one_more, no_more}
use Rattle.rx_parse_cursor.proofs.ListSteps.{carried}
use Rattle.rx_parse_cursor.specs.Elements.{another}
use Rattle.rx_parse_items.specs.ItemsOf.{file_of}
use Rattle.rx_parse_items.proofs.ItemSteps.{items_end, items_fault, items_more}
use Rattle.rx_parse_items.proofs.items.file.Goals as goal

pub loop-turn-init : goal.loop-turn-init
unfolding file
loop-turn-init c = first_of (search rules, grind (arith, common_steps))

pub returns-then-sees : goal.returns-then-sees
returns-then-sees c =
    let x = c.loop-turn.found in
    let e = one_more (λ n. items_from c.args.depth n (map plain-Item x.list) x.height c.loop-turn.cursor) _ c.loop-turn._turn c.loop-turn-test.true c.loop-turn.invariant in
    let s : sees symbol.End c.loop-turn.cursor ≡ true = first_of (cc, search rules) in
    e ∙ items_end c.args.depth _ (map plain-Item x.list) x.height c.loop-turn.cursor s

pub returns-in_err-found : goal.returns-in_err-found
returns-in_err-found c =
    let x = c.loop-turn.found in
    let e = one_more (λ n. items_from c.args.depth n (map plain-Item x.list) x.height c.loop-turn.cursor) _ c.loop-turn._turn c.loop-turn-test.true c.loop-turn.invariant in
    let s : sees symbol.End c.loop-turn.cursor ≡ false = first_of (cc, search rules) in
    let a : c.with_item.result ≡ Err c.in_err-found.field-0.0 = search rules in
    let b : c.from_residual.result ≡ Err c.in_err-found.field-0.0 = search rules in
    carried file_of file_of (another (item c.args.depth) (map plain-Item x.list) x.height c.loop-turn.cursor) (file c.args.depth c.args.cursor.now)
    c.with_item.result c.from_residual.result c.in_err-found.field-0.0 c.with_item.new.cursor c.with_item.new.cursor a b c.with_item.ensures
    (λ k. e ∙ items_fault c.args.depth _ (map plain-Item x.list) x.height c.loop-turn.cursor c.in_err-found.field-0.0 s k)

pub loop-turn-preserved : goal.loop-turn-preserved
loop-turn-preserved c =
    let x = c.loop-turn.found in
    let y = c.in_ok-found.found in
    let e = one_more (λ n. items_from c.args.depth n (map plain-Item x.list) x.height c.loop-turn.cursor) _ c.loop-turn._turn c.loop-turn-test.true c.loop-turn.invariant in
    let s : sees symbol.End c.loop-turn.cursor ≡ false = first_of (cc, search rules) in
    e ∙ items_more c.args.depth _ (map plain-Item x.list) x.height (map plain-Item y.list) y.height c.loop-turn.cursor c.with_item.new.cursor s c.in_ok-found.ensures

pub returns-then-sees-2 : goal.returns-then-sees-2
unfolding items_from
returns-then-sees-2 c =
    let e = no_more (λ n. items_from c.args.depth n (map plain-Item c.loop-turn.found.list) c.loop-turn.found.height c.loop-turn.cursor) _ c.loop-turn._turn c.loop-turn-test.false c.loop-turn.invariant in
    first_of (search rules, grind (arith, common_steps))

pub returns : goal.returns
unfolding items_from
returns c =
    let e = no_more (λ n. items_from c.args.depth n (map plain-Item c.loop-turn.found.list) c.loop-turn.found.height c.loop-turn.cursor) _ c.loop-turn._turn c.loop-turn-test.false c.loop-turn.invariant in
    first_of (search rules, grind (arith, common_steps))

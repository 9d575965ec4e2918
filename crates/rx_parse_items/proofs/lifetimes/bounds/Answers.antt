-- The loop over bounds reads what the parser reads, turn by turn.
use Rattle.std.proofs.Common.{◌≡◌, ◌∙◌, ap, sym, true, false, Err, rules, arith}
use Rattle.std.proofs.lemmas.Grind.{common_steps}
use Rattle.rx_parse_grammar.specs.declared.symbol.Symbol.TheVariants as symbol
use Rattle.rx_parse_grammar.specs.parser.Steps.{sees}
use Rattle.rx_parse_grammar.specs.parser.Items.{bounds, bounds_from}
use Rattle.rx_parse_cursor.proofs.Turns.{one_more, no_more}
use Rattle.rx_parse_cursor.proofs.ListSteps.{carried}
use Rattle.rx_parse_items.specs.ItemsOf.{another_bound}
use Rattle.rx_parse_items.proofs.ItemSteps.{bounds_fault, bounds_last, bounds_more}
use Rattle.rx_parse_items.proofs.lifetimes.bounds.Goals as goal

pub loop-turn-init : goal.loop-turn-init
unfolding bounds
loop-turn-init c = first_of (search rules, grind (arith, common_steps))

pub returns-in_err-all : goal.returns-in_err-all
returns-in_err-all c =
    let x = c.loop-turn.found in
    let e = one_more (λ n. bounds_from n x c.loop-turn.cursor) _ c.loop-turn._turn c.loop-turn-test.true c.loop-turn.invariant in
    let a : c.with_bound.result ≡ Err c.in_err-all.field-0.0 = search rules in
    let b : c.from_residual.result ≡ Err c.in_err-all.field-0.0 = search rules in
    carried (λ l. l) (λ l. l) (another_bound x c.loop-turn.cursor) (bounds c.args.cursor.now)
    c.with_bound.result c.from_residual.result c.in_err-all.field-0.0 c.with_bound.new.cursor c.with_bound.new.cursor a b c.with_bound.ensures
    (λ k. e ∙ bounds_fault _ x c.loop-turn.cursor c.in_err-all.field-0.0 k)

pub returns-then-not-sees : goal.returns-then-not-sees
returns-then-not-sees c =
    let x = c.loop-turn.found in
    let e = one_more (λ n. bounds_from n x c.loop-turn.cursor) _ c.loop-turn._turn c.loop-turn-test.true c.loop-turn.invariant in
    let m : sees symbol.Plus c.with_bound.new.cursor ≡ false = first_of (cc, search rules) in
    e ∙ bounds_last _ x c.in_ok-all.all c.in_ok-all.last c.loop-turn.cursor c.with_bound.new.cursor c.in_ok-all.ensures m

pub loop-turn-preserved : goal.loop-turn-preserved
loop-turn-preserved c =
    let x = c.loop-turn.found in
    let y = c.in_ok-all.all in
    let e = one_more (λ n. bounds_from n x c.loop-turn.cursor) _ c.loop-turn._turn c.loop-turn-test.true c.loop-turn.invariant in
    let m : sees symbol.Plus c.with_bound.new.cursor ≡ true = first_of (cc, search rules) in
    e ∙ bounds_more _ x y c.in_ok-all.last c.loop-turn.cursor c.with_bound.new.cursor c.in_ok-all.ensures m ∙ ap (bounds_from _ y) (sym c.take.ensures.after)

pub returns : goal.returns
unfolding bounds_from
returns c =
    let e = no_more (λ n. bounds_from n c.loop-turn.found c.loop-turn.cursor) _ c.loop-turn._turn c.loop-turn-test.false c.loop-turn.invariant in
    first_of (search rules, grind (arith, common_steps))

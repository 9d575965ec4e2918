-- A list's loop reads what the parser reads: each exit is the parser's equation at one turn more, and what the code made of it.
use Rattle.std.proofs.Common.{◌≡◌, true, false, Err, map, rules, arith}
use Rattle.std.proofs.lemmas.Grind.{common_steps}
use Rattle.rx_parse_grammar.specs.declared.symbol.Symbol.TheVariants as symbol
use Rattle.rx_parse_grammar.specs.parser.Steps.{sees}
use Rattle.rx_parse_grammar.specs.parser.Lists.{elements, elements_from}
use Rattle.rx_parse_cursor.specs.GotOf.{found_of, items_of}
use Rattle.rx_parse_cursor.specs.Elements.{another, ended}
use Rattle.rx_parse_cursor.proofs.Turns.{no_more}
use Rattle.rx_parse_cursor.proofs.ListSteps.{carried, reads_as, turn_end, turn_fault, turn_last, turn_more}
use Rattle.rx_parse_cursor.proofs.lists.elements.Goals as goal

pub loop-turn-init : goal.loop-turn-init
unfolding elements
loop-turn-init g c =
    record {
      same = first_of (search rules, grind (arith, common_steps));
      low = first_of (search rules, grind (arith, common_steps));
    }

pub returns-then-sees-clause-reads : goal.returns-then-sees-clause-reads
returns-then-sees-clause-reads g c =
    let P = g.R.Reader.parser c.args.reader.now in
    let f = g.R.Reader.plain in
    let x = c.loop-turn.found in
    let i = c.loop-turn.cursor in
    let s : sees c.args.bracket i ≡ true = cc in
    reads_as (items_of f) (elements c.args.bracket P (map f c.args.found.list) c.args.found.height c.args.cursor.now) (ended c.args.bracket (map f x.list) x.height i)
    c.ended.result c.ended.new.cursor
    (turn_end c.args.bracket P (map f x.list) x.height i {whole = elements c.args.bracket P (map f c.args.found.list) c.args.found.height c.args.cursor.now} c.left-turn-end.result c.loop-turn._turn c.loop-turn-test.true c.loop-turn.invariant.same s) c.ended.ensures.reads

pub returns-in_err-found-clause-reads : goal.returns-in_err-found-clause-reads
returns-in_err-found-clause-reads g c =
    let P = g.R.Reader.parser c.args.reader.now in
    let f = g.R.Reader.plain in
    let x = c.loop-turn.found in
    let i = c.loop-turn.cursor in
    let fault = c.in_err-found.field-0.0 in
    let s : sees c.args.bracket i ≡ false = cc in
    let a : c.with_next.result ≡ Err fault = search rules in
    let b : c.from_residual.result ≡ Err fault = search rules in
    carried (found_of f) (items_of f) (another P (map f x.list) x.height i) (elements c.args.bracket P (map f c.args.found.list) c.args.found.height c.args.cursor.now)
    c.with_next.result c.from_residual.result fault c.with_next.new.cursor c.with_next.new.cursor a b c.with_next.ensures.reads
    (λ k. turn_fault c.args.bracket P (map f x.list) x.height i {whole = elements c.args.bracket P (map f c.args.found.list) c.args.found.height c.args.cursor.now} c.left-turn-end.result c.loop-turn._turn c.loop-turn-test.true c.loop-turn.invariant.same fault s k)

pub returns-then-not-sees-clause-reads : goal.returns-then-not-sees-clause-reads
returns-then-not-sees-clause-reads g c =
    let P = g.R.Reader.parser c.args.reader.now in
    let f = g.R.Reader.plain in
    let x = c.loop-turn.found in
    let y = c.in_ok-found.found in
    let i = c.loop-turn.cursor in
    let j = c.with_next.new.cursor in
    let s : sees c.args.bracket i ≡ false = cc in
    let t : sees symbol.Comma j ≡ false = first_of (cc, search rules) in
    reads_as (items_of f) (elements c.args.bracket P (map f c.args.found.list) c.args.found.height c.args.cursor.now) (ended c.args.bracket (map f y.list) y.height j)
    c.ended-then-not-sees.result c.ended-then-not-sees.new.cursor
    (turn_last c.args.bracket P (map f x.list) x.height i {whole = elements c.args.bracket P (map f c.args.found.list) c.args.found.height c.args.cursor.now} c.left-turn-end.result c.loop-turn._turn c.loop-turn-test.true c.loop-turn.invariant.same (map f y.list) y.height j s c.in_ok-found.ensures.reads t)
    c.ended-then-not-sees.ensures.reads

pub loop-turn-preserved : goal.loop-turn-preserved
loop-turn-preserved g c =
    let P = g.R.Reader.parser c.args.reader.now in
    let f = g.R.Reader.plain in
    let x = c.loop-turn.found in
    let y = c.in_ok-found.found in
    let i = c.loop-turn.cursor in
    let j = c.with_next.new.cursor in
    let s : sees c.args.bracket i ≡ false = cc in
    let t : sees symbol.Comma j ≡ true = first_of (cc, search rules) in
    record {
      same = turn_more c.args.bracket P (map f x.list) x.height i {whole = elements c.args.bracket P (map f c.args.found.list) c.args.found.height c.args.cursor.now} c.left-turn-end.result c.loop-turn._turn c.loop-turn-test.true c.loop-turn.invariant.same (map f y.list) y.height j c.take.new.self s c.in_ok-found.ensures.reads t
          c.take.ensures.after;
      low = c.in_ok-found.ensures.low;
    }

pub returns-clause-reads : goal.returns-clause-reads
unfolding elements_from
returns-clause-reads g c =
    let e = no_more (λ n. elements_from c.args.bracket (g.R.Reader.parser c.args.reader.now) n (map g.R.Reader.plain c.loop-turn.found.list) c.loop-turn.found.height c.loop-turn.cursor) _ c.loop-turn._turn c.loop-turn-test.false c.loop-turn.invariant.same in
    first_of (search rules, grind (arith, common_steps))

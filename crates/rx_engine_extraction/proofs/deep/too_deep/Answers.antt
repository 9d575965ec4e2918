use Rattle.std.proofs.Common.{ℕ, Some, sym, subst}
use Rattle.rx_tree.specs.PlainOf.{plain-Program}
use Rattle.rx_lex.specs.Tok.{toks}
use Rattle.rx_hoist_plan.specs.PlainPlan.{plain-Plan}
use Rattle.rx_engine_extraction.specs.Levels.{IsTooDeepIf}
use Rattle.rx_engine_extraction.specs.Made.{run_of}
use Rattle.rx_engine_extraction.proofs.Depths.{found_too_deep, found_low, types_too_deep}
use Rattle.rx_engine_extraction.proofs.deep.too_deep.Goals as goal

pub returns-then-deep-gt-MOST_LEVELS : goal.returns-then-deep-gt-MOST_LEVELS
returns-then-deep-gt-MOST_LEVELS c =
    let g = c.args.given.now in
    subst (λ (k : ℕ). IsTooDeepIf g.text.now (toks g.tokens.now.list) (plain-Program g.program.now) (run_of c.args.run.now) (plain-Plan c.args.plan.now) (Some k))
    (sym c.from.ensures)
    (found_too_deep g.text.now (toks g.tokens.now.list) (plain-Program g.program.now) (run_of c.args.run.now) (plain-Plan c.args.plan.now)
    c.in-Ok.found c.in-Ok.ensures c.unwrap_or-deep.result c.unwrap_or-deep.ensures c.if-deep-gt-MOST_LEVELS.true)

pub returns : goal.returns
returns c =
    let g = c.args.given.now in let r = run_of c.args.run.now in let pl = plain-Plan c.args.plan.now in
    let low = found_low g.text.now (toks g.tokens.now.list) (plain-Program g.program.now) r pl
    c.in-Ok.found c.in-Ok.ensures c.unwrap_or-deep.result c.unwrap_or-deep.ensures c.if-deep-gt-MOST_LEVELS.false in
    types_too_deep g.text.now (toks g.tokens.now.list) (plain-Program g.program.now) r pl low c.levels_past.result c.levels_past.ensures

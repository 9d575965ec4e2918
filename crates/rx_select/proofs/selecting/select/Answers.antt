use Rattle.std.proofs.Common.{◌≡◌, ◌<◌, ℕ, ◌∷◌, [], ◌++◌, List, Some, None, length, map, ap, sym, subst, ◌∙◌, arith}
use Rattle.rx_tree.specs.declared.tree.Item.{Item}
use Rattle.rx_tree.specs.PlainOf.{plain-Program, plain-Item}
use Rattle.rx_tree.specs.Positions.{an_item}
use Rattle.rx_tree_operations.specs.NodeOf.{plain-Node}
use Rattle.rx_lex.specs.Tok.{toks}
use Rattle.rx_select.specs.RunOf.{RunOf}
use Rattle.rx_select.specs.Search.{places}
use Rattle.rx_select.specs.Descent.{NoChild, IsChild, Descent}
use Rattle.rx_select.proofs.Around.{item_count}
use Rattle.rx_select.proofs.Descending.{no_places, no_item, first_step, no_further, next_step, made, run_made, few_items, few_children, few_statements, fewer_below}
use Rattle.rx_select.proofs.Ways.{one_run}
use Rattle.rx_select.proofs.selecting.select.Goals as goal

pub returns-in-None-clause-only : goal.returns-in-None-clause-only
returns-in-None-clause-only c =
    λ r x. absurd (no_places c.args.tokens.now.length c.args.start c.args.end (toks c.args.tokens.now.list) (plain-Program c.args.program.now) r c.requires.one_text (sym c.places_in.ensures ∙ c.in-None.is) x)

pub item_around-requires : goal.item_around-requires
item_around-requires c =
    let f = few_items (toks c.args.tokens.now.list) c.args.tokens.now.length (plain-Program c.args.program.now) c.requires.one_text in
    let n = item_count c.args.program.now.items in
    let s = c.requires.short in
    subst (λ (l : List Item). length l < 4294967296) (sym c.as_slice.ensures) (omega (arith, f, n, s))

pub returns-in-None-item_around-clause-only : goal.returns-in-None-item_around-clause-only
returns-in-None-item_around-clause-only c =
    λ r x. absurd (no_item c.args.tokens.now.length c.args.start c.args.end (toks c.args.tokens.now.list) (plain-Program c.args.program.now) c.in-Some.places r c.requires.one_text c.if-end-tokens.false
    (sym c.places_in.ensures ∙ c.in-Some.is)
    (subst (λ (l : List Item). NoChild c.in-Some.places (map an_item (map plain-Item l))) c.as_slice.ensures c.in-None-item_around.ensures) x)

pub down-init : goal.down-init
down-init c =
    let n = c.in-Some-item_around.found.0 in
    let i = an_item (plain-Item c.in-Some-item_around.found.1.now) in
    subst (λ (q : List ℕ). Descent c.args.tokens.now.length (toks c.args.tokens.now.list) (plain-Program c.args.program.now) c.args.start c.args.end c.in-Some.places n i q) (sym c.new-path.ensures)
    (first_step c.args.tokens.now.length c.args.start c.args.end (toks c.args.tokens.now.list) (plain-Program c.args.program.now) c.in-Some.places n i c.requires.one_text c.if-end-tokens.false
    (sym c.places_in.ensures ∙ c.in-Some.is)
    (subst (λ (l : List Item). IsChild c.in-Some.places (map an_item (map plain-Item l)) n i) c.as_slice.ensures c.in-Some-item_around.ensures))

pub overflow_cast-result : goal.overflow_cast-result
overflow_cast-result c =
    let f = few_statements c.args.tokens.now.length c.args.start c.args.end (toks c.args.tokens.now.list) (plain-Program c.args.program.now) c.in-Some.places c.in-Some-item_around.found.0
    (plain-Node c.down.node) c.down.path c.in-Some-run_at.first c.in-Some-run_at.last c.requires.one_text c.if-end-tokens.false (sym c.places_in.ensures ∙ c.in-Some.is) c.down.invariant
    (sym c.run_at.ensures ∙ c.in-Some-run_at.is) in
    let s = c.requires.short in
    omega (arith, f.0, s)

pub overflow_cast-result-in-Some-run_at : goal.overflow_cast-result-in-Some-run_at
overflow_cast-result-in-Some-run_at c =
    let f = few_statements c.args.tokens.now.length c.args.start c.args.end (toks c.args.tokens.now.list) (plain-Program c.args.program.now) c.in-Some.places c.in-Some-item_around.found.0
    (plain-Node c.down.node) c.down.path c.in-Some-run_at.first c.in-Some-run_at.last c.requires.one_text c.if-end-tokens.false (sym c.places_in.ensures ∙ c.in-Some.is) c.down.invariant
    (sym c.run_at.ensures ∙ c.in-Some-run_at.is) in
    let s = c.requires.short in
    omega (arith, f.1, s)

pub returns-in-Some-run_at-clause-run : goal.returns-in-Some-run_at-clause-run
returns-in-Some-run_at-clause-run c =
    subst (λ t. RunOf c.args.tokens.now.length (toks c.args.tokens.now.list) (plain-Program c.args.program.now) c.args.start c.args.end
    (made c.in-Some.places c.in-Some-item_around.found.0 c.down.path c.in-Some-run_at.first c.in-Some-run_at.last t)) (sym c.is_tail_of.ensures)
    (run_made c.args.tokens.now.length c.args.start c.args.end (toks c.args.tokens.now.list) (plain-Program c.args.program.now) c.in-Some.places c.in-Some-item_around.found.0
    (plain-Node c.down.node) c.down.path c.in-Some-run_at.first c.in-Some-run_at.last c.requires.one_text c.if-start-end.false c.if-end-tokens.false (sym c.places_in.ensures ∙ c.in-Some.is) c.down.invariant
    (sym c.run_at.ensures ∙ c.in-Some-run_at.is))

pub returns-in-Some-run_at-clause-only : goal.returns-in-Some-run_at-clause-only
returns-in-Some-run_at-clause-only c =
    λ r x. one_run c.args.tokens.now.length c.args.start c.args.end (toks c.args.tokens.now.list) (plain-Program c.args.program.now)
    (made c.in-Some.places c.in-Some-item_around.found.0 c.down.path c.in-Some-run_at.first c.in-Some-run_at.last c.is_tail_of.result) r c.requires.one_text
    (subst (λ t. RunOf c.args.tokens.now.length (toks c.args.tokens.now.list) (plain-Program c.args.program.now) c.args.start c.args.end
    (made c.in-Some.places c.in-Some-item_around.found.0 c.down.path c.in-Some-run_at.first c.in-Some-run_at.last t)) (sym c.is_tail_of.ensures)
    (run_made c.args.tokens.now.length c.args.start c.args.end (toks c.args.tokens.now.list) (plain-Program c.args.program.now) c.in-Some.places c.in-Some-item_around.found.0
    (plain-Node c.down.node) c.down.path c.in-Some-run_at.first c.in-Some-run_at.last c.requires.one_text c.if-start-end.false c.if-end-tokens.false (sym c.places_in.ensures ∙ c.in-Some.is) c.down.invariant
    (sym c.run_at.ensures ∙ c.in-Some-run_at.is))) x

pub child_around-requires : goal.child_around-requires
child_around-requires c =
    let f = few_children c.args.tokens.now.length c.args.start c.args.end (toks c.args.tokens.now.list) (plain-Program c.args.program.now) c.in-Some.places c.in-Some-item_around.found.0
    (plain-Node c.down.node) c.down.path c.requires.one_text c.down.invariant in
    let s = c.requires.short in
    omega (arith, f, s)

pub returns-in-None-child_around-clause-only : goal.returns-in-None-child_around-clause-only
returns-in-None-child_around-clause-only c =
    λ r x. absurd (no_further c.args.tokens.now.length c.args.start c.args.end (toks c.args.tokens.now.list) (plain-Program c.args.program.now) c.in-Some.places c.in-Some-item_around.found.0
    (plain-Node c.down.node) c.down.path r c.requires.one_text c.if-end-tokens.false (sym c.places_in.ensures ∙ c.in-Some.is) c.down.invariant (sym c.run_at.ensures ∙ c.in_default.is) c.in-None-child_around.ensures x)

pub down-smaller : goal.down-smaller
down-smaller c = fewer_below (plain-Node c.down.node) c.in-Some-child_around.found.0 (plain-Node c.in-Some-child_around.found.1) c.in-Some-child_around.ensures.0

pub down-preserved : goal.down-preserved
down-preserved c =
    subst (λ (q : List ℕ). Descent c.args.tokens.now.length (toks c.args.tokens.now.list) (plain-Program c.args.program.now) c.args.start c.args.end c.in-Some.places c.in-Some-item_around.found.0
    (plain-Node c.in-Some-child_around.found.1) q) (sym c.in-Ok.ensures.ok)
    (next_step c.args.tokens.now.length c.args.start c.args.end (toks c.args.tokens.now.list) (plain-Program c.args.program.now) c.in-Some.places c.in-Some-item_around.found.0
    (plain-Node c.down.node) c.down.path c.in-Some-child_around.found.0 (plain-Node c.in-Some-child_around.found.1) c.requires.one_text c.if-end-tokens.false (sym c.places_in.ensures ∙ c.in-Some.is) c.down.invariant
    (sym c.run_at.ensures ∙ c.in_default.is) c.in-Some-child_around.ensures)

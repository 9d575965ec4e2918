-- The function with the call, by one numbering: its types are the text's, and by their entries those of what the call makes.
use Rattle.std.proofs.Common.{◌≡◌, Bool, List, option_map, ap, sym, subst}
use Rattle.rx_tree.specs.Plain.{OptionalExpression, Statement}
use Rattle.rx_typed.specs.Elaborated.{elaborated}
use Rattle.rx_typed.specs.Named.{some_diverges, Function}
use Rattle.rx_typed.specs.Naming.{of_optional, of_statements}
use Rattle.rx_hoist_extraction.specs.Run.{as_statements}
use Rattle.rx_typeck_solver.specs.declared.facts.Subject.TheVariants as subject
use Rattle.rx_typeck_solver.specs.Facts.{Assignment, KnownItems}
use Rattle.rx_cover.specs.Causes.{AllCovered}
use Rattle.rx_cover.specs.Choices.{choices_of}
use Rattle.rx_engine_blocks.specs.Along.{composed, none_viewed, text_or, PartialInverse}
use Rattle.rx_engine_blocks.specs.DemandsLike.{Is}
use Rattle.rx_engine_blocks.specs.DemandsLike.Is.{itself}
use Rattle.rx_engine_blocks.specs.Knows.{Knows}
use Rattle.rx_engine_blocks.specs.Renumbering.{node_at, Renumbering}
use Rattle.rx_engine_names.specs.Renaming.{Renaming}
use Rattle.rx_engine_typing.specs.Corresponding.{given_types, Corresponding}
use Rattle.rx_engine_typing.specs.Renumbered.{no_holes, RenumberedFunction}
use Rattle.rx_engine_holes.specs.CallFits.{EndFits, StatementsFit}
use Rattle.rx_engine_holes.specs.Entries.{assigned, of_text, Apart, Entries}
use Rattle.rx_engine_holes.proofs.Entering.{entries_are_had}
use Rattle.rx_engine_changed.specs.Beside.{Instead}
use Rattle.rx_engine_changed.specs.Once.{ByOneNumbering, IsCall, IsLastCall}
use Rattle.rx_engine_changed.specs.Round.{as_mutable, round, with_others}
use Rattle.rx_engine_covered.specs.TakesAll.{ElseTakesAll, StatementsTakeAll}
use Rattle.rx_engine_covered.proofs.Around.{round_a_run, round_a_tail}
use Rattle.rx_engine_covered.proofs.Fitting.{end_covered, fitting_covered}
use Rattle.rx_engine_covered.proofs.Functions.{items_apart}

same : {a b : Bool} → b ≡ a → Is a b
same {a} {b} e = subst (λ (z : Bool). Is a z) (sym e) itself

pub text_corresponds : (q : Renumbering) (w : PartialInverse q) (D E : KnownItems) → Knows q D E → (A V : Assignment) → Corresponding q (given_types D A) (given_types E (composed q w none_viewed A V))
text_corresponds q w D E k A V = record {
  items = k.items;
  typ = λ n. ap (λ o. text_or q none_viewed (option_map subject.Node o) A (V (subject.Node (q.nodes n)))) (w.node_there n);
  expected = λ n. ap (λ o. text_or q none_viewed (option_map subject.Expected o) A (V (subject.Expected (q.nodes n)))) (w.node_there n);
}

pub called_covered : (R : Renaming) (run call : List Statement) (f g : Function) (x : ByOneNumbering R (IsCall R as_mutable run call) (λ q. round no_holes q) f g) → (D E : KnownItems) → Knows x.numbers.by D E → (A : Assignment) (made : Entries)
    → StatementsFit E (x.numbers.by.items f.item) (of_text x.numbers.by x.numbers.back A) (of_statements (as_statements call) x.such.cursor').0 made → Apart x.numbers.by x.numbers.back A made
    → StatementsTakeAll E.items (of_statements (as_statements call) x.such.cursor').0 → AllCovered D.items (choices_of (elaborated (given_types D A) f).body)
    → AllCovered E.items (choices_of (elaborated (given_types E (composed x.numbers.by x.numbers.back none_viewed A (assigned made))) g).body)
called_covered R run call f g x D E k A made fits apart takes c =
    let q = x.numbers.by in let w = x.numbers.back in let C = composed q w none_viewed A (assigned made) in
    round_a_run q x.numbers.loops (items_apart q D E k) (given_types D A) (given_types E C) (text_corresponds q w D E k A (assigned made))
    (of_statements (as_statements run) x.such.cursor).0 (of_statements (as_statements call) x.such.cursor').0 (same x.such.diverges) f g
    (subst (λ (i : Instead). RenumberedFunction q x.numbers.loops (with_others q x.numbers.loops no_holes i) f g) x.such.is x.like) c
    (fitting_covered E (q.items f.item) C fits (entries_are_had q w A made apart) takes)

pub called_last_covered : (R : Renaming) (run call : List Statement) (o l : OptionalExpression) (f g : Function) (x : ByOneNumbering R (IsLastCall R as_mutable run call o l) (λ q. round no_holes q) f g) → (D E : KnownItems) → Knows x.numbers.by D E
    → (A : Assignment) (made : Entries)
    → EndFits E (x.numbers.by.items f.item) (of_text x.numbers.by x.numbers.back A) (node_at x.numbers.by x.such.node x.such.node.span) (some_diverges x.such.front)
    (of_statements (as_statements call) x.such.cursor').0 (of_optional x.such.site l (of_statements (as_statements call) x.such.cursor').1).0 made → Apart x.numbers.by x.numbers.back A made
    → StatementsTakeAll E.items (of_statements (as_statements call) x.such.cursor').0 → ElseTakesAll E.items (of_optional x.such.site l (of_statements (as_statements call) x.such.cursor').1).0
    → AllCovered D.items (choices_of (elaborated (given_types D A) f).body) → AllCovered E.items (choices_of (elaborated (given_types E (composed x.numbers.by x.numbers.back none_viewed A (assigned made))) g).body)
called_last_covered R run call o l f g x D E k A made fits apart takes tail c =
    let q = x.numbers.by in let w = x.numbers.back in let C = composed q w none_viewed A (assigned made) in
    let y = x.such in let a = y.cursor' in let S = of_statements (as_statements call) a in let O = of_optional y.site l S.1 in
    round_a_tail q x.numbers.loops (items_apart q D E k) (given_types D A) (given_types E C) (text_corresponds q w D E k A (assigned made)) y.node y.node.span (some_diverges y.front)
    (of_statements (as_statements run) y.cursor).0 (of_optional y.site o (of_statements (as_statements run) y.cursor).1).0 S.0 O.0
    (same y.ends.0) (same (y.ends.1 (some_diverges y.front))) f g
    (subst (λ (i : Instead). RenumberedFunction q x.numbers.loops (with_others q x.numbers.loops no_holes i) f g) y.is x.like) c
    (end_covered E (q.items f.item) C (node_at q y.node y.node.span) fits (entries_are_had q w A made apart) takes tail)

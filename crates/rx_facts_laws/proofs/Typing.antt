-- Each function of a typed program has the typed tree of a function with numbers, so no two of its sites have the same action.
use Rattle.std.proofs.Common.{ℕ, suc, List, [], ◌∷◌, sym, subst}
use Rattle.rx_core.specs.declared.types.Span.{Span}
use Rattle.rx_tree.specs.Plain as plain
use Rattle.rx_tree.specs.Plain.{ProgramTree}
use Rattle.rx_resolve_names.specs.declared.resolved.ItemNames.{ItemNames}
use Rattle.rx_resolve_names.specs.declared.resolved.NodeNames.{NodeNames}
use Rattle.rx_typed.specs.Naming.{function_named}
use Rattle.rx_typed.specs.Elaborated.{Assigned, elaborated}
use Rattle.rx_typed.specs.PlainTree.{plain-TypedTree}
use Rattle.rx_lower_walks.specs.Walks.{Among, here, there}
use Rattle.rx_lower_walks.specs.Graph.{EachOnce}
use Rattle.rx_lower_walks.specs.Pieces.{graph}
use Rattle.rx_lower_walks.specs.Text.{actions_of}
use Rattle.rx_typeck_typed.specs.declared.typed.TypedFn.{TypedFn}
use Rattle.rx_typeck_typed.specs.Typing.{Given, FunctionTyped, FunctionsTyped}

-- what law `actions_are_distinct` of rx_lower_walks says
abbrev Distinct : Type 0
Distinct = (A : Assigned) (i : ℕ) (s : Span) (f : plain.Function) (ns : List NodeNames) → EachOnce (actions_of (graph (elaborated A (function_named i s f ns))))

once_in : (distinct : Distinct) (G : Given) (i : ℕ) (s : Span) (f : plain.Function) (ns : List NodeNames) (vars : List Span) (t : TypedFn)
    → FunctionTyped G i s f ns vars t → EachOnce (actions_of (graph (plain-TypedTree t.tree)))
once_in distinct G i s f ns vars t h = subst (λ b. EachOnce (actions_of (graph b))) (sym h.tree) (distinct _ i s f ns)

pub each_once : (distinct : Distinct) (G : Given) (ns : List ItemNames) (i : ℕ) (p : ProgramTree) (ts : List TypedFn) → FunctionsTyped G ns i p ts
    → (f : TypedFn) → Among f ts → EachOnce (actions_of (graph (plain-TypedTree f.tree)))
each_once distinct G ns i [] ts e f m = elim (subst (λ (l : List TypedFn). Among f l) e m) [ ]
each_once distinct G ns i (plain.function_item s F ∷ is) [] h f m = absurd h
each_once distinct G ns i (plain.function_item s F ∷ is) (t ∷ ts) h f here = once_in distinct G i s F _ _ t h.0
each_once distinct G ns i (plain.function_item s F ∷ is) (t ∷ ts) h f (there m) = each_once distinct G ns (suc i) is ts h.1 f m
each_once distinct G ns i (_ ∷ is) ts h f m = each_once distinct G ns (suc i) is ts h f m

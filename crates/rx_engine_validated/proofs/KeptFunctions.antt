-- A function of one text by two tables of names, which name the same variables and loops, is one function by other numbers of items.
use Rattle.std.proofs.Common.{◌≡◌, ℕ, Bool, true, false, List, [], ◌∷◌, sym, subst}
use Rattle.rx_core.specs.declared.types.Span.{Span}
use Rattle.rx_tree.specs.Plain.{Parameter, Function}
use Rattle.rx_resolve_names.specs.declared.resolved.NodeNames.{NodeNames}
use Rattle.rx_typed.specs.declared.nodes.Node.{Node}
use Rattle.rx_typed.specs.declared.nodes.Site.{Site}
use Rattle.rx_typed.specs.declared.nodes.Stage.{Stage}
use Rattle.rx_typed.specs.declared.nodes.Declaration.{Declaration}
use Rattle.rx_typed.specs.Naming as numbering
use Rattle.rx_typed.specs.Naming.{Annotation, Cursor, Numbering, a_node, an_entry, taken, first, second}
use Rattle.rx_engine_names.specs.LikeNamed as alike
use Rattle.rx_engine_names.specs.LikeNamed.{LikeWritten, LikeWrittens, LikeOptionalWritten, LikePattern, LikePatterns, LikeFieldPatterns, LikeAnnotation, LikeExp, LikeExps, LikeElse, LikeFields, LikeArms, LikeBody, LikeStatement, LikeStatements, LikeParameters, LikeFunction}
use Rattle.rx_engine_names.specs.Alike.{same_numbers}
use Rattle.rx_engine_typing.specs.Renumbered as ren
use Rattle.rx_engine_typing.specs.Renumbered.{no_holes, RenumberedType, RenumberedTypes, RenumberedAnnotation, RenumberedPattern, RenumberedPatterns, RenumberedFieldPatterns, RenumberedExp, RenumberedExps, RenumberedElse, RenumberedFields, RenumberedArms, RenumberedBody, RenumberedStatement, RenumberedStatements, RenumberedParameters, RenumberedNodes, RenumberedFunction}
use Rattle.rx_engine_blocks.specs.DemandsLike.{Is}
use Rattle.rx_engine_blocks.specs.DemandsLike.Is.{itself}
use Rattle.rx_engine_validated.specs.Kept.{kept, same}
use Rattle.rx_engine_validated.proofs.InStep.{InStep, in_step, Kept, next_node, next_entry, next_declared, variables_same}
use Rattle.rx_engine_validated.proofs.KeptPatterns.{type_kept, optional_type_kept}
use Rattle.rx_engine_validated.proofs.KeptExpressions.{body_along}

nodes_same : (items : ℕ → ℕ) (ns : List Node) → RenumberedNodes (kept items) ns ns
nodes_same items [] = ren.RenumberedNodes.no_node
nodes_same items (n ∷ ns) = ren.RenumberedNodes.node_and {n = n} {s = n.span} (nodes_same items ns)

is_item : {i j : ℕ} → i ≡ j → Is i j
is_item {i} {j} e = subst (λ (z : ℕ). Is i z) e itself

module _ (items : ℕ → ℕ) where
  parameters_kept : {c c' : Cursor} (xs : List Parameter) → InStep c c' → LikeParameters (same_numbers items) (numbering.of_parameters xs c).0 (numbering.of_parameters xs c').0 → Kept (RenumberedParameters (kept items)) (numbering.of_parameters xs c) (numbering.of_parameters xs c')
  parameters_kept [] st h = record { like = ren.RenumberedParameters.no_parameter; steps = st }
  parameters_kept (x ∷ xs) (in_step {P = P} {Q = Q} {Q' = Q'}) (alike.like_more_parameters v h hs) =
      let d : Declaration = record { mutable = x.mutable; stage = Stage.Known } in
      let y = type_kept items x.typ (next_declared d (in_step {P = P} {Q = Q} {Q' = Q'})) h in let z = parameters_kept xs y.steps hs in
      record { like = ren.RenumberedParameters.parameter_and {x = P.declared} y.like z.like; steps = z.steps }

  entry_kept : {c c' : Cursor} (b : Bool) → InStep c c' → InStep (numbering.entry_if b c).1 (numbering.entry_if b c').1
  entry_kept true st = next_entry st
  entry_kept false st = st

  begun : (ns ns' : List NodeNames) → InStep (numbering.begins ns) (numbering.begins ns')
  begun ns ns' = in_step {P = record { number = 0; loops = []; declared = 0; variables = [] }} {Q = record { spans = []; names = ns; annotations = [] }} {Q' = record { spans = []; names = ns'; annotations = [] }}

  pub function_kept : (i i' : ℕ) (s : Span) (f : Function) (ns ns' : List NodeNames) → items i ≡ i' → LikeFunction alike.no_holes (same_numbers items) (numbering.function_named i s f ns) (numbering.function_named i' s f ns')
      → RenumberedFunction (kept items) same no_holes (numbering.function_named i s f ns) (numbering.function_named i' s f ns')
  function_kept i i' s f ns ns' e h =
      let a = entry_kept (numbering.has_entry f) (next_node s Site.Value (begun ns ns')) in
      let x = parameters_kept f.params a h.params in
      let y = optional_type_kept items f.result x.steps h.result in
      let z = body_along items Site.Expects f.body y.steps h.body in
      record {
        item = is_item e;
        params = x.like;
        result = y.like;
        body = z.like;
        never_given = subst (λ (vs : List Declaration). RenumberedNodes (kept items) (numbering.function_named i s f ns).never_given (numbering.all_waiting vs)) (sym (variables_same z.steps)) (nodes_same items (numbering.function_named i s f ns).never_given);
      }

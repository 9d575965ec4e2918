-- So the caller and the new function are initialised, where variables are of the text's types and all functions move by type.
use Rattle.std.proofs.Common.{◌≡◌, ◌≢◌, ℕ, Bool, List, [], ◌∷◌, map, Some, refl, subst, ap}
use Rattle.rx_typed.specs.Tree as tree
use Rattle.rx_typed.specs.Tree.{Mark, Temporary, Parameter, Operands, Exp, Body, Function, mark_of, temporary_of}
use Rattle.rx_typed_declarations.specs.Sizes.{Sized}
use Rattle.rx_lower_walks.specs.Matching.{bindings}
use Rattle.rx_lower_walks.specs.Actions.{subject}
use Rattle.rx_lower_walks.specs.Orders.{Order, beginning, order_body, order_function}
use Rattle.rx_lower_walks.specs.Orders as order
use Rattle.rx_lower_walks.specs.Walks.{Among}
use Rattle.rx_facts_tables.specs.Places.{Frame}
use Rattle.rx_facts_tables.specs.Initialised.{Initialised}
use Rattle.rx_exits_plan.specs.Bound.{variables_of_params}
use Rattle.rx_exits_plan.specs.Runs.{inside}
use Rattle.rx_exits_plan.specs.Points.{next}
use Rattle.rx_exits_plan.specs.Changed.{changed_statement}
use Rattle.rx_exits_plan.specs.Asked.{Asked}
use Rattle.rx_exits_plan.specs.Plan.{Plan}
use Rattle.rx_exits_plan.specs.Unreachable.{At, Unreachable}
use Rattle.rx_modes_policy.specs.declared.uses.Mode.{Mode}
use Rattle.rx_engine_simulation.specs.Turns.{Allowance}
use Rattle.rx_engine_simulation.specs.Histories.{Facts}
use Rattle.rx_engine_simulation.specs.Sights.{Sight, sight, Renaming, sight_of}
use Rattle.rx_engine_simulation.specs.Places.{IsDirect}
use Rattle.rx_engine_simulation.specs.Jumps.{Jumping}
use Rattle.rx_engine_simulation.specs.Openings.{Openings}
use Rattle.rx_engine_simulation.specs.Binders.{LikeParams, no_param, param_and}
use Rattle.rx_engine_simulation.specs.Blocks.{Stretch, done, does_then, declares_then, lets_then, before, with_locals}
use Rattle.rx_engine_simulation.specs.Packing.{Way, no_way}
use Rattle.rx_engine_simulation.specs.Endings.{Last}
use Rattle.rx_engine_simulation.specs.Statements.{body_of}
use Rattle.rx_engine_related.specs.AboutRun.{special_of}
use Rattle.rx_engine_related.specs.ByForm.{RelatedFunction, IsItself}
use Rattle.rx_engine_related.specs.InBlock.{in_its_block}
use Rattle.rx_engine_related.specs.Given.{EntersWith}
use Rattle.rx_engine_related.specs.Had.{Had}
use Rattle.rx_engine_related.specs.Moved.{Moved, Ended, gives_outs, gives_last, gives_never, gives_left}
use Rattle.rx_engine_related.specs.Never.{NeverEnds}
use Rattle.rx_engine_related.specs.Running.{passing}
use Rattle.rx_engine_blocks.specs.Renumbering.{Renumbering}
use Rattle.rx_engine_initial.specs.Variables.{Sides}
use Rattle.rx_engine_initial.specs.Planned.{IsTextOf}
use Rattle.rx_engine_initial_forms.specs.Agreeing.{AllLike}
use Rattle.rx_engine_initial_related.specs.Moving.{LeavesBy, stretch_of}
use Rattle.rx_engine_initial_related.specs.Ending.{left_of, with_left, EndMoves}
use Rattle.rx_engine_initial_related.proofs.Callers.{caller_initialised}
use Rattle.rx_engine_initial_related.proofs.OtherEnds.{ended_function_initialised}
use Rattle.rx_engine_initial_typed.specs.SameTypes.{DeclaresAlike, SameVariable, TypedScope}
use Rattle.rx_engine_initial_typed.specs.ByType.{ReadsByType}
use Rattle.rx_engine_initial_typed.specs.OfTypes.{in_caller, ExpOfTypes, SamePairs, StretchOfTypes, EndOfTypes}
use Rattle.rx_engine_initial_typed.proofs.Corresponding.{like_variable}
use Rattle.rx_engine_initial_typed.proofs.Moves.{of_first, of_second, of_ending, behind_bindings, behind_declared, scope_and}
use Rattle.rx_engine_initial_typed.proofs.Callers.{exp_calls}
use Rattle.rx_engine_initial_typed.proofs.Moved.{exp_moves, stretch_moves}
use Rattle.rx_engine_initial_typed.proofs.MarkedReads.{run_reads}

module _ {F : Frame} where
  behind_params : (ps : List Parameter) (n : ℕ) (rest : Order) → ReadsByType F (beginning ps n rest) → ReadsByType F rest
  behind_params [] n rest h = h
  behind_params (p ∷ ps) n rest h = behind_params ps n rest (of_ending (of_second (of_second h)))

  pub of_body : (f : Function) → ReadsByType F (order_function f) → ReadsByType F (order.order f.body (temporary_of f.body))
  of_body f h = behind_params f.params (mark_of f.body).node (order.order f.body (temporary_of f.body)) h

  behind_locals : (ls : List (ℕ × ℕ)) (b : Body) (n : ℕ) (d : Temporary) → ReadsByType F (order_body (with_locals ls b) n d) → ReadsByType F (order_body b n d)
  behind_locals [] b n d h = h
  behind_locals (l ∷ ls) b n d h = behind_locals ls b n d (behind_declared l.0 (l.1 ∷ []) n (order_body (with_locals ls b) n d) h)

  behind_stretch : (r : Stretch) (b : Body) (n : ℕ) (d : Temporary) → ReadsByType F (order_body (before r b) n d) → ReadsByType F (order_body b n d)
  behind_stretch done b n d h = h
  behind_stretch (does_then e r) b n d h = behind_stretch r b n d (of_second h)
  behind_stretch (declares_then k xs r) b n d h = behind_stretch r b n d (behind_declared k xs n (order_body (before r b) n d) h)
  behind_stretch (lets_then k p c r) b n d h = behind_stretch r b n d (behind_bindings (subject c) (bindings [] p) n (order_body (before r b) n d) (of_second h))

two_parts : (r : Stretch) (l : Last) (b : Body) → before (with_left r l) b ≡ before r (before (left_of l) b)
two_parts done l b = refl
two_parts (does_then e r) l b = ap (λ c. tree.runs e c) (two_parts r l b)
two_parts (declares_then n xs r) l b = ap (λ c. tree.declares n xs c) (two_parts r l b)
two_parts (lets_then n p d r) l b = ap (λ c. tree.lets n p d c) (two_parts r l b)

module _ (r : Renumbering) (S : Sides) (alike : DeclaresAlike r S.frame_there S.frame) where
  pub nothing_typed : TypedScope r S []
  nothing_typed x y w e i = absurd (cc)

  pub params_so : {V : Facts} {N M : Renaming} {ps qs : List Parameter} → LikeParams V N ps qs M → SamePairs r S (variables_of_params ps) (variables_of_params qs) → TypedScope r S N → AllLike S (variables_of_params ps) (variables_of_params qs) × TypedScope r S M
  params_so no_param s t = (tt, t)
  params_so (param_and {R = N} {p = p} {q = q} w n e f l) s t =
      let z = params_so l s.1 (scope_and r S alike N t p.variable q.variable w s.0.typ) in ((like_variable r S alike p.variable q.variable s.0, z.0), z.1)

  pub caller_of_types_initialised : (A : Asked) (k : Plan) → Sized S.frame.declared S.frame.sizes → Sized S.frame_there.declared S.frame_there.sizes → IsTextOf S A k → Initialised S.frame_there S.muts_there S.text
      → (items : ℕ → ℕ) (O : Openings) (gain : Allowance) (special : List ℕ) (f : Function) (l : RelatedFunction items (in_its_block A S.muts_there k items O gain) gain special A.function f)
      → SamePairs r S (variables_of_params A.function.params) (variables_of_params f.params) → ExpOfTypes r S (in_caller S A k) l.body → ReadsByType S.frame_there (order_function A.function) → ReadsByType S.frame (order_function f) → Initialised S.frame S.muts f
  caller_of_types_initialised A k sized sized_there text initialised items O gain special f l same so there here =
      let z = params_so l.params same nothing_typed in
      caller_initialised S A k sized sized_there text initialised items O gain special f l z.0
      (exp_calls r S alike A k l.body so z.1 (temporary_of A.function.body) (temporary_of f.body) (of_body A.function there) (of_body f here))

  end_moves : {items : ℕ → ℕ} {gain : Allowance} {U : List ℕ} {special : List ℕ} {J : Jumping} {R : Renaming} {l : Last} {w : Way} {xs : List ℕ} {end : Body} (d : Ended items gain U special J R l w xs end) → EndOfTypes r S d → TypedScope r S R
      → (b : Body) (n m : ℕ) (t u : Temporary) → ReadsByType S.frame_there (order_body (before (left_of l) b) n t) → ReadsByType S.frame (order_body end m u) → EndMoves S d
  end_moves (gives_outs h g) s n b i j t u x y = tt
  end_moves (gives_last {e = e} {e' = e'} l) s n b i j t u x y = exp_moves r S alike l s n (temporary_of e) (temporary_of e') (of_first x) (of_first y)
  end_moves gives_never s n b i j t u x y = tt
  end_moves (gives_left {e = e} {e' = e'} l) s n b i j t u x y = exp_moves r S alike l s n (temporary_of e) (temporary_of e') (of_first x) (of_first y)

  pub new_function_of_types_initialised : (A : Asked) (k : Plan) → Had A S.muts_there k → IsItself (Some (Some A.function)) → ((q : At) → Unreachable A q → ⊥) → Sized S.frame.declared S.frame.sizes → Sized S.frame_there.declared S.frame_there.sizes
      → IsTextOf S A k → Initialised S.frame_there S.muts_there S.text
      → {again : Bool} {modes : List Mode} {R Ra Rb : Renaming} {es : Operands} {ps : List Parameter} {ls : List (ℕ × ℕ)} → EntersWith again k modes R es ps ls Ra → ((x : ℕ) (e : Sight) → sight_of Ra x ≡ Some e → IsDirect e.how → SameVariable r S x e.to)
      → {items : ℕ → ℕ} {gain : Allowance} {U : List ℕ} {J : Jumping} {q q' : Stretch} {l : Last} → stretch_of (map (changed_statement (passing A.home.around.loops)) (inside A.run A.home.body)) ≡ with_left q l
      → (m : Moved items gain U (special_of A S.muts_there k) J Ra q q' Rb) → StretchOfTypes r S m → LeavesBy k J → J.loops ≡ [] → {w : Way} {end : Body} (d : Ended items gain U (special_of A S.muts_there k) J Rb l w (k.outs next) end) → EndOfTypes r S d
      → (w ≢ no_way → Among next k.exits) → (w ≡ no_way → NeverEnds l q) → (f : Function) (mb : Mark) → f.params ≡ ps → f.body ≡ body_of mb ls q' end
      → ReadsByType S.frame_there (order_function A.function) → ReadsByType S.frame (order_function f) → Initialised S.frame S.muts f
  new_function_of_types_initialised A k had self reached sized sized_there text initialised {Ra = Ra} {ls = ls} given same {q = q} {q' = q'} {l = l} all m so v none {end = end} d es nexts never f mb params body there here =
      let a = run_reads S.frame_there A there had.sits.block mb in
      let unit = tree.ends (tree.unit mb) in
      let x = subst (λ c. ReadsByType S.frame_there (order_body c A.run.block a.0)) (two_parts q l unit) (subst (λ s. ReadsByType S.frame_there (order_body (before s unit) A.run.block a.0)) all a.1) in
      let y = behind_locals ls (before q' end) mb.node (temporary_of (body_of mb ls q' end)) (subst (λ e. ReadsByType S.frame (order.order e (temporary_of e))) body (of_body f here)) in
      let scope : TypedScope r S Ra = λ z u h p i. (same z (sight u h) p i).typ in
      let z = stretch_moves r S alike m so scope (before (left_of l) unit) end A.run.block mb.node a.0 (temporary_of (body_of mb ls q' end)) x y in
      ended_function_initialised S A k had self reached sized sized_there text initialised given (λ u e p i. like_variable r S alike u e.to (same u e p i)) all m z.0 v none d
      (end_moves d es z.1 unit A.run.block mb.node a.0 (temporary_of (body_of mb ls q' end)) (behind_stretch q (before (left_of l) unit) A.run.block a.0 x) (behind_stretch q' end mb.node (temporary_of (body_of mb ls q' end)) y)) nexts never f mb params body

-- The caller and the new function of typed programs.
use Rattle.std.proofs.Common.{◌≡◌, ◌≢◌, ℕ, Bool, List, [], map, Some, refl, sym, subst, ◌==◌, true}
use Rattle.rx_typed.specs.Types.{Declarations}
use Rattle.rx_typed.specs.Tree.{Mark, Parameter, Operands, Body, Function, Temporary}
use Rattle.rx_typed.specs.PlainTree.{plain-TypedTree}
use Rattle.rx_typed_declarations.specs.Sizes.{Sized}
use Rattle.rx_lower_walks.specs.Orders.{order_function, order_body}
use Rattle.rx_lower_walks.specs.Walks.{Among}
use Rattle.rx_facts_tables.specs.Places.{Frame}
use Rattle.rx_facts_tables.specs.Initialised.{Initialised}
use Rattle.rx_facts.specs.Functions.{frame_of, IsInitialised}
use Rattle.rx_exits_plan.specs.Bound.{variables_of_params}
use Rattle.rx_exits_plan.specs.Runs.{inside}
use Rattle.rx_exits_plan.specs.Points.{next}
use Rattle.rx_exits_plan.specs.Changed.{changed_statement}
use Rattle.rx_exits_plan.specs.Asked.{Asked}
use Rattle.rx_exits_plan.specs.Plan.{Plan}
use Rattle.rx_exits_plan.specs.Unreachable.{At, Unreachable}
use Rattle.rx_modes_policy.specs.declared.uses.Mode.{Mode}
use Rattle.rx_typeck_typed.specs.declared.typed.TypedFn.{TypedFn}
use Rattle.rx_engine_simulation.specs.Turns.{Allowance}
use Rattle.rx_engine_simulation.specs.Sights.{Sight, Renaming, sight_of}
use Rattle.rx_engine_simulation.specs.Places.{IsDirect}
use Rattle.rx_engine_simulation.specs.Jumps.{Jumping}
use Rattle.rx_engine_simulation.specs.Openings.{Openings}
use Rattle.rx_engine_simulation.specs.Blocks.{Stretch}
use Rattle.rx_engine_simulation.specs.Packing.{Way, no_way}
use Rattle.rx_engine_simulation.specs.Endings.{Last}
use Rattle.rx_engine_simulation.specs.Statements.{body_of}
use Rattle.rx_engine_related.specs.AboutRun.{special_of, text_of}
use Rattle.rx_engine_related.specs.ByForm.{RelatedFunction, IsItself}
use Rattle.rx_engine_related.specs.InBlock.{in_its_block}
use Rattle.rx_engine_related.specs.Given.{EntersWith}
use Rattle.rx_engine_related.specs.Had.{Had}
use Rattle.rx_engine_related.specs.Moved.{Moved, Ended}
use Rattle.rx_engine_related.specs.Never.{NeverEnds}
use Rattle.rx_engine_related.specs.Running.{passing, running_body}
use Rattle.rx_engine_blocks.specs.Renumbering.{Renumbering}
use Rattle.rx_engine_initial.specs.Variables.{Sides}
use Rattle.rx_engine_initial.specs.Planned.{IsTextOf}
use Rattle.rx_engine_initial.proofs.Planned.{text_initialised}
use Rattle.rx_engine_initial_related.specs.Moving.{LeavesBy, stretch_of}
use Rattle.rx_engine_initial_related.specs.Ending.{with_left}
use Rattle.rx_engine_initial_typed.specs.SameTypes.{DeclaresAlike, SameVariable, TypedScope}
use Rattle.rx_engine_initial_typed.specs.ByType.{ReadsByType}
use Rattle.rx_engine_initial_typed.specs.OfTypes.{in_caller, in_caller_with, ExpOfTypes, SamePairs, StretchOfTypes, EndOfTypes}
use Rattle.rx_engine_initial_typed.proofs.Functions.{caller_of_types_initialised, new_function_of_types_initialised}
use Rattle.rx_engine_initial_reads.specs.InPrograms.{IsAskedOf, sides}
use Rattle.rx_typed.specs.Tree as tree
use Rattle.rx_exits_plan.specs.Spots.{Around, a_block, spots_of_function}
use Rattle.rx_exits_plan.specs.Marked.{marked_body}
use Rattle.rx_exits_plan.specs.MixedInit.{MixedInit}
use Rattle.rx_exits_plan.specs.Coming.{HasNoMark}
use Rattle.rx_modes_policy.specs.declared.uses.Uses.{Uses}
use Rattle.rx_modes_policy.specs.Allowed.{allowed_by, IsMember, HasMember}
use Rattle.rx_modes_uses.specs.Modes.{IsModes}
use Rattle.rx_engine_simulation.specs.Histories.{Facts}
use Rattle.rx_engine_simulation.specs.Passing.{New}
use Rattle.rx_engine_simulation.specs.Like.{LikeBody}
use Rattle.rx_engine_related.specs.Standing.{the_call}
use Rattle.rx_engine_related.proofs.Bare.{NoMarks, no_marks}
use Rattle.rx_engine_initial_forms.specs.Following.{ExpAsked}
use Rattle.rx_engine_initial_related.proofs.InBlocks.{in_function}
use Rattle.rx_engine_initial_blocks.proofs.RunBlocks.{run_block_alike}
use Rattle.rx_engine_initial_typed.specs.BlockOfTypes.{BlockOfTypes, CallsOfTypes, block_of_types}
use Rattle.rx_engine_initial_typed.proofs.Blocks.{run_block_so}
use Rattle.rx_engine_initial_typed.proofs.Called.{called_in_run_block}
use Rattle.rx_engine_initial_typed.proofs.Extracted.{Fair, fair_parts, caller_with_block_initialised}

module _ (D : Declarations) (P : ℕ → ℕ) (g : TypedFn) (E : Declarations) (Q : ℕ → ℕ) (f : TypedFn) (A : Asked) (k : Plan) (asked : IsAskedOf D P g A) (had : Had A g.mutable k) (sized_there : Sized D P) (sized : Sized E Q)
    (there : ReadsByType (frame_of D P g) (order_function (plain-TypedTree g.tree))) (here : ReadsByType (frame_of E Q f) (order_function (plain-TypedTree f.tree)))
    (r : Renumbering) (alike : DeclaresAlike r (frame_of D P g) (frame_of E Q f)) where
  abbrev S : Sides
  S = sides D P g E Q f A k

  text : IsTextOf S A k
  text = record { text = refl; types = sym asked.types }

  initialised : Initialised (frame_of D P g) g.mutable (text_of A k)
  initialised = subst (λ (F : Frame). Initialised F g.mutable (text_of A k)) asked.types (text_initialised A g.mutable had.accepted k had.plan)

  reads_there : ReadsByType (frame_of D P g) (order_function A.function)
  reads_there = subst (λ (h : Function). ReadsByType (frame_of D P g) (order_function h)) (sym asked.function) there

  pub caller_in_program : (items : ℕ → ℕ) (O : Openings) (gain : Allowance) (special : List ℕ) (l : RelatedFunction items (in_its_block A S.muts_there k items O gain) gain special A.function (plain-TypedTree f.tree))
      → SamePairs r S (variables_of_params A.function.params) (variables_of_params (plain-TypedTree f.tree).params) → ExpOfTypes r S (in_caller S A k) l.body → IsInitialised E Q f
  caller_in_program items O gain special l same so =
      caller_of_types_initialised r S alike A k sized sized_there text initialised items O gain special (plain-TypedTree f.tree) l same so reads_there here

  pub new_in_program : IsItself (Some (Some A.function)) → ((q : At) → Unreachable A q → ⊥)
      → {again : Bool} {modes : List Mode} {R Ra Rb : Renaming} {es : Operands} {ps : List Parameter} {ls : List (ℕ × ℕ)} → EntersWith again k modes R es ps ls Ra → ((x : ℕ) (e : Sight) → sight_of Ra x ≡ Some e → IsDirect e.how → SameVariable r S x e.to)
      → {items : ℕ → ℕ} {gain : Allowance} {U : List ℕ} {J : Jumping} {q q' : Stretch} {l : Last} → stretch_of (map (changed_statement (passing A.home.around.loops)) (inside A.run A.home.body)) ≡ with_left q l
      → (m : Moved items gain U (special_of A S.muts_there k) J Ra q q' Rb) → StretchOfTypes r S m → LeavesBy k J → J.loops ≡ [] → {w : Way} {end : Body} (d : Ended items gain U (special_of A S.muts_there k) J Rb l w (k.outs next) end) → EndOfTypes r S d
      → (w ≢ no_way → Among next k.exits) → (w ≡ no_way → NeverEnds l q) → (mb : Mark) → (plain-TypedTree f.tree).params ≡ ps → (plain-TypedTree f.tree).body ≡ body_of mb ls q' end → IsInitialised E Q f
  new_in_program self reached given same all m so v none d es nexts never mb params body =
      new_function_of_types_initialised r S alike A k had self reached sized sized_there text initialised given same all m so v none d es nexts never (plain-TypedTree f.tree) mb params body reads_there here

  -- the run's block, and the function called there
  pub run_block_in_program : IsItself (Some (Some A.function)) → ((q : At) → Unreachable A q → ⊥) → ((x : ℕ) → ¬ (MixedInit A x)) → (choice : Uses → Mode) → ((u : Uses) → HasMember (allowed_by u) → IsMember (choice u) (allowed_by u)) → (modes : List Mode) → IsModes A g.mutable k choice modes
      → {items : ℕ → ℕ} {gain : Allowance} {U : List ℕ} {new : New} {V : Facts} {i : ℕ} {J : Jumping} {N : Renaming} {b : Body}
      (l : LikeBody items (the_call A g.mutable k modes items gain U new) gain V i J N (running_body A.run A.home.around.loops k.params A.home.body) b) → BlockOfTypes r S l → TypedScope r S N
      → HasNoMark (order_function (plain-TypedTree f.tree)) → (m n : Mark) (c : Around) → Among (a_block c n.node b) (spots_of_function (plain-TypedTree f.tree)) → (m.node == A.run.block) ≡ true
      → ExpAsked S J N (tree.block n b) (tree.block m (marked_body A.run A.home.around.loops k.params A.home.body))
  run_block_in_program self reached sure choice policy modes passed {b = b} l s scope bare m n c i e =
      let z = in_function (Fair (frame_of E Q f)) (fair_parts (frame_of E Q f)) (plain-TypedTree f.tree) (record { reads = here; bare = no_marks (order_function (plain-TypedTree f.tree)) bare.none }) c n.node b i in
      run_block_alike S A k had self reached sized text l
      (run_block_so r S alike A k had sure (sym asked.types) choice policy modes passed l s scope n.node z.0 z.1.bare reads_there z.1.reads) m n e z.0 z.1.bare

  pub called_in_program : IsItself (Some (Some A.function)) → ((q : At) → Unreachable A q → ⊥) → {modes : List Mode} {items : ℕ → ℕ} {gain : Allowance} {U : List ℕ} {new : New} {V : Facts} {i : ℕ} {J : Jumping} {N : Renaming} {b : Body}
      (l : LikeBody items (the_call A g.mutable k modes items gain U new) gain V i J N (running_body A.run A.home.around.loops k.params A.home.body) b) → CallsOfTypes r S l → (n : ℕ) (d : Temporary) → NoMarks (order_body b n d)
      → new.function ≡ plain-TypedTree f.tree → IsInitialised E Q f
  called_in_program self reached {new = new} l s n d u e =
      subst (λ (h : Function). Initialised (frame_of E Q f) f.mutable h) e
      (called_in_run_block r S alike A k had self reached sized sized_there text initialised reads_there
      (subst (λ (h : Function). ReadsByType (frame_of E Q f) (order_function h)) (sym e) here) l s n d u)

  -- so the function with the call, where the relation opens at the run's block
  pub extracted_in_program : IsItself (Some (Some A.function)) → ((q : At) → Unreachable A q → ⊥) → ((x : ℕ) → ¬ (MixedInit A x)) → (choice : Uses → Mode) → ((u : Uses) → HasMember (allowed_by u) → IsMember (choice u) (allowed_by u)) → (modes : List Mode) → IsModes A g.mutable k choice modes
      → {items : ℕ → ℕ} {gain : Allowance} {U : List ℕ} {new : New} {special : List ℕ} (l : RelatedFunction items (in_its_block A S.muts_there k items (the_call A g.mutable k modes items gain U new) gain) gain special A.function (plain-TypedTree f.tree))
      → SamePairs r S (variables_of_params A.function.params) (variables_of_params (plain-TypedTree f.tree).params) → ExpOfTypes r S (in_caller_with S A k (block_of_types r S A k {modes = modes} {items = items} {gain = gain} {U = U} {N = new})) l.body
      → HasNoMark (order_function (plain-TypedTree f.tree)) → IsInitialised E Q f
  extracted_in_program self reached sure choice policy modes passed {special = special} l same so bare =
      caller_with_block_initialised r S alike A k had self reached sized sized_there text initialised sure (sym asked.types) choice policy modes passed reads_there special (plain-TypedTree f.tree) l same so here
      (no_marks (order_function (plain-TypedTree f.tree)) bare.none)

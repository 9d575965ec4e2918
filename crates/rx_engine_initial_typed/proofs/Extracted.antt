-- So the caller is initialised, where what is asked along the run's block is what types don't say.
use Rattle.std.proofs.Common.{◌≡◌, ◌==◌, ℕ, true, List, Some, sym, subst}
use Rattle.rx_typed.specs.Tree as tree
use Rattle.rx_typed.specs.Tree.{Mark, Temporary, Body, Function, mark_of, temporary_of}
use Rattle.rx_typed_declarations.specs.Sizes.{Sized}
use Rattle.rx_lower_walks.specs.Orders.{Order, order_body, order_function}
use Rattle.rx_lower_walks.specs.Orders as order
use Rattle.rx_facts_tables.specs.Places.{Frame}
use Rattle.rx_facts_tables.specs.Initialised.{Initialised}
use Rattle.rx_exits_plan.specs.Bound.{variables_of_params}
use Rattle.rx_exits_plan.specs.Marked.{marked_body}
use Rattle.rx_exits_plan.specs.MixedInit.{MixedInit}
use Rattle.rx_exits_plan.specs.Asked.{Asked}
use Rattle.rx_exits_plan.specs.Plan.{Plan}
use Rattle.rx_exits_plan.specs.Unreachable.{At, Unreachable}
use Rattle.rx_modes_policy.specs.declared.uses.Mode.{Mode}
use Rattle.rx_modes_policy.specs.declared.uses.Uses.{Uses}
use Rattle.rx_modes_policy.specs.Allowed.{allowed_by, IsMember, HasMember}
use Rattle.rx_modes_uses.specs.Modes.{IsModes}
use Rattle.rx_engine_simulation.specs.Turns.{Allowance}
use Rattle.rx_engine_simulation.specs.Sights.{Renaming}
use Rattle.rx_engine_simulation.specs.Jumps.{Jumping}
use Rattle.rx_engine_simulation.specs.Passing.{New}
use Rattle.rx_engine_simulation.specs.Like.{LikeBody}
use Rattle.rx_engine_related.specs.AboutRun.{special_of}
use Rattle.rx_engine_related.specs.ByForm.{by_form, RelatedFunction, IsItself}
use Rattle.rx_engine_related.specs.InBlock.{run_block, in_its_block}
use Rattle.rx_engine_related.specs.Had.{Had}
use Rattle.rx_engine_related.specs.Running.{running_body}
use Rattle.rx_engine_related.specs.Standing.{the_call}
use Rattle.rx_engine_related.proofs.Bare.{NoMarks}
use Rattle.rx_engine_blocks.specs.Renumbering.{Renumbering}
use Rattle.rx_engine_initial.specs.Variables.{Sides}
use Rattle.rx_engine_initial.specs.Planned.{IsTextOf}
use Rattle.rx_engine_initial_forms.specs.Following.{ExpAsked}
use Rattle.rx_engine_initial_related.proofs.Callers.{caller_initialised}
use Rattle.rx_engine_initial_related.proofs.InBlocks.{OfParts, of_params}
use Rattle.rx_engine_initial_blocks.proofs.RunBlocks.{run_block_alike}
use Rattle.rx_engine_initial_typed.specs.SameTypes.{DeclaresAlike, TypedScope}
use Rattle.rx_engine_initial_typed.specs.ByType.{ReadsByType}
use Rattle.rx_engine_initial_typed.specs.OfTypes.{in_caller_with, ExpOfTypes, SamePairs}
use Rattle.rx_engine_initial_typed.specs.BlockOfTypes.{BlockOfTypes, OpenedOfTypes, block_of_types}
use Rattle.rx_engine_initial_typed.proofs.Moves.{of_first, of_second, of_one, of_tested, of_next, of_ending, of_pass}
use Rattle.rx_engine_initial_typed.proofs.Callers.{exp_calls_with}
use Rattle.rx_engine_initial_typed.proofs.Functions.{of_body, nothing_typed, params_so}
use Rattle.rx_engine_initial_typed.proofs.Blocks.{run_block_so}

-- what reads by type, and has no mark
pub record Fair (F : Frame) (s : Order) : Type 0 where
  pub reads : ReadsByType F s
  pub bare : NoMarks s

pub fair_parts : (F : Frame) → OfParts (Fair F)
fair_parts F = record {
  first = λ h. record { reads = of_first h.reads; bare = h.bare.0 };
  second = λ h. record { reads = of_second h.reads; bare = h.bare.1 };
  one = λ h. record { reads = of_one h.reads; bare = h.bare.0 };
  tested = λ h. record { reads = of_tested h.reads; bare = h.bare.0 };
  next = λ h. record { reads = of_next h.reads; bare = h.bare.1 };
  ended = λ h. record { reads = of_ending h.reads; bare = h.bare };
  pass = λ h. record { reads = of_pass h.reads; bare = h.bare };
}

module _ (r : Renumbering) (S : Sides) (alike : DeclaresAlike r S.frame_there S.frame) (A : Asked) (k : Plan) (had : Had A S.muts_there k) (self : IsItself (Some (Some A.function))) (reached : (q : At) → Unreachable A q → ⊥)
    (sized : Sized S.frame.declared S.frame.sizes) (sized_there : Sized S.frame_there.declared S.frame_there.sizes) (text : IsTextOf S A k) (initialised : Initialised S.frame_there S.muts_there S.text)
    (sure : (x : ℕ) → ¬ (MixedInit A x)) (types : S.frame_there ≡ A.frame) (choice : Uses → Mode) (policy : (u : Uses) → HasMember (allowed_by u) → IsMember (choice u) (allowed_by u)) (modes : List Mode)
    (passed : IsModes A S.muts_there k choice modes) (there : ReadsByType S.frame_there (order_function A.function)) where
  module _ {items : ℕ → ℕ} {gain : Allowance} {U : List ℕ} {F : New} where
    at_opening : {a : ℕ} {J : Jumping} {N : Renaming} {b b' : Body} (m m' : Mark) (q : (m.node == A.run.block) ≡ true)
        (t : LikeBody items (the_call A S.muts_there k modes items gain U F) gain (by_form (special_of A S.muts_there k)) a J N (running_body A.run A.home.around.loops k.params b) b') → OpenedOfTypes r S (run_block {m = m} {m' = m'} q t)
        → TypedScope r S N → (u : Temporary) → Fair S.frame (order_body b' m'.node u) → ExpAsked S J N (tree.block m' b') (tree.block m (marked_body A.run A.home.around.loops k.params b))
    at_opening {a = a} {J = J} {N = N} {b' = b'} m m' q t s n u g =
        subst (λ (c : Body). (l : LikeBody items (the_call A S.muts_there k modes items gain U F) gain (by_form (special_of A S.muts_there k)) a J N (running_body A.run A.home.around.loops k.params c) b') → BlockOfTypes r S l
        → ExpAsked S J N (tree.block m' b') (tree.block m (marked_body A.run A.home.around.loops k.params c))) (sym s.0)
        (λ l w. run_block_alike S A k had self reached sized text l (run_block_so r S alike A k had sure types choice policy modes passed l w n m'.node u g.bare there g.reads) m m' q u g.bare) t s.1

    pub caller_with_block_initialised : (special : List ℕ) (f : Function) (l : RelatedFunction items (in_its_block A S.muts_there k items (the_call A S.muts_there k modes items gain U F) gain) gain special A.function f)
        → SamePairs r S (variables_of_params A.function.params) (variables_of_params f.params) → ExpOfTypes r S (in_caller_with S A k (block_of_types r S A k {modes = modes} {items = items} {gain = gain} {U = U} {N = F})) l.body
        → ReadsByType S.frame (order_function f) → NoMarks (order_function f) → Initialised S.frame S.muts f
    caller_with_block_initialised special f l same so here bare =
        let z = params_so r S alike l.params same (nothing_typed r S alike) in
        let y = of_params (Fair S.frame) (fair_parts S.frame) f.params (mark_of f.body).node (order.order f.body (temporary_of f.body)) (record { reads = here; bare = bare }) in
        caller_initialised S A k sized sized_there text initialised items (the_call A S.muts_there k modes items gain U F) gain special f l z.0
        (exp_calls_with r S alike A k (Fair S.frame) (fair_parts S.frame) (λ s h. h.reads) (block_of_types r S A k {modes = modes} {items = items} {gain = gain} {U = U} {N = F}) (λ a J N b c m m' q t s n u g. at_opening {a = a} {J = J} {N = N} {b = b} {b' = c} m m' q t s n u g) l.body so z.1
        (temporary_of A.function.body) (temporary_of f.body) (of_body A.function there) y)

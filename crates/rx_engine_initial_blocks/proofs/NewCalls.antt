-- The function that the relation of trees calls in place of the run is initialised.
use Rattle.std.proofs.Common.{◌≡◌, ◌≢◌, ℕ, Bool, List, [], ◌∷◌, Some, refl, sym, ◌∙◌, subst, ap, true≢false}
use Rattle.rx_typed.specs.Tree.{Temporary, Exp, Body, temporary_of}
use Rattle.rx_typed_declarations.specs.Sizes.{Sized}
use Rattle.rx_lower_walks.specs.Matching.{bindings}
use Rattle.rx_lower_walks.specs.Actions.{subject}
use Rattle.rx_lower_walks.specs.Orders.{order_body}
use Rattle.rx_lower_walks.specs.Walks.{Among, here}
use Rattle.rx_facts_tables.specs.Initialised.{Initialised}
use Rattle.rx_exits_plan.specs.Blocks as block
use Rattle.rx_exits_plan.specs.Blocks.{Statement}
use Rattle.rx_exits_plan.specs.Runs.{in_front}
use Rattle.rx_exits_plan.specs.Points.{next}
use Rattle.rx_exits_plan.specs.Asked.{Asked}
use Rattle.rx_exits_plan.specs.Plan.{Plan}
use Rattle.rx_exits_plan.specs.Unreachable.{At, Unreachable}
use Rattle.rx_modes_policy.specs.declared.uses.Mode.{Mode}
use Rattle.rx_engine_simulation.specs.Turns.{Allowance}
use Rattle.rx_engine_simulation.specs.Histories.{Facts}
use Rattle.rx_engine_simulation.specs.Like.{LikeBody, opens_in, ends_in, runs_on, declares_all, lets_in, reads_place, looks_behind}
use Rattle.rx_engine_simulation.specs.Sights.{Renaming}
use Rattle.rx_engine_simulation.specs.Jumps.{Jumping}
use Rattle.rx_engine_simulation.specs.Passing.{New}
use Rattle.rx_engine_simulation.specs.Packing.{Way, no_way}
use Rattle.rx_engine_related.specs.ByForm.{IsItself}
use Rattle.rx_engine_related.specs.Had.{Had}
use Rattle.rx_engine_related.specs.Standing.{CallOf, call_alone, call_matched, call_left, RunBecomesCall, run_becomes_call, the_call}
use Rattle.rx_engine_related.specs.Running.{running_body}
use Rattle.rx_engine_related.proofs.Bare.{NoMarks}
use Rattle.rx_engine_initial.specs.Variables.{Sides}
use Rattle.rx_engine_initial.specs.Planned.{IsTextOf}
use Rattle.rx_engine_initial_related.specs.Moving.{LeavesBy}
use Rattle.rx_engine_initial_related.proofs.MovedRuns.{jumps_leave, none_leave, next_there}
use Rattle.rx_engine_initial_related.proofs.OtherEnds.{ended_function_initialised}
use Rattle.rx_engine_initial_blocks.specs.NewCall.{NewSo, CallsSo}
use Rattle.rx_engine_initial_related.proofs.InBlocks.{of_bindings, of_declared}
use Rattle.rx_engine_initial_blocks.proofs.Marks.{is_made, unmarked, like_made}
use Rattle.rx_engine_initial_blocks.proofs.Cutting.{AllPlain, written_so}
use Rattle.rx_engine_initial_blocks.proofs.RunBlocks.{marked_not, first_of, rest_of, no_declaration, no_let, no_mark_parts, plain_front, from_the_run, run_is}

pub record Leaves (k : Plan) (J : Jumping) (w : Way) : Type 0 where
  pub leaves : LeavesBy k J
  pub alone : J.loops ≡ []
  pub goes_on : w ≢ no_way → Among next k.exits

pub leaves_so : {A : Asked} {muts : List Bool} {k : Plan} {J Ji : Jumping} {R : Renaming} {called e : Exp} {w : Way} → CallOf A muts k J R called Ji w e → Leaves k Ji w
leaves_so {k = k} (call_alone e) = record { leaves = none_leave k; alone = refl; goes_on = λ n. subst (λ xs. Among next xs) (sym e) here }
leaves_so {A = A} {muts = muts} {k = k} (call_matched unit q a p r n g e) = record { leaves = jumps_leave A muts k unit; alone = refl; goes_on = λ n. next_there k q }
leaves_so {A = A} {muts = muts} {k = k} (call_left unit n a) = record { leaves = jumps_leave A muts k unit; alone = refl; goes_on = λ f. absurd (f refl) }

pub called_function_initialised : (S : Sides) (A : Asked) (k : Plan) (had : Had A S.muts_there k) → IsItself (Some (Some A.function)) → ((q : At) → Unreachable A q → ⊥) → Sized S.frame.declared S.frame.sizes → Sized S.frame_there.declared S.frame_there.sizes
    → IsTextOf S A k → Initialised S.frame_there S.muts_there S.text
    → {modes : List Mode} {items : ℕ → ℕ} {gain : Allowance} {U : List ℕ} {N : New} {a : ℕ} {J : Jumping} {R Rn : Renaming} {rest : Body} {f g : Body → Body} (c : RunBecomesCall A S.muts_there k modes items gain U N a J R Rn rest f g)
    → NewSo S c → f rest ≡ from_the_run A S.muts_there k had → Initialised S.frame S.muts N.function
called_function_initialised S A k had self reached sized sized_there text initialised {N = N} {rest = rest} (run_becomes_call {r = r} Ra Rb mb ls body given moved ended never call handed) so q =
    let z = leaves_so call in
    ended_function_initialised S A k had self reached sized sized_there text initialised given so.0 (sym (run_is A S.muts_there k had ended r rest q).0) moved so.1 z.leaves z.alone ended so.2 z.goes_on never N.function mb refl body

-- along the run's block, up to the call
module _ (S : Sides) (A : Asked) (k : Plan) (had : Had A S.muts_there k) (self : IsItself (Some (Some A.function))) (reached : (q : At) → Unreachable A q → ⊥) (sized : Sized S.frame.declared S.frame.sizes) (sized_there : Sized S.frame_there.declared S.frame_there.sizes)
    (text : IsTextOf S A k) (initialised : Initialised S.frame_there S.muts_there S.text) where
  abbrev From : Body
  From = from_the_run A S.muts_there k had

  module _ {modes : List Mode} {items : ℕ → ℕ} {gain : Allowance} {U : List ℕ} {N : New} where
    at_call : {a : ℕ} {J : Jumping} {R Rn : Renaming} {rest : Body} {f g : Body → Body} (c : RunBecomesCall A S.muts_there k modes items gain U N a J R Rn rest f g) → NewSo S c → (ss : List Statement) → AllPlain ss → f rest ≡ block.before ss From
        → Initialised S.frame S.muts N.function
    at_call c so [] h q = called_function_initialised S A k had self reached sized sized_there text initialised c so q
    at_call {rest = rest} (run_becomes_call {r = r} Ra Rb mb ls body given moved ended never call handed) so (block.does e ∷ ss) h q = marked_not e h.0 (first_of (sym (written_so ended k r rest) ∙ q))
    at_call {rest = rest} (run_becomes_call {r = r} Ra Rb mb ls body given moved ended never call handed) so (block.begins n xs ∷ ss) h q = no_declaration (sym (written_so ended k r rest) ∙ q)
    at_call {rest = rest} (run_becomes_call {r = r} Ra Rb mb ls body given moved ended never call handed) so (block.binds n p c ∷ ss) h q = no_let (sym (written_so ended k r rest) ∙ q)

    module _ {V : Facts} where
      pub called_in_block : {i : ℕ} {J : Jumping} {R : Renaming} {b b' : Body} (l : LikeBody items (the_call A S.muts_there k modes items gain U N) gain V i J R b b') → CallsSo S l → (n : ℕ) (d : Temporary) → NoMarks (order_body b' n d)
          → (ss : List Statement) → AllPlain ss → b ≡ block.before ss From → Initialised S.frame S.muts N.function
      called_in_block (opens_in a i h o l) s n d u ss p q = at_call o s ss p q
      called_in_block (ends_in l) s n d u [] p q = absurd (cc)
      called_in_block (ends_in l) s n d u (block.does e ∷ ss) p q = absurd (cc)
      called_in_block (ends_in l) s n d u (block.begins m xs ∷ ss) p q = absurd (cc)
      called_in_block (ends_in l) s n d u (block.binds m w c ∷ ss) p q = absurd (cc)
      called_in_block (runs_on {e' = e'} i j h a l) s n d u [] p q = absurd (true≢false (sym (like_made a (ap is_made (first_of q))) ∙ unmarked e' (temporary_of e') u.0))
      called_in_block (runs_on i j h a l) s n d u (block.does f ∷ ss) p q = called_in_block l s n d u.1 ss p.1 (rest_of q)
      called_in_block (runs_on i j h a l) s n d u (block.begins m xs ∷ ss) p q = no_declaration q
      called_in_block (runs_on i j h a l) s n d u (block.binds m w c ∷ ss) p q = no_let q
      called_in_block (declares_all M c l) s n d u [] p q = absurd (cc)
      called_in_block (declares_all M c l) s n d u (block.does e ∷ ss) p q = absurd (cc)
      called_in_block (declares_all {s' = m'} {ys = ys} {b = r} {b' = b'} M c l) s n d u (block.begins m xs ∷ ss) p q =
          called_in_block l s n d (of_declared NoMarks no_mark_parts m' ys n (order_body b' n d) u) ss p.1 (let i : r ≡ block.before ss From = cc in i)
      called_in_block (declares_all M c l) s n d u (block.binds m w e ∷ ss) p q = absurd (cc)
      called_in_block (lets_in M x y h c v l) s n d u [] p q = absurd (cc)
      called_in_block (lets_in M x y h c v l) s n d u (block.does e ∷ ss) p q = absurd (cc)
      called_in_block (lets_in M x y h c v l) s n d u (block.begins m zs ∷ ss) p q = absurd (cc)
      called_in_block (lets_in {q' = o} {c' = c} {b = r} {b' = b'} M x y h a v l) s n d u (block.binds m w e ∷ ss) p q =
          called_in_block l s n d (of_bindings NoMarks no_mark_parts (subject c) (bindings [] o) n (order_body b' n d) u.1) ss p.1 (let i : r ≡ block.before ss From = cc in i)
      called_in_block (reads_place l) s n d u ss p q = absurd s
      called_in_block (looks_behind x e a l) s n d u ss p q = absurd s

      pub called_in_run_block : {i : ℕ} {J : Jumping} {R : Renaming} {b' : Body} (l : LikeBody items (the_call A S.muts_there k modes items gain U N) gain V i J R (running_body A.run A.home.around.loops k.params A.home.body) b') → CallsSo S l
          → (n : ℕ) (d : Temporary) → NoMarks (order_body b' n d) → Initialised S.frame S.muts N.function
      called_in_run_block l s n d u = called_in_block l s n d u (in_front A.run A.home.body) (plain_front A S.muts_there k had) refl

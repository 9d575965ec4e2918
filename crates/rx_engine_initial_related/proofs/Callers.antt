-- So the caller is initialised.
use Rattle.std.proofs.Common.{◌≡◌, ℕ, List, refl, sym, ◌∙◌, subst}
use Rattle.rx_typed.specs.Tree.{Parameter, Function}
use Rattle.rx_typed_declarations.specs.Sizes.{Sized}
use Rattle.rx_facts_tables.specs.Initialised.{Initialised}
use Rattle.rx_exits_plan.specs.Bound.{variables_of_params}
use Rattle.rx_exits_plan.specs.Asked.{Asked}
use Rattle.rx_exits_plan.specs.Plan.{Plan}
use Rattle.rx_meaning_keeping.proofs.Parts.{parted}
use Rattle.rx_engine_simulation.specs.Turns.{Allowance}
use Rattle.rx_engine_simulation.specs.Openings.{Openings}
use Rattle.rx_engine_related.specs.ByForm.{by_form, RelatedFunction}
use Rattle.rx_engine_related.specs.InBlock.{in_its_block}
use Rattle.rx_engine_initial.specs.Variables.{Sides, KnownVariables}
use Rattle.rx_engine_initial.specs.Planned.{IsTextOf}
use Rattle.rx_engine_initial_forms.specs.Binders.{AlikeParams, no_param, param_and}
use Rattle.rx_engine_initial_forms.specs.Alike.{AlikeExp}
use Rattle.rx_engine_initial_forms.specs.Agreeing.{AllLike}
use Rattle.rx_engine_initial_forms.proofs.Begun.{params_alike}
use Rattle.rx_engine_initial_forms.proofs.Forms.{alike_initialised}
use Rattle.rx_engine_initial_related.specs.Calling.{ExpCalls}
use Rattle.rx_engine_initial_related.proofs.EntryScope.{nothing_agrees}
use Rattle.rx_engine_initial_related.proofs.MovedRuns.{loops_agree}
use Rattle.rx_engine_initial_related.proofs.NewFunctions.{nothing_known}
use Rattle.rx_engine_initial_related.proofs.CallerTrees.{caller}

param_loops : {S : Sides} {R T : KnownVariables S} {ps qs : List Parameter} → AlikeParams S R ps qs T → T.loops ≡ R.loops
param_loops no_param = refl
param_loops (param_and o d) = param_loops d ∙ o.loops

pub caller_initialised : (S : Sides) (A : Asked) (k : Plan) → Sized S.frame.declared S.frame.sizes → Sized S.frame_there.declared S.frame_there.sizes → IsTextOf S A k → Initialised S.frame_there S.muts_there S.text
    → (items : ℕ → ℕ) (O : Openings) (gain : Allowance) (special : List ℕ) (f : Function) (r : RelatedFunction items (in_its_block A S.muts_there k items O gain) gain special A.function f)
    → AllLike S (variables_of_params A.function.params) (variables_of_params f.params) → ExpCalls S A k r.body → Initialised S.frame S.muts f
caller_initialised S A k sized sized_there text initialised items O gain special f r types s =
    let z = params_alike S (by_form special) r.params types (nothing_known S) (nothing_agrees S (nothing_known S) refl) in
    alike_initialised S (parted S.frame sized) (parted S.frame_there sized_there) initialised f (record {
      outside = nothing_known S;
      nothing = refl;
      inside = z.0;
      params = subst (λ (h : Function). AlikeParams S (nothing_known S) f.params h.params z.0) (sym text.text) z.1;
      body = subst (λ (h : Function). AlikeExp S z.0 f.body h.body) (sym text.text) (caller S A k r.body s z.0 z.2 (loops_agree _ z.0 refl (param_loops z.1)));
    })

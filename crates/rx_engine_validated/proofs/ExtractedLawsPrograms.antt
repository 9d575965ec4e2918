-- An answer that is found to be an extraction by its typed program is one. Beside it stands the program in which the new function, and the run's,
-- read some references that they ask for again.
use Rattle.std.proofs.Common.{◌≡◌, ℕ, ◌==◌, true, map, Some, refl, sym, ap, ◌∙◌, subst, arith, List}
use Rattle.rx_typed.specs.Tree.{Exp, Body, Function}
use Rattle.rx_lower_walks.specs.Walks.{Among}
use Rattle.rx_exits_plan.specs.Points.{next}
use Rattle.rx_exits_plan.specs.Runs.{Run, inside}
use Rattle.rx_exits_plan.specs.Changed.{changed_statement}
use Rattle.rx_exits_plan.specs.Asked.{Asked}
use Rattle.rx_meaning.specs.Values.{element}
use Rattle.rx_meaning.specs.Programs.{Program}
use Rattle.rx_engine_simulation.specs.Called.{a_turn}
use Rattle.rx_engine_simulation.specs.Endings.{none_left}
use Rattle.rx_engine_simulation.specs.Like.{LikeBody}
use Rattle.rx_engine_simulation.specs.Openings.{Openings}
use Rattle.rx_engine_simulation.specs.Rereads.{Rereads, RereadsBody}
use Rattle.rx_engine_related.specs.AboutRun.{special_of}
use Rattle.rx_engine_related.specs.Running.{passing, running_body}
use Rattle.rx_engine_related.specs.ByForm.{by_form, RelatedFunction}
use Rattle.rx_engine_related.specs.InBlock.{run_block, in_its_block}
use Rattle.rx_engine_related.specs.Never.{NeverEnds}
use Rattle.rx_engine_related.specs.Standing.{the_call}
use Rattle.rx_engine_related.specs.Extracts.{Extracts}
use Rattle.rx_engine_related.specs.Stretched.{stretch_of}
use Rattle.rx_engine_alike.specs.Likeness.{Hole, alike_but}
use Rattle.rx_engine_alike.specs.Functions.{like_function}
use Rattle.rx_engine_extracted.specs.Told.{Told}
use Rattle.rx_engine_extracted.specs.Block.{loops_in, block_has_call}
use Rattle.rx_engine_extracted.specs.Programs.{between_but_run, has_call, has_call_in, extracts}
use Rattle.rx_engine_alike_laws.proofs.Promised.{said}
use Rattle.rx_engine_alike_laws.proofs.Functions.{RereadsFunction, filled_by, function_if, nothing_leaves}
use Rattle.rx_engine_validated.specs.Telling.{ToldOf}
use Rattle.rx_engine_validated.proofs.ExtractedLawsParts.{Parts}
use Rattle.rx_engine_validated.proofs.Block.{BlockSo, block_is, block_found}
use Rattle.rx_engine_validated.proofs.Holes.{open_text}
use Rattle.rx_engine_validated.proofs.MarkedUnits.{marks_keep}
use Rattle.rx_engine_validated.proofs.Joining.{call_found, function_found, read_new, Placed, functions_read, new_there, calling_there, rereads_each, Holding, holding, others_same}

module _ (A : Asked) (T : Told) (item made : ℕ) (P Q : Program) (told : ToldOf A T item made P Q) (parts : Parts A T) where
  placed : Placed T item made P Q A.function
  placed = record { is_there = told.is_there; items = told.items; new_is_there = told.new_is_there; apart = told.apart }

  abbrev calls : Exp → Openings
  calls f = the_call A T.muts T.plan T.modes T.items (a_turn true) T.units (read_new T f)

  abbrev Related : Exp → Function → Type 0
  Related f z = RelatedFunction T.items (in_its_block A T.muts T.plan T.items (calls f) (a_turn true)) (a_turn true) (special_of A T.muts T.plan) A.function z

  -- its body, the answer's function with the call, both read
  data CallThere (g' : Function) : Type 0 where
    call_there : {f : Exp} {z : Function} → Rereads T.new.function.body f → RereadsFunction g' z → Related f z → CallThere g'

  module _ (g' : Function) (h : Hole) (q : like_function (between_but_run T) A.function g' ≡ alike_but h) where
    abbrev NeverAt : List ℕ → Run → Body → Type 0
    NeverAt ls r b = NeverEnds none_left (stretch_of (map (changed_statement (passing ls)) (inside r b)))

    never_there : (Among next T.plan.exits → ⊥) → NeverAt T.around T.run h.text
    never_there n =
        let text_is = open_text (between_but_run T) A.run.block A.function g' (ap (λ (r : Run). Some r.block) told.run) told.had.one_block told.had.sits.block q in
        subst (λ ls. NeverAt ls T.run h.text) (sym told.around) (subst (λ r. NeverAt A.home.around.loops r h.text) (sym told.run)
        (subst (λ b. NeverAt A.home.around.loops A.run b) text_is (told.never n)))

    -- the block is filled by what stands for the run
    filled : {f : Exp} {d : Body} → RereadsBody h.answer d → LikeBody T.items (calls f) (a_turn true) (by_form (special_of A T.muts T.plan)) 1 (loops_in h) h.inside
        (running_body T.run T.around T.plan.params h.text) d
        → (z : Function) × RereadsFunction g' z × Related f z
    filled {f} {d} y like = by (function_if (between_but_run T) (in_its_block A T.muts T.plan T.items (calls f) (a_turn true)) (a_turn true) refl A.function g' h q
        (filled_by (between_but_run T) (in_its_block A T.muts T.plan T.items (calls f) (a_turn true)) (a_turn true) refl (omega arith) h d y
        (λ m m' o e. run_block (subst (λ (r : Run). (m.node == r.block) ≡ true) told.run o) there)))
      where
        there : LikeBody T.items (calls f) (a_turn true) (by_form (special_of A T.muts T.plan)) 1 (loops_in h) h.inside (running_body A.run A.home.around.loops T.plan.params h.text) d
        there = subst (λ ls. LikeBody T.items (calls f) (a_turn true) (by_form (special_of A T.muts T.plan)) 1 (loops_in h) h.inside (running_body A.run ls T.plan.params h.text) d) told.around
            (subst (λ r. LikeBody T.items (calls f) (a_turn true) (by_form (special_of A T.muts T.plan)) 1 (loops_in h) h.inside (running_body r T.around T.plan.params h.text) d) told.run like)

        by : (z : Function) × RereadsFunction g' z × RelatedFunction T.items (in_its_block A T.muts T.plan T.items (calls f) (a_turn true)) (a_turn true) T.elsewhere A.function z
            → (z : Function) × RereadsFunction g' z × Related f z
        by t = (t.0, t.1, subst (λ s. RelatedFunction T.items (in_its_block A T.muts T.plan T.items (calls f) (a_turn true)) (a_turn true) s A.function t.0) told.elsewhere t.2)

    call_is : block_has_call T h ≡ true → CallThere g'
    call_is e = by (said (block_has_call T h) (block_found A T parts told.elsewhere (λ n. told.had.plan.none_elsewhere next n) (loops_in h) nothing_leaves h.inside h.text h.answer never_there) e)
      where
        by : BlockSo A T parts told.elsewhere (λ n. told.had.plan.none_elsewhere next n) (loops_in h) h.inside h.text h.answer → CallThere g'
        by (block_is {f = f} x y like) = let z = filled {f = f} y like in call_there x z.1 z.2

  function_called : (g' : Function) → has_call T (like_function (between_but_run T) A.function g') ≡ true → CallThere g'
  function_called g' e = let c = call_found T (like_function (between_but_run T) A.function g') e in
      call_is g' c.0 c.1 (subst (λ t. has_call_in t T c.0 ≡ true) (ap (λ (r : Run). r.tail) told.run ∙ told.had.short) c.2)

  -- ---- the whole

  extraction_with : {g' : Function} → Holding T item made P Q A.function placed → element Q.functions (T.items item) ≡ Some (Some g') → CallThere g' → Extracts A T.muts T.plan T.modes P Q
  extraction_with {g'} holds is (call_there {f = f} {z = z} x r related) = record {
    item = item;
    is_there = told.is_there;
    read = record { functions = functions_read T item made P Q A.function placed f z; main = Q.main };
    rereads = record { all = rereads_each T item made P Q A.function placed f z is x r; mains = refl };
    again = true;
    new = read_new T f;
    new_is_there = new_there T item made P Q A.function placed f z;
    items = T.items;
    main = holds.main;
    others = others_same T item made P Q A.function placed holds f z;
    units = T.units;
    are_units = marks_keep P item A T.plan T.units told.is_there holds.units;
    calling = z;
    calling_is_there = calling_there T item made P Q A.function placed f z is;
    related = related;
  }

  pub extraction_found : extracts T item P Q ≡ true → Extracts A T.muts T.plan T.modes P Q
  extraction_found e =
      let holds = holding T item made P Q A.function placed e in let c = function_found T A.function (element P.functions item) (element Q.functions (T.items item)) told.is_there holds.call in
      extraction_with holds c.1 (function_called c.0 c.2)

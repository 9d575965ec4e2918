-- An answer that is found to be the extraction of a run with its block's tail, by its typed program, is one.
use Rattle.std.proofs.Common.{◌≡◌, ℕ, zero, suc, ◌+◌, ◌==◌, true, List, [], ◌∷◌, length, map, drop, Option, Some, refl, sym, ap, ◌∙◌, subst, arith}
use Rattle.rx_typed.specs.Types.{Typ}
use Rattle.rx_typed.specs.Tree.{Exp, Body, Function}
use Rattle.rx_lower_walks.specs.Walks.{Among}
use Rattle.rx_exits_plan.specs.Blocks.{statements, tail, written_tail}
use Rattle.rx_exits_plan.specs.Points.{next, leaves}
use Rattle.rx_exits_plan.specs.Runs.{Run, inside}
use Rattle.rx_exits_plan.specs.Changed.{changed, changed_statement}
use Rattle.rx_exits_plan.specs.Asked.{Asked}
use Rattle.rx_meaning.specs.Values.{element}
use Rattle.rx_meaning.specs.Programs.{Program}
use Rattle.rx_engine_simulation.specs.Called.{a_turn}
use Rattle.rx_engine_simulation.specs.Endings.{a_marked}
use Rattle.rx_engine_simulation.specs.Like.{LikeBody}
use Rattle.rx_engine_simulation.specs.Openings.{Openings}
use Rattle.rx_engine_simulation.specs.Blocks.{Stretch, before}
use Rattle.rx_engine_simulation.specs.Rereads.{Rereads, RereadsBody, RereadsEntry}
use Rattle.rx_engine_related.specs.AboutRun.{special_of}
use Rattle.rx_engine_related.specs.Running.{passing}
use Rattle.rx_engine_related.specs.Tailed.{tailed_body}
use Rattle.rx_engine_related.specs.ByForm.{by_form, RelatedFunction}
use Rattle.rx_engine_related.specs.Never.{NeverEnds}
use Rattle.rx_engine_related.specs.Stretched.{stretch_of}
use Rattle.rx_engine_related.specs.Tails.{the_tail_call}
use Rattle.rx_engine_related.specs.ExtractsTail.{tail_block, in_its_tail_block, ExtractsTail}
use Rattle.rx_engine_alike.specs.Likeness.{Hole, alike_but}
use Rattle.rx_engine_alike.specs.Functions.{like_function}
use Rattle.rx_engine_extracted.specs.Told.{Told}
use Rattle.rx_engine_extracted.specs.Block.{loops_in}
use Rattle.rx_engine_extracted.specs.TailBlock.{block_has_tail_call}
use Rattle.rx_engine_extracted.specs.Programs.{between_but_run, has_call, has_call_in, extracts}
use Rattle.rx_engine_alike_laws.proofs.Promised.{said}
use Rattle.rx_engine_dropped.specs.Undrops.{UndropsFunction}
use Rattle.rx_engine_dropped.specs.DropBlock.{DropsCall, drop_block, in_its_drop_block}
use Rattle.rx_engine_dropped.proofs.Undropping.{function_so}
use Rattle.rx_engine_alike_laws.proofs.Functions.{RereadsFunction, rereads_function, filled_by, function_if, nothing_leaves}
use Rattle.rx_engine_validated.specs.Telling.{with_value, ToldOfTail}
use Rattle.rx_engine_validated.specs.Undropped.{Undropped, as_it_is, undropped}
use Rattle.rx_engine_validated.proofs.Holes.{open_text}
use Rattle.rx_engine_validated.proofs.MarkedUnits.{tail_marks_keep}
use Rattle.rx_engine_validated.proofs.Joining.{call_found, function_found, read_new, Placed, functions_read, new_there, calling_there, rereads_each, functions_undropped, rereads_undropped, undrops_each, Holding, holding, others_same}
use Rattle.rx_engine_validated.proofs.TailBlock.{TailSo, tail_is, tail_drops, tail_block_found}

-- ---- as many as there are

none_behind : {B : Type 0} (k : ℕ) → drop {A = B} k [] ≡ []
none_behind zero = refl
none_behind (suc k) = refl

dropped_to_end : {B : Type 0} (k : ℕ) (l : List B) → k ≡ length l → drop k l ≡ []
dropped_to_end k [] e = none_behind k
dropped_to_end zero (x ∷ l) e = absurd (omega (arith, e))
dropped_to_end (suc k) (x ∷ l) e = dropped_to_end k l (omega (arith, e))

all_dropped : {B : Type 0} (n k : ℕ) (l : List B) → n + k ≡ length l → drop k (drop n l) ≡ []
all_dropped zero k l e = dropped_to_end k l (omega (arith, e))
all_dropped (suc n) k [] e = none_behind k
all_dropped (suc n) k (x ∷ l) e = all_dropped n k l (omega (arith, e))

module _ (A : Asked) (T : Told) (value : Option Typ) (item made : ℕ) (P Q : Program) (told : ToldOfTail A T value item made P Q) where
  placed : Placed T item made P Q A.function
  placed = record { is_there = told.is_there; items = told.items; new_is_there = told.new_is_there; apart = told.apart }

  abbrev calls : Exp → Openings
  calls f = the_tail_call A T.muts (with_value value T.plan) T.modes T.items (a_turn true) T.units (read_new T f)

  abbrev Related : Exp → Function → Type 0
  Related f z = RelatedFunction T.items (in_its_tail_block A T.muts (with_value value T.plan) T.items (calls f) (a_turn true)) (a_turn true) (special_of A T.muts T.plan) A.function z

  -- its body, the answer's function with the call, both read
  data CallThere (g' : Function) : Type 0 where
    call_there : {f : Exp} {z : Function} → Rereads T.new.function.body f → RereadsFunction g' z → Related f z → CallThere g'
    -- or those of the function whose block gives what the call gives
    call_undropped : {f : Exp} {z g1 : Function} → T.gives_unit ≡ true → Rereads T.new.function.body f → UndropsFunction T.new.number g' g1 → RereadsFunction g1 z → Related f z → CallThere g'

  module _ (g' : Function) (h : Hole) (q : like_function (between_but_run T) A.function g' ≡ alike_but h) where
    abbrev NeverAt : List ℕ → Run → Body → Type 0
    NeverAt ls r b = NeverEnds (a_marked (changed (passing ls) (written_tail r.block (tail b))) (leaves next)) (stretch_of (map (changed_statement (passing ls)) (inside r b)))

    text_is : A.home.body ≡ h.text
    text_is = open_text (between_but_run T) A.run.block A.function g' (ap (λ (r : Run). Some r.block) told.run) told.had.one_block told.had.sits.block q

    never_there : (Among next T.plan.exits → ⊥) → NeverAt T.around T.run h.text
    never_there n =
        subst (λ ls. NeverAt ls T.run h.text) (sym told.around) (subst (λ r. NeverAt A.home.around.loops r h.text) (sym told.run)
        (subst (λ b. NeverAt A.home.around.loops A.run b) text_is (told.never n)))

    -- nothing is behind the run
    abbrev IsWhole : Run → Body → Type 0
    IsWhole r b = drop r.count (drop r.first (statements b)) ≡ []

    whole_there : IsWhole T.run h.text
    whole_there = subst (λ r. IsWhole r h.text) (sym told.run) (subst (λ b. IsWhole A.run b) text_is (all_dropped A.run.first A.run.count (statements A.home.body) (told.had.sits.whole told.had.tail)))

    -- the block is filled by what stands for the run
    filled : {f : Exp} {d : Body} → RereadsBody h.answer d → LikeBody T.items (calls f) (a_turn true) (by_form (special_of A T.muts T.plan)) 1 (loops_in h) h.inside
        (tailed_body T.run T.around T.plan.params h.text) d
        → (z : Function) × RereadsFunction g' z × Related f z
    filled {f} {d} y like = by (function_if (between_but_run T) (in_its_tail_block A T.muts (with_value value T.plan) T.items (calls f) (a_turn true)) (a_turn true) refl A.function g' h q
        (filled_by (between_but_run T) (in_its_tail_block A T.muts (with_value value T.plan) T.items (calls f) (a_turn true)) (a_turn true) refl (omega arith) h d y
        (λ m m' o e. tail_block (subst (λ (r : Run). (m.node == r.block) ≡ true) told.run o) there)))
      where
        there : LikeBody T.items (calls f) (a_turn true) (by_form (special_of A T.muts T.plan)) 1 (loops_in h) h.inside (tailed_body A.run A.home.around.loops T.plan.params h.text) d
        there = subst (λ ls. LikeBody T.items (calls f) (a_turn true) (by_form (special_of A T.muts T.plan)) 1 (loops_in h) h.inside (tailed_body A.run ls T.plan.params h.text) d) told.around
            (subst (λ r. LikeBody T.items (calls f) (a_turn true) (by_form (special_of A T.muts T.plan)) 1 (loops_in h) h.inside (tailed_body r T.around T.plan.params h.text) d) told.run like)

        by : (z : Function) × RereadsFunction g' z × RelatedFunction T.items (in_its_tail_block A T.muts (with_value value T.plan) T.items (calls f) (a_turn true)) (a_turn true) T.elsewhere A.function z
            → (z : Function) × RereadsFunction g' z × Related f z
        by t = (t.0, t.1, subst (λ s. RelatedFunction T.items (in_its_tail_block A T.muts (with_value value T.plan) T.items (calls f) (a_turn true)) (a_turn true) s A.function t.0) told.elsewhere t.2)

    -- or by what drops what the call gives
    abbrev dropping : Exp → Openings
    dropping f = in_its_drop_block T.new.number A T.muts (with_value value T.plan) T.items (calls f) (a_turn true)

    filled_dropping : {f : Exp} {d d1 : Body} (r : Stretch) → T.gives_unit ≡ true → Rereads T.new.function.body f → RereadsBody h.answer (before r d) → DropsCall T.new.number d d1
        → LikeBody T.items (calls f) (a_turn true) (by_form (special_of A T.muts T.plan)) 1 (loops_in h) h.inside (tailed_body T.run T.around T.plan.params h.text) (before r d1) → CallThere g'
    filled_dropping {f} {d} {d1} r unit x y drops like = by (function_if (between_but_run T) (dropping f) (a_turn true) refl A.function g' h q
        (filled_by (between_but_run T) (dropping f) (a_turn true) refl (omega arith) h (before r d) y
        (λ m m' o e. drop_block r (subst (λ (r : Run). (m.node == r.block) ≡ true) told.run o) drops there)))
      where
        there : LikeBody T.items (calls f) (a_turn true) (by_form (special_of A T.muts T.plan)) 1 (loops_in h) h.inside (tailed_body A.run A.home.around.loops T.plan.params h.text) (before r d1)
        there = subst (λ ls. LikeBody T.items (calls f) (a_turn true) (by_form (special_of A T.muts T.plan)) 1 (loops_in h) h.inside (tailed_body A.run ls T.plan.params h.text) (before r d1)) told.around
            (subst (λ z. LikeBody T.items (calls f) (a_turn true) (by_form (special_of A T.muts T.plan)) 1 (loops_in h) h.inside (tailed_body z T.around T.plan.params h.text) (before r d1)) told.run like)

        undone : (z : Function) → RereadsFunction g' z → RelatedFunction T.items (dropping f) (a_turn true) (special_of A T.muts T.plan) A.function z → CallThere g'
        undone z (rereads_function p b) related = let u = function_so T.new.number A T.muts (with_value value T.plan) T.items (calls f) (a_turn true) A.function g' z p b related in
            call_undropped {g1 = u.0} unit x u.2 (rereads_function u.3 u.4) u.5

        by : (z : Function) × RereadsFunction g' z × RelatedFunction T.items (dropping f) (a_turn true) T.elsewhere A.function z → CallThere g'
        by t = undone t.0 t.1 (subst (λ s. RelatedFunction T.items (dropping f) (a_turn true) s A.function t.0) told.elsewhere t.2)

    call_is : block_has_tail_call T h ≡ true → CallThere g'
    call_is e = by (said (block_has_tail_call T h) (tail_block_found A T value told.elsewhere (loops_in h) nothing_leaves h.inside h.text h.answer whole_there never_there) e)
      where
        by : TailSo A T value told.elsewhere (loops_in h) h.inside h.text h.answer → CallThere g'
        by (tail_is {f = f} x y like) = let z = filled {f = f} y like in call_there x z.1 z.2
        by (tail_drops r unit x y drops like) = filled_dropping r unit x y drops like

  function_called : (g' : Function) → has_call T (like_function (between_but_run T) A.function g') ≡ true → CallThere g'
  function_called g' e = let c = call_found T (like_function (between_but_run T) A.function g') e in
      call_is g' c.0 c.1 (subst (λ t. has_call_in t T c.0 ≡ true) (ap (λ (r : Run). r.tail) told.run ∙ told.had.tail) c.2)

  -- ---- the whole

  -- of the answer's program, or of the one in which the block gives what the call gives
  extraction_of : {g' : Function} {f : Exp} {z : Function} (R : Program) → Holding T item made P Q A.function placed → element Q.functions (T.items item) ≡ Some (Some g') → Related f z
      → ((i : ℕ) → RereadsEntry (element R.functions i) (element (functions_read T item made P Q A.function placed f z) i)) → R.main ≡ Q.main → ExtractsTail A T.muts (with_value value T.plan) T.modes P R
  extraction_of {f = f} {z = z} R holds is related rereads same = record {
    item = item;
    is_there = told.is_there;
    read = record { functions = functions_read T item made P Q A.function placed f z; main = Q.main };
    rereads = record { all = rereads; mains = same };
    again = true;
    new = read_new T f;
    new_is_there = new_there T item made P Q A.function placed f z;
    items = T.items;
    main = holds.main;
    others = others_same T item made P Q A.function placed holds f z;
    units = T.units;
    are_units = tail_marks_keep P item A T.plan T.units told.is_there holds.units;
    calling = z;
    calling_is_there = calling_there T item made P Q A.function placed f z is;
    related = related;
  }

  abbrev IsFoundSo : Type 0
  IsFoundSo = (R : Program) × Undropped T Q R × ExtractsTail A T.muts (with_value value T.plan) T.modes P R

  extraction_with : {g' : Function} → Holding T item made P Q A.function placed → element Q.functions (T.items item) ≡ Some (Some g') → CallThere g' → IsFoundSo
  extraction_with holds is (call_there {f = f} {z = z} x r related) = (Q, as_it_is, extraction_of Q holds is related (rereads_each T item made P Q A.function placed f z is x r) refl)
  extraction_with holds is (call_undropped {f = f} {z = z} {g1 = g1} unit x u r related) =
      let R : Program = record { functions = functions_undropped T item made P Q A.function placed f z g1; main = Q.main } in
      (R, undropped unit (record { all = undrops_each T item made P Q A.function placed f z g1 is u; mains = refl }), extraction_of R holds is related (rereads_undropped T item made P Q A.function placed f z g1 is x r) refl)

  pub tail_extraction_found : extracts T item P Q ≡ true → IsFoundSo
  tail_extraction_found e =
      let holds = holding T item made P Q A.function placed e in let c = function_found T A.function (element P.functions item) (element Q.functions (T.items item)) told.is_there holds.call in
      extraction_with holds c.1 (function_called c.0 c.2)

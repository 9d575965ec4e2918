-- What stands in place of the run fits wherever its block may stand; and the function with the call has the block in which it stands.
use Rattle.std.proofs.Common.{◌≡◌, ℕ, zero, suc, ◌+◌, ◌-◌, ◌≤◌, List, [], ◌∷◌, ◌++◌, length, take, drop, Option, refl, sym, ap, ◌∙◌, subst, append_assoc, arith, zero-add, suc-add}
use Rattle.std.proofs.Math.Seq.{drop-nil}
use Rattle.std.proofs.lemmas.List.{take-append-drop, append_cancel_left}
use Rattle.rx_tree.specs.declared.tree.Ident.{Ident}
use Rattle.rx_tree.specs.Lists.{Every, listed}
use Rattle.rx_tree.specs.Plain as plain
use Rattle.rx_tree.specs.Plain.{Body, Function, OptionalExpression, Statement, Statements, ProgramTree}
use Rattle.rx_resolve_names.specs.declared.resolved.NodeNames.{NodeNames}
use Rattle.rx_resolve_names.specs.Meant.{Around}
use Rattle.rx_typed.specs.Naming.{of_statements}
use Rattle.rx_resolve_names.specs.Steps.{Inside}
use Rattle.rx_hoist_extraction.specs.Run.{Run, Parts, as_statements, in_front, chosen, behind}
use Rattle.rx_hoist_extraction.specs.Plan.{Variable}
use Rattle.rx_hoist_extraction.specs.Values.{next_values}
use Rattle.rx_engine_names.specs.Renaming.{Made}
use Rattle.rx_engine_names.specs.Moves.{labels_of}
use Rattle.rx_engine_names.specs.Replaced.{LoopsAlike, Keeps}
use Rattle.rx_engine_names.specs.HandedOut.{Handing}
use Rattle.rx_engine_names.specs.HandsOver.{parts_for, at_place, HandsOutThere, HandsOutLast, scope_behind, told_handed, told_last}
use Rattle.rx_engine_names.proofs.Fitting.{Fits}
use Rattle.rx_engine_names.proofs.FoundTypes.{Finds}
use Rattle.rx_engine_names.proofs.MadeUses.{goes_to}
use Rattle.rx_engine_names.proofs.CopiedParts.{text_alone}
use Rattle.rx_engine_names.proofs.ReplacedAnywhere.{Resolved, ResolvedLast, CallFits, EndFits}
use Rattle.rx_engine_names.proofs.HandingsOver.{NothingBehind, hands_over, handing_over}

loops_on : (M M' : Made) (ls ls' : List Around) → Keeps M M' → LoopsAlike M ls ls' → LoopsAlike M' ls ls'
loops_on M M' ls ls' g h l n e = let r = h l n e in (r.0, r.1, g.loops n r.0 r.2)

module _ (items : ℕ → ℕ) (P : ProgramTree) (I I' : Inside) (F : Fits items I I') (labels : List (Option Ident)) (G : Handing) (found : Every (λ (v : Variable). Finds I P v.typ) G.call.plan.redeclared) (none : NothingBehind G.call.plan (next_values G.call.plan)) where
  abbrev parts : List (Option Ident) → Parts
  parts ls = parts_for P G.call.plan G.call.place G.own ls

  pub call_fits : (front run : List Statement) → HandsOutThere I I' labels front run G → CallFits (told_handed G) G.call.plan.name items I I' labels front run (parts labels).statements
  call_fits front run there scope start around round M un meet loops l at at' t r s i e d middle now keeps meet1 j w =
      let K = at_place G r.scope around in
      let H = handing_over items P I I' F K middle round now (hands_over K I' middle round now meet1 (loops_on M now around round keeps loops) (there scope around at t r s i un e d l)) found none at' j w in
      subst (λ (ls : List (Option Ident)). Resolved (told_handed G) items I' r.scope around middle round now at' j (parts ls).statements w) l (record {
        end = goes_to (scope_behind K (length w.vars) H.later middle) H.tables;
        resolves = H.resolves;
        told = λ added grown R sv c rest q g. (H.later, refl, H.like R sv c rest q (g ∙ ap (λ (l : List NodeNames). l ++ rest) (append_cancel_left w.names added H.added (sym grown ∙ H.grown))));
      })

  pub end_fits : (front run : List Statement) (tail : OptionalExpression) → HandsOutLast I I' labels front run tail G → EndFits (told_last G) G.call.plan.name items I I' labels front run tail (parts labels).statements (parts labels).tail
  end_fits front run tail there scope start around round M un meet loops l at at' t r s i e d path t' g middle now keeps meet1 j way w =
      let K = at_place G r.scope around in
      let H = handing_over items P I I' F K middle round now (hands_over K I' middle round now meet1 (loops_on M now around round keeps loops) (there scope around at t r s i un e d path t' g l)) found none at' j w in
      let E = H.ends way in
      let ss = as_statements (parts (labels_of around)).statements in
      let end = goes_to (scope_behind K (length w.vars) H.later middle) H.tables in
      subst (λ (ls : List (Option Ident)). ResolvedLast (told_last G) items I' r.scope around middle round now at' j way (parts ls).statements (parts ls).tail w) l (record {
        stands = record { end = end; goes = H.resolves; tables = E.tables; ends = E.resolves };
        told = λ added grown R sv k c rest q g.
            let D = text_alone I'.program I'.item I'.lifetimes middle round at' j ss w end H.resolves in
            let all = append_cancel_left w.names added (H.added ++ E.added) (sym grown ∙ E.grown ∙ ap (λ (l : List NodeNames). l ++ E.added) H.grown ∙ append_assoc w.names H.added E.added) in
            let g1 : c.names ≡ H.added ++ (E.added ++ rest) = g ∙ ap (λ (l : List NodeNames). l ++ rest) all ∙ append_assoc H.added E.added rest in
            let x = D.numbers.holds c (E.added ++ rest) q (g1 ∙ ap (λ (l : List NodeNames). l ++ (E.added ++ rest)) (append_cancel_left w.names H.added D.added (sym H.grown ∙ D.grown))) in
            ((H.later, refl, H.like R sv c (E.added ++ rest) q g1), E.like R sv k (of_statements ss c).1 rest x.stands x.left);
      })

-- ---- the function with the call

drop_on : {A : Type 0} (n m : ℕ) (l : List A) → drop m (drop n l) ≡ drop (n + m) l
drop_on zero m l = ap (λ (k : ℕ). drop k l) (sym (zero-add m))
drop_on (suc n) m [] = drop-nil m ∙ sym (drop-nil (suc n + m))
drop_on (suc n) m (x ∷ xs) = drop_on n m xs ∙ ap (λ (k : ℕ). drop k (x ∷ xs)) (sym (suc-add n m))

as_they_were : (ss : Statements) → as_statements (listed ss) ≡ ss
as_they_were plain.no_statement = refl
as_they_were (plain.statement_and a ss) = ap (plain.statement_and a) (as_they_were ss)

-- a block's statements: those in front of the run, its own, those behind
pub run_splits : (r : Run) (ss : Statements) → r.first ≤ r.last + 1 → as_statements (in_front r (listed ss) ++ (chosen r (listed ss) ++ behind r (listed ss))) ≡ ss
run_splits r ss h =
    let l = listed ss in let k = r.last + 1 - r.first in
    ap as_statements (ap (λ (z : List Statement). take r.first l ++ (take k (drop r.first l) ++ z))
    (sym (drop_on r.first k l ∙ ap (λ (n : ℕ). drop n l) (omega (arith, h)))) ∙ ap (λ (z : List Statement). take r.first l ++ z) (take-append-drop k (drop r.first l)) ∙ take-append-drop r.first l) ∙ as_they_were ss

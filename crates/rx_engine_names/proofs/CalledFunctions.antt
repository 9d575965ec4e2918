-- The function of a run with the call in its place: the statements of its block are those in front of the run, its own and those behind.
use Rattle.std.proofs.Common.{◌≡◌, ℕ, ◌+◌, ◌≤◌, Bool, true, false, List, [], ◌++◌, length, Option, Ok, sym, ap, ◌∙◌, subst, append-nil, arith}
use Rattle.std.proofs.Math.ListN.{drop_of_length-le}
use Rattle.std.proofs.lemmas.Bool.{leb-true}
use Rattle.rx_core.specs.declared.types.Span.{Span}
use Rattle.rx_tree.specs.declared.tree.Ident.{Ident}
use Rattle.rx_tree.specs.Lists.{Every, listed, statements, tail}
use Rattle.rx_tree.specs.Plain as plain
use Rattle.rx_tree.specs.Plain.{Body, Function, OptionalExpression, Statement, Statements, ProgramTree}
use Rattle.rx_resolve_names.specs.declared.resolved.ItemNames.{ItemNames}
use Rattle.rx_resolve_names.specs.Meant.{number, firsts, lifetimes_declared}
use Rattle.rx_resolve_names.specs.Items.{in_item, in_program}
use Rattle.rx_hoist_extraction.specs.Names.{is_among, behind_all}
use Rattle.rx_hoist_extraction.specs.Run.{Run, Parts, as_statements, run_block, in_front, chosen, behind, goes_past, rest_tail, with_parts, labels_round}
use Rattle.rx_hoist_extraction.specs.Plan.{Exit, Variable, Plan}
use Rattle.rx_hoist_extraction.specs.Values.{next_values}
use Rattle.rx_hoist_naming.specs.Words.{NamesTypes}
use Rattle.rx_engine_names.specs.ParameterNames.{parameter_names}
use Rattle.rx_engine_names.specs.Insertion.{Inserted, number_there}
use Rattle.rx_engine_names.specs.Within.{OptionalWithin, StatementsWithin}
use Rattle.rx_engine_names.specs.Placed.{StandsAlone, BindsNot, agreed, inside_of, Told, by_others, ToldLast, by_an_end, LikeButFor}
use Rattle.rx_engine_names.specs.HandsOver.{told_handed, told_last}
use Rattle.rx_engine_names.specs.CalledRuns.{RunStands, call_parts, handing_of, BehindAgrees, TextSays, TextSaysLast, LikeCalled, LikeCalledLast}
use Rattle.rx_engine_names.proofs.KeptItems.{inserted_keeps, keeps_fits}
use Rattle.rx_engine_names.proofs.FoundTypes.{all_find}
use Rattle.rx_engine_names.proofs.ReplacedAnywhere.{CallFits, EndFits}
use Rattle.rx_engine_names.proofs.ReplacedFunctions.{function_with_others, function_with_end}
use Rattle.rx_engine_names.proofs.HandingsOver.{NothingBehind}
use Rattle.rx_engine_names.proofs.CallsFit.{call_fits, end_fits, run_splits}

module _ (p q : ProgramTree) (c : Inserted p q) (n m : ℕ) (s : Span) (f : Function) (r : Run) (forward : r.first ≤ r.last + 1) (call : Parts) (name : List ℕ) (bound : BindsNot name f.body) (passed : is_among name (parameter_names f.params) ≡ false) where
  abbrev labels : List (Option Ident)
  labels = labels_round r f

  -- other parts for the run, in whatever block stands on the way
  abbrev WithOthers : Told → Body → ItemNames → Type 0
  WithOthers T b t = LikeButFor p q c n m s f b (with_parts r call b) labels (by_others T (inside_of p n s f) (inside_of q m s f) (in_front r (statements b)) (chosen r (statements b)) call.statements) t

  within_block : (T : Told) (b : Body) → StandsAlone b r.way f.body → goes_past r (statements b) ≡ false
      → StatementsWithin (agreed (chosen r (statements b)) call.statements) [] [] (as_statements (behind r (statements b))) × OptionalWithin (agreed (chosen r (statements b)) call.statements) (behind_all [] (as_statements (behind r (statements b)))) [] (tail b)
      → CallFits T name (number_there c) (inside_of p n s f) (inside_of q m s f) labels (in_front r (statements b)) (chosen r (statements b)) call.statements → (t : ItemNames) → in_item p n (plain.function_item s f) ≡ Ok t → WithOthers T b t
  within_block T (plain.body sp ss o) alone past follows fits t e =
      let l = listed ss in let front = in_front r l in let run = chosen r l in let rest = behind r l in let same = run_splits r ss forward in
      let new : OptionalExpression → Body = λ z. plain.body sp (as_statements (front ++ (call.statements ++ rest))) z in
      let P = by_others T (inside_of p n s f) (inside_of q m s f) front run call.statements in
      subst (λ (z : Statements). LikeButFor p q c n m s f (plain.body sp z o) (new (rest_tail (goes_past r l) o call.tail)) labels P t) same
      (subst (λ (b : Bool). LikeButFor p q c n m s f (plain.body sp (as_statements (front ++ (run ++ rest))) o) (new (rest_tail b o call.tail)) labels P t) (sym past)
      (function_with_others T name p q c n m s f sp front run call.statements rest o r.way (subst (λ (z : Statements). StandsAlone (plain.body sp z o) r.way f.body) (sym same) alone) bound passed follows.0 follows.1 fits t e))

  abbrev WithEnd : ToldLast → Body → ItemNames → Type 0
  WithEnd T b t = LikeButFor p q c n m s f b (with_parts r call b) labels (by_an_end T (inside_of p n s f) (inside_of q m s f) (in_front r (statements b)) (chosen r (statements b)) call.statements (tail b) call.tail) t

  end_block : (T : ToldLast) (b : Body) → StandsAlone b r.way f.body → goes_past r (statements b) ≡ true
      → EndFits T name (number_there c) (inside_of p n s f) (inside_of q m s f) labels (in_front r (statements b)) (chosen r (statements b)) (tail b) call.statements call.tail → (t : ItemNames) → in_item p n (plain.function_item s f) ≡ Ok t → WithEnd T b t
  end_block T (plain.body sp ss o) alone past fits t e =
      let l = listed ss in let front = in_front r l in let run = chosen r l in
      let none : behind r l ≡ [] = drop_of_length-le l (omega (arith, leb-true (length l) r.last past)) in
      let same : as_statements (front ++ run) ≡ ss = ap (λ (z : List Statement). as_statements (front ++ z)) (sym (ap (λ (z : List Statement). run ++ z) none ∙ append-nil run)) ∙ run_splits r ss forward in
      let shorter : call.statements ++ behind r l ≡ call.statements = ap (λ (z : List Statement). call.statements ++ z) none ∙ append-nil call.statements in
      let P = by_an_end T (inside_of p n s f) (inside_of q m s f) front run call.statements o call.tail in
      subst (λ (z : Statements). LikeButFor p q c n m s f (plain.body sp z o) (plain.body sp (as_statements (front ++ (call.statements ++ behind r l))) (rest_tail (goes_past r l) o call.tail)) labels P t) same
      (subst (λ (b : Bool). LikeButFor p q c n m s f (plain.body sp (as_statements (front ++ run)) o) (plain.body sp (as_statements (front ++ (call.statements ++ behind r l))) (rest_tail b o call.tail)) labels P t) (sym past)
      (subst (λ (z : List Statement). LikeButFor p q c n m s f (plain.body sp (as_statements (front ++ run)) o) (plain.body sp (as_statements (front ++ z)) call.tail) labels P t) (sym shorter)
      (function_with_end T name p q c n m s f sp front run call.statements o call.tail r.way (subst (λ (z : Statements). StandsAlone (plain.body sp z o) r.way f.body) (sym same) alone) bound passed fits t e)))

-- by a plan
module _ (p q : ProgramTree) (c : Inserted p q) (ts : List ItemNames) (whole : in_program p ≡ Ok ts) (n m : ℕ) (s : Span) (f : Function) (r : Run) (pl : Plan) (func enum : ℕ) (variants : Exit → ℕ) (types_named : Every (λ (v : Variable). NamesTypes p v.typ) pl.redeclared) (last : NothingBehind pl (next_values pl)) (stands : RunStands r pl f) where
  pub called_within : goes_past r (statements (run_block r f)) ≡ false → BehindAgrees p r pl f → TextSays p n q m s f r (handing_of r pl f func enum variants) → (t : ItemNames) → in_item p n (plain.function_item s f) ≡ Ok t
      → LikeCalled p q c n m s f r pl (handing_of r pl f func enum variants) t
  called_within past follows says t e =
      let ls = firsts [] 0 (lifetimes_declared (plain.function_item s f)) in let G = handing_of r pl f func enum variants in
      within_block p q c n m s f r stands.forward (call_parts p r pl f) pl.name stands.bound stands.passed (told_handed G) (run_block r f) stands.alone past follows
      (call_fits (number_there c) p (inside_of p n s f) (inside_of q m s f) (keeps_fits (number_there c) p q (inserted_keeps p q c) (number n) (number m) ls) (labels_round r f) G (all_find p ts whole (number n) ls pl.redeclared types_named) last
      (in_front r (statements (run_block r f))) (chosen r (statements (run_block r f))) says) t e

  pub called_last : goes_past r (statements (run_block r f)) ≡ true → TextSaysLast p n q m s f r (handing_of r pl f func enum variants) → (t : ItemNames) → in_item p n (plain.function_item s f) ≡ Ok t
      → LikeCalledLast p q c n m s f r pl (handing_of r pl f func enum variants) t
  called_last past says t e =
      let ls = firsts [] 0 (lifetimes_declared (plain.function_item s f)) in let G = handing_of r pl f func enum variants in
      end_block p q c n m s f r stands.forward (call_parts p r pl f) pl.name stands.bound stands.passed (told_last G) (run_block r f) stands.alone past
      (end_fits (number_there c) p (inside_of p n s f) (inside_of q m s f) (keeps_fits (number_there c) p q (inserted_keeps p q c) (number n) (number m) ls) (labels_round r f) G (all_find p ts whole (number n) ls pl.redeclared types_named) last
      (in_front r (statements (run_block r f))) (chosen r (statements (run_block r f))) (tail (run_block r f)) says) t e

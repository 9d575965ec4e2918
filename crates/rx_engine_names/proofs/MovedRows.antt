-- Statements of a run that are moved, in a row with others, and an expression behind them wherever it stands: for each cursor of the
-- text their trees are alike.
use Rattle.std.proofs.Common.{◌≡◌, ℕ, Bool, true, false, not, ◌&&◌, ◌||◌, List, [], ◌∷◌, ◌++◌, Some, Ok, refl, sym, ap, ◌∙◌, subst}
use Rattle.std.proofs.lemmas.List.{append_cancel_left}
use Rattle.rx_tree.specs.Lists.{listed}
use Rattle.rx_tree.specs.Plain as plain
use Rattle.rx_tree.specs.Plain.{Expression, Statement, Statements}
use Rattle.rx_resolve_names.specs.Scopes.{Variables, variable_named}
use Rattle.rx_resolve_names.specs.declared.resolved.ItemNames.{ItemNames}
use Rattle.rx_resolve_names.specs.declared.resolved.NodeNames.{NodeNames}
use Rattle.rx_resolve_names.specs.Meant.{Around}
use Rattle.rx_resolve_names.specs.Steps.{Inside}
use Rattle.rx_resolve_names.specs.Names.{in_expression, in_statements, Scoped}
use Rattle.rx_typed.specs.declared.nodes.Site.{Site}
use Rattle.rx_typed.specs.Named.{Exp}
use Rattle.rx_typed.specs.Naming.{Cursor, of_expression, of_statements}
use Rattle.rx_hoist_extraction.specs.Names.{Names, is_among, behind_all, bound_by}
use Rattle.rx_hoist_extraction.specs.Run.{as_statements}
use Rattle.rx_hoist_extraction.specs.Changed.{Changes, changed, changed_statement, changed_statements}
use Rattle.rx_hoist_extraction.specs.Moved.{referred, moving}
use Rattle.rx_engine_names.specs.Renaming.{Renaming, Made, Serves}
use Rattle.rx_engine_names.specs.LikeNamed.{Holes, LikeExp, LikeStatements}
use Rattle.rx_engine_names.specs.Within.{Claims, Within, StatementsWithin}
use Rattle.rx_engine_names.specs.Moves.{Moves, asked, ExitsNamed, rounds, Paired, StartsAlike, StandsAt, moved}
use Rattle.rx_engine_names.proofs.SideBySide.{Grows, Numbers}
use Rattle.rx_engine_names.proofs.Fitting.{FitItems}
use Rattle.rx_engine_names.proofs.Standing.{Setting, Stand, later, in_scope, ExpPart}
use Rattle.rx_engine_names.proofs.CopiedExpressions.{expression_alike, statements_alike}
use Rattle.rx_engine_names.proofs.MovedStatements.{J, moved_special, begins, names}
use Rattle.rx_engine_names.proofs.Alone.{Alone}
use Rattle.rx_engine_names.proofs.MadeCalls.{ExpAlone}
use Rattle.rx_engine_names.proofs.MadeRows.{Later, ForText, numbers_alone, numbers_text, Row}

-- ---- lists of statements

pub relisted : (ss : Statements) → as_statements (listed ss) ≡ ss
relisted plain.no_statement = refl
relisted (plain.statement_and a ss) = ap (plain.statement_and a) (relisted ss)

-- statements of which special places become something else
abbrev pub changed_list : Changes → Names → List Around → List Statement → List Statement
changed_list C own ls xs = listed (changed_statements C own ls (as_statements xs))

pub changed_in_a_row : (C : Changes) (own : Names) (ls : List Around) (xs ys : List Statement) → changed_list C own ls (xs ++ ys) ≡ changed_list C own ls xs ++ changed_list C (behind_all own (as_statements xs)) ls ys
changed_in_a_row C own ls [] ys = refl
changed_in_a_row C own ls (x ∷ xs) ys = ap (λ (z : List Statement). changed_statement C own ls x ∷ z) (changed_in_a_row C (bound_by x ++ own) ls xs ys)

pub within_in_a_row : (N : Claims) (own : Names) (ls : List Around) (xs ys : List Statement) → StatementsWithin N own ls (as_statements (xs ++ ys)) → StatementsWithin N own ls (as_statements xs) × StatementsWithin N (behind_all own (as_statements xs)) ls (as_statements ys)
within_in_a_row N own ls [] ys h = (tt, h)
within_in_a_row N own ls (x ∷ xs) ys h = let r = within_in_a_row N (bound_by x ++ own) ls xs ys h.1 in ((h.0, r.0), r.1)

-- ---- a run

every_site : {H : Holes} {R : Renaming} {t u t1 u1 : ItemNames} {es es' : List NodeNames} (e e' : Expression) → ((m m' : Bool) (k k' : Site) → Numbers (LikeExp H R) t u t1 u1 es es' (of_expression m k e) (of_expression m' k' e'))
    → (m' : Bool) (k' : Site) → Alone (λ b. (m : Bool) (k : Site) → ForText (LikeExp H R) t es (of_expression m k e) b) u u1 es' (of_expression m' k' e')
every_site e e' N m' k' = record {
  holds = λ c' rest' q' f.
      let x = (numbers_alone (N false m' Site.Value k')).holds c' rest' q' f in
      record { like = λ m k. ((numbers_alone (N m m' k k')).holds c' rest' q' f).like; stands = x.stands; left = x.left };
}

-- what is alike to an expression of the text, wherever that stands
abbrev pub TailLike : Moves → ItemNames → List NodeNames → Expression → Renaming → Exp → Type 0
TailLike V t es e R b = (m : Bool) (k : Site) → ForText (LikeExp (moved V) R) t es (of_expression m k e) b

-- the statements, behind a scope and tables of the new function
pub record MovedRow (items : ℕ → ℕ) (V : Moves) (I I' : Inside) (start : Variables) (M : Made) (at' : List ℕ) (i' : ℕ) (xs : List Statement) (t u : ItemNames) (r : Scoped) : Type 0 where
  pub made : Made
  pub grows : Grows M made
  pub scope : Variables
  pub added : List NodeNames
  pub grown : r.tables.names ≡ t.names ++ added
  pub row : Row items made I' [] at' i' start u (changed_list (moving V.plan V.place) [] (rounds V) xs) scope (λ R ys. ForText (LikeStatements (moved V) R) t added (of_statements (as_statements xs)) ys)
  pub text : (R : Renaming) → Serves items made R → (c : Cursor) (rest : List NodeNames) → StandsAt t c → c.names ≡ added ++ rest
      → StandsAt r.tables (of_statements (as_statements xs) c).1 × ((of_statements (as_statements xs) c).1.names ≡ rest)
  pub names : (x : List ℕ) → (is_among x (behind_all [] (as_statements xs)) || is_among x V.known) ≡ true
      → (n : ℕ) × (m : ℕ) × (variable_named r.scope x ≡ Some n) × (variable_named scope x ≡ Some m) × Paired V.behind made (not (is_among x (behind_all [] (as_statements xs))) && is_among x (referred V.plan.params)) n m
  -- an expression of the text behind it adds these entries; what becomes of it stands anywhere behind the copy
  pub entries : (e : Expression) → Within (asked V I I' start) (behind_all [] (as_statements xs)) (rounds V) e → (at : List ℕ) (t' : ItemNames) → in_expression I r.scope V.loops at e r.tables ≡ Ok t' → (more : List NodeNames) × (t'.names ≡ r.tables.names ++ more)
  pub behind : (e : Expression) → Within (asked V I I' start) (behind_all [] (as_statements xs)) (rounds V) e → (at : List ℕ) (t' : ItemNames) → in_expression I r.scope V.loops at e r.tables ≡ Ok t' → (more : List NodeNames) → t'.names ≡ r.tables.names ++ more
      → (at2 : List ℕ) (v : ItemNames) → Later items made v (λ w. in_expression I' scope [] at2 (changed (moving V.plan V.place) (behind_all [] (as_statements xs)) (rounds V) e) v ≡ Ok w)
      (ExpAlone (TailLike V r.tables more e) v (changed (moving V.plan V.place) (behind_all [] (as_statements xs)) (rounds V) e))

module _ (items : ℕ → ℕ) (V : Moves) (I I' : Inside) (start : Variables) (F : FitItems items I I') (E : ExitsNamed V I') where
  abbrev C : Changes
  C = moving V.plan V.place

  abbrev At : Setting
  At = J items V I I' start F E

  expression_behind : (M : Made) (own : Names) (w : Stand At M own (rounds V)) → w.ls ≡ V.loops → (e : Expression) → Within (asked V I I' start) own (rounds V) e → (at at' : List ℕ) (t t' v : ItemNames) → in_expression I w.sc V.loops at e t ≡ Ok t'
      → ExpPart At M own (rounds V) w at' e (changed C own (rounds V) e) t t' v
  expression_behind M own w here e within at at' t t' v is = expression_alike At (moved_special items V I I' start F E) M own (rounds V) w at at' e within t t' v (ap (λ (ls : List Around). in_expression I w.sc ls at e t) here ∙ is) (record { vars = tt; loops = tt; passages = tt })

  behind_run : (M : Made) (own : Names) (w : Stand At M own (rounds V)) → w.ls ≡ V.loops → w.ls' ≡ [] → (e : Expression) → Within (asked V I I' start) own (rounds V) e → (at : List ℕ) (t t' : ItemNames) → in_expression I w.sc V.loops at e t ≡ Ok t'
      → (more : List NodeNames) → t'.names ≡ t.names ++ more → (at' : List ℕ) (v : ItemNames) → Later items M v (λ z. in_expression I' w.sc' [] at' (changed C own (rounds V) e) v ≡ Ok z) (ExpAlone (TailLike V t more e) v (changed C own (rounds V) e))
  behind_run M own w here none e within at t t' is more grown at' v =
      let A = expression_behind M own w here e within at at' t t' v is in
      let same : A.added ≡ more = append_cancel_left t.names A.added more (sym A.grown ∙ grown) in record {
        made = A.made;
        grows = A.grows;
        makes = record {
          table = A.table;
          answer = ap (λ (ls : List Around). in_expression I' w.sc' ls at' (changed C own (rounds V) e) v) (sym none) ∙ A.answer;
          added = A.added';
          grown = A.grown';
          numbers = λ R sv. subst (λ (z : List NodeNames). ExpAlone (TailLike V t z e) v (changed C own (rounds V) e) R A.table A.added') same (every_site e (changed C own (rounds V) e) (A.numbers R sv));
        };
      }

  pub moved_row : (M : Made) → StartsAlike V M start → (at at' : List ℕ) (i i' : ℕ) (xs : List Statement) → StatementsWithin (asked V I I' start) [] (rounds V) (as_statements xs)
      → (t u : ItemNames) (r : Scoped) → in_statements I V.scope V.loops at i (as_statements xs) t ≡ Ok r → MovedRow items V I I' start M at' i' xs t u r
  unfolding begins
  moved_row M h at at' i i' xs within t u r e =
      let w = begins items V I I' start F E M h in
      let ss = as_statements xs in
      let ss' = changed_statements C [] (rounds V) ss in
      let A = statements_alike At (moved_special items V I I' start F E) M [] (rounds V) w at at' i i' ss within t r u e (record { vars = tt; loops = tt; passages = tt }) in
      let own = behind_all [] ss in
      let w1 = in_scope At A.made [] own (rounds V) (later At M A.made [] (rounds V) w A.grows) r.scope A.answer.0 A.answer.2 in record {
        made = A.made;
        grows = A.grows;
        scope = A.answer.0;
        added = A.added;
        grown = A.grown;
        row = record {
          table = A.table;
          answer = ap (λ (z : Statements). in_statements I' start [] at' i' z u) (relisted ss') ∙ A.answer.1;
          added = A.added';
          grown = A.grown';
          numbers = λ R sv. subst (λ (z : Statements). Alone (ForText (LikeStatements (moved V) R) t A.added (of_statements ss)) u A.table A.added' (of_statements z)) (sym (relisted ss')) (numbers_alone (A.numbers R sv));
        };
        text = λ R sv. numbers_text (A.numbers R sv);
        names = λ x k. names items V I I' start F E A.made r.scope A.answer.0 (not (is_among x own) && is_among x (referred V.plan.params)) x (A.answer.2.variables x k);
        entries = λ x a at1 t' f. let B = expression_behind A.made own w1 refl x a at1 [] r.tables t' u f in (B.added, B.grown);
        behind = λ x a at1 t' f more g at2 v. behind_run A.made own w1 refl refl x a at1 r.tables t' f more g at2 v;
      }

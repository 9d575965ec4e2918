-- Statements and patterns only bring variables into scope, so the scope round them is what is oldest behind them.
use Rattle.std.proofs.Common.{◌≡◌, ℕ, suc, ◌+◌, ◌-◌, List, [], ◌∷◌, ◌++◌, length, drop, map, Result, Ok, Err, refl, sym, ap, ◌∙◌, arith, true≢false, Bool, true, false}
use Rattle.std.proofs.Math.Seq.{drop-append_seam}
use Rattle.rx_tree.specs.Plain as plain
use Rattle.std.proofs.lemmas.List.{length-map}
use Rattle.rx_core.specs.declared.types.Span.{Span}
use Rattle.rx_tree.specs.declared.tree.Stmt.{Stmt}
use Rattle.rx_tree.specs.PlainOf.{plain-Stmt, statements_of}
use Rattle.rx_tree.specs.Lists.{listed}
use Rattle.rx_tree.proofs.ListsLemmas.{listed-statements_of}
use Rattle.rx_tree.specs.Plain.{Statement, Statements, Body, OptionalExpression}
use Rattle.rx_resolve_names.specs.Scopes.{DeclaredNames, Variables, Variable, entered, oldest}
use Rattle.rx_resolve_names.specs.declared.resolved.ItemNames.{ItemNames}
use Rattle.rx_resolve_names.specs.declared.resolved.Misnamed.{Misnamed}
use Rattle.rx_resolve.specs.declared.walk.Walk.{Walk}
use Rattle.rx_resolve_names.specs.Meant.{Around, number}
use Rattle.rx_resolve_names.specs.Steps.{Outcome, and_then, Inside, child, next, ◌>>◌}
use Rattle.rx_resolve_names.specs.Names.{Scoped, Bound, in_statement, in_statements, in_optional, in_optional_type, initialiser_at, in_expression, in_pattern, in_block}
use Rattle.rx_resolve.specs.Walks.{inside, around_from, with_tables, with_scope}

-- new variables stand in front of the old ones
abbrev Extends : Variables → Variables → Type 0
Extends new old = (more : Variables) × (new ≡ more ++ old)

appended : (a b c : Variables) → a ++ (b ++ c) ≡ (a ++ b) ++ c
appended [] b c = refl
appended (x ∷ a) b c = ap (λ l. x ∷ l) (appended a b c)

counted : (a b : Variables) → length (a ++ b) ≡ length a + length b
counted [] b = omega arith
counted (x ∷ a) b = ap suc (counted a b) ∙ omega arith

entered_extends : (vs : Variables) (ds : DeclaredNames) → Extends (entered vs ds) vs
entered_extends vs [] = ([], refl)
entered_extends vs (d ∷ ds) =
    let v : Variable = record { name = d.0; number = d.1.number } in
    let rest = entered_extends (v ∷ vs) ds in (rest.0 ++ v ∷ [], rest.1 ∙ appended rest.0 (v ∷ []) vs)

oldest_extends : (new old : Variables) → Extends new old → oldest (length old) new ≡ old
unfolding oldest
oldest_extends new old e = ap (λ (n : Variables). drop (length n - length old) n) e.1 ∙ ap (λ n. drop n (e.0 ++ old)) (ap (λ n. n - length old) (counted e.0 old) ∙ omega arith) ∙ drop-append_seam e.0 old

pub oldest_entered : (vs : Variables) (ds : DeclaredNames) → oldest (length vs) (entered vs ds) ≡ vs
oldest_entered vs ds = oldest_extends (entered vs ds) vs (entered_extends vs ds)

abbrev is_ok : {A B : Type 0} → Result A B → Bool
is_ok (Ok a) = true
is_ok (Err e) = false

scope_or : Variables → Outcome Scoped → Variables
scope_or d (Ok r) = r.scope
scope_or d (Err e) = d

same_scope : (a b : Scoped) → ◌≡◌ {A = Outcome Scoped} (Ok a) (Ok b) → a.scope ≡ b.scope
unfolding scope_or
same_scope a b h = ap (scope_or a.scope) h

trans_extends : (a b c : Variables) → Extends a b → Extends b c → Extends a c
trans_extends a b c e f = (e.0 ++ f.0, e.1 ∙ ap (λ l. e.0 ++ l) f.1 ∙ appended e.0 f.0 c)

failed : {A : Type 0} {B : Type 0} (e : Misnamed) (r : A) → ◌≡◌ {A = Outcome A} (Err e) (Ok r) → B
failed e r h = absurd (true≢false (sym (ap is_ok h)))

module _ (sc : Variables) where
  evaluated : (x : Outcome ItemNames) (sc2 : Variables) (r : Scoped) → and_then x (λ t. Ok (record { scope = sc2; tables = t })) ≡ Ok r → sc2 ≡ r.scope
  evaluated (Ok t) sc2 r h = same_scope (record { scope = sc2; tables = t }) r h
  evaluated (Err e) sc2 r h = failed e r h

  declared : (x : Outcome Bound) (g : Bound → Outcome ItemNames) (r : Scoped) → and_then x (λ b. and_then (g b) (λ t. Ok (record { scope = entered sc b.bindings; tables = t }))) ≡ Ok r → Extends r.scope sc
  declared (Ok b) g r h = let e = entered_extends sc b.bindings in (e.0, sym (evaluated (g b) (entered sc b.bindings) r h) ∙ e.1)
  declared (Err e) g r h = failed e r h

module _ (I : Inside) (ls : List Around) where
  statement_extends : (sc : Variables) (at : List ℕ) (a : Statement) (t : ItemNames) (r : Scoped) → in_statement I sc ls at a t ≡ Ok r → Extends r.scope sc
  statement_extends sc at (plain.let_statement s p y o) t r h = declared sc (in_pattern I (child at 0) p (record { bindings = []; tables = t }))
      (λ b. (in_optional_type I (child at 1) y >> in_optional I sc ls (child at (initialiser_at y)) o) b.tables) r h
  statement_extends sc at (plain.expression_statement s e b) t r h = ([], sym (evaluated sc (in_expression I sc ls (child at 0) e t) sc r h))

  further : (sc : Variables) (x : Outcome Scoped) (f : Scoped → Outcome Scoped) (r : Scoped) → ((q : Scoped) → x ≡ Ok q → Extends q.scope sc) → ((q : Scoped) → f q ≡ Ok r → Extends r.scope q.scope)
      → and_then x f ≡ Ok r → Extends r.scope sc
  further sc (Ok q) f r one rest h = trans_extends r.scope q.scope sc (rest q h) (one q refl)
  further sc (Err e) f r one rest h = failed e r h

  statements_extend : (sc : Variables) (at : List ℕ) (i : ℕ) (ss : Statements) (t : ItemNames) (r : Scoped) → in_statements I sc ls at i ss t ≡ Ok r → Extends r.scope sc
  statements_extend sc at i plain.no_statement t r h = ([], sym (same_scope (record { scope = sc; tables = t }) r h))
  statements_extend sc at i (plain.statement_and a ss) t r h = further sc (in_statement I sc ls (child at i) a t) (λ q. in_statements I q.scope ls at (next i) ss q.tables) r
      (λ q e. statement_extends sc (child at i) a t q e) (λ q e. statements_extend q.scope at (next i) ss q.tables r e) h

  pub oldest_statements : (sc : Variables) (at : List ℕ) (i : ℕ) (ss : Statements) (t : ItemNames) (r : Scoped) → in_statements I sc ls at i ss t ≡ Ok r → oldest (length sc) r.scope ≡ sc
  oldest_statements sc at i ss t r h = oldest_extends r.scope sc (statements_extend sc at i ss t r h)

-- what was entered is left
pub bound_left : (w0 w1 w2 : Walk) (ds : DeclaredNames) (outer : ℕ) (left : Variables) → outer ≡ length w0.scope → with_scope (entered w0.scope ds) w0 ≡ w1 → w2 ≡ with_tables w2.tables w1
    → left ≡ oldest outer w2.scope → with_scope left w2 ≡ with_tables w2.tables w0
bound_left w0 w1 w2 ds outer left count enter walk leave =
    let scope : w2.scope ≡ entered w0.scope ds = ap (λ (w : Walk). w.scope) walk ∙ sym (ap (λ (w : Walk). w.scope) enter) in
    let back : left ≡ w0.scope = leave ∙ (λ i. oldest (count i) (scope i)) ∙ oldest_entered w0.scope ds in
    ap (λ s. with_scope s w2) back ∙ ap (with_scope w0.scope) (walk ∙ ap (with_tables w2.tables) (sym enter))

-- a block, by its parts
module _ (w0 w1 : Walk) (ss : Statements) where
  pub block_done : (b : Body) (s : Span) (o : OptionalExpression) (n : ℕ) (r : Outcome ItemNames) → b ≡ plain.body s ss o → n ≡ number (length (listed ss))
      → in_statements (inside w0) w0.scope (around_from [] w0.around) w0.path 0 ss w0.tables ≡ Ok (record { scope = w1.scope; tables = w1.tables })
      → w1 ≡ with_scope w1.scope (with_tables w1.tables w0) → in_optional (inside w1) w1.scope (around_from [] w1.around) (child w1.path n) o w1.tables ≡ r
      → in_block (inside w0) w0.scope (around_from [] w0.around) w0.path b w0.tables ≡ r
  block_done b s o n r parts count first walk second =
      ap (λ x. in_block (inside w0) w0.scope (around_from [] w0.around) w0.path x w0.tables) parts
      ∙ ap (λ x. and_then x (λ (r : Scoped). in_optional (inside w0) r.scope (around_from [] w0.around) (child w0.path (number (length (listed ss)))) o r.tables)) first
      ∙ ap (λ (w : Walk). in_optional (inside w) w.scope (around_from [] w.around) (child w.path (number (length (listed ss)))) o w.tables) (sym walk)
      ∙ ap (λ k. in_optional (inside w1) w1.scope (around_from [] w1.around) (child w1.path k) o w1.tables) (sym count) ∙ second

  pub block_left : (w2 : Walk) (outer : ℕ) (left : Variables) → outer ≡ length w0.scope
      → in_statements (inside w0) w0.scope (around_from [] w0.around) w0.path 0 ss w0.tables ≡ Ok (record { scope = w1.scope; tables = w1.tables })
      → w1 ≡ with_scope w1.scope (with_tables w1.tables w0) → w2 ≡ with_tables w2.tables w1 → left ≡ oldest outer w2.scope → with_scope left w2 ≡ with_tables w2.tables w0
  block_left w2 outer left count first walk last leave =
      let scope : w2.scope ≡ w1.scope = ap (λ (w : Walk). w.scope) last in
      let back : left ≡ w0.scope = leave ∙ (λ i. oldest (count i) (scope i))
      ∙ oldest_statements (inside w0) (around_from [] w0.around) w0.scope w0.path 0 ss w0.tables (record { scope = w1.scope; tables = w1.tables }) first in
      ap (λ s. with_scope s w2) back ∙ ap (with_scope w0.scope) (last ∙ ap (with_tables w2.tables) walk)

pub statements_counted : (l : List Stmt) → length (listed (statements_of (map plain-Stmt l))) ≡ length l
statements_counted l = ap length (listed-statements_of (map plain-Stmt l)) ∙ length-map l plain-Stmt

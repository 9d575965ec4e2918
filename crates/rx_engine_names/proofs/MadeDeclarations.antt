-- `let x: T;` for variables that are redeclared, and a `let` of what the call hands out: their types are found, their patterns bind.
use Rattle.std.proofs.Common.{◌≡◌, ℕ, suc, Bool, true, false, ◌&&◌, List, [], ◌∷◌, length, Option, Some, None, Ok, refl, sym, ap, ◌∙◌, subst}
use Rattle.rx_core.specs.declared.types.Span.{Span}
use Rattle.rx_core.specs.declared.types.Kind.{Kind}
use Rattle.rx_tree.specs.Lists.{Every}
use Rattle.rx_tree.specs.Plain as plain
use Rattle.rx_tree.specs.Plain.{TypeTree, TypeTrees, PatternTree, Expression, ProgramTree}
use Rattle.rx_resolve_names.specs.Scopes.{DeclaredNames, Variables, entered}
use Rattle.rx_resolve_names.specs.declared.resolved.ItemNames.{ItemNames}
use Rattle.rx_resolve_names.specs.Meant.{Around}
use Rattle.rx_resolve_names.specs.Steps.{Outcome, and_then, ◌>>◌, Inside, one, both, child, next, entry, with_names, names}
use Rattle.rx_resolve_names.specs.Names.{in_type, in_types, in_pattern, in_optional_type, in_expression, in_optional, in_statement, in_statements}
use Rattle.rx_typed.specs.declared.nodes.Node.{Node}
use Rattle.rx_typed.specs.declared.nodes.Site.{Site}
use Rattle.rx_typed.specs.Types as types
use Rattle.rx_typed.specs.Types.{Shape, Shapes, integer, boolean, tuple_of, reference, no_shape, shape_and}
use Rattle.rx_typed.specs.Named as named
use Rattle.rx_typed.specs.Named.{Written, never}
use Rattle.rx_typed.specs.Naming.{give, first, has_no_type, of_type, of_types, of_pattern}
use Rattle.rx_hoist_extraction.specs.Run.{as_statements}
use Rattle.rx_hoist_extraction.specs.Plan.{Variable, names_of}
use Rattle.rx_hoist_extraction.specs.Made.{ident, binding, let_value, let_nothing}
use Rattle.rx_hoist_extraction.specs.WrittenTypes.{name_of, elided, all_elided}
use Rattle.rx_hoist_extraction.specs.NewBody.{declared}
use Rattle.rx_engine_names.specs.Renaming.{Renaming, Made}
use Rattle.rx_engine_names.specs.WrittenOut.{Says, SayAll, says_kind, says_bool, says_tuple, says_reference, says_item, says_no_type, says_more_types}
use Rattle.rx_engine_names.specs.HandedOut.{AreRedeclared, none_redeclared, more_redeclared}
use Rattle.rx_engine_names.specs.HandsOver.{declared_from}
use Rattle.rx_engine_names.proofs.SideBySide.{then_ok, and_ok, one_more}
use Rattle.rx_engine_names.proofs.Fitting.{Fits}
use Rattle.rx_engine_names.proofs.Standing.{keeps_counted, keeps_between, keeps_annotates, keeps_waits}
use Rattle.rx_engine_names.proofs.FoundTypes.{Finds, FindAll}
use Rattle.rx_engine_names.proofs.Alone.{Alone, alone_give, alone_then, alone_map, alone_node, alone_keeps, alone_entry, Makes, makes_nothing, makes_then, makes_map}
use Rattle.rx_engine_names.proofs.MadeCalls.{ExpAlone}
use Rattle.rx_engine_names.proofs.MadeBindings.{IsBind, is_bind, made_bind}
use Rattle.rx_engine_names.proofs.MadeUses.{alone_last, StatementAlone, StatementsAlone, goes_to}

-- ---- types: they declare nothing

module _ (items : ℕ → ℕ) (I I' : Inside) (F : Fits items I I') (P : ProgramTree) (s : Span) (M : Made) where
  abbrev TypeMade : List ℕ → Shape Kind → TypeTree → ItemNames → Type 0
  TypeMade at' y z u = Makes items M u (λ v. (in_type I' at' z u ≡ Ok v) × (v.vars ≡ u.vars)) (λ R u' es. Alone (λ w. Says R y w) u u' es (of_type z))

  abbrev TypesMade : List ℕ → ℕ → Shapes Kind → TypeTrees → ItemNames → Type 0
  TypesMade at' i ys zs u = Makes items M u (λ v. (in_types I' at' i zs u ≡ Ok v) × (v.vars ≡ u.vars)) (λ R u' es. Alone (λ w. SayAll R ys w) u u' es (of_types zs))

  mutual
    pub made_type : (at' : List ℕ) (y : Shape Kind) → Finds I P y → (u : ItemNames) → TypeMade at' y (elided P s y) u
    made_type at' (integer k) f u = makes_nothing u (λ v. (Ok u ≡ Ok v) × (v.vars ≡ u.vars)) (λ R u' es. Alone (λ w. Says R (integer k) w) u u' es (of_type (plain.kind_type s k))) (refl, refl) (λ R. alone_node s Site.Value (λ n g. alone_give (named.a_kind n k) says_kind))
    made_type at' boolean f u = makes_nothing u (λ v. (Ok u ≡ Ok v) × (v.vars ≡ u.vars)) (λ R u' es. Alone (λ w. Says R boolean w) u u' es (of_type (plain.bool_type s))) (refl, refl) (λ R. alone_node s Site.Value (λ n g. alone_give (named.a_bool n) says_bool))
    made_type at' (tuple_of ys) f u = makes_map (made_types at' 0 ys f u) (λ a. a) (λ R sv N. alone_node s Site.Value (λ n g. alone_map (named.a_tuple n) N (λ w h. says_tuple h)))
    made_type at' (reference m y) f u = makes_map (made_type (child at' 0) y f u) (λ a. a) (λ R sv N. alone_node s Site.Value (λ n g. alone_map (named.a_reference n m) N (λ w h. says_reference h)))
    made_type at' (types.named i) f u =
        let x = ident s (name_of P i) in let j = F.items_fit.types x i (f s) in let z = entry I' at' (j.0 ∷ []) in record {
          table = with_names z u;
          answer = (ap (λ (o : Outcome ℕ). names I' at' (both (one o) (Ok [])) u) j.1, refl);
          added = z ∷ [];
          grown = refl;
          numbers = λ R sv. alone_node s Site.Value (λ n g. alone_map (λ (a : List ℕ × Bool). named.an_item n (first a.0) None) (alone_entry z)
              (λ a e. subst (λ (a : List ℕ × Bool). Says R (types.named i) (named.an_item n (first a.0) None)) (sym e) (says_item (sv.items_are i ∙ j.2))));
        }

    made_types : (at' : List ℕ) (i' : ℕ) (ys : Shapes Kind) → FindAll I P ys → (u : ItemNames) → TypesMade at' i' ys (all_elided P s ys) u
    made_types at' i' no_shape f u = makes_nothing u (λ v. (Ok u ≡ Ok v) × (v.vars ≡ u.vars)) (λ R u' es. Alone (λ w. SayAll R no_shape w) u u' es (of_types plain.no_type)) (refl, refl) (λ R. alone_give named.no_written says_no_type)
    made_types at' i' (shape_and y ys) f u =
        let A = made_type (child at' i') y f.0 u in
        let B = made_types at' (next i') ys f.1 A.table in
        makes_then A B (λ x z. (then_ok (in_type I' (child at' i') (elided P s y)) (in_types I' at' (next i') (all_elided P s ys)) u A.table B.table x.0 z.0, z.1 ∙ x.1))
        (λ R sv N O. alone_then N (λ w g. alone_map (named.written_and w) O (λ ws d. says_more_types g d)))

-- ---- `let p = e;`

pub made_let : (items : ℕ → ℕ) (M : Made) (I' : Inside) (s : Span) (sc : Variables) (ls : List Around) (at' : List ℕ) (p : PatternTree) (ds : DeclaredNames) (e : Expression) (S : Renaming → named.Pattern → Type 0) (E : Renaming → named.Exp → Type 0) (T : Renaming → named.Statement → Type 0) (u : ItemNames)
    (A : Makes items M u (λ v. in_pattern I' (child at' 0) p (record { bindings = []; tables = u }) ≡ Ok (record { bindings = ds; tables = v })) (λ R u' es. Alone (S R) u u' es (of_pattern p)))
    → Makes items M A.table (λ v. in_expression I' sc ls (child at' 1) e A.table ≡ Ok v) (ExpAlone E A.table e)
    → ((R : Renaming) (n : Node) → n.span ≡ s → (q : named.Pattern) → S R q → (e : named.Exp) → E R e → T R (named.lets n q None e))
    → Makes items M u (λ v. in_statement I' sc ls at' (let_value s p e) u ≡ Ok (goes_to (entered sc ds) v)) (StatementAlone T u (let_value s p e))
made_let items M I' s sc ls at' p ds e S E T u A B f =
    makes_then A B
    (λ y z. and_ok (in_pattern I' (child at' 0) p (record { bindings = []; tables = u })) (record { bindings = ds; tables = A.table })
    (λ b. and_then ((in_optional_type I' (child at' 1) None >> in_optional I' sc ls (child at' 1) (plain.present e)) b.tables) (λ t. Ok (goes_to (entered sc b.bindings) t))) (Ok (goes_to (entered sc ds) B.table)) y
    (ap (λ (o : Outcome ItemNames). and_then o (λ t. Ok (goes_to (entered sc ds) t))) z))
    (λ R sv N O. alone_node s Site.Value (λ n g. alone_keeps (keeps_annotates p None) (λ _. alone_keeps keeps_counted (λ i. alone_then N (λ q h. alone_keeps keeps_counted (λ j.
    alone_last (O false Site.Scrutinee) (λ e d. alone_keeps (keeps_between i j) (λ _. alone_keeps (keeps_waits (true && never e) q) (λ _. alone_give (named.lets n q None e) (f R n g q h e d))))))))))

-- ---- `let x: T;`

data IsDeclared (s : Span) (R : Renaming) (d : ℕ) (v : Variable) : named.Statement → Type 0 where
  is_declared : {n p : Node} {w : Written} → n.span ≡ s → p.span ≡ s → Says R v.typ w → IsDeclared s R d v (named.declares n (named.bind p d v.mutable) (Some w))

module _ (items : ℕ → ℕ) (I I' : Inside) (F : Fits items I I') (P : ProgramTree) (s : Span) (M : Made) (ls : List Around) where
  one_declared : (R : Renaming) (d : ℕ) (v : Variable) (n : Node) (q : named.Pattern) (w : Written) → n.span ≡ s → IsBind s d v.mutable q → Says R v.typ w → IsDeclared s R d v (named.declares n q (Some w))
  one_declared R d v n _ w g (is_bind h) y = is_declared g h y

  -- a type that is written
  data SomeSays (R : Renaming) (y : Shape Kind) : Option Written → Type 0 where
    some_says : {w : Written} → Says R y w → SomeSays R y (Some w)

  written_declared : (R : Renaming) (d : ℕ) (v : Variable) (n : Node) (q : named.Pattern) (w : Option Written) → n.span ≡ s → IsBind s d v.mutable q → SomeSays R v.typ w → {u : ItemNames} → Alone (IsDeclared s R d v) u u [] (give (named.declares n q w))
  written_declared R d v n q _ g h (some_says {w = w} k) = alone_give (named.declares n q (Some w)) (one_declared R d v n q w g h k)

  more_declared : (R : Renaming) (d : ℕ) (v : Variable) (vs : List Variable) (a : named.Statement) (ss : named.Statements) → IsDeclared s R d v a → AreRedeclared s R (suc d) vs ss → AreRedeclared s R d (v ∷ vs) (named.statement_and a ss)
  more_declared R d v vs _ ss (is_declared g h y) r = more_redeclared g h y r

  made_declared : (sc : Variables) (at' : List ℕ) (v : Variable) → Finds I P v.typ → (u : ItemNames)
      → Makes items M u (λ w. (in_statement I' sc ls at' (let_nothing s v.name v.mutable (elided P s v.typ)) u ≡ Ok (goes_to (entered sc (declared_from s (length u.vars) (v.name ∷ []))) w)) × (length w.vars ≡ suc (length u.vars)))
      (StatementAlone (λ R a. IsDeclared s R (length u.vars) v a) u (let_nothing s v.name v.mutable (elided P s v.typ)))
  unfolding made_bind
  made_declared sc at' v f u =
      let y = elided P s v.typ in let p = binding s v.name v.mutable in
      let A = made_bind items M I' s (child at' 0) v.name v.mutable [] u refl in
      let B = made_type items I I' F P s M (child at' 1) v.typ f A.table in
      let ds = declared_from s (length u.vars) (v.name ∷ []) in
      makes_then A B
      (λ a z. (
        and_ok (in_pattern I' (child at' 0) p (record { bindings = []; tables = u })) (record { bindings = ds; tables = A.table })
            (λ b. and_then ((in_optional_type I' (child at' 1) (Some y) >> in_optional I' sc ls (child at' 2) plain.absent) b.tables) (λ t. Ok (goes_to (entered sc b.bindings) t))) (Ok (goes_to (entered sc ds) B.table)) a
            (ap (λ (o : Outcome ItemNames). and_then (and_then o (λ t. Ok t)) (λ t. Ok (goes_to (entered sc ds) t))) z.0),
        ap length z.1 ∙ one_more u.vars s,
      ))
      (λ R sv N O. alone_node s Site.Value (λ n g. alone_keeps (keeps_annotates p (Some y)) (λ _. alone_keeps keeps_counted (λ i. alone_then N (λ q h. alone_keeps keeps_counted (λ j.
      alone_last (alone_map (λ w. Some w) O (λ w k. some_says k)) (λ w k. alone_keeps (keeps_between i j) (λ _. alone_keeps (keeps_waits (has_no_type w) q) (λ _. written_declared R (length u.vars) v n q w g h k)))))))))

  pub made_redeclared : (at' : List ℕ) (i : ℕ) (vs : List Variable) → Every (λ (v : Variable). Finds I P v.typ) vs → (sc : Variables) (u : ItemNames)
      → Makes items M u (λ w. in_statements I' sc ls at' i (as_statements (declared P s vs)) u ≡ Ok (goes_to (entered sc (declared_from s (length u.vars) (names_of vs))) w))
      (StatementsAlone (λ R ss. AreRedeclared s R (length u.vars) vs ss) u (as_statements (declared P s vs)))
  made_redeclared at' i [] f sc u =
      makes_nothing u (λ w. Ok (goes_to sc u) ≡ Ok (goes_to sc w)) (StatementsAlone (λ R ss. AreRedeclared s R (length u.vars) [] ss) u plain.no_statement) refl (λ R. alone_give named.no_statement none_redeclared)
  made_redeclared at' i (v ∷ vs) f sc u =
      let sc1 = entered sc (declared_from s (length u.vars) (v.name ∷ [])) in
      let rest = as_statements (declared P s vs) in
      let A = made_declared sc (child at' i) v f.0 u in
      let B = made_redeclared at' (next i) vs f.1 sc1 A.table in
      makes_then A B
      (λ y z. and_ok (in_statement I' sc ls (child at' i) (let_nothing s v.name v.mutable (elided P s v.typ)) u) (goes_to sc1 A.table) (λ r. in_statements I' r.scope ls at' (next i) rest r.tables)
      (Ok (goes_to (entered sc (declared_from s (length u.vars) (v.name ∷ names_of vs))) B.table)) y.0 (z ∙ ap (λ (d : ℕ). Ok (goes_to (entered sc1 (declared_from s d (names_of vs))) B.table)) A.answer.1))
      (λ R sv N O. alone_then N (λ a p. alone_map (named.statement_and a) O (λ ss q. more_declared R (length u.vars) v vs a ss p (subst (λ (d : ℕ). AreRedeclared s R d vs ss) A.answer.1 q))))

-- Names in a part whose lifetimes are written otherwise mean what they meant, and their entries stand beside those of before: step by step.
use Rattle.std.proofs.Common.{◌≡◌, ℕ, suc, true, List, [], ◌∷◌, ◌++◌, length, map, Option, Some, None, Ok, Err, refl, sym, ap, subst, ◌∙◌, append-nil, append_assoc}
use Rattle.std.specs.Prelude.{codes}
use Rattle.rx_core.specs.declared.types.Span.{Span}
use Rattle.rx_tree.specs.declared.tree.Ident.{Ident}
use Rattle.rx_tree.specs.Plain as plain
use Rattle.rx_tree.specs.Plain.{TypeTree, TypeTrees, PatternTree, PatternTrees, FieldPatterns, Expression, Expressions, OptionalExpression, OptionalExpressions, FieldExpressions, Arms, Body, Statement, Statements, ProgramTree}
use Rattle.rx_resolve_names.specs.declared.resolved.ItemNames.{ItemNames}
use Rattle.rx_resolve_names.specs.declared.resolved.NodeNames.{NodeNames}
use Rattle.rx_resolve_names.specs.Scopes.{DeclaredNames, Variables, variable_named, entered}
use Rattle.rx_resolve_names.specs.Meant.{number, number_in, Around, a_loop, a_test}
use Rattle.rx_resolve_names.specs.Steps.{Outcome, and_then, Naming, nothing, Inside, known, one, both, declare, child, next, with_variable, with_loop, with_names, position, entry, names, numbered}
use Rattle.rx_resolve_names.specs.Names as naming
use Rattle.rx_tree.specs.Lists.{listed}
use Rattle.rx_resolve_names.specs.Names.{initialiser_at, lifetime_in, lifetimes_in, type_in, written, Bound, binds, also, pattern_then, callee, in_loop, Scoped}
use Rattle.rx_compact_lifetimes.specs.declared.rewriting.Rewriting.{Rewriting}
use Rattle.rx_hoist_extraction.specs.Names as hoisting
use Rattle.rx_hoist_extraction.specs.Changed.{Changes, changed, changed_all, changed_optional, changed_arguments, changed_fields, changed_arms, changed_body, changed_statement, changed_statements}
use Rattle.rx_compact_lifetimes.specs.Rewritten.{retyping, becomes, lifetime_with, rewritten_lifetime, rewritten_list, rewritten_type, rewritten_types, rewritten_optional}
use Rattle.rx_compact_laws.specs.Beside as beside
use Rattle.rx_compact_laws.specs.Beside.{Left, InBoth, Both, Old, Alike, SameItem, Any}
use Rattle.rx_compact_laws.specs.Alongside.{SameItems, AllBecome}

pub read_ok : {A B : Type 0} (m : Outcome A) (f : A → Outcome B) (b : B) → and_then m f ≡ Ok b → (a : A) × (m ≡ Ok a) × (f a ≡ Ok b)
read_ok (Ok a) f b e = (a, refl, e)
read_ok (Err x) f b e = absurd (cc)

-- what holds tables of names: the tables, or these with what is bound or in scope
pub record Carrier : Type 1 where
  pub of : Type 0
  pub names : of → List NodeNames
  pub aside : of → List NodeNames → of

-- a step of the first was done, and the other is done too: it adds entries that stand beside those that are added
pub record Does (A D : Carrier) (P Q : Left) (x : A.of) (y : D.of) (us : List NodeNames) (r : Outcome D.of) : Type 0 where
  pub old : List NodeNames
  pub new : List NodeNames
  pub names : D.names y ≡ A.names x ++ old
  pub is : r ≡ Ok (D.aside y (us ++ new))
  pub beside : (ks js : List NodeNames) → Q ks js → P (old ++ ks) (new ++ js)

abbrev pub Runs : (A D : Carrier) → Left → Left → (A.of → Outcome D.of) → (A.of → Outcome D.of) → Type 0
Runs A D P Q f g = (x : A.of) (y : D.of) (us : List NodeNames) → f x ≡ Ok y → Does A D P Q x y us (g (A.aside x us))

pub record Sim (A D : Carrier) (P Q : Left) (f g : A.of → Outcome D.of) : Type 0 where
  pub run : Runs A D P Q f g

pub then : {A D E : Carrier} {P Q T : Left} {f g : A.of → Outcome D.of} {h k : D.of → Outcome E.of} → Sim A D P Q f g → Sim D E Q T h k → Sim A E P T (λ x. and_then (f x) h) (λ x. and_then (g x) k)
then {A = A} {D = D} {E = E} {P = P} {f = f} {g = g} {h = h} {k = k} s t = record {
  run = λ x z us e.
      let m = read_ok (f x) h z e in
      let a = s.run x m.0 us m.1 in
      let b = t.run m.0 z (us ++ a.new) m.2 in
      record {
        old = a.old ++ b.old;
        new = a.new ++ b.new;
        names = b.names ∙ (ap (λ ns. ns ++ b.old) a.names ∙ append_assoc (A.names x) a.old b.old);
        is = ap (λ r. and_then r k) a.is ∙ (b.is ∙ ap (λ ns. Ok (E.aside z ns)) (append_assoc us a.new b.new));
        beside = λ ks js c.
            subst (λ ns. P ns ((a.new ++ b.new) ++ js)) (sym (append_assoc a.old b.old ks))
            (subst (λ ns. P (a.old ++ (b.old ++ ks)) ns) (sym (append_assoc a.new b.new js)) (a.beside (b.old ++ ks) (b.new ++ js) (b.beside ks js c)));
      };
}

pub ok_is : {A : Type 0} (a b : A) → ◌≡◌ {A = Outcome A} (Ok a) (Ok b) → a ≡ b
ok_is a b e = cc

module _ (p q : ProgramTree) (i : ℕ) (L M : DeclaredNames) (spans : List Span) (rs : List Rewriting) (same : SameItems p q) (all : AllBecome rs L M) where
  abbrev pub I : Inside
  I = record { program = p; item = i; lifetimes = L }

  abbrev pub J : Inside
  J = record { program = q; item = i; lifetimes = M }

  abbrev pub K : InBoth
  K = record { by = rs; old = I; new = J }

  abbrev pub aside : ItemNames → List NodeNames → ItemNames
  aside t us = record { vars = t.vars; lifetimes = spans; loops = t.loops; names = us }

  abbrev pub tables : Carrier
  tables = record { of = ItemNames; names = λ t. t.names; aside = aside }

  abbrev pub bound : Carrier
  bound = record { of = Bound; names = λ b. b.tables.names; aside = λ b us. record { bindings = b.bindings; tables = aside b.tables us } }

  abbrev pub scoped : Carrier
  scoped = record { of = Scoped; names = λ b. b.tables.names; aside = λ b us. record { scope = b.scope; tables = aside b.tables us } }

  -- ---- single steps

  quiet_runs : (C : Left) → Runs tables tables C C nothing nothing
  quiet_runs C t u us e = subst (λ v. Does tables tables C C t v us (Ok (aside t us))) (ok_is t u e)
      (record { old = []; new = []; names = sym (append-nil t.names); is = ap (λ ns. Ok (aside t ns)) (sym (append-nil us)); beside = λ ks js c. c })

  pub quiet : (C : Left) → Sim tables tables C C nothing nothing
  quiet C = record { run = quiet_runs C }

  added : (R : NodeNames → NodeNames → Type 0) (n m : NodeNames) → R n m → (C : Left) (t u : ItemNames) (us : List NodeNames) → ◌≡◌ {A = Outcome ItemNames} (Ok (with_names n t)) (Ok u)
      → Does tables tables (Both R C) C t u us (Ok (with_names m (aside t us)))
  added R n m r C t u us e = subst (λ v. Does tables tables (Both R C) C t v us (Ok (with_names m (aside t us)))) (ok_is (with_names n t) u e)
      (record { old = n ∷ []; new = m ∷ []; names = refl; is = refl; beside = λ ks js c. (r, c) })

  added_old : (n : NodeNames) (C : Left) (t u : ItemNames) (us : List NodeNames) → ◌≡◌ {A = Outcome ItemNames} (Ok (with_names n t)) (Ok u)
      → Does tables tables (Old C) C t u us (Ok (aside t us))
  added_old n C t u us e = subst (λ v. Does tables tables (Old C) C t v us (Ok (aside t us))) (ok_is (with_names n t) u e)
      (record { old = n ∷ []; new = []; names = refl; is = ap (λ ns. Ok (aside t ns)) (sym (append-nil us)); beside = λ ks js c. c })

  one_runs : (at : List ℕ) (a b : Outcome ℕ) → b ≡ a → (C : Left) → Runs tables tables (Both Alike C) C (names I at (one a)) (names J at (one b))
  one_runs at a b w C t u us e = subst (λ o. Does tables tables (Both Alike C) C t u us (names J at (one o) (aside t us))) (sym w) (by a e)
    where
      by : (a : Outcome ℕ) → names I at (one a) t ≡ Ok u → Does tables tables (Both Alike C) C t u us (names J at (one a) (aside t us))
      by (Ok n) e = added Alike (entry I at (n ∷ [])) (entry J at (n ∷ [])) (refl, refl) C t u us e
      by (Err x) e = absurd (cc)

  pub one_name : (at : List ℕ) (a b : Outcome ℕ) → b ≡ a → (C : Left) → Sim tables tables (Both Alike C) C (names I at (one a)) (names J at (one b))
  one_name at a b w C = record { run = one_runs at a b w C }

  two_runs : (at : List ℕ) (a b c d : Outcome ℕ) → c ≡ a → d ≡ b → (C : Left) → Runs tables tables (Both Alike C) C (names I at (both (one a) (one b))) (names J at (both (one c) (one d)))
  two_runs at a b c d w v C t u us e =
      subst (λ o. Does tables tables (Both Alike C) C t u us (names J at (both (one o) (one d)) (aside t us))) (sym w)
      (subst (λ o. Does tables tables (Both Alike C) C t u us (names J at (both (one a) (one o)) (aside t us))) (sym v) (by a b e))
    where
      by : (a b : Outcome ℕ) → names I at (both (one a) (one b)) t ≡ Ok u → Does tables tables (Both Alike C) C t u us (names J at (both (one a) (one b)) (aside t us))
      by (Ok n) (Ok m) e = added Alike (entry I at (n ∷ m ∷ [])) (entry J at (n ∷ m ∷ [])) (refl, refl) C t u us e
      by (Ok n) (Err x) e = absurd (cc)
      by (Err x) b e = absurd (cc)

  pub two_names : (at : List ℕ) (a b c d : Outcome ℕ) → c ≡ a → d ≡ b → (C : Left) → Sim tables tables (Both Alike C) C (names I at (both (one a) (one b))) (names J at (both (one c) (one d)))
  two_names at a b c d w v C = record { run = two_runs at a b c d w v C }

  -- ---- types

  lifetime_known : (x : Ident) (y : List ℕ) (n : ℕ) → lifetime_in I x ≡ Ok n → becomes rs x.name ≡ Some y → (m : ℕ) × (lifetime_in J (record x { name = y }) ≡ Ok m)
  lifetime_known x y n e b = by (number_in L x.name) refl e
    where
      by : (o : Option ℕ) → number_in L x.name ≡ o → known o x.span ≡ Ok n → (m : ℕ) × (lifetime_in J (record x { name = y }) ≡ Ok m)
      by None h k = absurd (cc)
      by (Some l) h k = let r = all x.name y l h b in (r.0, ap (λ o. known o x.span) r.1)

  lifetime_runs : (at : List ℕ) (l : Option Ident) (C : Left) → Runs tables tables (beside.in_lifetime l (rewritten_lifetime rs l) C) C (naming.in_lifetime I at l) (naming.in_lifetime J at (rewritten_lifetime rs l))
  lifetime_runs at None C t u us e = quiet_runs C t u us e
  lifetime_runs at (Some x) C t u us e = by (lifetime_in I x) refl (becomes rs x.name) refl e
    where
      by : (a : Outcome ℕ) → lifetime_in I x ≡ a → (o : Option (List ℕ)) → becomes rs x.name ≡ o → names I at (one a) t ≡ Ok u
          → Does tables tables (beside.in_lifetime (Some x) (lifetime_with x o) C) C t u us (naming.in_lifetime J at (lifetime_with x o) (aside t us))
      by (Err f) h o k e = absurd (cc)
      by (Ok n) h None k e = added_old (entry I at (n ∷ [])) C t u us e
      by (Ok n) h (Some y) k e =
          let m = lifetime_known x y n h k in
          subst (λ a. Does tables tables (Both Any C) C t u us (names J at (one a) (aside t us))) (sym m.1) (added Any (entry I at (n ∷ [])) (entry J at (m.0 ∷ [])) tt C t u us e)

  lifetime : (at : List ℕ) (l : Option Ident) (C : Left) → Sim tables tables (beside.in_lifetime l (rewritten_lifetime rs l) C) C (naming.in_lifetime I at l) (naming.in_lifetime J at (rewritten_lifetime rs l))
  lifetime at l C = record { run = lifetime_runs at l C }

  all_known : (ls : List (Option Ident)) (ns : List ℕ) → lifetimes_in I ls ≡ Ok ns → (ms : List ℕ) × (lifetimes_in J (map (rewritten_lifetime rs) ls) ≡ Ok ms)
  all_known [] ns e = ([], refl)
  all_known (None ∷ ls) ns e = all_known ls ns e
  all_known (Some x ∷ ls) ns e =
      let a = read_ok (one (lifetime_in I x)) (λ ks. and_then (lifetimes_in I ls) (λ ms. Ok (ks ++ ms))) ns e in
      let b = read_ok (lifetimes_in I ls) (λ ms. Ok (a.0 ++ ms)) ns a.2 in
      let c = read_ok (lifetime_in I x) (λ n. Ok (n ∷ [])) a.0 a.1 in
      let r = all_known ls b.0 b.1 in
      by c.0 c.1 r (becomes rs x.name) refl
    where
      by : (n : ℕ) → lifetime_in I x ≡ Ok n → ((ms : List ℕ) × (lifetimes_in J (map (rewritten_lifetime rs) ls) ≡ Ok ms)) → (o : Option (List ℕ)) → becomes rs x.name ≡ o
          → (ms : List ℕ) × (lifetimes_in J (lifetime_with x o ∷ map (rewritten_lifetime rs) ls) ≡ Ok ms)
      by n h r None k = r
      by n h r (Some y) k = let m = lifetime_known x y n h k in
          (m.0 ∷ r.0, ap (λ a. both (one a) (lifetimes_in J (map (rewritten_lifetime rs) ls))) m.1 ∙ ap (λ a. both (Ok (m.0 ∷ [])) a) r.1)

  written_known : (ls : Option (List (Option Ident))) (ns : List ℕ) → lifetimes_in I (written ls) ≡ Ok ns → (ms : List ℕ) × (lifetimes_in J (written (rewritten_list rs ls)) ≡ Ok ms)
  written_known None ns e = ([], refl)
  written_known (Some ls) ns e = all_known ls ns e

  item_runs : (at : List ℕ) (x : Ident) (ls : Option (List (Option Ident))) (C : Left)
      → Runs tables tables (Both SameItem C) C (names I at (both (one (type_in I x)) (lifetimes_in I (written ls)))) (names J at (both (one (type_in J x)) (lifetimes_in J (written (rewritten_list rs ls)))))
  item_runs at x ls C t u us e =
      let a = read_ok (both (one (type_in I x)) (lifetimes_in I (written ls))) (λ ns. numbered I at ns t) u e in
      let b = read_ok (one (type_in I x)) (λ ks. and_then (lifetimes_in I (written ls)) (λ ms. Ok (ks ++ ms))) a.0 a.1 in
      let c = read_ok (type_in I x) (λ n. Ok (n ∷ [])) b.0 b.1 in
      let d = read_ok (lifetimes_in I (written ls)) (λ ms. Ok (b.0 ++ ms)) a.0 b.2 in
      let r = written_known ls d.0 d.1 in
      let k : c.0 ∷ [] ≡ b.0 = ok_is (c.0 ∷ []) b.0 c.2 in
      let l : b.0 ++ d.0 ≡ a.0 = ok_is (b.0 ++ d.0) a.0 d.2 in
      let h : a.0 ≡ c.0 ∷ d.0 = sym l ∙ ap (λ ks. ks ++ d.0) (sym k) in
      let made : Ok (with_names (entry I at (c.0 ∷ d.0)) t) ≡ Ok u = sym (ap (λ ns. numbered I at ns t) h) ∙ a.2 in
      let other : type_in J x ≡ Ok c.0 = ap (λ o. known o x.span) (same.types x.name) ∙ c.1 in
      subst (λ y. Does tables tables (Both SameItem C) C t u us (names J at (both (one y) (lifetimes_in J (written (rewritten_list rs ls)))) (aside t us))) (sym other)
      (subst (λ y. Does tables tables (Both SameItem C) C t u us (names J at (both (Ok (c.0 ∷ [])) y) (aside t us))) (sym r.1)
      (added SameItem (entry I at (c.0 ∷ d.0)) (entry J at (c.0 ∷ r.0)) refl C t u us made))

  item : (at : List ℕ) (x : Ident) (ls : Option (List (Option Ident))) (C : Left)
      → Sim tables tables (Both SameItem C) C (names I at (both (one (type_in I x)) (lifetimes_in I (written ls)))) (names J at (both (one (type_in J x)) (lifetimes_in J (written (rewritten_list rs ls)))))
  item at x ls C = record { run = item_runs at x ls C }

  mutual
    pub type : (t : TypeTree) (at : List ℕ) (C : Left) → Sim tables tables (beside.in_type rs t C) C (naming.in_type I at t) (naming.in_type J at (rewritten_type rs t))
    type (plain.kind_type s k) at C = quiet C
    type (plain.bool_type s) at C = quiet C
    type (plain.tuple_type s ts) at C = types ts at 0 C
    type (plain.ref_type s l m t) at C = then {A = tables} {D = tables} {E = tables} (lifetime at l (beside.in_type rs t C)) (type t (child at 0) C)
    type (plain.named_type s x ls) at C = item at x ls C

    types : (ts : TypeTrees) (at : List ℕ) (k : ℕ) (C : Left) → Sim tables tables (beside.in_types rs ts C) C (naming.in_types I at k ts) (naming.in_types J at k (rewritten_types rs ts))
    types plain.no_type at k C = quiet C
    types (plain.type_and t ts) at k C = then {A = tables} {D = tables} {E = tables} (type t (child at k) (beside.in_types rs ts C)) (types ts at (next k) C)

  pub optional_type : (t : Option TypeTree) (at : List ℕ) (C : Left) → Sim tables tables (beside.in_optional_type rs t C) C (naming.in_optional_type I at t) (naming.in_optional_type J at (rewritten_optional rs t))
  optional_type None at C = quiet C
  optional_type (Some t) at C = type t at C

  -- of a `let`: the entries that are added stand first
  let_type_runs : (t : TypeTree) (at : List ℕ) (C : Left) → Runs tables tables (beside.in_let K (Some t) C) C (naming.in_type I at t) (naming.in_type J at (rewritten_type rs t))
  let_type_runs t at C u v us e =
      let r = (type t at C).run u v us e in
      record {
        old = r.old;
        new = r.new;
        names = r.names;
        is = r.is;
        beside = λ ks js c. (
          r.beside ks js c,
          (
            record { at = at; before = u; after = v; resolves = e; adds = r.old; are = r.names; rest = ks; stand = refl },
            record { at = at; before = aside u us; after = aside v (us ++ r.new); resolves = r.is; adds = r.new; are = refl; rest = js; stand = refl },
          ),
        );
      }

  let_type : (y : Option TypeTree) (at : List ℕ) (C : Left) → Sim tables tables (beside.in_let K y C) C (naming.in_optional_type I at y) (naming.in_optional_type J at (rewritten_optional rs y))
  let_type None at C = quiet C
  let_type (Some t) at C = record { run = let_type_runs t at C }

  -- ---- patterns

  also_sim : {P Q : Left} {f g : Naming} → Sim tables tables P Q f g → Sim bound bound P Q (also f) (also g)
  also_sim {P = P} {Q = Q} {f = f} {g = g} s = record {
    run = λ b d us e.
        let m = read_ok (f b.tables) (λ t. Ok (record { bindings = b.bindings; tables = t })) d e in
        let r = s.run b.tables m.0 us m.1 in
        subst (λ y. Does bound bound P Q b y us (also g (bound.aside b us))) (ok_is (record { bindings = b.bindings; tables = m.0 }) d m.2)
        (record { old = r.old; new = r.new; names = r.names; is = ap (λ o. and_then o (λ t. Ok (record { bindings = b.bindings; tables = t }))) r.is; beside = r.beside });
  }

  bind_runs : (at : List ℕ) (x : Ident) (C : Left) → Runs bound bound (Both Alike C) C (binds I at x) (binds J at x)
  bind_runs at x C b d us e =
      let n = length b.tables.vars in
      let m = read_ok (declare b.bindings x n) (λ ds. Ok (record { bindings = ds; tables = with_names (entry I at (number n ∷ [])) (with_variable x.span b.tables) })) d e in
      subst (λ y. Does bound bound (Both Alike C) C b y us (binds J at x (bound.aside b us)))
      (ok_is (record { bindings = m.0; tables = with_names (entry I at (number n ∷ [])) (with_variable x.span b.tables) }) d m.2)
      (record {
        old = entry I at (number n ∷ []) ∷ [];
        new = entry J at (number n ∷ []) ∷ [];
        names = refl;
        is = ap (λ o. and_then o (λ ds. Ok (record { bindings = ds; tables = with_names (entry J at (number n ∷ [])) (with_variable x.span (aside b.tables us)) }))) m.1;
        beside = λ ks js c. ((refl, refl), c);
      })

  bind : (at : List ℕ) (x : Ident) (C : Left) → Sim bound bound (Both Alike C) C (binds I at x) (binds J at x)
  bind at x C = record { run = bind_runs at x C }

  variant_known : (at : List ℕ) (a v : Ident) (C : Left) → Sim tables tables (Both Alike C) C (names I at (naming.variant_in I a v)) (names J at (naming.variant_in J a v))
  variant_known at a v C = two_names at _ _ _ _ (ap (λ o. known o a.span) (same.enums a.name)) (ap (λ o. known o v.span) (same.variants a.name v.name)) C

  struct_known : (at : List ℕ) (x : Ident) (C : Left) → Sim tables tables (Both Alike C) C (names I at (one (naming.struct_in I x))) (names J at (one (naming.struct_in J x)))
  struct_known at x C = one_name at _ _ (ap (λ o. known o x.span) (same.structs x.name)) C

  mutual
    pub pattern : (g : PatternTree) (at : List ℕ) (C : Left) → Sim bound bound (beside.in_pattern g C) C (naming.in_pattern I at g) (naming.in_pattern J at g)
    pattern (plain.wild s) at C = also_sim (quiet C)
    pattern (plain.bind s x m) at C = bind at x C
    pattern (plain.int_pattern s g v k) at C = also_sim (quiet C)
    pattern (plain.bool_pattern s b) at C = also_sim (quiet C)
    pattern (plain.tuple_pattern s ps) at C = patterns ps at 0 C
    pattern (plain.variant_pattern s a v ps) at C = then {A = bound} {D = bound} {E = bound} (also_sim (variant_known at a v (beside.in_patterns ps C))) (patterns ps at 0 C)
    pattern (plain.make_pattern s x fs) at C = then {A = bound} {D = bound} {E = bound} (also_sim (struct_known at x (beside.in_field_patterns fs C))) (field_patterns fs at 0 C)

    patterns : (ps : PatternTrees) (at : List ℕ) (k : ℕ) (C : Left) → Sim bound bound (beside.in_patterns ps C) C (naming.in_patterns I at k ps) (naming.in_patterns J at k ps)
    patterns plain.no_pattern at k C = also_sim (quiet C)
    patterns (plain.pattern_and g ps) at k C = then {A = bound} {D = bound} {E = bound} (pattern g (child at k) (beside.in_patterns ps C)) (patterns ps at (next k) C)

    field_patterns : (fs : FieldPatterns) (at : List ℕ) (k : ℕ) (C : Left) → Sim bound bound (beside.in_field_patterns fs C) C (naming.in_field_patterns I at k fs) (naming.in_field_patterns J at k fs)
    field_patterns plain.no_field_pattern at k C = also_sim (quiet C)
    field_patterns (plain.field_pattern_and x g fs) at k C = then {A = bound} {D = bound} {E = bound} (pattern g (child at k) (beside.in_field_patterns fs C)) (field_patterns fs at (next k) C)

  -- ---- a pattern, and what follows it; a loop; a callee

  pattern_next : {P Q T : Left} (at : List ℕ) (g : PatternTree) (f h : DeclaredNames → Naming) → Sim bound bound P Q (naming.in_pattern I at g) (naming.in_pattern J at g)
      → ((ds : DeclaredNames) → Sim tables tables Q T (f ds) (h ds)) → Sim tables tables P T (pattern_then I at g f) (pattern_then J at g h)
  pattern_next {P = P} {Q = Q} {T = T} at g f h s k = record {
    run = λ t u us e.
        let w : Sim bound tables P T (λ b. and_then (naming.in_pattern I at g b) (λ b. f b.bindings b.tables)) (λ b. and_then (naming.in_pattern J at g b) (λ b. h b.bindings b.tables)) =
        then {A = bound} {D = bound} {E = tables} s (record { run = λ b y vs w. let z = (k b.bindings).run b.tables y vs w in record { old = z.old; new = z.new; names = z.names; is = z.is; beside = z.beside } }) in
        let r : Does bound tables P T (record { bindings = []; tables = t }) u us (and_then (naming.in_pattern J at g (record { bindings = []; tables = aside t us })) (λ b. h b.bindings b.tables)) =
        w.run (record { bindings = []; tables = t }) u us e in
        record { old = r.old; new = r.new; names = r.names; is = r.is; beside = r.beside };
  }

  -- of a `let`
  let_next : {P Q T : Left} (at : List ℕ) (g : PatternTree) (f h : DeclaredNames → ItemNames → Outcome Scoped) → Sim bound bound P Q (naming.in_pattern I at g) (naming.in_pattern J at g)
      → ((ds : DeclaredNames) → Sim tables scoped Q T (f ds) (h ds)) → Sim tables scoped P T (λ t. and_then (naming.in_pattern I at g (record { bindings = []; tables = t })) (λ b. f b.bindings b.tables))
      (λ t. and_then (naming.in_pattern J at g (record { bindings = []; tables = t })) (λ b. h b.bindings b.tables))
  let_next {P = P} {Q = Q} {T = T} at g f h s k = record {
    run = λ t u us e.
        let w : Sim bound scoped P T (λ b. and_then (naming.in_pattern I at g b) (λ b. f b.bindings b.tables)) (λ b. and_then (naming.in_pattern J at g b) (λ b. h b.bindings b.tables)) =
        then {A = bound} {D = bound} {E = scoped} s (record { run = λ b y vs w. let z = (k b.bindings).run b.tables y vs w in record { old = z.old; new = z.new; names = z.names; is = z.is; beside = z.beside } }) in
        let r : Does bound scoped P T (record { bindings = []; tables = t }) u us (and_then (naming.in_pattern J at g (record { bindings = []; tables = aside t us })) (λ b. h b.bindings b.tables)) =
        w.run (record { bindings = []; tables = t }) u us e in
        record { old = r.old; new = r.new; names = r.names; is = r.is; beside = r.beside };
  }

  looped : {P Q : Left} (at : List ℕ) (f h : ℕ → Naming) → ((n : ℕ) → Sim tables tables P Q (f n) (h n)) → Sim tables tables P Q (in_loop I at f) (in_loop J at h)
  looped at f h k = record {
    run = λ t u us e.
        let r = (k (number (length t.loops))).run (with_loop (position I at) t) u us e in
        record { old = r.old; new = r.new; names = r.names; is = r.is; beside = r.beside };
  }

  called_runs : (at : List ℕ) (x : Ident) (o : Option ℕ) (C : Left) → Runs tables tables (Both Alike C) C (callee I at x o) (callee J at x o)
  called_runs at x (Some n) C t u us e = added Alike (record { node = position I at; numbers = n ∷ []; hidden = true }) (record { node = position J at; numbers = n ∷ []; hidden = true }) (refl, refl) C t u us e
  called_runs at x None C t u us e = one_runs at _ _ (ap (λ o. known o x.span) (same.functions x.name)) C t u us e

  called : (at : List ℕ) (x : Ident) (o : Option ℕ) (C : Left) → Sim tables tables (Both Alike C) C (callee I at x o) (callee J at x o)
  called at x o C = record { run = called_runs at x o C }

  -- ---- expressions

  abbrev pub F : Changes
  F = retyping (rewritten_type rs)

  initialiser_same : (y : Option TypeTree) → initialiser_at (rewritten_optional rs y) ≡ initialiser_at y
  initialiser_same None = refl
  initialiser_same (Some t) = refl

  listed_same : (o : hoisting.Names) (r : List Around) (ss : Statements) → length (listed (changed_statements F o r ss)) ≡ length (listed ss)
  listed_same o r plain.no_statement = refl
  listed_same o r (plain.statement_and a ss) = ap suc (listed_same (hoisting.bound_by a ++ o) r ss)

  -- the scope that is come to is the same in both
  in_scope : {P Q : Left} (f h : Variables → Naming) → ((sc : Variables) → Sim tables tables P Q (f sc) (h sc)) → Sim scoped tables P Q (λ r. f r.scope r.tables) (λ r. h r.scope r.tables)
  in_scope f h k = record { run = λ r u us e. let z = (k r.scope).run r.tables u us e in record { old = z.old; new = z.new; names = z.names; is = z.is; beside = z.beside } }

  from_scope : {P Q : Left} (f h : Variables → ItemNames → Outcome Scoped) → ((sc : Variables) → Sim tables scoped P Q (f sc) (h sc)) → Sim scoped scoped P Q (λ r. f r.scope r.tables) (λ r. h r.scope r.tables)
  from_scope f h k = record { run = λ r u us e. let z = (k r.scope).run r.tables u us e in record { old = z.old; new = z.new; names = z.names; is = z.is; beside = z.beside } }

  into : (sc : Variables) (C : Left) → Sim tables scoped C C (λ t. Ok (record { scope = sc; tables = t })) (λ t. Ok (record { scope = sc; tables = t }))
  into sc C = record {
    run = λ t u us e.
        subst (λ v. Does tables scoped C C t v us (Ok (record { scope = sc; tables = aside t us }))) (ok_is (record { scope = sc; tables = t }) u e)
        (record { old = []; new = []; names = sym (append-nil t.names); is = ap (λ ns. Ok (record { scope = sc; tables = aside t ns })) (sym (append-nil us)); beside = λ ks js c. c });
  }

  mutual
    pub expression : (e : Expression) (sc : Variables) (ls : List Around) (at : List ℕ) (o : hoisting.Names) (r : List Around) (C : Left)
        → Sim tables tables (beside.in_expression K e C) C (naming.in_expression I sc ls at e) (naming.in_expression J sc ls at (changed F o r e))
    expression (plain.int s v k) sc ls at o r C = quiet C
    expression (plain.bool s b) sc ls at o r C = quiet C
    expression (plain.tuple s es) sc ls at o r C = expressions es sc ls at 0 o r C
    expression (plain.var s x) sc ls at o r C = one_name at _ _ refl C
    expression (plain.field s e x) sc ls at o r C = expression e sc ls (child at 0) o r C
    expression (plain.part s e k) sc ls at o r C = expression e sc ls (child at 0) o r C
    expression (plain.deref s e) sc ls at o r C = expression e sc ls (child at 0) o r C
    expression (plain.negate s e) sc ls at o r C = expression e sc ls (child at 0) o r C
    expression (plain.invert s e) sc ls at o r C = expression e sc ls (child at 0) o r C
    expression (plain.borrow s m e) sc ls at o r C = expression e sc ls (child at 0) o r C
    expression (plain.binary s w a b) sc ls at o r C =
        then {A = tables} {D = tables} {E = tables} (expression a sc ls (child at 0) o r (beside.in_expression K b C)) (expression b sc ls (child at 1) o r C)
    expression (plain.assign s a b) sc ls at o r C =
        then {A = tables} {D = tables} {E = tables} (expression a sc ls (child at 0) o r (beside.in_expression K b C)) (expression b sc ls (child at 1) o r C)
    expression (plain.update s w a b) sc ls at o r C =
        then {A = tables} {D = tables} {E = tables} (expression a sc ls (child at 0) o r (beside.in_expression K b C)) (expression b sc ls (child at 1) o r C)
    expression (plain.call s f es) sc ls at o r C =
        then {A = tables} {D = tables} {E = tables} (called at f (variable_named sc f.name) (beside.in_expressions K es C)) (expressions es sc ls at 0 o r C)
    expression (plain.next_input s) sc ls at o r C = one_name at _ _ (ap (λ k. known k (naming.rt_span s)) (same.rt (codes "rt"))) C
    expression (plain.variant s a v es) sc ls at o r C = then {A = tables} {D = tables} {E = tables} (variant_known at a v (beside.in_arguments K es C)) (arguments es sc ls at o r C)
    expression (plain.make s x fs) sc ls at o r C = then {A = tables} {D = tables} {E = tables} (struct_known at x (beside.in_fields K fs C)) (fields fs sc ls at 0 o r C)
    expression (plain.print s e) sc ls at o r C = expression e sc ls (child at 0) o r C
    expression (plain.block s b) sc ls at o r C = body b sc ls (child at 0) o r C
    expression (plain.if s c b x) sc ls at o r C =
        then {A = tables} {D = tables} {E = tables} (expression c sc ls (child at 0) o r (beside.in_body K b (beside.in_optional K x C)))
        (then {A = tables} {D = tables} {E = tables} (body b sc ls (child at 1) o r (beside.in_optional K x C)) (optional x sc ls (child at 2) o r C))
    expression (plain.if_let s g e b x) sc ls at o r C =
        pattern_next (child at 0) g
        (λ ds t. and_then (naming.in_expression I sc ls (child at 1) e t) (λ t. and_then (naming.in_block I (entered sc ds) ls (child at 2) b t) (naming.in_optional I sc ls (child at 3) x)))
        (λ ds t. and_then (naming.in_expression J sc ls (child at 1) (changed F o r e) t) (λ t. and_then (naming.in_block J (entered sc ds) ls (child at 2) (changed_body F (hoisting.bound g ++ o) r b) t) (naming.in_optional J sc ls (child at 3) (changed_optional F o r x))))
        (pattern g (child at 0) (beside.in_expression K e (beside.in_body K b (beside.in_optional K x C))))
        (λ ds. then {A = tables} {D = tables} {E = tables} (expression e sc ls (child at 1) o r (beside.in_body K b (beside.in_optional K x C)))
        (then {A = tables} {D = tables} {E = tables} (body b (entered sc ds) ls (child at 2) (hoisting.bound g ++ o) r (beside.in_optional K x C)) (optional x sc ls (child at 3) o r C)))
    expression (plain.match s e l) sc ls at o r C =
        then {A = tables} {D = tables} {E = tables} (expression e sc ls (child at 0) o r (beside.in_arms K l C)) (arms l sc ls at 1 o r C)
    expression (plain.loop s x b) sc ls at o r C =
        looped at (λ n. naming.in_block I sc (a_loop x n ∷ ls) (child at 0) b) (λ n. naming.in_block J sc (a_loop x n ∷ ls) (child at 0) (changed_body F o (a_loop x 0 ∷ r) b))
        (λ n. body b sc (a_loop x n ∷ ls) (child at 0) o (a_loop x 0 ∷ r) C)
    expression (plain.while s x c b) sc ls at o r C =
        looped at (λ n t. and_then (naming.in_expression I sc (a_test ∷ a_loop x n ∷ ls) (child at 0) c t) (naming.in_block I sc (a_loop x n ∷ ls) (child at 1) b))
        (λ n t. and_then (naming.in_expression J sc (a_test ∷ a_loop x n ∷ ls) (child at 0) (changed F o (a_test ∷ a_loop x 0 ∷ r) c) t) (naming.in_block J sc (a_loop x n ∷ ls) (child at 1) (changed_body F o (a_loop x 0 ∷ r) b)))
        (λ n. then {A = tables} {D = tables} {E = tables} (expression c sc (a_test ∷ a_loop x n ∷ ls) (child at 0) o (a_test ∷ a_loop x 0 ∷ r) (beside.in_body K b C)) (body b sc (a_loop x n ∷ ls) (child at 1) o (a_loop x 0 ∷ r) C))
    expression (plain.while_let s x g e b) sc ls at o r C =
        looped at (λ n. pattern_then I (child at 0) g (λ ds t. and_then (naming.in_expression I sc (a_test ∷ a_loop x n ∷ ls) (child at 1) e t) (naming.in_block I (entered sc ds) (a_loop x n ∷ ls) (child at 2) b)))
        (λ n. pattern_then J (child at 0) g (λ ds t. and_then (naming.in_expression J sc (a_test ∷ a_loop x n ∷ ls) (child at 1) (changed F o (a_test ∷ a_loop x 0 ∷ r) e) t) (naming.in_block J (entered sc ds) (a_loop x n ∷ ls) (child at 2) (changed_body F (hoisting.bound g ++ o) (a_loop x 0 ∷ r) b))))
        (λ n. pattern_next (child at 0) g
        (λ ds t. and_then (naming.in_expression I sc (a_test ∷ a_loop x n ∷ ls) (child at 1) e t) (naming.in_block I (entered sc ds) (a_loop x n ∷ ls) (child at 2) b))
        (λ ds t. and_then (naming.in_expression J sc (a_test ∷ a_loop x n ∷ ls) (child at 1) (changed F o (a_test ∷ a_loop x 0 ∷ r) e) t) (naming.in_block J (entered sc ds) (a_loop x n ∷ ls) (child at 2) (changed_body F (hoisting.bound g ++ o) (a_loop x 0 ∷ r) b)))
        (pattern g (child at 0) (beside.in_expression K e (beside.in_body K b C)))
        (λ ds. then {A = tables} {D = tables} {E = tables} (expression e sc (a_test ∷ a_loop x n ∷ ls) (child at 1) o (a_test ∷ a_loop x 0 ∷ r) (beside.in_body K b C))
        (body b (entered sc ds) (a_loop x n ∷ ls) (child at 2) (hoisting.bound g ++ o) (a_loop x 0 ∷ r) C)))
    expression (plain.break s x) sc ls at o r C = one_name at _ _ refl C
    expression (plain.continue s x) sc ls at o r C = one_name at _ _ refl C
    expression (plain.return s x) sc ls at o r C = optional x sc ls (child at 0) o r C

    expressions : (es : Expressions) (sc : Variables) (ls : List Around) (at : List ℕ) (k : ℕ) (o : hoisting.Names) (r : List Around) (C : Left)
        → Sim tables tables (beside.in_expressions K es C) C (naming.in_expressions I sc ls at k es) (naming.in_expressions J sc ls at k (changed_all F o r es))
    expressions plain.no_expression sc ls at k o r C = quiet C
    expressions (plain.expression_and e es) sc ls at k o r C =
        then {A = tables} {D = tables} {E = tables} (expression e sc ls (child at k) o r (beside.in_expressions K es C)) (expressions es sc ls at (next k) o r C)

    optional : (x : OptionalExpression) (sc : Variables) (ls : List Around) (at : List ℕ) (o : hoisting.Names) (r : List Around) (C : Left)
        → Sim tables tables (beside.in_optional K x C) C (naming.in_optional I sc ls at x) (naming.in_optional J sc ls at (changed_optional F o r x))
    optional plain.absent sc ls at o r C = quiet C
    optional (plain.present e) sc ls at o r C = expression e sc ls at o r C

    arguments : (es : OptionalExpressions) (sc : Variables) (ls : List Around) (at : List ℕ) (o : hoisting.Names) (r : List Around) (C : Left)
        → Sim tables tables (beside.in_arguments K es C) C (naming.in_arguments I sc ls at es) (naming.in_arguments J sc ls at (changed_arguments F o r es))
    arguments plain.no_list sc ls at o r C = quiet C
    arguments (plain.a_list es) sc ls at o r C = expressions es sc ls at 0 o r C

    fields : (fs : FieldExpressions) (sc : Variables) (ls : List Around) (at : List ℕ) (k : ℕ) (o : hoisting.Names) (r : List Around) (C : Left)
        → Sim tables tables (beside.in_fields K fs C) C (naming.in_fields I sc ls at k fs) (naming.in_fields J sc ls at k (changed_fields F o r fs))
    fields plain.no_field sc ls at k o r C = quiet C
    fields (plain.field_and x e fs) sc ls at k o r C =
        then {A = tables} {D = tables} {E = tables} (expression e sc ls (child at k) o r (beside.in_fields K fs C)) (fields fs sc ls at (next k) o r C)

    arms : (l : Arms) (sc : Variables) (ls : List Around) (at : List ℕ) (k : ℕ) (o : hoisting.Names) (r : List Around) (C : Left)
        → Sim tables tables (beside.in_arms K l C) C (naming.in_arms I sc ls at k l) (naming.in_arms J sc ls at k (changed_arms F o r l))
    arms plain.no_arm sc ls at k o r C = quiet C
    arms (plain.arm_and g e l) sc ls at k o r C =
        then {A = tables} {D = tables} {E = tables}
        (pattern_next (child at k) g (λ ds. naming.in_expression I (entered sc ds) ls (child at (next k)) e) (λ ds. naming.in_expression J (entered sc ds) ls (child at (next k)) (changed F (hoisting.bound g ++ o) r e))
        (pattern g (child at k) (beside.in_expression K e (beside.in_arms K l C))) (λ ds. expression e (entered sc ds) ls (child at (next k)) (hoisting.bound g ++ o) r (beside.in_arms K l C)))
        (arms l sc ls at (next (next k)) o r C)

    pub body : (b : Body) (sc : Variables) (ls : List Around) (at : List ℕ) (o : hoisting.Names) (r : List Around) (C : Left)
        → Sim tables tables (beside.in_body K b C) C (naming.in_block I sc ls at b) (naming.in_block J sc ls at (changed_body F o r b))
    body (plain.body s ss x) sc ls at o r C =
        let n : ℕ = number (length (listed ss)) in
        let m : number (length (listed (changed_statements F o r ss))) ≡ n = ap number (listed_same o r ss) in
        then {A = tables} {D = scoped} {E = tables} (statements ss sc ls at 0 o r (beside.in_optional K x C))
        (in_scope (λ sc. naming.in_optional I sc ls (child at n) x) (λ sc. naming.in_optional J sc ls (child at (number (length (listed (changed_statements F o r ss))))) (changed_optional F (hoisting.behind_all o ss) r x))
        (λ sc. subst (λ k. Sim tables tables (beside.in_optional K x C) C (naming.in_optional I sc ls (child at n) x) (naming.in_optional J sc ls (child at k) (changed_optional F (hoisting.behind_all o ss) r x))) (sym m)
        (optional x sc ls (child at n) (hoisting.behind_all o ss) r C)))

    statements : (ss : Statements) (sc : Variables) (ls : List Around) (at : List ℕ) (k : ℕ) (o : hoisting.Names) (r : List Around) (C : Left)
        → Sim tables scoped (beside.in_statements K ss C) C (naming.in_statements I sc ls at k ss) (naming.in_statements J sc ls at k (changed_statements F o r ss))
    statements plain.no_statement sc ls at k o r C = into sc C
    statements (plain.statement_and a ss) sc ls at k o r C =
        then {A = tables} {D = scoped} {E = scoped} (statement a sc ls (child at k) o r (beside.in_statements K ss C))
        (from_scope (λ sc. naming.in_statements I sc ls at (next k) ss) (λ sc. naming.in_statements J sc ls at (next k) (changed_statements F (hoisting.bound_by a ++ o) r ss))
        (λ sc. statements ss sc ls at (next k) (hoisting.bound_by a ++ o) r C))

    statement : (a : Statement) (sc : Variables) (ls : List Around) (at : List ℕ) (o : hoisting.Names) (r : List Around) (C : Left)
        → Sim tables scoped (beside.in_statement K a C) C (naming.in_statement I sc ls at a) (naming.in_statement J sc ls at (changed_statement F o r a))
    statement (plain.let_statement s g y x) sc ls at o r C =
        let_next (child at 0) g (λ ds t. and_then (and_then (naming.in_optional_type I (child at 1) y t) (naming.in_optional I sc ls (child at (initialiser_at y)) x)) (λ t. Ok (record { scope = entered sc ds; tables = t })))
        (λ ds t. and_then (and_then (naming.in_optional_type J (child at 1) (rewritten_optional rs y) t) (naming.in_optional J sc ls (child at (initialiser_at (rewritten_optional rs y))) (changed_optional F o r x))) (λ t. Ok (record { scope = entered sc ds; tables = t })))
        (pattern g (child at 0) (beside.in_let K y (beside.in_optional K x C)))
        (λ ds. then {A = tables} {D = tables} {E = scoped} (then {A = tables} {D = tables} {E = tables} (let_type y (child at 1) (beside.in_optional K x C)) (subst (λ k. Sim tables tables (beside.in_optional K x C) C (naming.in_optional I sc ls (child at (initialiser_at y)) x) (naming.in_optional J sc ls (child at k) (changed_optional F o r x))) (sym (initialiser_same y)) (optional x sc ls (child at (initialiser_at y)) o r C))) (into (entered sc ds) C))
    statement (plain.expression_statement s e b) sc ls at o r C = then {A = tables} {D = tables} {E = scoped} (expression e sc ls (child at 0) o r C) (into sc C)

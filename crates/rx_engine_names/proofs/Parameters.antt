-- The entry of a function and its parameters, in both: by induction on the parameters. A parameter has the number of its place.
use Rattle.std.proofs.Common.{◌≡◌, ℕ, suc, Bool, true, false, not, ◌||◌, List, [], ◌∷◌, ◌++◌, length, Option, Some, None, Ok, Err, refl, sym, ap, ◌∙◌, subst, append_assoc, append-nil}
use Rattle.rx_tree.specs.declared.tree.Ident.{Ident}
use Rattle.rx_tree.specs.declared.tree.BoundLifetime.{BoundLifetime}
use Rattle.rx_tree.specs.Plain as plain
use Rattle.rx_tree.specs.Plain.{TypeTree, TypeTrees, PatternTree, Expression, OptionalExpression, Body, Parameter, Function, ItemTree, ProgramTree}
use Rattle.rx_resolve_names.specs.Scopes.{DeclaredNames}
use Rattle.rx_resolve_names.specs.declared.resolved.ItemNames.{ItemNames}
use Rattle.rx_resolve_names.specs.declared.resolved.NodeNames.{NodeNames}
use Rattle.rx_resolve_names.specs.Meant.{number, number_in}
use Rattle.rx_resolve_names.specs.Steps.{Outcome, and_then, Inside, known, one, both, declare, child, next, with_variable, entry, with_names, numbered, names}
use Rattle.rx_resolve_names.specs.Names.{lifetime_in, lifetimes_in, type_in, written, in_lifetime, in_types, in_type, Bound}
use Rattle.rx_resolve_names.specs.Items.{bounds_in, lifetimes_of, in_parameter, in_parameters, numbers_from}
use Rattle.rx_typed.specs.declared.nodes.Stage.{Stage}
use Rattle.rx_typed.specs.Named as named
use Rattle.rx_typed.specs.Naming as numbering
use Rattle.rx_typed.specs.Naming.{Numbering, give, an_entry, first, use_of, declaration, of_expression, of_type, of_parameter, of_parameters, of_function, begins, function_named, entry_if, is_nothing, has_bounds, has_entry}
use Rattle.std.proofs.Math.Nat.{min-eq_left, min-eq_right, min-le_right}
use Rattle.std.proofs.lemmas.Bool.{leb-true, leb-false}
use Rattle.std.proofs.Common.{◌≤◌, ◌<◌, arith, nat_le, inl, inr}
use Rattle.rx_hoist_extraction.specs.Names.{Names}
use Rattle.rx_engine_names.specs.Renaming.{Renaming, Pairs, Has, Made}
use Rattle.rx_engine_names.specs.LikeNamed.{LikeWritten, LikeParameters, like_no_parameter, like_more_parameters}
pub use Rattle.rx_engine_names.specs.ParameterNames.{parameter_names}
use Rattle.rx_engine_names.proofs.SideBySide.{one_more, named_ok, and_ok, the_same, Frame, Reached, grows_not, grows_on, serves_before, Kind, Numbers, numbers_then, numbers_give, numbers_map, numbers_declare, with_pair, grows_pair, newest, variable_reached, Part, restated, unchanged, names_alike}
use Rattle.rx_engine_names.proofs.Scoped.{BoundAlike, bound_later, declares_alike, declared_more, declared_names}
use Rattle.rx_engine_names.proofs.Fitting.{Fits}
use Rattle.rx_engine_names.proofs.CopiedPatterns.{type_alike, TypeNumbers, BindingPart}

-- ---- the entry of a function

both_ok : (a b : Outcome (List ℕ)) (ns : List ℕ) → both a b ≡ Ok ns → (as' : List ℕ) × (bs : List ℕ) × (a ≡ Ok as') × (b ≡ Ok bs) × (ns ≡ as' ++ bs)
both_ok a b ns e =
    let x = named_ok a (λ ns. and_then b (λ ms. Ok (ns ++ ms))) ns e in let y = named_ok b (λ ms. Ok (x.0 ++ ms)) ns x.2 in
    (x.0, y.0, x.1, y.1, sym (the_same (x.0 ++ y.0) ns y.2))

nothing_append : (xs ys : List ℕ) → not (is_nothing (xs ++ ys)) ≡ (not (is_nothing xs) || not (is_nothing ys))
nothing_append [] ys = refl
nothing_append (x ∷ xs) ys = refl

one_or_more : (I : Inside) (l : Ident) (ls : List Ident) (ns : List ℕ) → bounds_in I (l ∷ ls) ≡ Ok ns → not (is_nothing ns) ≡ true
one_or_more I l ls ns e =
    let x = both_ok (one (known (number_in I.lifetimes l.name) l.span)) (bounds_in I ls) ns e in
    let y = named_ok (known (number_in I.lifetimes l.name) l.span) (λ n. Ok (n ∷ [])) x.0 x.2 in
    ap (λ (l : List ℕ). not (is_nothing l)) (x.4 ∙ ap (λ (l : List ℕ). l ++ x.1) (sym (the_same (y.0 ∷ []) x.0 y.2)))

bounds_entry : (I : Inside) (ls : List Ident) (ns : List ℕ) → bounds_in I ls ≡ Ok ns → not (is_nothing ns) ≡ not (is_nothing ls)
bounds_entry I [] ns e = ap (λ (l : List ℕ). not (is_nothing l)) (sym (the_same [] ns e))
bounds_entry I (l ∷ ls) ns e = one_or_more I l ls ns e

lifetimes_entry : (I : Inside) (ds : DeclaredNames) (n : ℕ) (ls : List BoundLifetime) (ns : List ℕ) → lifetimes_of I ds n ls ≡ Ok ns → not (is_nothing ns) ≡ has_bounds ls
lifetimes_entry I ds n [] ns e = ap (λ (l : List ℕ). not (is_nothing l)) (sym (the_same [] ns e))
lifetimes_entry I ds n (l ∷ ls) ns e =
    let x = named_ok (declare ds l.name n) (λ ds. both (bounds_in I l.bounds) (lifetimes_of I ds (suc n) ls)) ns e in
    let y = both_ok (bounds_in I l.bounds) (lifetimes_of I x.0 (suc n) ls) ns x.2 in
    ap (λ (z : List ℕ). not (is_nothing z)) y.4 ∙ nothing_append y.0 y.1
    ∙ ap (λ (b : Bool). b || not (is_nothing y.1)) (bounds_entry I l.bounds y.0 y.2) ∙ ap (λ (b : Bool). not (is_nothing l.bounds) || b) (lifetimes_entry I x.0 (suc n) ls y.1 y.3)

numbers_entry_of : (n : ℕ) (xs : List Parameter) → is_nothing (numbers_from n xs) ≡ is_nothing xs
numbers_entry_of n [] = refl
numbers_entry_of n (x ∷ xs) = refl

pub function_entry : (I : Inside) (f : Function) (ns : List ℕ) → lifetimes_of I [] 0 f.lifetimes ≡ Ok ns → not (is_nothing (ns ++ numbers_from 0 f.params)) ≡ has_entry f
function_entry I f ns e =
    nothing_append ns (numbers_from 0 f.params) ∙ ap (λ (b : Bool). b || not (is_nothing (numbers_from 0 f.params))) (lifetimes_entry I [] 0 f.lifetimes ns e)
    ∙ ap (λ (b : Bool). has_bounds f.lifetimes || not b) (numbers_entry_of 0 f.params)

abbrev pub EntryIf : ItemNames → ItemNames → Bool → ItemNames → Kind
EntryIf t u b t' R u' es es' = Numbers (λ x y. Unit {0}) t u t' u' es es' (entry_if b) (entry_if b)

pub entry_alike : (L : Frame) (M : Made) (I I' : Inside) (at at' ks : List ℕ) (t t' u : ItemNames) → numbered I at ks t ≡ Ok t' → Reached L M t u → Part L M t t' u (λ G v. numbered I' at' ks u ≡ Ok v) (EntryIf t u (not (is_nothing ks)) t')
entry_alike L M I I' at at' [] t t' u e q = unchanged L M t t' u (λ G v. Ok u ≡ Ok v) (EntryIf t u false) e q refl (λ R. numbers_give numbering.no_names numbering.no_names tt)
entry_alike L M I I' at at' (k ∷ ks) t t' u e q =
    restated (names_alike L M I I' at at' t t' u k k ks ks (Ok (k ∷ ks)) (Ok (k ∷ ks)) refl refl e q) (λ z. z) (λ R sv h. numbers_map (λ z. z) (λ z. z) h (λ a b r. tt))

-- ---- parameters. The number that each is declared with is its place, and the next variable has that too

pub number_twice : (n : ℕ) → number (number n) ≡ number n
number_twice n = min-eq_left (min-le_right n 4294967295)

pub number_next : (n : ℕ) → number (suc (number n)) ≡ number (suc n)
number_next n = by (nat_le n 4294967295) refl
  where
    by : (b : Bool) → nat_le n 4294967295 ≡ b → number (suc (number n)) ≡ number (suc n)
    by true e = ap (λ z. number (suc z)) (min-eq_left (leb-true n 4294967295 e))
    by false e = let l : 4294967295 < n = leb-false n 4294967295 e in
        let a : 4294967295 ≤ n = omega (arith, l) in
        let b : 4294967295 ≤ suc n = omega (arith, l) in
        let c : 4294967295 ≤ suc 4294967295 = omega arith in
        ap (λ z. number (suc z)) (min-eq_right a) ∙ min-eq_right c ∙ sym (min-eq_right b)

-- the next place is that of the next variable
abbrev pub AtPlace : ℕ → ItemNames → Type 0
AtPlace i t = i ≡ number (length t.vars)

pub next_place : (i : ℕ) (t t' : ItemNames) → AtPlace i t → length t'.vars ≡ suc (length t.vars) → AtPlace (next i) t'
next_place i t t' p e = ap (λ z. number (suc z)) p ∙ number_next (length t.vars) ∙ ap number (sym e)

-- types make no variables
abbrev pub NoMore : ItemNames → ItemNames → Type 0
NoMore t t' = length t'.vars ≡ length t.vars

same_vars : (t t' : ItemNames) → ◌≡◌ {A = Outcome ItemNames} (Ok t) (Ok t') → NoMore t t'
same_vars t t' e = ap (λ (z : ItemNames). length z.vars) (sym (the_same t t' e))

pub names_no_more : (I : Inside) (at : List ℕ) (r : Outcome (List ℕ)) (t t' : ItemNames) → names I at r t ≡ Ok t' → NoMore t t'
names_no_more I at (Err x) t t' e = absurd (cc)
names_no_more I at (Ok []) t t' e = same_vars t t' e
names_no_more I at (Ok (n ∷ ns)) t t' e = ap (λ (z : ItemNames). length z.vars) (sym (the_same (with_names (entry I at (n ∷ ns)) t) t' e))

lifetime_no_more : (I : Inside) (at : List ℕ) (l : Option Ident) (t t' : ItemNames) → in_lifetime I at l t ≡ Ok t' → NoMore t t'
lifetime_no_more I at None t t' e = same_vars t t' e
lifetime_no_more I at (Some l) t t' e = names_no_more I at (one (lifetime_in I l)) t t' e

mutual
  pub type_no_more : (I : Inside) (at : List ℕ) (y : TypeTree) (t t' : ItemNames) → in_type I at y t ≡ Ok t' → NoMore t t'
  type_no_more I at (plain.kind_type s k) t t' e = same_vars t t' e
  type_no_more I at (plain.bool_type s) t t' e = same_vars t t' e
  type_no_more I at (plain.tuple_type s ts) t t' e = types_no_more I at 0 ts t t' e
  type_no_more I at (plain.ref_type s l m y) t t' e =
      let a = named_ok (in_lifetime I at l t) (in_type I (child at 0) y) t' e in
      type_no_more I (child at 0) y a.0 t' a.2 ∙ lifetime_no_more I at l t a.0 a.1
  type_no_more I at (plain.named_type s x ls) t t' e = names_no_more I at (both (one (type_in I x)) (lifetimes_in I (written ls))) t t' e

  types_no_more : (I : Inside) (at : List ℕ) (i : ℕ) (ys : TypeTrees) (t t' : ItemNames) → in_types I at i ys t ≡ Ok t' → NoMore t t'
  types_no_more I at i plain.no_type t t' e = same_vars t t' e
  types_no_more I at i (plain.type_and y ys) t t' e =
      let a = named_ok (in_type I (child at i) y t) (in_types I at (next i) ys) t' e in
      types_no_more I at (next i) ys a.0 t' a.2 ∙ type_no_more I (child at i) y t a.0 a.1

abbrev pub ParametersNumbers : ItemNames → ItemNames → List Parameter → ItemNames → Kind
ParametersNumbers t u xs t' R u' es es' = Numbers (LikeParameters R) t u t' u' es es' (of_parameters xs) (of_parameters xs)

parameter_numbers : (R : Renaming) (t u : ItemNames) {t1 u1 t2 u2 : ItemNames} {es es' fs fs' : List NodeNames} (x : Parameter) (xs : List Parameter) → R.variable (length t.vars) (length u.vars) ≡ true
    → TypeNumbers (with_variable x.name.span t) (with_variable x.name.span u) x.typ t1 R u1 es es' → ParametersNumbers t1 u1 xs t2 R u2 fs fs' → ParametersNumbers t u (x ∷ xs) t2 R u2 (es ++ fs) (es' ++ fs')
parameter_numbers R t u x xs q k l = numbers_then (numbers_then (numbers_declare R t u x.name.span x.name.span (record { mutable = x.mutable; stage = Stage.Known }) (record { mutable = x.mutable; stage = Stage.Known }) q)
    (λ v w h. numbers_map {T = λ (p p' : named.Parameter). (R.variable p.variable p'.variable ≡ true) × LikeWritten R p.typ p'.typ} (λ z. record { variable = v; typ = z }) (λ z. record { variable = w; typ = z }) k (λ y z g. (h, g))))
    (λ p p' h. numbers_map (λ ps. p ∷ ps) (λ ps. p' ∷ ps) l (λ ps ps' g. like_more_parameters h.0 h.1 g))

-- the newest variable is named by its place
placed : (ps : Pairs) (i n m : ℕ) → i ≡ number n → i ≡ number m → Has ((n, m) ∷ ps) (number i) (number i)
placed ps i n m a b = inl (inr (ap number a ∙ number_twice n, ap number b ∙ number_twice m))

module _ (L : Frame) (I I' : Inside) (F : Fits L.items I I') where
  pub parameters_alike : (M : Made) (at at' : List ℕ) (i : ℕ) (xs : List Parameter) (b b1 b' : Bound) → in_parameters I at i xs b ≡ Ok b1 → Reached L M b.tables b'.tables → BoundAlike M b.bindings b'.bindings
      → AtPlace i b.tables → AtPlace i b'.tables → BindingPart L M (in_parameters I' at' i xs) b b1 b' (ParametersNumbers b.tables b'.tables xs b1.tables)
  parameters_alike M at at' i [] b b1 b' e q h p p' =
      subst (λ (v : Bound). BindingPart L M (λ b. Ok b) b v b' (ParametersNumbers b.tables b'.tables [] v.tables)) (the_same b b1 e)
      (record { made = M; grows = grows_not M; table = b'.tables; answer = (b'.bindings, refl, h); reached = q; added = []; added' = []; grown = sym (append-nil b.tables.names); grown' = sym (append-nil b'.tables.names); numbers = λ R s. numbers_give [] [] like_no_parameter })
  parameters_alike M at at' i (x ∷ xs) b b1 b' e q h p p' =
      let t = with_variable x.name.span b.tables in let u = with_variable x.name.span b'.tables in
      let n = length b.tables.vars in let m = length b'.tables.vars in
      let X = named_ok (in_parameter I at i x b) (in_parameters I at (next i) xs) b1 e in
      let typed : DeclaredNames → Outcome Bound = λ ds. and_then (in_type I (child at i) x.typ t) (λ t. Ok (record { bindings = ds; tables = t })) in
      let typed' : DeclaredNames → Outcome Bound = λ ds. and_then (in_type I' (child at' i) x.typ u) (λ t. Ok (record { bindings = ds; tables = t })) in
      let d = named_ok (declare b.bindings x.name i) typed X.0 X.1 in
      let y = named_ok (in_type I (child at i) x.typ t) (λ t. Ok (record { bindings = d.0; tables = t })) X.0 d.2 in
      let same : record { bindings = d.0; tables = y.0 } ≡ X.0 = the_same _ X.0 y.2 in
      let G = with_pair M b.tables b'.tables in let g = grows_pair M b.tables b'.tables in
      let D = declares_alike G b.bindings b'.bindings d.0 x.name i i (bound_later M G g b.bindings b'.bindings h) d.1 (placed M.variables i n m p p') in
      let T = type_alike L G I I' F (child at i) (child at' i) x.typ t y.0 u y.1 (variable_reached L M b.tables b'.tables x.name.span x.name.span q) in
      let v : Bound = record { bindings = D.bindings; tables = T.table } in
      let B = parameters_alike T.made at at' (next i) xs (record { bindings = d.0; tables = y.0 }) b1 v (ap (in_parameters I at (next i) xs) same ∙ X.2) T.reached (bound_later G T.made T.grows d.0 D.bindings D.alike)
      (next_place i b.tables y.0 p (type_no_more I (child at i) x.typ t y.0 y.1 ∙ one_more b.tables.vars x.name.span))
      (next_place i b'.tables T.table p' (type_no_more I' (child at' i) x.typ u T.table T.answer ∙ one_more b'.tables.vars x.name.span)) in
      record {
        made = B.made;
        grows = grows_on g (grows_on T.grows B.grows);
        table = B.table;
        answer = (
          B.answer.0,
          and_ok (in_parameter I' at' i x b') v (in_parameters I' at' (next i) xs) (Ok (record { bindings = B.answer.0; tables = B.table }))
              (and_ok (declare b'.bindings x.name i) D.bindings typed' (Ok v) D.declared (ap (λ (o : Outcome ItemNames). and_then o (λ t. Ok (record { bindings = D.bindings; tables = t }))) T.answer)) B.answer.1,
          B.answer.2,
        );
        reached = B.reached;
        added = T.added ++ B.added;
        added' = T.added' ++ B.added';
        grown = B.grown ∙ ap (λ (l : List NodeNames). l ++ B.added) T.grown ∙ append_assoc b.tables.names T.added B.added;
        grown' = B.grown' ∙ ap (λ (l : List NodeNames). l ++ B.added') T.grown' ∙ append_assoc b'.tables.names T.added' B.added';
        numbers = λ R s. parameter_numbers R b.tables b'.tables x xs (s.variables n m ((grows_on T.grows B.grows).variables n m (newest M.variables n m))) (T.numbers R (serves_before B.grows s)) (B.numbers R s);
      }

-- the names of parameters
pub parameters_bind : (I : Inside) (at : List ℕ) (i : ℕ) (xs : List Parameter) (b b1 : Bound) → in_parameters I at i xs b ≡ Ok b1 → declared_names b1.bindings ≡ declared_names b.bindings ++ parameter_names xs
parameters_bind I at i [] b b1 e = ap (λ (v : Bound). declared_names v.bindings) (sym (the_same b b1 e)) ∙ sym (append-nil (declared_names b.bindings))
parameters_bind I at i (x ∷ xs) b b1 e =
    let X = named_ok (in_parameter I at i x b) (in_parameters I at (next i) xs) b1 e in
    let typed : DeclaredNames → Outcome Bound = λ ds. and_then (in_type I (child at i) x.typ (with_variable x.name.span b.tables)) (λ t. Ok (record { bindings = ds; tables = t })) in
    let d = named_ok (declare b.bindings x.name i) typed X.0 X.1 in
    let y = named_ok (in_type I (child at i) x.typ (with_variable x.name.span b.tables)) (λ t. Ok (record { bindings = d.0; tables = t })) X.0 d.2 in
    parameters_bind I at (next i) xs X.0 b1 X.2
    ∙ ap (λ (l : Names). l ++ parameter_names xs) (ap (λ (v : Bound). declared_names v.bindings) (sym (the_same (record { bindings = d.0; tables = y.0 }) X.0 y.2)) ∙ declared_more b.bindings d.0 x.name i d.1)
    ∙ append_assoc (declared_names b.bindings) (x.name.name ∷ []) (parameter_names xs)

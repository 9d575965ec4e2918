-- A function whose names have a meaning: its tree with numbers names structs and enums, and variables that there are; these are as
-- many as the names that it declares.
use Rattle.std.proofs.Common.{◌≡◌, ℕ, suc, ◌+◌, ◌≤◌, Bool, true, false, not, ◌||◌, List, [], ◌∷◌, ◌++◌, length, Some, Ok, refl, sym, ap, ◌∙◌, subst, append-nil, length-append, arith}
use Rattle.std.proofs.lemmas.List.{length-map}
use Rattle.rx_core.specs.declared.types.Span.{Span}
use Rattle.rx_tree.specs.declared.tree.Ident.{Ident}
use Rattle.rx_tree.specs.declared.tree.BoundLifetime.{BoundLifetime}
use Rattle.rx_tree.specs.Plain as plain
use Rattle.rx_tree.specs.Plain.{TypeTree, TypeTrees, Parameter, Function, ItemTree, ProgramTree}
use Rattle.rx_tree.specs.Positions.{a_type, a_block}
use Rattle.rx_tree.specs.Nodes.{below_type, within_type, within_parameters, below_block}
use Rattle.rx_resolve_names.specs.Scopes.{DeclaredNames, Variables, entered}
use Rattle.rx_resolve_names.specs.declared.resolved.ItemNames.{ItemNames}
use Rattle.rx_resolve_names.specs.declared.resolved.NodeNames.{NodeNames}
use Rattle.rx_resolve_names.specs.Meant.{number, number_in, Around}
use Rattle.rx_resolve_names.specs.Steps.{Outcome, and_then, ◌>>◌, Inside, known, one, both, declare, child, next, with_variable, numbered}
use Rattle.rx_resolve_names.specs.Names.{in_type, Bound, in_optional_type, in_block}
use Rattle.rx_resolve_names.specs.Items.{bounds_in, lifetimes_of, in_parameter, in_parameters, numbers_from, body_at, in_function}
use Rattle.rx_typed.specs.declared.nodes.Site.{Site}
use Rattle.rx_typed.specs.declared.nodes.Stage.{Stage}
use Rattle.rx_typed.specs.Named as named
use Rattle.rx_typed.specs.Naming as numbering
use Rattle.rx_typed.specs.Naming.{Cursor, Numbering, function_named, function_variables, is_nothing, has_bounds, has_entry, entry_if}
use Rattle.rx_hoist_naming.specs.DeclaredNames.{declared_names, parameter_names, names_bound}
use Rattle.rx_hoist_naming.proofs.Claims.{Claims, OfWritten, OfAnnotation, OfBody, OfParameters, OfFunction}
use Rattle.rx_hoist_naming.proofs.Steps.{Counts, named_ok, the_same, binds, binds_append, Takes, takes_then, takes_give, takes_map, takes_declare, one_more, Part, in_turn, in_turn4, restated, unchanged, entry_part}
use Rattle.rx_hoist_naming.proofs.TypeLemmas.{no_type_binds, no_result_binds, ScopeBelow, scope_entered, DeclaredBelow, declared_later, declare_below, Sees, type_taken, optional_type_taken, Binds}
use Rattle.rx_hoist_naming.proofs.Expressions.{body_taken, on}

-- ---- the entry of a function

both_ok : (a b : Outcome (List ℕ)) (ns : List ℕ) → both a b ≡ Ok ns → (as' : List ℕ) × (bs : List ℕ) × (a ≡ Ok as') × (b ≡ Ok bs) × (ns ≡ as' ++ bs)
both_ok a b ns e =
    let x = named_ok a (λ ns. and_then b (λ ms. Ok (ns ++ ms))) ns e in let y = named_ok b (λ ms. Ok (x.0 ++ ms)) ns x.2 in
    (x.0, y.0, x.1, y.1, sym (the_same (x.0 ++ y.0) ns y.2))

nothing_append : (xs ys : List ℕ) → not (is_nothing (xs ++ ys)) ≡ (not (is_nothing xs) || not (is_nothing ys))
nothing_append [] ys = refl
nothing_append (x ∷ xs) ys = refl

one_or_more : (I : Inside) (l : Ident) (ls : List Ident) (ns : List ℕ) → bounds_in I (l ∷ ls) ≡ Ok ns → not (is_nothing ns) ≡ true
one_or_more I l ls ns e =
    let x = both_ok (one (known (number_in I.lifetimes l.name) l.span)) (bounds_in I ls) ns e in
    let y = named_ok (known (number_in I.lifetimes l.name) l.span) (λ n. Ok (n ∷ [])) x.0 x.2 in
    ap (λ (l : List ℕ). not (is_nothing l)) (x.4 ∙ ap (λ (l : List ℕ). l ++ x.1) (sym (the_same (y.0 ∷ []) x.0 y.2)))

bounds_entry : (I : Inside) (ls : List Ident) (ns : List ℕ) → bounds_in I ls ≡ Ok ns → not (is_nothing ns) ≡ not (is_nothing ls)
bounds_entry I [] ns e = ap (λ (l : List ℕ). not (is_nothing l)) (sym (the_same [] ns e))
bounds_entry I (l ∷ ls) ns e = one_or_more I l ls ns e

lifetimes_entry : (I : Inside) (ds : DeclaredNames) (n : ℕ) (ls : List BoundLifetime) (ns : List ℕ) → lifetimes_of I ds n ls ≡ Ok ns → not (is_nothing ns) ≡ has_bounds ls
lifetimes_entry I ds n [] ns e = ap (λ (l : List ℕ). not (is_nothing l)) (sym (the_same [] ns e))
lifetimes_entry I ds n (l ∷ ls) ns e =
    let x = named_ok (declare ds l.name n) (λ ds. both (bounds_in I l.bounds) (lifetimes_of I ds (suc n) ls)) ns e in
    let y = both_ok (bounds_in I l.bounds) (lifetimes_of I x.0 (suc n) ls) ns x.2 in
    ap (λ (z : List ℕ). not (is_nothing z)) y.4 ∙ nothing_append y.0 y.1
    ∙ ap (λ (b : Bool). b || not (is_nothing y.1)) (bounds_entry I l.bounds y.0 y.2) ∙ ap (λ (b : Bool). not (is_nothing l.bounds) || b) (lifetimes_entry I x.0 (suc n) ls y.1 y.3)

numbers_entry_of : (n : ℕ) (xs : List Parameter) → is_nothing (numbers_from n xs) ≡ is_nothing xs
numbers_entry_of n [] = refl
numbers_entry_of n (x ∷ xs) = refl

pub function_entry : (I : Inside) (f : Function) (ns : List ℕ) → lifetimes_of I [] 0 f.lifetimes ≡ Ok ns → not (is_nothing (ns ++ numbers_from 0 f.params)) ≡ has_entry f
function_entry I f ns e =
    nothing_append ns (numbers_from 0 f.params) ∙ ap (λ (b : Bool). b || not (is_nothing (numbers_from 0 f.params))) (lifetimes_entry I [] 0 f.lifetimes ns e)
    ∙ ap (λ (b : Bool). has_bounds f.lifetimes || not b) (numbers_entry_of 0 f.params)

abbrev pub EntryTaken : ℕ → Bool → ItemNames → ItemNames → Type 0
EntryTaken N b t t' = Part N t t' 0 (λ es. Takes (λ a. Unit {0}) t t' es (entry_if b))

pub entry_taken : (N : ℕ) (I : Inside) (at ks : List ℕ) (t t' : ItemNames) → numbered I at ks t ≡ Ok t' → EntryTaken N (not (is_nothing ks)) t t'
entry_taken N I at [] t t' e = unchanged N t t' (λ v es. Takes (λ a. Unit {0}) t v es (entry_if false)) e (takes_give numbering.no_names tt)
entry_taken N I at (k ∷ ks) t t' e = restated (entry_part N I at t t' k ks (Ok (k ∷ ks)) refl e) refl (λ es h. takes_map (λ z. z) h (λ a r. tt))

-- ---- types bind nothing

pub no_parameters_bind : (xs : List Parameter) → binds (within_parameters xs) ≡ 0
no_parameters_bind [] = refl
no_parameters_bind (x ∷ xs) = let a = binds_append (a_type x.typ ∷ below_type x.typ) (within_parameters xs) in let b = no_type_binds x.typ in let d = no_parameters_bind xs in omega (arith, a, b, d)

-- ---- parameters

abbrev ParameterHas : Claims → named.Parameter → Type 0
ParameterHas C x = C.variable x.variable × OfWritten C x.typ

module _ (C : Claims) (I : Inside) (N : ℕ) (S : Sees C I N) where
  parameters_taken : (at : List ℕ) (i : ℕ) (xs : List Parameter) (b b1 : Bound) → in_parameters I at i xs b ≡ Ok b1 → DeclaredBelow (length b.tables.vars) b.bindings → i ≤ length b.tables.vars
      → Binds C I N S b b1 (length xs) (OfParameters C) (numbering.of_parameters xs)
  parameters_taken at i [] b b1 e h l =
      subst (λ (v : Bound). Binds C I N S b v 0 (OfParameters C) (numbering.of_parameters [])) (the_same b b1 e)
      (record { below = h; part = record { added = []; grown = sym (append-nil b.tables.names); count = omega arith; numbers = λ _. takes_give [] tt } })
  parameters_taken at i (x ∷ xs) b b1 e h l =
      let t = with_variable x.name.span b.tables in
      let n = length b.tables.vars in
      let X = named_ok (in_parameter I at i x b) (in_parameters I at (next i) xs) b1 e in
      let typed : DeclaredNames → Outcome Bound = λ ds. and_then (in_type I (child at i) x.typ t) (λ t. Ok (record { bindings = ds; tables = t })) in
      let d = named_ok (declare b.bindings x.name i) typed X.0 X.1 in
      let y = named_ok (in_type I (child at i) x.typ t) (λ t. Ok (record { bindings = d.0; tables = t })) X.0 d.2 in
      let same : record { bindings = d.0; tables = y.0 } ≡ X.0 = the_same _ X.0 y.2 in
      let m : length t.vars ≡ suc n = one_more b.tables.vars x.name.span in
      let V : Part N b.tables t 1 (λ es. Takes C.variable b.tables t es (numbering.declare (record { mutable = x.mutable; stage = Stage.Known }))) = record {
        added = [];
        grown = sym (append-nil b.tables.names);
        count = omega (arith, m);
        numbers = λ most. takes_declare b.tables x.name.span (record { mutable = x.mutable; stage = Stage.Known }) C.variable (S.variables n (omega (arith, m, most)));
      } in
      let Y = type_taken C I N S (child at i) x.typ t y.0 y.1 in
      let c = Y.count in
      let P : Part N b.tables y.0 1 (λ es. Takes (ParameterHas C) b.tables y.0 es (numbering.of_parameter x)) =
      in_turn V Y refl (λ es fs j k. takes_then j (λ v w. takes_map (λ z. record { variable = v; typ = z }) k (λ z g. (w, g)))) in
      let D : DeclaredBelow (length y.0.vars) d.0 = declare_below (length y.0.vars) b.bindings d.0 x.name i d.1 (declared_later n (length y.0.vars) b.bindings (omega (arith, m, c)) h) (omega (arith, l, m, c)) in
      let R = parameters_taken at (next i) xs (record { bindings = d.0; tables = y.0 }) b1 (ap (in_parameters I at (next i) xs) same ∙ X.2) D (omega (arith, l, m, c)) in
      record { below = R.below; part = in_turn P R.part (omega arith) (λ es fs j k. takes_then j (λ p w. takes_map (λ ps. p ∷ ps) k (λ ps g. (w, g)))) }

-- ---- the whole

pub record FunctionTaken (C : Claims) (i : ℕ) (s : Span) (f : Function) (t : ItemNames) : Type 0 where
  pub claims : OfFunction C (function_named i s f t.names)
  pub count : length t.vars ≡ length (declared_names (Some (plain.function_item s f)))
  pub variables : length (function_variables s f t.names) ≡ length t.vars

module _ (C : Claims) (I : Inside) (s : Span) (f : Function) (i : ℕ) where
  -- the tree with numbers, and how many variables it declares
  abbrev Told : ItemNames → Cursor → Type 0
  Told t c = OfFunction C (numbering.of_function i s f c).0 × (length (numbering.of_function i s f c).1.variables ≡ length t.vars)

  numbered_function : (t t0 : ItemNames) (es fs gs hs : List NodeNames) (t1 t2 t3 : ItemNames) (c : Cursor) (rest : List NodeNames)
      → Takes (λ a. Unit {0}) t t1 es (entry_if (has_entry f)) → Takes (OfParameters C) t1 t2 fs (numbering.of_parameters f.params) → Takes (OfAnnotation C) t2 t3 gs (numbering.of_optional_type f.result)
      → Takes (OfBody C) t3 t0 hs (numbering.of_body Site.Expects f.body) → Counts c t → c.names ≡ es ++ (fs ++ (gs ++ hs)) → Told t0 c
  numbered_function t t0 es fs gs hs t1 t2 t3 c rest E P R B d e =
      let c1 = (numbering.a_node s Site.Value c).1 in
      let x = E.holds c1 (fs ++ (gs ++ hs)) d e in
      let c2 = (entry_if (has_entry f) c1).1 in
      let p = P.holds c2 (gs ++ hs) x.declared x.left in
      let c3 = (numbering.of_parameters f.params c2).1 in
      let r = R.holds c3 hs p.declared p.left in
      let c4 = (numbering.of_optional_type f.result c3).1 in
      let b = B.holds c4 [] r.declared (r.left ∙ sym (append-nil hs)) in
      (record { params = p.fits; result = r.fits; body = b.fits }, b.declared.1)

  pub function_taken : (sc : Variables) (ls : List Around) (at : List ℕ) (t0 t : ItemNames) → t0.names ≡ [] → t0.vars ≡ [] → ScopeBelow 0 sc → Sees C I (length t.vars) → in_function I sc ls at f t0 ≡ Ok t → FunctionTaken C i s f t
  function_taken sc ls at t0 t no_names no_vars w S e =
      let N = length t.vars in
      let after : Bound → Outcome ItemNames = λ b. (in_optional_type I (child at (number (length f.params))) f.result >> in_block I (entered sc b.bindings) ls (child at (body_at (number (length f.params)) f.result)) f.body) b.tables in
      let ns = named_ok (lifetimes_of I [] 0 f.lifetimes) (λ ns. and_then (numbered I at (ns ++ numbers_from 0 f.params) t0) (λ t. and_then (in_parameters I at 0 f.params (record { bindings = []; tables = t })) (λ b. after b))) t e in
      let t1 = named_ok (numbered I at (ns.0 ++ numbers_from 0 f.params) t0) (λ t. and_then (in_parameters I at 0 f.params (record { bindings = []; tables = t })) (λ b. after b)) t ns.2 in
      let b0 : Bound = record { bindings = []; tables = t1.0 } in
      let b1 = named_ok (in_parameters I at 0 f.params b0) (λ b. after b) t t1.2 in
      let t3 = named_ok (in_optional_type I (child at (number (length f.params))) f.result b1.0.tables) (in_block I (entered sc b1.0.bindings) ls (child at (body_at (number (length f.params)) f.result)) f.body) t b1.2 in
      let E0 = entry_taken N I at (ns.0 ++ numbers_from 0 f.params) t0 t1.0 t1.1 in
      let E : EntryTaken N (has_entry f) t0 t1.0 = subst (λ (b : Bool). EntryTaken N b t0 t1.0) (function_entry I f ns.0 ns.1) E0 in
      let P = parameters_taken C I N S at 0 f.params b0 b1.0 b1.1 tt (omega arith) in
      let R = optional_type_taken C I N S (child at (number (length f.params))) f.result b1.0.tables t3.0 t3.1 in
      let z : length t0.vars ≡ 0 = ap (λ (l : List Span). length l) no_vars in
      let ce = E.count in let cp = P.part.count in let cr = R.count in
      let w0 : ScopeBelow (length t0.vars) sc = subst (λ (k : ℕ). ScopeBelow k sc) (sym z) w in
      let w1 = on sc P.part (on sc E w0) in
      let w2 = scope_entered (length b1.0.tables.vars) sc b1.0.bindings w1 P.below in
      let B = body_taken C I N S (entered sc b1.0.bindings) ls (child at (body_at (number (length f.params)) f.result)) f.body t3.0 t (on (entered sc b1.0.bindings) R w2) t3.2 in
      let cb = B.count in
      let all : Part N t0 t (length f.params + binds (below_block f.body)) (λ es. Told t (numbering.begins es)) =
      in_turn4 E P.part R B (omega arith) (λ es fs gs hs x p r b. numbered_function t0 t es fs gs hs t1.0 b1.0.tables t3.0 (numbering.begins (es ++ (fs ++ (gs ++ hs)))) [] x p r (b Site.Expects) (sym z, sym z) refl) in
      let told = subst (λ (l : List NodeNames). Told t (numbering.begins l)) (sym (all.grown ∙ ap (λ (l : List NodeNames). l ++ all.added) no_names)) (all.numbers (omega arith)) in
      let n1 = binds_append (within_parameters f.params) (within_type f.result ++ (a_block f.body ∷ below_block f.body)) in
      let n2 = binds_append (within_type f.result) (a_block f.body ∷ below_block f.body) in
      let n3 = no_parameters_bind f.params in let n4 = no_result_binds f.result in
      let n5 = length-append (parameter_names (Some (plain.function_item s f))) (names_bound (within_parameters f.params ++ (within_type f.result ++ (a_block f.body ∷ below_block f.body)))) in
      let n6 = length-map f.params (λ (x : Parameter). x.name.name) in
      record {
        claims = told.0;
        variables = told.1;
        count = let ca = all.count in omega (arith, ca, z, n1, n2, n3, n4, n5, n6);
      }

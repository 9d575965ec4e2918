-- A function whose names have a meaning: in its tree with numbers each name means, where it stands, what it names, by the names that the
-- function declares.
use Rattle.std.proofs.Common.{◌≡◌, ℕ, suc, ◌+◌, ◌≤◌, Bool, List, [], ◌∷◌, ◌++◌, length, map, reverse, Some, slice_get, Ok, refl, sym, ap, ◌∙◌, subst, append-nil, append_assoc, arith}
use Rattle.std.proofs.lemmas.List.{length-map}
use Rattle.rx_core.specs.declared.types.Span.{Span}
use Rattle.rx_tree.specs.Plain as plain
use Rattle.rx_tree.specs.Plain.{Parameter, Function}
use Rattle.rx_tree.specs.Positions.{a_block}
use Rattle.rx_tree.specs.Nodes.{within_type, within_parameters, below_block}
use Rattle.rx_resolve_names.specs.Scopes.{DeclaredNames, declared_as, entered}
use Rattle.rx_resolve_names.specs.declared.resolved.ItemNames.{ItemNames}
use Rattle.rx_resolve_names.specs.declared.resolved.NodeNames.{NodeNames}
use Rattle.rx_resolve_names.specs.Meant.{number}
use Rattle.rx_resolve_names.specs.Steps.{Outcome, and_then, ◌>>◌, Inside, declare, child, next, with_variable, numbered}
use Rattle.rx_resolve_names.specs.Names.{in_type, Bound as BoundSoFar, in_optional_type, in_block}
use Rattle.rx_resolve_names.specs.Items.{lifetimes_of, in_parameter, in_parameters, numbers_from, body_at, in_function}
use Rattle.rx_typed.specs.declared.nodes.Site.{Site}
use Rattle.rx_typed.specs.declared.nodes.Stage.{Stage}
use Rattle.rx_typed.specs.Named as named
use Rattle.rx_typed.specs.Naming as numbering
use Rattle.rx_typed.specs.Naming.{Cursor, function_named, is_nothing, has_entry, entry_if}
use Rattle.rx_exits.specs.Refusing.{same_name}
use Rattle.rx_hoist_naming.specs.DeclaredNames.{declared_names, names_bound}
use Rattle.rx_hoist_naming.proofs.Claims.{Claims, OfAnnotation}
use Rattle.rx_hoist_naming.proofs.Steps.{Counts, named_ok, the_same, binds, Takes, takes_then, takes_give, takes_map, takes_declare, one_more, Part, in_turn, in_turn4}
use Rattle.rx_hoist_naming.proofs.TypeLemmas.{no_result_binds, Sees, type_taken, optional_type_taken}
use Rattle.rx_hoist_naming.proofs.Functions.{EntryTaken, entry_taken, function_entry, no_parameters_bind}
use Rattle.rx_hoist_meant.proofs.Scopes.{in_left, in_right, Stand, Bound, behind_of, ScopeIs, entered_is, NBody}
use Rattle.rx_hoist_meant.proofs.NamedPatterns.{kept, declared_behind_is, Binds}
use Rattle.rx_hoist_meant.proofs.NamedExpressions.{Scope, body_taken}

-- ---- parameters

abbrev pub OfParameters : List ℕ → List named.Parameter → Type 0
OfParameters ns ps = map (λ (p : named.Parameter). p.variable) ps ≡ ns

module _ (C : Claims) (I : Inside) (N : ℕ) (small : N ≤ 4294967295) (S : Sees C I N) (names : List (List ℕ)) where
  -- the number of a parameter's place is that of its variable
  pub parameters_taken : (at : List ℕ) (i : ℕ) (xs : List Parameter) (b b1 : BoundSoFar) → in_parameters I at i xs b ≡ Ok b1 → (length b.tables.vars ≤ N → i ≡ length b.tables.vars)
      → Stand names (length b.tables.vars) (map (λ (x : Parameter). x.name.name) xs) → Binds C I N small S names b b1 (length xs) OfParameters (numbering.of_parameters xs)
  parameters_taken at i [] b b1 e w h =
      subst (λ (v : BoundSoFar). Binds C I N small S names b v 0 OfParameters (numbering.of_parameters [])) (the_same b b1 e)
      (record { numbers = []; new = []; adds = sym (append-nil b.bindings); are = λ _. tt; part = record { added = []; grown = sym (append-nil b.tables.names); count = omega arith; numbers = λ _. takes_give [] refl } })
  parameters_taken at i (x ∷ xs) b b1 e w h =
      let t = with_variable x.name.span b.tables in
      let n = length b.tables.vars in
      let X = named_ok (in_parameter I at i x b) (in_parameters I at (next i) xs) b1 e in
      let typed : DeclaredNames → Outcome BoundSoFar = λ ds. and_then (in_type I (child at i) x.typ t) (λ t. Ok (record { bindings = ds; tables = t })) in
      let d = named_ok (declare b.bindings x.name i) typed X.0 X.1 in
      let y = named_ok (in_type I (child at i) x.typ t) (λ t. Ok (record { bindings = d.0; tables = t })) X.0 d.2 in
      let same : record { bindings = d.0; tables = y.0 } ≡ X.0 = the_same _ X.0 y.2 in
      let m : length t.vars ≡ suc n = one_more b.tables.vars x.name.span in
      let V : Part N b.tables t 1 (λ es. Takes (λ (z : ℕ). z ≡ n) b.tables t es (numbering.declare (record { mutable = x.mutable; stage = Stage.Known }))) = record {
        added = [];
        grown = sym (append-nil b.tables.names);
        count = omega (arith, m);
        numbers = λ most. takes_declare b.tables x.name.span (record { mutable = x.mutable; stage = Stage.Known }) (λ (z : ℕ). z ≡ n) refl;
      } in
      let Y = type_taken C I N S (child at i) x.typ t y.0 y.1 in
      let c = Y.count in
      let P : Part N b.tables y.0 1 (λ es. Takes (λ (z : named.Parameter). z.variable ≡ n) b.tables y.0 es (numbering.of_parameter x)) =
      in_turn V Y refl (λ es fs j k. takes_then j (λ v w. takes_map (λ z. record { variable = v; typ = z }) k (λ z g. w))) in
      let later : length y.0.vars ≡ suc n = omega (arith, m, c) in
      let w1 : length y.0.vars ≤ N → next i ≡ length y.0.vars = λ few. let k = w (omega (arith, later, few)) in omega (arith, k, later, few, small) in
      let zero_is : n + 0 ≡ n = omega arith in
      let first : slice_get names n ≡ Some x.name.name = subst (λ (z : ℕ). slice_get names z ≡ Some x.name.name) zero_is (h.each 0 x.name.name refl) in
      let rest : Stand names (length y.0.vars) (map (λ (x : Parameter). x.name.name) xs) = record {
        each = λ k z g. let on : n + suc k ≡ length y.0.vars + k = omega (arith, later) in subst (λ (j : ℕ). slice_get names j ≡ Some z) on (h.each (suc k) z g);
      } in
      let R = parameters_taken at (next i) xs (record { bindings = d.0; tables = y.0 }) b1 (ap (in_parameters I at (next i) xs) same ∙ X.2) w1 rest in
      let cr = R.part.count in
      let one : DeclaredNames = (x.name.name, record { number = number i; span = x.name.span }) ∷ [] in
      record {
        numbers = n ∷ R.numbers;
        new = one ++ R.new;
        adds = R.adds ∙ ap (λ (l : DeclaredNames). l ++ R.new) (declared_behind_is b.bindings d.0 x.name i (declared_as b.bindings x.name.name) d.1) ∙ append_assoc b.bindings one R.new;
        are = λ most.
            let k = w (omega (arith, later, cr, most)) in
            (sym k ∙ sym (kept i N (omega (arith, k, later, cr, most)) small), first, R.are most);
        part = in_turn P R.part (omega arith) (λ es fs j k. takes_then j (λ p w. takes_map (λ ps. p ∷ ps) k (λ ps g. λ j. w j ∷ g j)));
      }

-- ---- the whole

module _ (C : Claims) (I : Inside) (s : Span) (f : Function) (i : ℕ) where
  abbrev pub names_of : List (List ℕ)
  names_of = declared_names (Some (plain.function_item s f))

  abbrev scope_of : named.Function → List ℕ
  scope_of F = reverse (map (λ (p : named.Parameter). p.variable) F.params) ++ []

  abbrev pub FunctionMeans : named.Function → Type 0
  FunctionMeans F = NBody (same_name (declared_names (Some (plain.function_item s f)))) (reverse (map (λ (p : named.Parameter). p.variable) F.params) ++ []) F.body

  numbered_function : (t t0 : ItemNames) (es fs gs hs : List NodeNames) (t1 t2 t3 : ItemNames) (c : Cursor) (ns : List ℕ)
      → Takes (λ a. Unit {0}) t t1 es (entry_if (has_entry f)) → Takes (OfParameters ns) t1 t2 fs (numbering.of_parameters f.params) → Takes (OfAnnotation C) t2 t3 gs (numbering.of_optional_type f.result)
      → Takes (NBody (same_name (declared_names (Some (plain.function_item s f)))) (reverse ns ++ [])) t3 t0 hs (numbering.of_body Site.Expects f.body) → Counts c t → c.names ≡ es ++ (fs ++ (gs ++ hs))
      → FunctionMeans (numbering.of_function i s f c).0
  numbered_function t t0 es fs gs hs t1 t2 t3 c ns E P R B d e =
      let c1 = (numbering.a_node s Site.Value c).1 in
      let x = E.holds c1 (fs ++ (gs ++ hs)) d e in
      let c2 = (entry_if (has_entry f) c1).1 in
      let p = P.holds c2 (gs ++ hs) x.declared x.left in
      let c3 = (numbering.of_parameters f.params c2).1 in
      let r = R.holds c3 hs p.declared p.left in
      let c4 = (numbering.of_optional_type f.result c3).1 in
      let b = B.holds c4 [] r.declared (r.left ∙ sym (append-nil hs)) in
      subst (λ (us : List ℕ). NBody (same_name (declared_names (Some (plain.function_item s f)))) (reverse us ++ []) (numbering.of_body Site.Expects f.body c4).0) (sym p.fits) b.fits

  pub function_means : (t0 t : ItemNames) → t0.names ≡ [] → t0.vars ≡ [] → length t.vars ≤ 4294967295 → Sees C I (length t.vars) → in_function I [] [] [] f t0 ≡ Ok t → FunctionMeans (function_named i s f t.names)
  function_means t0 t no_names no_vars small S e =
      let N = length t.vars in
      let names = declared_names (Some (plain.function_item s f)) in
      let words = map (λ (x : Parameter). x.name.name) f.params in
      let nodes = within_parameters f.params ++ (within_type f.result ++ (a_block f.body ∷ below_block f.body)) in
      let after : BoundSoFar → Outcome ItemNames = λ b. (in_optional_type I (child [] (number (length f.params))) f.result >> in_block I (entered [] b.bindings) [] (child [] (body_at (number (length f.params)) f.result)) f.body) b.tables in
      let ns = named_ok (lifetimes_of I [] 0 f.lifetimes) (λ ns. and_then (numbered I [] (ns ++ numbers_from 0 f.params) t0) (λ t. and_then (in_parameters I [] 0 f.params (record { bindings = []; tables = t })) (λ b. after b))) t e in
      let t1 = named_ok (numbered I [] (ns.0 ++ numbers_from 0 f.params) t0) (λ t. and_then (in_parameters I [] 0 f.params (record { bindings = []; tables = t })) (λ b. after b)) t ns.2 in
      let b0 : BoundSoFar = record { bindings = []; tables = t1.0 } in
      let b1 = named_ok (in_parameters I [] 0 f.params b0) (λ b. after b) t t1.2 in
      let t3 = named_ok (in_optional_type I (child [] (number (length f.params))) f.result b1.0.tables) (in_block I (entered [] b1.0.bindings) [] (child [] (body_at (number (length f.params)) f.result)) f.body) t b1.2 in
      let E0 = entry_taken N I [] (ns.0 ++ numbers_from 0 f.params) t0 t1.0 t1.1 in
      let E : EntryTaken N (has_entry f) t0 t1.0 = subst (λ (b : Bool). EntryTaken N b t0 t1.0) (function_entry I f ns.0 ns.1) E0 in
      let z : length t0.vars ≡ 0 = ap (λ (l : List Span). length l) no_vars in
      let ce = E.count in
      let none : length t1.0.vars ≡ 0 = omega (arith, ce, z) in
      let stand : Stand names (length t1.0.vars) words = record {
        each = λ k x g. let on : k ≡ length t1.0.vars + k = omega (arith, none) in subst (λ (j : ℕ). slice_get names j ≡ Some x) on (in_left words (names_bound nodes) k x g);
      } in
      let P = parameters_taken C I N small S names [] 0 f.params b0 b1.0 b1.1 (λ _. sym none) stand in
      let R = optional_type_taken C I N S (child [] (number (length f.params))) f.result b1.0.tables t3.0 t3.1 in
      let cp = P.part.count in let cr = R.count in
      let vs = reverse P.numbers ++ [] in
      let w : Scope C I N small S names vs (entered [] b1.0.bindings) t3.0 = λ m.
      subst (λ (ds : DeclaredNames). ScopeIs names vs (entered [] ds)) (sym P.adds) (entered_is names P.numbers P.new [] [] (P.are (omega (arith, cr, m))) tt) in
      let all_nodes : Bound names (length f.params) nodes = record {
        each = λ k x g. let l = length-map f.params (λ (x : Parameter). x.name.name) in in_right words (names_bound nodes) k (length f.params + k) x (omega (arith, l)) g;
      } in
      let n3 = no_parameters_bind f.params in let n4 = no_result_binds f.result in
      let inner = behind_of names (length f.params) (within_parameters f.params) (within_type f.result ++ (a_block f.body ∷ below_block f.body)) (omega (arith, n3)) all_nodes in
      let body : Bound names (length t3.0.vars) (a_block f.body ∷ below_block f.body) =
      behind_of names (length t3.0.vars) (within_type f.result) (a_block f.body ∷ below_block f.body) (omega (arith, n4, cr, cp, none)) inner in
      let B = body_taken C I N small S names (entered [] b1.0.bindings) vs [] (child [] (body_at (number (length f.params)) f.result)) f.body t3.0 t w body t3.2 in
      let all : Part N t0 t (length f.params + binds (below_block f.body)) (λ es. FunctionMeans (numbering.of_function i s f (numbering.begins es)).0) =
      in_turn4 E P.part R B (omega arith) (λ es fs gs hs x p r b. numbered_function t0 t es fs gs hs t1.0 b1.0.tables t3.0 (numbering.begins (es ++ (fs ++ (gs ++ hs)))) P.numbers x p r (b Site.Expects) (sym z, sym z) refl) in
      subst (λ (l : List NodeNames). FunctionMeans (numbering.of_function i s f (numbering.begins l)).0) (sym (all.grown ∙ ap (λ (l : List NodeNames). l ++ all.added) no_names)) (all.numbers (omega arith))

-- A function whose names have a meaning, as its tree with numbers: from its item to its body.
use Rattle.std.proofs.Common.{◌≡◌, ℕ, suc, ◌+◌, ◌≤◌, ◌<◌, Bool, true, false, List, [], ◌∷◌, ◌++◌, length, map, reverse, Some, None, slice_get, Ok, refl, sym, ap, ◌∙◌, subst, append-nil, append_assoc, length-append, arith}
use Rattle.std.proofs.lemmas.List.{length-map}
use Rattle.rx_core.specs.declared.types.Span.{Span}
use Rattle.rx_core.specs.declared.types.Position.{Position}
use Rattle.rx_tree.specs.Plain as plain
use Rattle.rx_tree.specs.Plain.{Parameter, Function, TypeTree, TypeTrees}
use Rattle.rx_tree.specs.Positions.{NodeTree, a_block, a_type, optional_type_nodes, parameter_nodes}
use Rattle.rx_tree.specs.Nodes.{within_type, within_parameters, below_block, total}
use Rattle.rx_tree.specs.Size.{loops_at}
use Rattle.rx_resolve_names.specs.Scopes.{DeclaredNames, entered}
use Rattle.rx_resolve_names.specs.declared.resolved.ItemNames.{ItemNames}
use Rattle.rx_resolve_names.specs.declared.resolved.NodeNames.{NodeNames}
use Rattle.rx_resolve_names.specs.Meant.{number}
use Rattle.rx_resolve_names.specs.Steps.{Outcome, and_then, ◌>>◌, Inside, declare, child, next, with_variable, numbered}
use Rattle.rx_resolve_names.specs.Names.{in_type, Bound as BoundSoFar, in_optional_type, in_block}
use Rattle.rx_resolve_names.specs.Items.{lifetimes_of, in_parameter, in_parameters, numbers_from, body_at, in_function}
use Rattle.rx_typed.specs.declared.nodes.Site.{Site}
use Rattle.rx_typed.specs.declared.nodes.Stage.{Stage}
use Rattle.rx_typed.specs.Named as named
use Rattle.rx_typed.specs.Naming as numbering
use Rattle.rx_typed.specs.Naming.{Cursor, function_named, has_entry, entry_if, of_type}
use Rattle.rx_lower_walks.specs.Walks.{Among}
use Rattle.rx_hoist_nodes.specs.Nodes.{within, within_all}
use Rattle.rx_hoist_naming.specs.DeclaredNames.{declared_names, names_bound}
use Rattle.rx_hoist_blocks.proofs.Parts as parts
use Rattle.rx_hoist_naming.proofs.Claims.{Claims, OfAnnotation}
use Rattle.rx_hoist_naming.proofs.Steps as old
use Rattle.rx_hoist_naming.proofs.Steps.{Counts, named_ok, the_same}
use Rattle.rx_hoist_naming.proofs.TypeLemmas.{no_result_binds, Sees, optional_type_taken}
use Rattle.rx_hoist_naming.proofs.Functions.{EntryTaken, entry_taken, function_entry, no_parameters_bind}
use Rattle.rx_hoist_meant.proofs.Scopes.{in_left, in_right, Stand, Bound, behind_of, ScopeIs, entered_is}
use Rattle.rx_hoist_meant.proofs.NamedFunctions.{OfParameters, parameters_taken}
use Rattle.rx_hoist_meant.specs.Stands.{StandsBody}
use Rattle.rx_hoist_meant.specs.Functions.{FunctionStands}
use Rattle.rx_hoist_meant.proofs.Steps.{entry_number, entry_loops, Takes}
use Rattle.rx_hoist_meant.proofs.Loops.{entry_declared, from, from_most, optional_type_keeps, optional_type_still, type_keeps, type_size, type_still, numbered_keeps}
use Rattle.rx_hoist_meant.proofs.Patterns.{among_reversed, among_split, Below, none_among}
use Rattle.rx_hoist_meant.proofs.Counted.{block_adds}
use Rattle.rx_hoist_meant.proofs.Expressions.{body_taken, Scope}

-- ---- nodes and loops

entry_if_number : (b : Bool) (c : Cursor) → (entry_if b c).1.number ≡ c.number
entry_if_number true c = entry_number c
entry_if_number false c = refl

entry_if_loops : (b : Bool) (c : Cursor) → length (entry_if b c).1.loops ≡ length c.loops
entry_if_loops true c = entry_loops c
entry_if_loops false c = refl

pub within_both : (xs ys : List NodeTree) → length (within_all (xs ++ ys)) ≡ length (within_all xs) + length (within_all ys)
within_both [] ys = omega arith
within_both (x ∷ xs) ys =
    let r = within_both xs ys in
    let a = length-append (within x) (within_all (xs ++ ys)) in
    let b = length-append (within x) (within_all xs) in
    omega (arith, r, a, b)

parameters_size : (xs : List Parameter) (c : Cursor) → (numbering.of_parameters xs c).1.number ≡ c.number + length (within_all (parameter_nodes xs))
parameters_size [] c = omega arith
parameters_size (x ∷ xs) c =
    let c1 = (numbering.declare (record { mutable = x.mutable; stage = Stage.Known }) c).1 in
    let a = (parts.type_walked x.typ c1 (λ a. [])).size in
    let b = parameters_size xs (of_type x.typ c1).1 in
    let l = length-append (within (a_type x.typ)) (within_all (parameter_nodes xs)) in
    omega (arith, a, b, l)

parameters_still : (xs : List Parameter) (c : Cursor) → length (numbering.of_parameters xs c).1.loops ≡ length c.loops
parameters_still [] c = refl
parameters_still (x ∷ xs) c =
    let c1 = (numbering.declare (record { mutable = x.mutable; stage = Stage.Known }) c).1 in
    parameters_still xs (of_type x.typ c1).1 ∙ type_still x.typ c1

parameters_keep : (I : Inside) (at : List ℕ) (i : ℕ) (xs : List Parameter) (b b1 : BoundSoFar) → in_parameters I at i xs b ≡ Ok b1 → length b1.tables.loops ≡ length b.tables.loops
parameters_keep I at i [] b b1 e = ap (λ (z : BoundSoFar). length z.tables.loops) (sym (the_same b b1 e))
parameters_keep I at i (x ∷ xs) b b1 e =
    let t = with_variable x.name.span b.tables in
    let X = named_ok (in_parameter I at i x b) (in_parameters I at (next i) xs) b1 e in
    let typed : DeclaredNames → Outcome BoundSoFar = λ ds. and_then (in_type I (child at i) x.typ t) (λ t. Ok (record { bindings = ds; tables = t })) in
    let d = named_ok (declare b.bindings x.name i) typed X.0 X.1 in
    let to : ItemNames → BoundSoFar = λ t. record { bindings = d.0; tables = t } in
    let y = named_ok (in_type I (child at i) x.typ t) (λ t. Ok (to t)) X.0 d.2 in
    let same = the_same (to y.0) X.0 y.2 in
    parameters_keep I at (next i) xs X.0 b1 X.2 ∙ ap (λ (z : BoundSoFar). length z.tables.loops) (sym same) ∙ type_keeps I (child at i) x.typ t y.0 y.1

-- ---- the numbers of parameters

mutual
  type_declared : (y : TypeTree) (c : Cursor) → (of_type y c).1.declared ≡ c.declared
  type_declared (plain.kind_type s k) c = refl
  type_declared (plain.bool_type s) c = refl
  type_declared (plain.tuple_type s ts) c = types_declared ts (numbering.a_node s Site.Value c).1
  type_declared (plain.ref_type s None m y) c = type_declared y (numbering.a_node s Site.Value c).1
  type_declared (plain.ref_type s (Some l) m y) c = type_declared y (numbering.an_entry (numbering.a_node s Site.Value c).1).1 ∙ entry_declared (numbering.a_node s Site.Value c).1
  type_declared (plain.named_type s x ls) c = entry_declared (numbering.a_node s Site.Value c).1

  types_declared : (ys : TypeTrees) (c : Cursor) → (numbering.of_types ys c).1.declared ≡ c.declared
  types_declared plain.no_type c = refl
  types_declared (plain.type_and y ys) c = types_declared ys (of_type y c).1 ∙ type_declared y c

parameters_from : (xs : List Parameter) (c : Cursor) → map (λ (p : named.Parameter). p.variable) (numbering.of_parameters xs c).0 ≡ from c.declared xs
parameters_from [] c = refl
parameters_from (x ∷ xs) c =
    let c1 = (numbering.declare (record { mutable = x.mutable; stage = Stage.Known }) c).1 in
    ap (λ (l : List ℕ). c.declared ∷ l) (parameters_from xs (of_type x.typ c1).1 ∙ ap (λ (n : ℕ). from n xs) (type_declared x.typ c1))

-- a cursor where the tables stand
there_is : ItemNames → List NodeNames → Cursor
there_is t es = record { number = 0; spans = []; loops = []; declared = length t.vars; variables = map (λ (s : Span). numbering.not_declared) t.vars; names = es; annotations = [] }

as_many : (xs : List Span) → length (map (λ (s : Span). numbering.not_declared) xs) ≡ length xs
as_many [] = refl
as_many (x ∷ xs) = ap suc (as_many xs)

-- ---- the whole

module _ (C : Claims) (I : Inside) (s : Span) (f : Function) (i : ℕ) where
  abbrev names_of : List (List ℕ)
  names_of = declared_names (Some (plain.function_item s f))

  numbered_function : (t t0 : ItemNames) (es fs gs hs : List NodeNames) (t1 t2 t3 : ItemNames) (c : Cursor) (ns : List ℕ)
      → old.Takes (λ a. Unit {0}) t t1 es (entry_if (has_entry f)) → old.Takes (OfParameters ns) t1 t2 fs (numbering.of_parameters f.params) → old.Takes (OfAnnotation C) t2 t3 gs (numbering.of_optional_type f.result)
      → ((k : ℕ) (p : Site) → Takes k (λ j a. StandsBody I (declared_names (Some (plain.function_item s f))) (reverse ns ++ []) [] k j f.body a) t3 t0 hs (numbering.of_body p f.body)) → Counts c t → c.names ≡ es ++ (fs ++ (gs ++ hs))
      → c.number ≡ 0 → length c.loops ≡ 0 → length t3.loops ≡ 0 → FunctionStands I s f (numbering.of_function i s f c).0
  numbered_function t t0 es fs gs hs t1 t2 t3 c ns E P R B d e zero_is no_loops none =
      let c1 = (numbering.a_node s Site.Value c).1 in
      let x = E.holds c1 (fs ++ (gs ++ hs)) d e in
      let c2 = (entry_if (has_entry f) c1).1 in
      let p = P.holds c2 (gs ++ hs) x.declared x.left in
      let c3 = (numbering.of_parameters f.params c2).1 in
      let r = R.holds c3 hs p.declared p.left in
      let c4 = (numbering.of_optional_type f.result c3).1 in
      let loops : length c4.loops ≡ length t3.loops = optional_type_still f.result c3 ∙ parameters_still f.params c2 ∙ entry_if_loops (has_entry f) c1 ∙ no_loops ∙ sym none in
      let b = (B c4.number Site.Expects).holds c4 [] refl (r.declared.0, r.declared.1, loops) (r.left ∙ sym (append-nil hs)) in
      let n1 = entry_if_number (has_entry f) c1 in
      let n2 = parameters_size f.params c2 in
      let n3 = type_size f.result c3 in
      let l = within_both (parameter_nodes f.params) (optional_type_nodes f.result) in
      record {
        first = c4.number;
        behind = (numbering.of_body Site.Expects f.body c4).1.number;
        size = omega (arith, n1, n2, n3, l, zero_is);
        body = subst (λ (us : List ℕ). StandsBody I (declared_names (Some (plain.function_item s f))) (reverse us ++ []) [] c4.number (numbering.of_body Site.Expects f.body c4).1.number f.body (numbering.of_body Site.Expects f.body c4).0) (sym p.fits) b.fits;
      }

  pub function_stands : (t0 t : ItemNames) → t0.names ≡ [] → t0.vars ≡ [] → t0.loops ≡ [] → length t.vars ≤ 4294967295 → total loops_at (below_block f.body) ≤ 4294967295 → Sees C I (length t.vars) → in_function I [] [] [] f t0 ≡ Ok t
      → FunctionStands I s f (function_named i s f t.names)
  unfolding there_is
  function_stands t0 t no_names no_vars no_loops small little S e =
      let N = length t.vars in
      let M = length t.loops in
      let names = declared_names (Some (plain.function_item s f)) in
      let words = map (λ (x : Parameter). x.name.name) f.params in
      let nodes = within_parameters f.params ++ (within_type f.result ++ (a_block f.body ∷ below_block f.body)) in
      let after : BoundSoFar → Outcome ItemNames = λ b. (in_optional_type I (child [] (number (length f.params))) f.result >> in_block I (entered [] b.bindings) [] (child [] (body_at (number (length f.params)) f.result)) f.body) b.tables in
      let ns = named_ok (lifetimes_of I [] 0 f.lifetimes) (λ ns. and_then (numbered I [] (ns ++ numbers_from 0 f.params) t0) (λ t. and_then (in_parameters I [] 0 f.params (record { bindings = []; tables = t })) (λ b. after b))) t e in
      let t1 = named_ok (numbered I [] (ns.0 ++ numbers_from 0 f.params) t0) (λ t. and_then (in_parameters I [] 0 f.params (record { bindings = []; tables = t })) (λ b. after b)) t ns.2 in
      let b0 : BoundSoFar = record { bindings = []; tables = t1.0 } in
      let b1 = named_ok (in_parameters I [] 0 f.params b0) (λ b. after b) t t1.2 in
      let t3 = named_ok (in_optional_type I (child [] (number (length f.params))) f.result b1.0.tables) (in_block I (entered [] b1.0.bindings) [] (child [] (body_at (number (length f.params)) f.result)) f.body) t b1.2 in
      let E0 = entry_taken N I [] (ns.0 ++ numbers_from 0 f.params) t0 t1.0 t1.1 in
      let E : EntryTaken N (has_entry f) t0 t1.0 = subst (λ (b : Bool). EntryTaken N b t0 t1.0) (function_entry I f ns.0 ns.1) E0 in
      let z : length t0.vars ≡ 0 = ap (λ (l : List Span). length l) no_vars in
      let ce = E.count in
      let none : length t1.0.vars ≡ 0 = omega (arith, ce, z) in
      let stand : Stand names (length t1.0.vars) words = record {
        each = λ k x g. let on : k ≡ length t1.0.vars + k = omega (arith, none) in subst (λ (j : ℕ). slice_get names j ≡ Some x) on (in_left words (names_bound nodes) k x g);
      } in
      let P = parameters_taken C I N small S names [] 0 f.params b0 b1.0 b1.1 (λ _. sym none) stand in
      let R = optional_type_taken C I N S (child [] (number (length f.params))) f.result b1.0.tables t3.0 t3.1 in
      let cp = P.part.count in let cr = R.count in
      let vs = reverse P.numbers ++ [] in
      let numbers_are : length b1.0.tables.vars ≤ N → P.numbers ≡ from (length t1.0.vars) f.params = λ most.
      let c = there_is t1.0 P.part.added in
      let x = (P.part.numbers most).holds c [] (refl, as_many t1.0.vars) (sym (append-nil P.part.added)) in
      sym x.fits ∙ parameters_from f.params c in
      let k1 = numbered_keeps I [] (ns.0 ++ numbers_from 0 f.params) t0 t1.0 t1.1 in
      let k2 = parameters_keep I [] 0 f.params b0 b1.0 b1.1 in
      let k3 = optional_type_keeps I (child [] (number (length f.params))) f.result b1.0.tables t3.0 t3.1 in
      let zl : length t0.loops ≡ 0 = ap (λ (l : List Position). length l) no_loops in
      let no_loops3 : length t3.0.loops ≡ 0 = k3 ∙ k2 ∙ k1 ∙ zl in
      let adds = block_adds I (entered [] b1.0.bindings) [] (child [] (body_at (number (length f.params)) f.result)) f.body t3.0 t t3.2 in
      let few_loops : M ≤ 4294967295 = omega (arith, adds, no_loops3, little) in
      let w : Scope C I N M small few_loops S names vs [] (entered [] b1.0.bindings) t3.0 = (
        λ m.
            let few : length b1.0.tables.vars ≤ N = omega (arith, cr, m) in (
              subst (λ (ds : DeclaredNames). ScopeIs names vs (entered [] ds)) (sym P.adds) (entered_is names P.numbers P.new [] [] (P.are few) tt),
              parameters_below (length t3.0.vars) (length t1.0.vars) (omega (arith, cr, cp)) P.numbers (numbers_are few),
            ),
        λ x i. absurd (none_among i),
      ) in
      let all_nodes : Bound names (length f.params) nodes = record {
        each = λ k x g. let l = length-map f.params (λ (x : Parameter). x.name.name) in in_right words (names_bound nodes) k (length f.params + k) x (omega (arith, l)) g;
      } in
      let n3 = no_parameters_bind f.params in let n4 = no_result_binds f.result in
      let inner = behind_of names (length f.params) (within_parameters f.params) (within_type f.result ++ (a_block f.body ∷ below_block f.body)) (omega (arith, n3)) all_nodes in
      let body : Bound names (length t3.0.vars) (a_block f.body ∷ below_block f.body) =
      behind_of names (length t3.0.vars) (within_type f.result) (a_block f.body ∷ below_block f.body) (omega (arith, n4, cr, cp, none)) inner in
      let B = body_taken C I N M small few_loops S names (entered [] b1.0.bindings) vs [] (child [] (body_at (number (length f.params)) f.result)) f.body t3.0 t w body t3.2 in
      let cb = B.count in
      let grown = B.grown ∙ ap (λ (l : List NodeNames). l ++ B.added) (R.grown ∙ ap (λ (l : List NodeNames). l ++ R.added) (P.part.grown ∙ ap (λ (l : List NodeNames). l ++ P.part.added) (E.grown ∙ ap (λ (l : List NodeNames). l ++ E.added) no_names))) in
      let all : t.names ≡ E.added ++ (P.part.added ++ (R.added ++ B.added)) =
      grown ∙ append_assoc (E.added ++ P.part.added) R.added B.added ∙ append_assoc E.added P.part.added (R.added ++ B.added) in
      let most3 : length t3.0.vars ≤ N = omega (arith, cb) in
      let most2 : length b1.0.tables.vars ≤ N = omega (arith, cr, most3) in
      let most1 : length t1.0.vars ≤ N = omega (arith, cp, most2) in
      numbered_function t0 t E.added P.part.added R.added B.added t1.0 b1.0.tables t3.0 (numbering.begins t.names) P.numbers (E.numbers most1) (P.part.numbers most2) (R.numbers most3) (B.numbers (omega arith) (omega arith)) (sym z, sym z) all refl refl no_loops3
    where
      parameters_below : (n m : ℕ) → n ≡ m + length f.params → (xs : List ℕ) → xs ≡ from m f.params → Below n (reverse xs ++ [])
      parameters_below n m e xs is x i =
          among_split x (reverse xs) [] (x < n) i (λ j. let k = from_most m f.params x (subst (λ (l : List ℕ). Among x l) is (among_reversed x xs j)) in omega (arith, k, e)) (λ j. absurd (none_among j))

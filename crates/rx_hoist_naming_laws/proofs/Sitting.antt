-- A run of the text sits in the typed tree of its function: the way to its block, from the function's item on, leads to a block of the
-- typed tree, by its number; it has as many statements, so it has those of the run.
use Rattle.std.proofs.Common.{◌≡◌, ◌≢◌, ℕ, zero, suc, ◌+◌, ◌-◌, ◌<◌, ◌≤◌, Bool, true, false, List, [], ◌∷◌, ◌++◌, length, map, Option, Some, None, option_map, slice_get, refl, sym, ap, subst, ◌∙◌, arith, length-append, eqb-true, eq-eqb}
use Rattle.std.specs.Prelude.{◌==◌}
use Rattle.std.proofs.lemmas.List.{length-map}
use Rattle.std.proofs.lemmas.Option.{slice_get-map}
use Rattle.rx_core.specs.declared.types.Span.{Span}
use Rattle.rx_tree.specs.Plain as plain
use Rattle.rx_tree.specs.Plain.{TypeTree, TypeTrees, OptionalExpression, Parameter, Function, FieldOf, VariantOf, ItemTree, ProgramTree}
use Rattle.rx_tree.specs.Lists.{listed, statements, nth, statement_span}
use Rattle.rx_tree.specs.Positions.{NodeTree, an_item, a_type, a_block, type_nodes, declared_nodes, variant_nodes, parameter_nodes, optional_type_nodes, descend, node_at, children}
use Rattle.rx_lex.specs.Tok.{Tok}
use Rattle.rx_resolve_names.specs.declared.resolved.ItemNames.{ItemNames}
use Rattle.rx_resolve_names.specs.declared.resolved.NodeNames.{NodeNames}
use Rattle.rx_typed.specs.declared.nodes.Site.{Site}
use Rattle.rx_typed.specs.declared.nodes.Stage.{Stage}
use Rattle.rx_typed.specs.Named as named
use Rattle.rx_typed.specs.Named.{body_node, body_never, never}
use Rattle.rx_typed.specs.Naming as naming
use Rattle.rx_typed.specs.Naming.{Cursor, a_node, function_named}
use Rattle.rx_typed.specs.Elaborated as elaborated
use Rattle.rx_typed.specs.Elaborated.{Assigned, elaborated as elaborated_function, function_body}
use Rattle.rx_typed.specs.Tree as tree
use Rattle.rx_typed.specs.PlainTree.{plain-TypedTree}
use Rattle.rx_typed_runs.specs.declared.runs.RunPos.{RunPos}
use Rattle.rx_typeck_solver.specs.declared.facts.Op.TheVariants as op
use Rattle.rx_typeck_solver.specs.declared.facts.Demand.{Demand}
use Rattle.rx_typeck_solver.specs.Facts.{Assignment, KnownItems, MeetsEach}
use Rattle.rx_typeck_typed.specs.Asking.{◌>>◌}
use Rattle.rx_typeck_typed.specs.Demands as rules
use Rattle.rx_typeck_typed.specs.declared.typed.Typed.{Typed}
use Rattle.rx_typeck_typed.specs.declared.typed.TypedFn.{TypedFn}
use Rattle.rx_typeck_typed.specs.Typing.{Given, known_in, assigned, entries, variables_at, FunctionTyped, FunctionsTyped, IsTyped}
use Rattle.rx_lower_walks.specs.Walks.{Among, here, there}
use Rattle.rx_exits_plan.specs.Blocks.{statements as typed_statements}
use Rattle.rx_exits_plan.specs.Spots.{Around, Spot, a_block as spot_block, a_return, outermost, spots, spots_of, spots_of_function}
use Rattle.rx_exits_plan.specs.Runs.{Run, Home, Sits}
use Rattle.rx_select.specs.RunOf.{RunOf}
use Rattle.rx_select.specs.Parts.{parts_of, tail_place, end_of}
use Rattle.rx_hoist_nodes.specs.Nodes.{in_front, number_at}
use Rattle.rx_hoist_blocks.proofs.Blocks.{nowhere}
use Rattle.rx_hoist_blocks.proofs.Parts.{type_walked}
use Rattle.rx_hoist_blocks.proofs.Functions.{typed_block}
use Rattle.rx_hoist_nodes.specs.TypedRun.{typed_run, statements_from}

-- ---- the functions of a program

record At (G : Given) (ns : List ItemNames) (i : ℕ) (is : ProgramTree) (t : TypedFn) : Type 0 where
  number : ℕ
  span : Span
  function : Function
  at : slice_get is number ≡ Some (plain.function_item span function)
  typed : FunctionTyped G (i + number) span function (entries (slice_get ns (i + number))) (variables_at (slice_get ns (i + number))) t

later : (G : Given) (ns : List ItemNames) (i : ℕ) (x : ItemTree) (is : ProgramTree) (t : TypedFn) → At G ns (suc i) is t → At G ns i (x ∷ is) t
later G ns i x is t a = record {
  number = suc a.number;
  span = a.span;
  function = a.function;
  at = a.at;
  typed = let same : suc i + a.number ≡ i + suc a.number = omega arith in
      subst (λ (n : ℕ). FunctionTyped G n a.span a.function (entries (slice_get ns n)) (variables_at (slice_get ns n)) t) same a.typed;
}

each_at : (G : Given) (ns : List ItemNames) (i : ℕ) (is : ProgramTree) (ts : List TypedFn) → FunctionsTyped G ns i is ts → (t : TypedFn) → Among t ts → At G ns i is t
each_at G ns i [] ts h t a = absurd (elim (subst (λ (l : List TypedFn). Among t l) h a) [ ])
each_at G ns i (plain.rt_item a b ∷ is) ts h t x = later G ns i _ is t (each_at G ns (suc i) is ts h t x)
each_at G ns i (plain.struct_item a b ∷ is) ts h t x = later G ns i _ is t (each_at G ns (suc i) is ts h t x)
each_at G ns i (plain.enum_item a b ∷ is) ts h t x = later G ns i _ is t (each_at G ns (suc i) is ts h t x)
each_at G ns i (plain.function_item s f ∷ is) [] h t x = absurd h
each_at G ns i (plain.function_item s f ∷ is) (_ ∷ ts) h t here = record {
  number = 0;
  span = s;
  function = f;
  at = refl;
  typed = let same : i ≡ i + 0 = omega arith in
      subst (λ (n : ℕ). FunctionTyped G n s f (entries (slice_get ns n)) (variables_at (slice_get ns n)) t) same h.0;
}
each_at G ns i (plain.function_item s f ∷ is) (_ ∷ ts) h t (there x) = later G ns i _ is t (each_at G ns (suc i) is ts h.1 t x)

record Its (i k : ℕ) (ts : List TypedFn) : Type 0 where
  function : TypedFn
  among : Among function ts
  item : function.item ≡ i + k

its_later : (i k : ℕ) (ts : List TypedFn) → Its (suc i) k ts → Its i (suc k) ts
its_later i k ts x = record { function = x.function; among = x.among; item = let e = x.item in omega (arith, e) }

its : (G : Given) (ns : List ItemNames) (i : ℕ) (is : ProgramTree) (ts : List TypedFn) → FunctionsTyped G ns i is ts → (k : ℕ) (s : Span) (f : Function)
    → slice_get is k ≡ Some (plain.function_item s f) → Its i k ts
its G ns i [] ts h k s f e = absurd (cc)
its G ns i (plain.rt_item a b ∷ is) ts h zero s f e = absurd (cc)
its G ns i (plain.struct_item a b ∷ is) ts h zero s f e = absurd (cc)
its G ns i (plain.enum_item a b ∷ is) ts h zero s f e = absurd (cc)
its G ns i (plain.rt_item a b ∷ is) ts h (suc k) s f e = its_later i k ts (its G ns (suc i) is ts h k s f e)
its G ns i (plain.struct_item a b ∷ is) ts h (suc k) s f e = its_later i k ts (its G ns (suc i) is ts h k s f e)
its G ns i (plain.enum_item a b ∷ is) ts h (suc k) s f e = its_later i k ts (its G ns (suc i) is ts h k s f e)
its G ns i (plain.function_item a b ∷ is) [] h k s f e = absurd h
its G ns i (plain.function_item a b ∷ is) (t ∷ ts) h zero s f e = record { function = t; among = here; item = let n = h.0.item in omega (arith, n) }
its G ns i (plain.function_item a b ∷ is) (t ∷ ts) h (suc k) s f e =
    let x = its_later i k ts (its G ns (suc i) is ts h.1 k s f e) in record { function = x.function; among = there x.among; item = x.item }

-- ---- the parts of a block

tail_long : (at : ℕ) (o : OptionalExpression) (close : ℕ) → length (tail_place at o close) ≤ 1
tail_long at plain.absent close = omega arith
tail_long at (plain.present e) close = omega arith

parts_long : (b : plain.Body) → length (parts_of b) ≤ suc (length (statements b))
parts_long (plain.body s ss o) =
    let at = end_of (s.start + 1) (listed ss) in
    let t = tail_long at o (s.end - 1) in
    let a = length-append (map statement_span (listed ss)) (tail_place at o (s.end - 1)) in
    let m = length-map (listed ss) statement_span in
    omega (arith, t, a, m)

nth_within : {B : Type 0} (l : List B) (n : ℕ) (x : B) → nth l n ≡ Some x → n < length l
nth_within [] n x e = absurd (cc)
nth_within (y ∷ l) zero x e = omega arith
nth_within (y ∷ l) (suc n) x e = let h = nth_within l n x e in omega (arith, h)

-- ---- the run

record Fits (r : RunPos) (long : ℕ) (tail : Bool) : Type 0 where
  fits : r.first + statements_from r.first r.last tail ≤ long
  some : (tail ≡ false) → 0 < statements_from r.first r.last tail
  whole : (tail ≡ true) → r.first + statements_from r.first r.last tail ≡ long

fits_with : (r : RunPos) (long : ℕ) (tail : Bool) → r.first ≤ r.last → r.last < suc long → tail ≡ (r.last == long) → Fits r long tail
fits_with r long true l u e =
    let same : r.last ≡ long = eqb-true r.last long (sym e) in
    record { fits = omega (arith, l, same); some = λ e. absurd (cc); whole = λ _. omega (arith, l, same) }
fits_with r long false l u e =
    let other : r.last ≢ long = λ same. let clash : true ≡ false = sym (eq-eqb r.last long same) ∙ sym e in cc in
    record { fits = omega (arith, l, u, other); some = λ _. omega (arith, l); whole = λ e. absurd (cc) }

module _ (bytes : ℕ) (ts : List Tok) (start end : ℕ) where
  sits_in : (G : Given) (p : ProgramTree) (i : ℕ) (s : Span) (f : Function) (ns : List NodeNames) (vs : List Span) (t : TypedFn) (r : RunPos) → FunctionTyped G i s f ns vs t
      → RunOf bytes ts p start end r → slice_get p r.function ≡ Some (plain.function_item s f) → (h : Home) × Sits (plain-TypedTree t.tree) (typed_run p r) h
  sits_in G p i s f ns vs t r typed run at =
      let K = known_in G in
      let A = typed.types in
      let T = assigned K A in
      let F = elaborated_function T (function_named i s f ns) in
      let here_is : slice_get (map an_item p) r.function ≡ Some (an_item (plain.function_item s f)) = slice_get-map an_item p r.function ∙ ap (option_map an_item) at in
      let way : descend (Some (an_item (plain.function_item s f))) r.block.path ≡ Some (a_block run.block) = ap (λ (o : Option NodeTree). descend o r.block.path) (sym here_is) ∙ run.at in
      let x = typed_block K A T i s f ns typed.valid.prefers.typed r.block.path run.block way in
      let number : length (in_front (Some (an_item (plain.function_item s f))) r.block.path) ≡ number_at p r.block.item r.block.path =
      ap (λ (o : Option NodeTree). length (in_front o r.block.path)) (sym here_is) ∙ ap (λ (k : ℕ). number_at p k r.block.path) (sym run.item) in
      let long = x.long in
      let bound = parts_long run.block in
      let within = nth_within (parts_of run.block) r.last run.b run.last in
      let q = fits_with r (length (statements run.block)) r.tail run.forward (omega (arith, bound, within)) run.tail in
      let home : Home = record { around = x.around; body = x.body } in (
        home,
        subst (λ (g : tree.Function). Sits g (typed_run p r) home) (sym typed.tree) (record {
          block = subst (λ (n : ℕ). Among (spot_block home.around n home.body) (spots_of_function F)) number x.among;
          fits = subst (λ (n : ℕ). r.first + statements_from r.first r.last r.tail ≤ n) (sym long) q.fits;
          some = q.some;
          whole = λ e. q.whole e ∙ sym long;
        }),
      )

-- ---- a program

pub each_sits : (p : ProgramTree) (names : List ItemNames) (t : Typed) (bytes : ℕ) (ts : List Tok) (start end : ℕ) (r : RunPos) → IsTyped p names t → RunOf bytes ts p start end r
    → (f : TypedFn) → Among f t.functions → f.item ≡ r.function → (h : Home) × Sits (plain-TypedTree f.tree) (typed_run p r) h
each_sits p names t bytes ts start end r typed run f a e =
    let G : Given = record { program = p; declared = typed.declared; sizes = typed.sizes } in
    let x = each_at G names 0 p t.functions typed.functions f a in
    let i = x.typed.item in
    let same : x.number ≡ r.function = omega (arith, i, e) in
    sits_in bytes ts start end G p (0 + x.number) x.span x.function _ _ f r x.typed run (subst (λ (n : ℕ). slice_get p n ≡ Some (plain.function_item x.span x.function)) same x.at)

-- ---- only a function has a block

no_block_in_type : (y : TypeTree) (ks : List ℕ) (b : plain.Body) → descend (Some (a_type y)) ks ≡ Some (a_block b) → ⊥
no_block_in_type y ks b e = nowhere _ _ ((type_walked y (naming.begins []) (λ a. [])).has ks b e)

abbrev NoBlocks : List NodeTree → Type 0
NoBlocks ns = (k : ℕ) (ks : List ℕ) (b : plain.Body) → descend (slice_get ns k) ks ≡ Some (a_block b) → ⊥

none_in_types : (ys : TypeTrees) (ns : List NodeTree) → NoBlocks ns → NoBlocks (type_nodes ys ++ ns)
none_in_types plain.no_type ns rest k ks b e = rest k ks b e
none_in_types (plain.type_and y ys) ns rest zero ks b e = no_block_in_type y ks b e
none_in_types (plain.type_and y ys) ns rest (suc k) ks b e = none_in_types ys ns rest k ks b e

none_in_fields : (fs : List FieldOf) → NoBlocks (declared_nodes fs)
none_in_fields [] k ks b e = absurd (cc)
none_in_fields (x ∷ fs) zero ks b e = no_block_in_type x.typ ks b e
none_in_fields (x ∷ fs) (suc k) ks b e = none_in_fields fs k ks b e

none_in_variants : (vs : List VariantOf) → NoBlocks (variant_nodes vs)
none_in_variants [] k ks b e = absurd (cc)
none_in_variants (v ∷ vs) k ks b e = none_in_types v.types (variant_nodes vs) (none_in_variants vs) k ks b e

record IsFunction (i : ItemTree) : Type 0 where
  span : Span
  function : Function
  is : i ≡ plain.function_item span function

item_of_block : (i : ItemTree) (ks : List ℕ) (b : plain.Body) → descend (Some (an_item i)) ks ≡ Some (a_block b) → IsFunction i
item_of_block (plain.function_item s f) ks b e = record { span = s; function = f; is = refl }
item_of_block (plain.rt_item s r) [] b e = absurd (cc)
item_of_block (plain.rt_item s r) (k ∷ ks) b e = absurd (cc)
item_of_block (plain.struct_item s x) [] b e = absurd (cc)
item_of_block (plain.struct_item s x) (k ∷ ks) b e = absurd (none_in_fields x.fields k ks b e)
item_of_block (plain.enum_item s x) [] b e = absurd (cc)
item_of_block (plain.enum_item s x) (k ∷ ks) b e = absurd (none_in_variants x.variants k ks b e)

pub some_sits : (p : ProgramTree) (names : List ItemNames) (t : Typed) (bytes : ℕ) (ts : List Tok) (start end : ℕ) (r : RunPos) → IsTyped p names t → RunOf bytes ts p start end r
    → (f : TypedFn) × Among f t.functions × (f.item ≡ r.function)
some_sits p names t bytes ts start end r typed run =
    found (slice_get p r.function) refl
  where
    G : Given
    G = record { program = p; declared = typed.declared; sizes = typed.sizes }

    found : (o : Option ItemTree) → slice_get p r.function ≡ o → (f : TypedFn) × Among f t.functions × (f.item ≡ r.function)
    found None e =
        let none : slice_get (map an_item p) r.function ≡ None = slice_get-map an_item p r.function ∙ ap (option_map an_item) e in
        let clash : descend None r.block.path ≡ Some (a_block run.block) = ap (λ (o : Option NodeTree). descend o r.block.path) (sym none) ∙ run.at in
        absurd (cc)
    found (Some i) e =
        let some : slice_get (map an_item p) r.function ≡ Some (an_item i) = slice_get-map an_item p r.function ∙ ap (option_map an_item) e in
        let way : descend (Some (an_item i)) r.block.path ≡ Some (a_block run.block) = ap (λ (o : Option NodeTree). descend o r.block.path) (sym some) ∙ run.at in
        let x = item_of_block i r.block.path run.block way in
        let y = its G names 0 p t.functions typed.functions r.function x.span x.function (e ∙ ap (λ (j : ItemTree). Some j) x.is) in
        let n = y.item in
        (y.function, y.among, omega (arith, n))

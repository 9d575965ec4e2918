-- The blocks of a function of a typed program whose names have a meaning, in the typed tree: from the function's item on.
use Rattle.std.proofs.Common.{◌≡◌, ℕ, zero, suc, ◌+◌, ◌≤◌, List, [], ◌∷◌, ◌++◌, length, map, reverse, Option, Some, slice_get, refl, sym, ap, ◌∙◌, subst, length-append, arith, inr}
use Rattle.rx_core.specs.declared.types.Span.{Span}
use Rattle.rx_tree.specs.declared.tree.Ident.{Ident}
use Rattle.rx_tree.specs.Plain as plain
use Rattle.rx_tree.specs.Plain.{Function, ItemTree, Parameter, ProgramTree}
use Rattle.rx_tree.specs.Positions.{NodeTree, an_item, a_block, a_type, descend, optional_nodes, optional_type_nodes, parameter_nodes}
use Rattle.rx_tree.specs.Nodes.{below_block, below_item, nodes, total, within_parameters, within_type}
use Rattle.rx_tree.specs.Size.{loops_at, IsNumbered}
use Rattle.rx_tree.proofs.NodesLaws.{total_both}
use Rattle.rx_resolve_names.specs.declared.resolved.ItemNames.{ItemNames}
use Rattle.rx_resolve_names.specs.Meant.{Around, number, firsts, lifetimes_declared}
use Rattle.rx_resolve_names.specs.Steps.{Inside}
use Rattle.rx_resolve_names.specs.Causes.{Meant}
use Rattle.rx_typed.specs.PlainTypes.{declarations}
use Rattle.rx_typed.specs.Named as named
use Rattle.rx_typed.specs.Naming.{function_named}
use Rattle.rx_typed.specs.Elaborated as elaborated
use Rattle.rx_typed.specs.Elaborated.{Assigned, parameters}
use Rattle.rx_typed.specs.Tree as tree
use Rattle.rx_typed_declarations.specs.WellFormed.{WellSigned}
use Rattle.rx_typed_declarations.specs.Sizes.{Sized, told}
use Rattle.rx_typeck_typed.specs.declared.typed.Typed.{Typed}
use Rattle.rx_typeck_typed.specs.declared.typed.TypedFn.{TypedFn}
use Rattle.rx_typeck_typed.specs.Typing.{Given, known_in, assigned, IsTyped}
use Rattle.rx_lower_walks.specs.Walks.{Among}
use Rattle.rx_exits_plan.specs.Spots as spots
use Rattle.rx_exits_plan.specs.Spots.{Spot, outermost, spots_of_function}
use Rattle.rx_hoist_extraction.specs.Run.{labels_on}
use Rattle.rx_hoist_nodes.specs.Nodes.{within, within_all, in_front}
use Rattle.rx_hoist_naming.specs.DeclaredNames.{declared_names}
use Rattle.rx_hoist_naming.proofs.Counting.{names_few}
use Rattle.rx_hoist_naming.proofs.Declaring.{of_program, sees, kinds}
use Rattle.rx_hoist_naming.proofs.Programs as programs
use Rattle.rx_hoist_meant.specs.Stands as stands
use Rattle.rx_hoist_meant.specs.Stands.{loop_labels, StandsBody}
use Rattle.rx_hoist_meant.specs.Placed.{PlacedBody}
use Rattle.rx_hoist_meant.specs.Functions.{FunctionStands, in_scope_of}
use Rattle.rx_hoist_meant.specs.Scoped.{Alike, BlockScoped, ScopedBlock}
use Rattle.rx_hoist_meant.proofs.Patterns.{among_left}
use Rattle.rx_hoist_meant.proofs.Functions.{function_stands, within_both}
use Rattle.rx_hoist_meant.proofs.Places.{function_placed}
use Rattle.rx_hoist_meant.proofs.Blocks as blocks
use Rattle.rx_hoist_meant.proofs.Blocks.{Walked, WalkedAll}
use Rattle.rx_hoist_meant.proofs.Rising.{function_rises, one_block}

-- the loops of a function are some of the program's
body_few : (p : ProgramTree) (n : ℕ) (s : Span) (f : Function) → slice_get p n ≡ Some (plain.function_item s f) → total loops_at (below_block f.body) ≤ total loops_at (nodes p)
body_few [] n s f e = absurd (cc)
body_few (i ∷ p) zero s f e =
    let q : plain.function_item s f ≡ i = cc in
    subst (λ (j : ItemTree). total loops_at (below_block f.body) ≤ total loops_at (nodes (j ∷ p))) q here_few
  where
    here_few : total loops_at (below_block f.body) ≤ total loops_at (nodes (plain.function_item s f ∷ p))
    here_few =
        let rest = within_type f.result ++ (a_block f.body ∷ below_block f.body) in
        let a = total_both loops_at (within_parameters f.params ++ rest) (nodes p) in
        let b = total_both loops_at (within_parameters f.params) rest in
        let c = total_both loops_at (within_type f.result) (a_block f.body ∷ below_block f.body) in
        omega (arith, a, b, c)
body_few (i ∷ p) (suc n) s f e = let h = body_few p n s f e in let a = total_both loops_at (below_item i) (nodes p) in omega (arith, h, a)

parameters_are : (xs : List named.Parameter) → map (λ (p : tree.Parameter). p.variable) (parameters xs) ≡ map (λ (p : named.Parameter). p.variable) xs
parameters_are [] = refl
parameters_are (x ∷ xs) = ap (λ (l : List ℕ). x.variable ∷ l) (parameters_are xs)

no_item_block : (i : ItemTree) (b : plain.Body) → an_item i ≡ a_block b → ⊥
no_item_block i b e = cc

module _ (I : Inside) (names : List (List ℕ)) (T : Assigned) where
  -- the body of a function, whose tail is handed to the caller
  body_of_function : {vs : List ℕ} {ls : List Around} {i j : ℕ} {b : plain.Body} {B : named.Body} → StandsBody I names vs ls i j b B → PlacedBody B → (ar : spots.Around) → Alike ar vs ls
      → Walked I names T (a_block b) i j (spots.spots ar (elaborated.function_body T B)) (loop_labels ls)
  body_of_function (stands.s_body {i = i} {j = j} {n = n} {xs = xs} {o = o} {O = O} q c g h) p ar k =
      let e = elaborated.tail T n O in
      let last = tree.give (elaborated.no_mark n) e in
      blocks.block_at I names T (stands.s_body q c g h) q p last (inr refl) ar k
      (blocks.row_walked I names T g p.0 last ar k (optional_nodes o) j (λ a' m. blocks.goes I names T (λ s i. among_left (spots.spots a' e) (spots.a_return a' n.number ∷ []) i) (blocks.tail_walked I names T n h p.1 a' m)))

  parameter_row : (xs : List Parameter) (i k j : ℕ) (l : List Spot) (ns : List NodeTree) → k ≡ i + length (within_all (parameter_nodes xs)) → WalkedAll I names T ns k j l [] → WalkedAll I names T (parameter_nodes xs ++ ns) i j l []
  parameter_row [] i k j l ns e w = let same : k ≡ i = omega (arith, e) in subst (λ (x : ℕ). WalkedAll I names T ns x j l []) same w
  parameter_row (x ∷ xs) i k j l ns e w =
      let q = length-append (within (a_type x.typ)) (within_all (parameter_nodes xs)) in
      blocks.child_and I names T (blocks.type_walked I names T x.typ i l) (parameter_row xs (i + length (within (a_type x.typ))) k j l ns (omega (arith, e, q)) w)

function_blocks : (I : Inside) (T : Assigned) (s : Span) (f : Function) (F : named.Function) → FunctionStands I s f F → PlacedBody F.body → (path : List ℕ) (b : plain.Body) → descend (Some (an_item (plain.function_item s f))) path ≡ Some (a_block b)
    → ScopedBlock I (declared_names (Some (plain.function_item s f))) T (length (in_front (Some (an_item (plain.function_item s f))) path)) b (spots_of_function (elaborated.elaborated T F)) (labels_on (Some (an_item (plain.function_item s f))) path [])
function_blocks I T s f F h p path b e =
    let names = declared_names (Some (plain.function_item s f)) in
    let ar = outermost (elaborated.elaborated T F) in
    let alike : Alike ar (in_scope_of F) [] = record { scope = ap (λ (l : List ℕ). reverse l ++ []) (parameters_are F.params); loops = refl; apart = tt } in
    let l = spots_of_function (elaborated.elaborated T F) in
    let k1 = 1 + length (within_all (parameter_nodes f.params)) in
    let both = within_both (parameter_nodes f.params) (optional_type_nodes f.result) in
    let size = h.size in
    let w = body_of_function I names T h.body p ar alike in
    let item : Walked I names T (an_item (plain.function_item s f)) 0 h.behind l [] =
    blocks.node_with I names T (no_item_block (plain.function_item s f)) (parameter_row I names T f.params 1 k1 h.behind l (optional_type_nodes f.result ++ (a_block f.body ∷ [])) refl
    (blocks.type_row I names T f.result k1 h.first h.behind l (a_block f.body ∷ []) (omega (arith, both, size)) (blocks.one_child I names T w))) in
    let x = item.has path b e in
    let same : 0 + length (in_front (Some (an_item (plain.function_item s f))) path) ≡ length (in_front (Some (an_item (plain.function_item s f))) path) = omega arith in
    subst (λ (n : ℕ). ScopedBlock I names T n b l (labels_on (Some (an_item (plain.function_item s f))) path [])) same x

function_alone : (I : Inside) (T : Assigned) (s : Span) (f : Function) (F : named.Function) → FunctionStands I s f F → PlacedBody F.body → (a c : spots.Around) (n : ℕ) (x y : tree.Body)
    → Among (spots.a_block a n x) (spots_of_function (elaborated.elaborated T F)) → Among (spots.a_block c n y) (spots_of_function (elaborated.elaborated T F)) → (a ≡ c) × (x ≡ y)
function_alone I T s f F h p a c n x y i j =
    one_block h.first h.behind (spots_of_function (elaborated.elaborated T F)) a c n x y (function_rises I (declared_names (Some (plain.function_item s f))) T h.body p (outermost (elaborated.elaborated T F))) i j

-- ---- in a program

module _ (p : ProgramTree) (ns : List ItemNames) (t : Typed) (few : IsNumbered p) (meant : Meant p ns) (typed : IsTyped p ns t) (signed : WellSigned t.decls.items)
    (sized : Sized (declarations typed.declared) (told typed.sizes)) where
  pub scoped : (g : TypedFn) → Among g t.functions → (s : Span) (f : Function) → slice_get p g.item ≡ Some (plain.function_item s f) → BlockScoped p g s f
  scoped g a s f at =
      let x = programs.text p ns t few meant typed signed sized g a in
      let G : Given = record { program = p; declared = typed.declared; sizes = typed.sizes } in
      let K = known_in G in
      let D = declarations typed.declared in
      let N = length x.table.vars in
      let i = plain.function_item x.span x.function in
      let I : Inside = record { program = p; item = number x.number; lifetimes = firsts [] 0 (lifetimes_declared i) } in
      let t0 : ItemNames = record { vars = []; lifetimes = map (λ (l : Ident). l.span) (lifetimes_declared i); loops = []; names = [] } in
      let S = sees I D N (λ j. kinds p ns 0 p typed.declared typed.declares.items j) in
      let c = x.taken.count in
      let there_is = ap (λ (o : Option ItemTree). length (declared_names o)) x.at in
      let most = names_few p x.number in
      let bindings = few.bindings in
      let loops = few.loops in
      let own = body_few p x.number x.span x.function x.at in
      let small : N ≤ 4294967295 = omega (arith, c, there_is, most, bindings) in
      let little : total loops_at (below_block x.function.body) ≤ 4294967295 = omega (arith, own, loops) in
      let F = function_named x.number x.span x.function x.table.names in
      let h = function_stands (of_program D N) I x.span x.function x.number t0 x.table refl refl refl small little S x.named in
      let A = x.checked.types in
      let T = assigned K A in
      let placed = function_placed (of_program D N) K A F x.taken.claims x.checked.valid.prefers.typed in
      let item : i ≡ plain.function_item s f = one_item i (plain.function_item s f) (sym (ap (λ (n : ℕ). slice_get p n) x.checked.item ∙ x.at) ∙ at) in
      let whole : BlockScoped p g x.span x.function = record {
        types = T;
        block = λ path b e. subst (λ (u : tree.Function). ScopedBlock (record { program = p; item = number g.item; lifetimes = firsts [] 0 (lifetimes_declared i) }) (declared_names (Some i)) T (length (in_front (Some (an_item i)) path)) b (spots_of_function u) (labels_on (Some (an_item i)) path [])) (sym x.checked.tree)
            (subst (λ (n : ℕ). ScopedBlock (record { program = p; item = number n; lifetimes = firsts [] 0 (lifetimes_declared i) }) (declared_names (Some i)) T (length (in_front (Some (an_item i)) path)) b (spots_of_function (elaborated.elaborated T F)) (labels_on (Some (an_item i)) path [])) (sym x.checked.item)
            (function_blocks I T x.span x.function F h placed path b e));
        alone = λ b d n y z j k.
            function_alone I T x.span x.function F h placed b d n y z (subst (λ (u : tree.Function). Among (spots.a_block b n y) (spots_of_function u)) x.checked.tree j)
            (subst (λ (u : tree.Function). Among (spots.a_block d n z) (spots_of_function u)) x.checked.tree k);
      } in
      let same_span : x.span ≡ s = cc in
      let same_function : x.function ≡ f = cc in
      subst (λ (h : Function). BlockScoped p g s h) same_function (subst (λ (r : Span). BlockScoped p g r x.function) same_span whole)
    where
      one_item : (i j : ItemTree) → ◌≡◌ {A = Option ItemTree} (Some i) (Some j) → i ≡ j
      one_item i j e = cc

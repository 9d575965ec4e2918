-- The functions of a typed program whose names have a meaning: each name means, where it stands, what it names. Its variables are few.
use Rattle.std.proofs.Common.{◌≡◌, ℕ, ◌≤◌, List, [], ◌∷◌, ◌++◌, length, map, reverse, Option, Some, slice_get, refl, sym, ap, ◌∙◌, subst, arith}
use Rattle.rx_tree.specs.declared.tree.Ident.{Ident}
use Rattle.rx_tree.specs.Plain as plain
use Rattle.rx_tree.specs.Plain.{PatternTree, Parameter, Function, ItemTree, ProgramTree}
use Rattle.rx_tree.specs.Size.{IsNumbered}
use Rattle.rx_resolve_names.specs.declared.resolved.ItemNames.{ItemNames}
use Rattle.rx_resolve_names.specs.Meant.{number, firsts, lifetimes_declared}
use Rattle.rx_resolve_names.specs.Steps.{Inside}
use Rattle.rx_resolve_names.specs.Causes.{Meant}
use Rattle.rx_typed.specs.PlainTypes.{declarations}
use Rattle.rx_typed.specs.Named as named
use Rattle.rx_typed.specs.Naming.{function_named}
use Rattle.rx_typed.specs.Elaborated.{elaborated, parameters}
use Rattle.rx_typed.specs.Tree as tree
use Rattle.rx_typed.specs.PlainTree.{plain-TypedTree}
use Rattle.rx_typed_declarations.specs.WellFormed.{WellSigned}
use Rattle.rx_typed_declarations.specs.Sizes.{Sized, told}
use Rattle.rx_typeck_typed.specs.declared.typed.Typed.{Typed}
use Rattle.rx_typeck_typed.specs.declared.typed.TypedFn.{TypedFn}
use Rattle.rx_typeck_typed.specs.Typing.{Given, known_in, assigned, IsTyped}
use Rattle.rx_lower_walks.specs.Walks.{Among}
use Rattle.rx_exits.specs.Refusing.{same_name}
use Rattle.rx_exits_plan.specs.Spots.{outermost}
use Rattle.rx_hoist_naming.specs.DeclaredNames.{declared_names}
use Rattle.rx_hoist_naming.proofs.Counting.{names_few}
use Rattle.rx_hoist_naming.proofs.Declaring.{of_program, sees, kinds}
use Rattle.rx_hoist_naming.proofs.Programs as programs
use Rattle.rx_hoist_meant.specs.NamesMeant.{NamesMeant}
use Rattle.rx_hoist_meant.proofs.Scopes.{NBody}
use Rattle.rx_hoist_meant.proofs.NamedFunctions.{function_means}
use Rattle.rx_hoist_meant.proofs.TypedNames.{body_means}

-- ---- a function

parameters_are : (xs : List named.Parameter) → map (λ (p : tree.Parameter). p.variable) (parameters xs) ≡ map (λ (p : named.Parameter). p.variable) xs
parameters_are [] = refl
parameters_are (x ∷ xs) = ap (λ (l : List ℕ). x.variable ∷ l) (parameters_are xs)

module _ (p : ProgramTree) (ns : List ItemNames) (t : Typed) (few : IsNumbered p) (meant : Meant p ns) (typed : IsTyped p ns t) (signed : WellSigned t.decls.items)
    (sized : Sized (declarations typed.declared) (told typed.sizes)) where
  pub means : (g : TypedFn) → Among g t.functions → NamesMeant (same_name (declared_names (slice_get p g.item))) (plain-TypedTree g.tree)
  means g a =
      let x = programs.text p ns t few meant typed signed sized g a in
      let G : Given = record { program = p; declared = typed.declared; sizes = typed.sizes } in
      let K = known_in G in
      let D = declarations typed.declared in
      let N = length x.table.vars in
      let i = plain.function_item x.span x.function in
      let names = declared_names (Some i) in
      let same = same_name names in
      let I : Inside = record { program = p; item = number x.number; lifetimes = firsts [] 0 (lifetimes_declared i) } in
      let t0 : ItemNames = record { vars = []; lifetimes = map (λ (l : Ident). l.span) (lifetimes_declared i); loops = []; names = [] } in
      let S = sees I D N (λ j. kinds p ns 0 p typed.declared typed.declares.items j) in
      let c = x.taken.count in
      let at = ap (λ (o : Option ItemTree). length (declared_names o)) x.at in
      let most = names_few p x.number in
      let bindings = few.bindings in
      let small : N ≤ 4294967295 = omega (arith, c, at, most, bindings) in
      let F = function_named x.number x.span x.function x.table.names in
      let m = function_means (of_program D N) I x.span x.function x.number t0 x.table refl refl small S x.named in
      let A = x.checked.types in
      let T = assigned K A in
      let scope : reverse (map (λ (p : named.Parameter). p.variable) F.params) ++ [] ≡ (outermost (elaborated T F)).scope = ap (λ (l : List ℕ). reverse l ++ []) (sym (parameters_are F.params)) in
      let whole : NamesMeant same (elaborated T F) =
      body_means (of_program D N) K A same F x.taken.claims x.checked.valid.prefers.typed (outermost (elaborated T F)) (subst (λ (vs : List ℕ). NBody same vs F.body) scope m) in
      let item : Some i ≡ slice_get p g.item = sym (ap (λ (n : ℕ). slice_get p n) x.checked.item ∙ x.at) in
      subst (λ (o : Option ItemTree). NamesMeant (same_name (declared_names o)) (plain-TypedTree g.tree)) item
      (subst (λ (f : tree.Function). NamesMeant same f) (sym x.checked.tree) whole)

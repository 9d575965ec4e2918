-- What was told has a type in the tables.
use Rattle.std.proofs.Common.{◌≡◌, ℕ, suc, Bool, List, [], ◌∷◌, length, Option, Some, None, refl, ap, ◌∙◌, arith, subst, ◌<◌}
use Rattle.std.proofs.lemmas.List.{length-map}
use Rattle.rx_core.specs.declared.types.Span.{Span}
use Rattle.rx_core.specs.declared.types.Ty.{Ty}
use Rattle.rx_tree.specs.Plain as plain
use Rattle.rx_tree.specs.Plain.{Function, ProgramTree}
use Rattle.rx_resolve_names.specs.declared.resolved.ItemNames.{ItemNames}
use Rattle.rx_resolve_names.specs.declared.resolved.NodeNames.{NodeNames}
use Rattle.rx_typed.specs.Named as named
use Rattle.rx_typed.specs.Naming.{function_named, function_variables}
use Rattle.rx_typeck_solver.specs.declared.facts.Subject.{Subject}
use Rattle.rx_typeck_solver.specs.declared.facts.Subject.TheVariants as subject
use Rattle.rx_typeck_solver.specs.Facts.{Assignment, KnownItems}
use Rattle.rx_typeck_solver.specs.Valid.{Told}
use Rattle.rx_typeck_typed.specs.Demands.{demands}
use Rattle.rx_typeck_typed.specs.declared.typed.Typed.{Typed}
use Rattle.rx_typeck_typed.specs.declared.typed.TypedFn.{TypedFn}
use Rattle.rx_typeck_typed.specs.Typing.{Given, known_in, is_mutable, type_at, TypeIs, FunctionTyped, FunctionsTyped, IsTyped}
use Rattle.rx_typeck_typed.specs.HaveTypes.{HasTypeInTables, AllTyped, EachTyped}
use Rattle.rx_typeck_typed.proofs.FunctionWalks.{variable_sure, node_sure}
use Rattle.rx_typeck_typed.proofs.Numbered.{all_numbered}

found_some : (K : KnownItems) (f : named.Function) (A : Assignment) (x : Subject) (o : Option Ty) → TypeIs K f A x o → Told (demands f) x → (ty : Ty) × (o ≡ Some ty)
found_some K f A x None h t = absurd (h t)
found_some K f A x (Some ty) h t = (ty, refl)

all_typed : (G : Given) (i : ℕ) (s : Span) (f : Function) (ns : List NodeNames) (vars : List Span) (t : TypedFn) → FunctionTyped G i s f ns vars t → AllTyped (function_named i s f ns) t
all_typed G i s f ns vars t typed =
    let K = known_in G in
    let F = function_named i s f ns in
    let met = typed.valid.prefers.typed in
    let has : (x : Subject) → Told (demands F) x → HasTypeInTables t x = λ x h. found_some K F typed.types x (type_at t x) (typed.found x) h in
    let size : length t.mutable ≡ length (function_variables s f ns) = ap (λ (l : List Bool). length l) typed.mutable ∙ length-map (function_variables s f ns) is_mutable in
    record {
      variables = λ x h. let v = variable_sure K typed.types i s f ns x (omega (arith, h, size)) in has (subject.Variable x) (v.is met);
      nodes = λ n h. let v = node_sure K typed.types i s f ns n h in has (subject.Node n) (v.is met);
      others = λ n h. all_numbered i s f ns n (subst (λ (l : List Span). n < length l) typed.spans h);
    }

each_typed : (G : Given) (ns : List ItemNames) (i : ℕ) (is : ProgramTree) (ts : List TypedFn) → FunctionsTyped G ns i is ts → EachTyped ns i is ts
each_typed G ns i [] ts h = tt
each_typed G ns i (plain.rt_item a b ∷ is) ts h = each_typed G ns (suc i) is ts h
each_typed G ns i (plain.struct_item a b ∷ is) ts h = each_typed G ns (suc i) is ts h
each_typed G ns i (plain.enum_item a b ∷ is) ts h = each_typed G ns (suc i) is ts h
each_typed G ns i (plain.function_item s f ∷ is) [] h = h
each_typed G ns i (plain.function_item s f ∷ is) (t ∷ ts) h = (all_typed G i s f _ _ t h.0, each_typed G ns (suc i) is ts h.1)

pub all_have_types : (p : ProgramTree) (ns : List ItemNames) (t : Typed) → IsTyped p ns t → EachTyped ns 0 p t.functions
all_have_types p ns t typed = each_typed _ ns 0 p t.functions typed.functions

-- The reads of a typed program's functions.
use Rattle.std.proofs.Common.{◌≡◌, ℕ, zero, suc, ◌<◌, Bool, List, [], ◌∷◌, length, map, Option, Some, None, option_map, slice_get, sym, ap, ◌∙◌, subst, arith}
use Rattle.std.proofs.lemmas.List.{length-map}
use Rattle.rx_core.specs.declared.types.Span.{Span}
use Rattle.rx_core.specs.declared.types.Ty.{Ty}
use Rattle.rx_tree.specs.Size.{IsNumbered}
use Rattle.rx_tree.specs.Plain as plain
use Rattle.rx_tree.specs.Plain.{ProgramTree, Function as FunctionTree}
use Rattle.rx_resolve_names.specs.declared.resolved.ItemNames.{ItemNames}
use Rattle.rx_resolve_names.specs.declared.resolved.NodeNames.{NodeNames}
use Rattle.rx_resolve_names.specs.Causes.{Meant}
use Rattle.rx_typed.specs.Types.{Typ, Declarations}
use Rattle.rx_typed.specs.PlainTypes.{plain-Ty, declarations}
use Rattle.rx_typed.specs.Naming.{function_named, function_variables}
use Rattle.rx_typed.specs.Elaborated.{elaborated}
use Rattle.rx_typed.specs.Tree.{Function}
use Rattle.rx_typed.specs.PlainTree.{plain-TypedTree}
use Rattle.rx_typed_declarations.specs.WellFormed.{WellSigned}
use Rattle.rx_typed_declarations.specs.Sizes.{Sized, told}
use Rattle.rx_typed_declarations.proofs.Polarities.{same_declared}
use Rattle.rx_lower.specs.Functions.{trimmed, trimmed_and}
use Rattle.rx_lower_walks.specs.Actions.{Act}
use Rattle.rx_lower_walks.specs.Orders.{order_function}
use Rattle.rx_lower_walks.specs.Walks.{Among, here, there}
use Rattle.rx_facts.specs.Functions.{frame_of}
use Rattle.rx_typeck_elaborate_parts.specs.Assigning.{joined}
use Rattle.rx_typeck_solver.specs.declared.facts.Subject.TheVariants as subject
use Rattle.rx_typeck_solver.specs.Facts.{KnownItems}
use Rattle.rx_typeck_typed.specs.declared.typed.Typed.{Typed}
use Rattle.rx_typeck_typed.specs.declared.typed.TypedFn.{TypedFn}
use Rattle.rx_typeck_typed.specs.Typing.{Given, known_in, assigned, is_mutable, TypeIs, FunctionTyped, FunctionsTyped, IsTyped}
use Rattle.rx_typeck_typed.specs.HaveTypes.{HasTypeInTables, EachTyped}
use Rattle.rx_hoist_naming.proofs.Declaring.{of_program}
use Rattle.rx_hoist_naming.proofs.Programs as words
use Rattle.rx_hoist_naming.proofs.Programs.{same_typ}
use Rattle.rx_repair.proofs.Sites.{function_sited}
use Rattle.rx_meaning_accepted.proofs.Holding.{of_among}
use Rattle.rx_meaning_accepted.proofs.Uses.{both_function}
use Rattle.rx_meaning_accepted.proofs.Declared.{IsMutable}
use Rattle.rx_meaning_accepted.proofs.Mutable.{uses_fit}
use Rattle.rx_engine_initial_typed.specs.ByType.{ReadsByType}
use Rattle.rx_engine_initial_reads.proofs.Trees.{Able, function_holds}

-- ---- tables

joined_some : {A : Type 0} (o : Option (Option A)) (a : A) → joined o ≡ Some a → o ≡ Some (Some a)
joined_some None a e = absurd (cc)
joined_some (Some o) a e = ap (λ z. Some z) e

trimmed_behind : {A : Type 0} (t : Option A) (l : List (Option A)) (x : ℕ) (a : A) → slice_get l x ≡ Some (Some a) → slice_get (trimmed_and t l) (suc x) ≡ Some (Some a)
trimmed_behind None [] x a e = absurd (cc)
trimmed_behind None (y ∷ l) x a e = e
trimmed_behind (Some t) l x a e = e

trimmed_at : {A : Type 0} (ts : List (Option A)) (x : ℕ) (a : A) → slice_get ts x ≡ Some (Some a) → slice_get (trimmed ts) x ≡ Some (Some a)
trimmed_at [] x a e = absurd (cc)
trimmed_at (None ∷ ts) zero a e = absurd (cc)
trimmed_at (Some t ∷ ts) zero a e = e
trimmed_at (t ∷ ts) (suc x) a e = trimmed_behind t (trimmed ts) x a (trimmed_at ts x a e)

mapped_at : {A B : Type 0} (f : A → B) (l : List A) (x : ℕ) (a : A) → slice_get l x ≡ Some a → slice_get (map f l) x ≡ Some (f a)
mapped_at f [] x a e = absurd (cc)
mapped_at f (y ∷ l) zero a e = ap (λ z. Some (f z)) (let q : y ≡ a = cc in q)
mapped_at f (y ∷ l) (suc x) a e = mapped_at f l x a e

each_variable : (G : Given) (ns : List ItemNames) (i : ℕ) (is : ProgramTree) (ts : List TypedFn) → FunctionsTyped G ns i is ts → EachTyped ns i is ts → (t : TypedFn) → Among t ts → (x : ℕ) → x < length t.mutable → HasTypeInTables t (subject.Variable x)
each_variable G ns i [] ts h k t a = absurd (elim (subst (λ (l : List TypedFn). Among t l) h a) [ ])
each_variable G ns i (plain.rt_item a b ∷ is) ts h k t y = each_variable G ns (suc i) is ts h k t y
each_variable G ns i (plain.struct_item a b ∷ is) ts h k t y = each_variable G ns (suc i) is ts h k t y
each_variable G ns i (plain.enum_item a b ∷ is) ts h k t y = each_variable G ns (suc i) is ts h k t y
each_variable G ns i (plain.function_item s f ∷ is) [] h k t y = absurd h
each_variable G ns i (plain.function_item s f ∷ is) (_ ∷ ts) h k t here = k.0.variables
each_variable G ns i (plain.function_item s f ∷ is) (_ ∷ ts) h k t (there y) = each_variable G ns (suc i) is ts h.1 k.1 t y

-- ---- a program

module _ (p : ProgramTree) (ns : List ItemNames) (t : Typed) (few : IsNumbered p) (meant : Meant p ns) (typed : IsTyped p ns t) (signed : WellSigned t.decls.items)
    (sized : Sized (declarations typed.declared) (told typed.sizes)) (all : EachTyped ns 0 p t.functions) where
  abbrev G : Given
  G = record { program = p; declared = typed.declared; sizes = typed.sizes }

  abbrev K : KnownItems
  K = known_in G

  same : declarations t.decls.items ≡ declarations typed.declared
  same = same_declared t.decls.items typed.declared typed.same

  -- the frame of a function has the types of the assignment
  variable_typed : (g : TypedFn) → Among g t.functions → (i : ℕ) (s : Span) (f : FunctionTree) (names : List NodeNames) (vars : List Span) → (h : FunctionTyped G i s f names vars g) → length (function_variables s f names) ≡ length vars
      → (x : ℕ) → x < length vars → slice_get (map (option_map plain-Ty) (trimmed g.variables)) x ≡ Some (Some (h.types (subject.Variable x)))
  variable_typed g a i s f names vars h count x l =
      let size : length g.mutable ≡ length (function_variables s f names) = ap (λ (l : List Bool). length l) h.mutable ∙ length-map (function_variables s f names) is_mutable in
      let v = each_variable G ns 0 p t.functions typed.functions all g a x (omega (arith, l, size, count)) in
      let z = subst (λ (o : Option Ty). TypeIs K (function_named i s f names) h.types (subject.Variable x) o) v.1 (h.found (subject.Variable x)) in
      mapped_at (option_map plain-Ty) (trimmed g.variables) x (Some v.0) (trimmed_at g.variables x v.0 (joined_some (slice_get g.variables x) v.0 v.1))
      ∙ ap (λ (u : Typ). Some (Some u)) (sym (same_typ K.items v.0 (h.types (subject.Variable x)) z.1))

  reads_here : (P : ℕ → ℕ) → Sized (declarations typed.declared) P → (g : TypedFn) → Among g t.functions → ReadsByType (frame_of (declarations typed.declared) P g) (order_function (plain-TypedTree g.tree))
  reads_here P Z g a =
      let x = words.text p ns t few meant typed signed sized g a in
      let N = length x.table.vars in
      let F = function_named x.number x.span x.function x.table.names in
      let A = x.checked.types in
      let M = IsMutable (function_variables x.span x.function x.table.names) in
      let claims = both_function (of_program K.items N) M F x.taken.claims (uses_fit x.number x.span x.function x.table.names) in
      let ts = map (option_map plain-Ty) (trimmed g.variables) in
      let vars = variable_typed g a x.number x.span x.function x.table.names x.table.vars x.checked x.taken.variables in
      let h = function_holds (of_program K.items N) M K A P ts Z vars F claims (function_sited x.number x.span x.function x.table.names) x.checked.valid.prefers.typed in
      subst (λ (f : Function). ReadsByType (frame_of (declarations typed.declared) P g) (order_function f)) (sym x.checked.tree) (record {
        each = λ b y q m d i e r. (subst (λ (z : Act). Able (of_program K.items N) M K A P ts Z vars z) e (of_among (Able (of_program K.items N) M K A P ts Z vars) (order_function (elaborated (assigned K A) F)) h b i)) y r;
      })

  pub reads_move : (P : ℕ → ℕ) → Sized (declarations t.decls.items) P → (g : TypedFn) → Among g t.functions → ReadsByType (frame_of (declarations t.decls.items) P g) (order_function (plain-TypedTree g.tree))
  reads_move P Z g a = subst (λ (D : Declarations). ReadsByType (frame_of D P g) (order_function (plain-TypedTree g.tree))) (sym same) (reads_here P (subst (λ (D : Declarations). Sized D P) same Z) g a)

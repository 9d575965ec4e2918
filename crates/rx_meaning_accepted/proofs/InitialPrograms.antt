-- The functions of a typed program whose names have a meaning are ready, and one that is initialised besides is as the laws of strict runs ask.
use Rattle.std.proofs.Common.{◌++◌, ◌≡◌, ℕ, zero, suc, ◌<◌, Bool, true, false, List, [], ◌∷◌, length, map, Option, Some, None, option_map, slice_get, refl, sym, ap, ◌∙◌, subst, arith}
use Rattle.std.proofs.lemmas.List.{length-map}
use Rattle.rx_core.specs.declared.types.Span.{Span}
use Rattle.rx_core.specs.declared.types.Ty.{Ty}
use Rattle.rx_tree.specs.Size.{IsNumbered}
use Rattle.rx_tree.specs.Plain as plain
use Rattle.rx_tree.specs.Plain.{ProgramTree, Function as FunctionTree}
use Rattle.rx_resolve_names.specs.declared.resolved.ItemNames.{ItemNames}
use Rattle.rx_resolve_names.specs.declared.resolved.NodeNames.{NodeNames}
use Rattle.rx_resolve_names.specs.Causes.{Meant}
use Rattle.rx_typed.specs.Types.{Typ, Declarations}
use Rattle.rx_typed.specs.PlainTypes.{plain-Ty, declarations}
use Rattle.rx_typed.specs.Naming.{function_named, function_variables}
use Rattle.rx_typed.specs.Elaborated.{Assigned, elaborated}
use Rattle.rx_typed.specs.Tree.{Place, variable, Temporary, lazy, Function, temporary_of}
use Rattle.rx_typed.specs.PlainTree.{plain-TypedTree}
use Rattle.rx_typed_declarations.specs.WellFormed.{WellSigned}
use Rattle.rx_typed_declarations.specs.Sizes.{Sized, told}
use Rattle.rx_typed_declarations.proofs.Polarities.{same_declared}
use Rattle.rx_lower.specs.Functions.{trimmed, trimmed_and}
use Rattle.rx_lower_walks.specs.Actions.{Call, Build, Write, Action, does}
use Rattle.rx_lower_walks.specs.Walks.{actions_in, Among, here, there, IsWalk}
use Rattle.rx_facts_tables.specs.Initialised.{Initialised}
use Rattle.rx_facts.specs.Passing.{AllAre}
use Rattle.rx_facts.specs.Functions.{frame_of, IsInitialised}
use Rattle.rx_typeck_elaborate_parts.specs.Assigning.{joined}
use Rattle.rx_typeck_solver.specs.declared.facts.Subject.TheVariants as subject
use Rattle.rx_typeck_solver.specs.Facts.{KnownItems}
use Rattle.rx_typeck_typed.specs.declared.typed.Typed.{Typed}
use Rattle.rx_typeck_typed.specs.declared.typed.TypedFn.{TypedFn}
use Rattle.rx_typeck_typed.specs.Typing.{Given, known_in, assigned, is_mutable, TypeIs, FunctionTyped, FunctionsTyped, IsTyped}
use Rattle.rx_typeck_typed.specs.HaveTypes.{HasTypeInTables, EachTyped}
use Rattle.rx_meaning.specs.Values.{element}
use Rattle.rx_machine.specs.Functions.{is_function, first_of, behind, typed_functions}
use Rattle.rx_meaning_keeping.specs.Formed.{Any, Formed, AllFormed}
use Rattle.rx_meaning_keeping.specs.Keeping.{IsFunction}
use Rattle.rx_meaning_keeping.specs.Ready.{HasPart, Ready, IsInitial}
use Rattle.rx_core.specs.declared.types.Step.{Step}
use Rattle.rx_lower_walks.specs.Orders.{order_function}
use Rattle.rx_facts_tables.specs.Places.{Frame}
use Rattle.rx_facts_tables.specs.Setting.{is_behind, looked_at}
use Rattle.rx_facts_tables.specs.Wholes.{is_all, placed}
use Rattle.rx_exits_plan.specs.Coming.{HasNoMark}
use Rattle.rx_hoist_naming.proofs.Declaring.{of_program}
use Rattle.rx_hoist_naming.proofs.Programs as words
use Rattle.rx_hoist_naming.proofs.Programs.{same_typ}
use Rattle.rx_meaning_accepted.specs.Frames.{next_of, functions_at, frame_by, mutable_by, frames, mutables}
use Rattle.rx_meaning_accepted.proofs.Facts.{CallFits}
use Rattle.rx_meaning_accepted.proofs.Having.{function_holds, ready_if, calls_fit, places_have_parts, no_mark, of_no_field, variable_has, parts_fit}
use Rattle.rx_meaning_accepted.proofs.Uses.{both_function}
use Rattle.rx_meaning_accepted.proofs.Declared.{IsMutable, listed_mutable}
use Rattle.rx_meaning_accepted.proofs.Mutable.{uses_fit}
use Rattle.rx_meaning_accepted.proofs.Fields.{fields_apart}
use Rattle.rx_meaning_accepted.proofs.Calls.{called_is}

-- ---- tables

joined_some : {A : Type 0} (o : Option (Option A)) (a : A) → joined o ≡ Some a → o ≡ Some (Some a)
joined_some None a e = absurd (cc)
joined_some (Some o) a e = ap (λ z. Some z) e

trimmed_behind : {A : Type 0} (t : Option A) (l : List (Option A)) (x : ℕ) (a : A) → slice_get l x ≡ Some (Some a) → slice_get (trimmed_and t l) (suc x) ≡ Some (Some a)
trimmed_behind None [] x a e = absurd (cc)
trimmed_behind None (y ∷ l) x a e = e
trimmed_behind (Some t) l x a e = e

trimmed_at : {A : Type 0} (ts : List (Option A)) (x : ℕ) (a : A) → slice_get ts x ≡ Some (Some a) → slice_get (trimmed ts) x ≡ Some (Some a)
trimmed_at [] x a e = absurd (cc)
trimmed_at (None ∷ ts) zero a e = absurd (cc)
trimmed_at (Some t ∷ ts) zero a e = e
trimmed_at (t ∷ ts) (suc x) a e = trimmed_behind t (trimmed ts) x a (trimmed_at ts x a e)

mapped_at : {A B : Type 0} (f : A → B) (l : List A) (x : ℕ) (a : A) → slice_get l x ≡ Some a → slice_get (map f l) x ≡ Some (f a)
mapped_at f [] x a e = absurd (cc)
mapped_at f (y ∷ l) zero a e = ap (λ z. Some (f z)) (let q : y ≡ a = cc in q)
mapped_at f (y ∷ l) (suc x) a e = mapped_at f l x a e

each_variable : (G : Given) (ns : List ItemNames) (i : ℕ) (is : ProgramTree) (ts : List TypedFn) → FunctionsTyped G ns i is ts → EachTyped ns i is ts → (t : TypedFn) → Among t ts → (x : ℕ) → x < length t.mutable → HasTypeInTables t (subject.Variable x)
each_variable G ns i [] ts h k t a = absurd (elim (subst (λ (l : List TypedFn). Among t l) h a) [ ])
each_variable G ns i (plain.rt_item a b ∷ is) ts h k t y = each_variable G ns (suc i) is ts h k t y
each_variable G ns i (plain.struct_item a b ∷ is) ts h k t y = each_variable G ns (suc i) is ts h k t y
each_variable G ns i (plain.enum_item a b ∷ is) ts h k t y = each_variable G ns (suc i) is ts h k t y
each_variable G ns i (plain.function_item s f ∷ is) [] h k t y = absurd h
each_variable G ns i (plain.function_item s f ∷ is) (_ ∷ ts) h k t here = k.0.variables
each_variable G ns i (plain.function_item s f ∷ is) (_ ∷ ts) h k t (there y) = each_variable G ns (suc i) is ts h.1 k.1 t y

-- ---- a program

module _ (p : ProgramTree) (ns : List ItemNames) (t : Typed) (few : IsNumbered p) (meant : Meant p ns) (typed : IsTyped p ns t) (signed : WellSigned t.decls.items)
    (sized : Sized (declarations typed.declared) (told typed.sizes)) (all : EachTyped ns 0 p t.functions) where
  abbrev G : Given
  G = record { program = p; declared = typed.declared; sizes = typed.sizes }

  abbrev K : KnownItems
  K = known_in G

  same : declarations t.decls.items ≡ declarations typed.declared
  same = same_declared t.decls.items typed.declared typed.same

  -- the frame of a function has the types of the assignment
  variable_typed : (g : TypedFn) → Among g t.functions → (i : ℕ) (s : Span) (f : FunctionTree) (names : List NodeNames) (vars : List Span) → (h : FunctionTyped G i s f names vars g) → length (function_variables s f names) ≡ length vars
      → (x : ℕ) → x < length vars → slice_get (map (option_map plain-Ty) (trimmed g.variables)) x ≡ Some (Some (h.types (subject.Variable x)))
  variable_typed g a i s f names vars h count x l =
      let size : length g.mutable ≡ length (function_variables s f names) = ap (λ (l : List Bool). length l) h.mutable ∙ length-map (function_variables s f names) is_mutable in
      let v = each_variable G ns 0 p t.functions typed.functions all g a x (omega (arith, l, size, count)) in
      let z = subst (λ (o : Option Ty). TypeIs K (function_named i s f names) h.types (subject.Variable x) o) v.1 (h.found (subject.Variable x)) in
      mapped_at (option_map plain-Ty) (trimmed g.variables) x (Some v.0) (trimmed_at g.variables x v.0 (joined_some (slice_get g.variables x) v.0 v.1))
      ∙ ap (λ (u : Typ). Some (Some u)) (sym (same_typ K.items v.0 (h.types (subject.Variable x)) z.1))

  ready_here : (P : ℕ → ℕ) → Sized (declarations typed.declared) P → (g : TypedFn) → Among g t.functions → Ready (frame_of (declarations typed.declared) P g) (plain-TypedTree g.tree)
  ready_here P Z g a =
      let x = words.text p ns t few meant typed signed sized g a in
      let N = length x.table.vars in
      let F = function_named x.number x.span x.function x.table.names in
      let A = x.checked.types in
      let M = IsMutable (function_variables x.span x.function x.table.names) in
      let claims = both_function (of_program K.items N) M F x.taken.claims (uses_fit x.number x.span x.function x.table.names) in
      let ts = map (option_map plain-Ty) (trimmed g.variables) in
      let apart = fields_apart p ns typed.declared meant typed.declares.items in
      let vars = variable_typed g a x.number x.span x.function x.table.names x.table.vars x.checked x.taken.variables in
      subst (λ (f : Function). Ready (frame_of (declarations typed.declared) P g) f) (sym x.checked.tree)
      (ready_if (of_program K.items N) M K A P ts Z apart vars (elaborated (assigned K A) F) (function_holds (of_program K.items N) M K A P ts Z apart vars F claims x.checked.valid.prefers.typed))

  pub functions_ready : (P : ℕ → ℕ) → Sized (declarations t.decls.items) P → (g : TypedFn) → Among g t.functions → Ready (frame_of (declarations t.decls.items) P g) (plain-TypedTree g.tree)
  functions_ready P Z g a = subst (λ (D : Declarations). Ready (frame_of D P g) (plain-TypedTree g.tree)) (sym same) (ready_here P (subst (λ (D : Declarations). Sized D P) same Z) g a)

  -- places behind references have parts too, variables have some, and no action is a mark
  pub record Standing (F : Frame) (muts : List Bool) (f : Function) : Type 0 where
    pub places : (w : List Action) (a : Action) (x : ℕ) (ss : List Step) → IsWalk f (w ++ a ∷ []) → looked_at a.act ≡ Some (placed x ss) → HasPart F x ss
    pub variables : (x : ℕ) → x < length muts → HasPart F x []
    pub unmarked : HasNoMark (order_function f)
    pub lazies : (a : Action) (js : List ℕ) (us : List Temporary) (d : Temporary) → Among a (actions_in (order_function f)) → a.act ≡ Build lazy js us d → js ≡ []
    pub writes : (a : Action) (p : Place) (t : Temporary) (ss : List Step) → Among a (actions_in (order_function f)) → a.act ≡ Write p t ss
        → (x : ℕ) → p.root ≡ variable x → is_behind p.steps ≡ false → is_all p.steps ≡ false → slice_get muts x ≡ Some true

  abbrev StandingOf : Declarations → (ℕ → ℕ) → TypedFn → Type 0
  StandingOf D P g = Standing (frame_of D P g) g.mutable (plain-TypedTree g.tree)

  standing_here : (P : ℕ → ℕ) → Sized (declarations typed.declared) P → (g : TypedFn) → Among g t.functions → StandingOf (declarations typed.declared) P g
  standing_here P Z g a =
      let x = words.text p ns t few meant typed signed sized g a in
      let N = length x.table.vars in
      let F = function_named x.number x.span x.function x.table.names in
      let A = x.checked.types in
      let M = IsMutable (function_variables x.span x.function x.table.names) in
      let claims = both_function (of_program K.items N) M F x.taken.claims (uses_fit x.number x.span x.function x.table.names) in
      let ts = map (option_map plain-Ty) (trimmed g.variables) in
      let apart = fields_apart p ns typed.declared meant typed.declares.items in
      let vars = variable_typed g a x.number x.span x.function x.table.names x.table.vars x.checked x.taken.variables in
      let h = function_holds (of_program K.items N) M K A P ts Z apart vars F claims x.checked.valid.prefers.typed in
      let size : length g.mutable ≡ N = ap (λ (l : List Bool). length l) x.checked.mutable ∙ length-map (function_variables x.span x.function x.table.names) is_mutable ∙ x.taken.variables in
      subst (λ (f : Function). Standing (frame_of (declarations typed.declared) P g) g.mutable f) (sym x.checked.tree) (record {
        places = places_have_parts (of_program K.items N) M K A P ts Z apart vars (elaborated (assigned K A) F) h;
        variables = λ y l. variable_has (of_program K.items N) M K A P ts Z apart vars y (omega (arith, l, size));
        writes = λ a q u us i e y r b w. ap (λ (l : List Bool). slice_get l y) x.checked.mutable ∙ listed_mutable (function_variables x.span x.function x.table.names) y
            (parts_fit (of_program K.items N) M K A P ts Z apart vars (elaborated (assigned K A) F) h a q u us i e y r b w);
        unmarked = no_mark (of_program K.items N) M K A P ts Z apart vars (elaborated (assigned K A) F) h;
        lazies = of_no_field (of_program K.items N) M K A P ts Z apart vars (elaborated (assigned K A) F) h;
      })

  pub functions_stand : (P : ℕ → ℕ) → Sized (declarations t.decls.items) P → (g : TypedFn) → Among g t.functions → StandingOf (declarations t.decls.items) P g
  functions_stand P Z g a = subst (λ (D : Declarations). StandingOf D P g) (sym same) (standing_here P (subst (λ (D : Declarations). Sized D P) same Z) g a)

  pub writes_here : (g : TypedFn) → Among g t.functions → (a : Action) (q : Place) (u : Temporary) (us : List Step) → Among a (actions_in (order_function (plain-TypedTree g.tree))) → a.act ≡ Write q u us
      → (x : ℕ) → q.root ≡ variable x → is_behind q.steps ≡ false → is_all q.steps ≡ false → slice_get g.mutable x ≡ Some true
  writes_here g a = (standing_here (told typed.sizes) sized g a).writes

  pub unmarked_here : (g : TypedFn) → Among g t.functions → HasNoMark (order_function (plain-TypedTree g.tree))
  unmarked_here g a = (standing_here (told typed.sizes) sized g a).unmarked

  pub lazies_here : (g : TypedFn) → Among g t.functions → (a : Action) (js : List ℕ) (us : List Temporary) (d : Temporary) → Among a (actions_in (order_function (plain-TypedTree g.tree))) → a.act ≡ Build lazy js us d → js ≡ []
  lazies_here g a = (standing_here (told typed.sizes) sized g a).lazies

  -- what it calls is declared as a function, with as many parameters as arguments
  calls_here : (g : TypedFn) → Among g t.functions → (w : List Action) (n h : ℕ) (us : List Temporary) (d : Temporary) → IsWalk (plain-TypedTree g.tree) (w ++ does n (Call h us d) ∷ []) → CallFits K.items h us
  calls_here g a =
      let x = words.text p ns t few meant typed signed sized g a in
      let N = length x.table.vars in
      let F = function_named x.number x.span x.function x.table.names in
      let A = x.checked.types in
      let M = IsMutable (function_variables x.span x.function x.table.names) in
      let claims = both_function (of_program K.items N) M F x.taken.claims (uses_fit x.number x.span x.function x.table.names) in
      let ts = map (option_map plain-Ty) (trimmed g.variables) in
      let apart = fields_apart p ns typed.declared meant typed.declares.items in
      let vars = variable_typed g a x.number x.span x.function x.table.names x.table.vars x.checked x.taken.variables in
      subst (λ (f : Function). (w : List Action) (n h : ℕ) (us : List Temporary) (d : Temporary) → IsWalk f (w ++ does n (Call h us d) ∷ []) → CallFits K.items h us) (sym x.checked.tree)
      (calls_fit (of_program K.items N) M K A (told typed.sizes) ts sized apart vars (elaborated (assigned K A) F) (function_holds (of_program K.items N) M K A (told typed.sizes) ts sized apart vars F claims x.checked.valid.prefers.typed))

  pub functions_call : (g : TypedFn) → Among g t.functions → (w : List Action) (n h : ℕ) (us : List Temporary) (d : Temporary) → IsWalk (plain-TypedTree g.tree) (w ++ does n (Call h us d) ∷ [])
      → (G : Function) × IsFunction (typed_functions (declarations t.decls.items) t.functions) h G × (length us ≡ length G.params)
  functions_call g a w n h us d is =
      let c = calls_here g a w n h us d is in
      let x = called_is G p ns typed.declared t.functions typed.declares.items typed.functions h c.0 c.1 c.2 in
      (x.0, subst (λ (D : Declarations). IsFunction (typed_functions D t.functions) h x.0) (sym same) x.1, c.3 ∙ sym x.2)

  -- its tree is one that is elaborated
  pub formed_of : ((A : Assigned) (i : ℕ) (s : Span) (f : FunctionTree) (names : List NodeNames) → Formed Any [] (elaborated A (function_named i s f names)).body (temporary_of (elaborated A (function_named i s f names)).body))
      → (g : TypedFn) → Among g t.functions → Formed Any [] (plain-TypedTree g.tree).body (temporary_of (plain-TypedTree g.tree).body)
  formed_of h g a =
      let x = words.text p ns t few meant typed signed sized g a in
      subst (λ (f : Function). Formed Any [] f.body (temporary_of f.body)) (sym x.checked.tree) (h (assigned K x.checked.types) x.number x.span x.function x.table.names)

-- ---- the functions by their items

record Stands (D : Declarations) (ts : List TypedFn) (n : ℕ) (F : Function) : Type 0 where
  typed : TypedFn
  at : element (functions_at D ts) n ≡ Some (Some typed)
  among : Among typed ts
  tree : plain-TypedTree typed.tree ≡ F

behind_among : (b : Bool) (ts : List TypedFn) (g : TypedFn) → Among g (behind b ts) → Among g ts
behind_among true [] g a = a
behind_among true (t ∷ ts) g a = there a
behind_among false ts g a = a

first_stands : (b : Bool) (ts : List TypedFn) (F : Function) → first_of b ts ≡ Some F → (g : TypedFn) × (next_of b ts ≡ Some g) × Among g ts × (plain-TypedTree g.tree ≡ F)
first_stands true (t ∷ ts) F e = (t, refl, here, let q : plain-TypedTree t.tree ≡ F = cc in q)
first_stands true [] F e = absurd (cc)
first_stands false ts F e = absurd (cc)

stands : (D : Declarations) (ts : List TypedFn) (n : ℕ) (F : Function) → IsFunction (typed_functions D ts) n F → Stands D ts n F
stands [] ts n F e = absurd (cc)
stands (d ∷ D) ts zero F e = let x = first_stands (is_function d) ts F (let q : first_of (is_function d) ts ≡ Some F = some_is _ _ e in q) in
    record { typed = x.0; at = ap (λ z. Some z) x.1; among = x.2; tree = x.3 }
  where
    some_is : (a b : Option Function) → Some a ≡ Some b → a ≡ b
    some_is a b e = cc
stands (d ∷ D) ts (suc n) F e = let x = stands D (behind (is_function d) ts) n F e in
    record { typed = x.typed; at = x.at; among = behind_among (is_function d) ts x.typed x.among; tree = x.tree }

all_at : {A : Type 0} (Q : A → Type 0) (l : List A) → AllAre Q l → (a : A) → Among a l → Q a
all_at Q [] h a i = elim i [ ]
all_at Q (x ∷ l) h a here = h.0
all_at Q (x ∷ l) h a (there i) = all_at Q l h.1 a i

frame_sized : (D : Declarations) (P : ℕ → ℕ) → Sized D P → (o : Option (Option TypedFn)) → Sized (frame_by D P o).declared (frame_by D P o).sizes
frame_sized D P h None = h
frame_sized D P h (Some None) = h
frame_sized D P h (Some (Some f)) = h

pub calls_of : (t : Typed) (f : ℕ) (F : Function) → IsFunction (typed_functions (declarations t.decls.items) t.functions) f F
    → ((g : TypedFn) → Among g t.functions → (w : List Action) (n h : ℕ) (us : List Temporary) (d : Temporary) → IsWalk (plain-TypedTree g.tree) (w ++ does n (Call h us d) ∷ [])
    → (G : Function) × IsFunction (typed_functions (declarations t.decls.items) t.functions) h G × (length us ≡ length G.params))
    → (w : List Action) (n h : ℕ) (us : List Temporary) (d : Temporary) → IsWalk F (w ++ does n (Call h us d) ∷ []) → (G : Function) × IsFunction (typed_functions (declarations t.decls.items) t.functions) h G × (length us ≡ length G.params)
calls_of t f F e c w n h us d is = let x = stands (declarations t.decls.items) t.functions f F e in c x.typed x.among w n h us d (subst (λ (z : Function). IsWalk z (w ++ does n (Call h us d) ∷ [])) (sym x.tree) is)

pub formed_if : (t : Typed) → ((g : TypedFn) → Among g t.functions → Formed Any [] (plain-TypedTree g.tree).body (temporary_of (plain-TypedTree g.tree).body)) → AllFormed (typed_functions (declarations t.decls.items) t.functions) (λ f. Any)
formed_if t w f F e = let x = stands (declarations t.decls.items) t.functions f F e in subst (λ (z : Function). Formed Any [] z.body (temporary_of z.body)) x.tree (w x.typed x.among)

pub initial_if : (t : Typed) (P : ℕ → ℕ) → Sized (declarations t.decls.items) P
    → ((g : TypedFn) → Among g t.functions → Ready (frame_of (declarations t.decls.items) P g) (plain-TypedTree g.tree))
    → ((g : TypedFn) → Among g t.functions → Formed Any [] (plain-TypedTree g.tree).body (temporary_of (plain-TypedTree g.tree).body))
    → AllAre (IsInitialised (declarations t.decls.items) P) t.functions
    → IsInitial (typed_functions (declarations t.decls.items) t.functions) (frames t P) (mutables t)
initial_if t P Z r w i = let D = declarations t.decls.items in record {
  sized = λ f. frame_sized D P Z (element (functions_at D t.functions) f);
  formed = formed_if t w;
  ready = λ f F e. let x = stands D t.functions f F e in subst (λ (o : Option (Option TypedFn)). Ready (frame_by D P o) F) (sym x.at) (subst (λ (z : Function). Ready (frame_of D P x.typed) z) x.tree (r x.typed x.among));
  initialised = λ f F e. let x = stands D t.functions f F e in subst (λ (o : Option (Option TypedFn)). Initialised (frame_by D P o) (mutable_by o) F) (sym x.at)
      (subst (λ (z : Function). Initialised (frame_of D P x.typed) x.typed.mutable z) x.tree (all_at (IsInitialised D P) t.functions i x.typed x.among));
}

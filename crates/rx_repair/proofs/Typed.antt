-- The functions of a typed program fit: types of parameters as they are declared, of `let`s as they are written, and of other variables as
-- they are found, where each list of lifetimes is as long as what it belongs to declares.
use Rattle.std.proofs.Common.{◌≡◌, ℕ, zero, suc, true, false, ◌&&◌, Bool, if◌then◌else◌, List, [], ◌∷◌, ◌++◌, map, drop, Option, Some, None, slice_get, refl, sym, subst}
use Rattle.std.proofs.lemmas.Bool.{and_parts}
use Rattle.rx_core.specs.declared.types.Bound.{Bound}
use Rattle.rx_core.specs.declared.types.Span.{Span}
use Rattle.rx_core.specs.declared.types.Ty.{Ty}
use Rattle.rx_tree.specs.Plain as plain
use Rattle.rx_tree.specs.Plain.{ProgramTree}
use Rattle.rx_tree.specs.Size.{IsNumbered}
use Rattle.rx_resolve_names.specs.declared.resolved.ItemNames.{ItemNames}
use Rattle.rx_typed.specs.declared.declarations.Decl.{Decl}
use Rattle.rx_typed.specs.declared.declarations.Decl.TheVariants as decl
use Rattle.rx_typed.specs.PlainTypes.{declarations}
use Rattle.rx_typed.specs.Regions.{RegionTyp, region_integer, region_boolean, region_tuple, region_reference, region_named, regions_of, region-Ty, erased}
use Rattle.rx_typed.specs.Types.{Declarations, named}
use Rattle.rx_typed.specs.Named.{Function}
use Rattle.rx_typed.specs.Naming.{function_named, function_annotations}
use Rattle.rx_typed.specs.Tree.{Temporary, Making, struct, variant_of}
use Rattle.rx_typed_declarations.specs.WellFormed.{fits, all_fit, bounds_fit, signature_fits, WellSigned, WellFormed}
use Rattle.rx_typed_declarations.proofs.Polarities.{same_declared}
use Rattle.rx_lower_walks.specs.Actions.{Act, Build}
use Rattle.rx_lower_walks.specs.Walks.{Among}
use Rattle.rx_lower_walks.specs.Walks as walks
use Rattle.rx_lower_walks.specs.Text.{actions_of}
use Rattle.rx_lower_lifetimes.specs.Values.{Open, same, lifetimes_of as declared_lifetimes}
use Rattle.rx_lower_lifetimes.specs.Variables.{open_types}
use Rattle.rx_lower_lifetimes.specs.Numbered.{opened}
use Rattle.rx_lower_lifetimes.specs.Lowered.{parameters, actions, temporaries}
use Rattle.rx_lower.specs.Functions.{trimmed, trimmed_and, written, function}
use Rattle.rx_region.specs.Constraints.{Context, held, temporary_type, variables_of, lifetimes_of}
use Rattle.rx_typeck_solver.specs.declared.facts.Subject.{Subject}
use Rattle.rx_typeck_solver.specs.declared.facts.Subject.TheVariants as subject
use Rattle.rx_typeck_solver.specs.Facts.{Assignment, KnownItems}
use Rattle.rx_typeck_elaborate_parts.specs.Assigning.{joined}
use Rattle.rx_typeck_typed.specs.Programs.{Declares}
use Rattle.rx_typeck_typed.specs.declared.variables.AnnotatedVariable.{AnnotatedVariable}
use Rattle.rx_typeck_typed.specs.Bindings.{annotated, lifetimes as let_lifetimes}
use Rattle.rx_typeck_typed.specs.Walks.{plain-Variable}
use Rattle.rx_typeck_typed.specs.declared.typed.Typed.{Typed}
use Rattle.rx_typeck_typed.specs.declared.typed.TypedFn.{TypedFn}
use Rattle.rx_typeck_typed.specs.Typing.{Given, known_in, entries, variables_at, type_at, TypeIs, FunctionTyped, FunctionsTyped, IsTyped}
use Rattle.rx_facts.specs.Functions.{body, sites_of}
use Rattle.rx_check.specs.Contexts.{context_of}
use Rattle.rx_repair.specs.Fitting.{AsMany, HasAll, ActFits, Fits}
use Rattle.rx_repair.specs.Making.{IsOfItem, ActIsOfItem, AreOfItems}
use Rattle.rx_repair.proofs.Having.{fits_has, unnumbered_has}
use Rattle.rx_repair.proofs.Holding.{AllHave, AllOpen, AllWritten, MayHave, AllMayHave, AllMake, one_has, numbers_have, opened_have, variables_have, held_have}
use Rattle.rx_repair.proofs.RenamingLetsMet.{function_fits}
use Rattle.rx_repair.proofs.RenamingNoting.{notes_fit}
use Rattle.rx_repair.proofs.LetTypes.{PairsHave, all_count, lets_have}

-- ---- the types that are found

may_have : (K : KnownItems) (F : Function) (A : Assignment) (x : Subject) (o : Option Ty) → TypeIs K F A x o → MayHave K.items o
may_have K F A x None h = tt
may_have K F A x (Some t) h = subst (λ (u : RegionTyp). HasAll K.items u) (sym h.1) (unnumbered_has K.items (A x))

each_may : (E : Declarations) (vs : List (Option Ty)) → ((x : ℕ) → MayHave E (joined (slice_get vs x))) → AllMayHave E vs
each_may E [] h = tt
each_may E (v ∷ vs) h = (h zero, each_may E vs (λ x. h (suc x)))

trimmed_one : (E : Declarations) (o : Option Ty) (vs : List (Option Ty)) → MayHave E o → AllMayHave E vs → AllMayHave E (trimmed_and o vs)
trimmed_one E None [] h k = tt
trimmed_one E None (v ∷ vs) h k = (h, k)
trimmed_one E (Some t) vs h k = (h, k)

trimmed_may : (E : Declarations) (vs : List (Option Ty)) → AllMayHave E vs → AllMayHave E (trimmed vs)
trimmed_may E [] h = tt
trimmed_may E (v ∷ vs) h = trimmed_one E v (trimmed vs) h.0 (trimmed_may E vs h.1)

-- ---- the types of parameters

fit_each : (E : Declarations) (n : ℕ) (ts : List Ty) → all_fit E n (regions_of (map region-Ty ts)) ≡ true → AllHave E (map region-Ty ts)
fit_each E n [] h = tt
fit_each E n (t ∷ ts) h =
    let x = and_parts (fits E n (region-Ty t)) (all_fit E n (regions_of (map region-Ty ts))) h in (fits_has E n (region-Ty t) x.0, fit_each E n ts x.1)

parameters_have : (E : Declarations) (o : Option Decl) → ((d : Decl) → o ≡ Some d → signature_fits E d ≡ true) → AllHave E (map region-Ty (parameters o))
parameters_have E None h = tt
parameters_have E (Some decl.Rt) h = tt
parameters_have E (Some (decl.Struct c l vs fs)) h = tt
parameters_have E (Some (decl.Enum c l vs ds)) h = tt
parameters_have E (Some (decl.Func l ps t bs)) h =
    let x = and_parts (all_fit E l (regions_of (map region-Ty ps)) && fits E l (region-Ty t)) (bounds_fit l bs) (h (decl.Func l ps t bs) refl) in
    fit_each E l ps (and_parts (all_fit E l (regions_of (map region-Ty ps))) (fits E l (region-Ty t)) x.0).0

-- ---- what is made

its_item : (E : Declarations) (i j : ℕ) (ls : List ℕ) → j ≡ i → AsMany E j ls → AsMany E i ls
its_item E i j ls e h = subst (λ (k : ℕ). AsMany E k ls) e h

of_item : (E : Declarations) (i : ℕ) (t : RegionTyp) → erased t ≡ named i → HasAll E t → AsMany E i (lifetimes_of t)
of_item E i (region_integer k) e h = absurd (cc)
of_item E i region_boolean e h = absurd (cc)
of_item E i (region_tuple ts) e h = absurd (cc)
of_item E i (region_reference m l t) e h = absurd (cc)
of_item E i (region_named j ls) e h = its_item E i j ls (let s : j ≡ i = cc in s) h

dropped_have : (E : Declarations) (n : ℕ) (ts : List RegionTyp) → AllHave E ts → AllHave E (drop n ts)
dropped_have E zero ts h = h
dropped_have E (suc n) [] h = h
dropped_have E (suc n) (t ∷ ts) h = dropped_have E n ts h.1

temporary_has : (E : Declarations) (ss : List Temporary) (ts : List RegionTyp) (d : Temporary) → AllHave E ts → HasAll E (temporary_type ss ts d)
temporary_has E [] ts d h = tt
temporary_has E (s ∷ ss) [] d h = tt
temporary_has E (s ∷ ss) (t ∷ ts) d h = by (same s d) (temporary_has E ss ts d h.1)
  where
    by : (b : Bool) → HasAll E (temporary_type ss ts d) → HasAll E (if b then t else temporary_type ss ts d)
    by true k = h.0
    by false k = k

module _ (C : Context) (types : AllHave (declarations C.items) C.lifetimes.types) where
  held_type_has : (d : Temporary) → HasAll (declarations C.items) (held C d)
  held_type_has d = temporary_has (declarations C.items) C.lifetimes.temporaries (drop (variables_of C.lifetimes) C.lifetimes.types) d (dropped_have (declarations C.items) (variables_of C.lifetimes) C.lifetimes.types types)

  made_fits : (w : Making) (is : List ℕ) (ts : List Temporary) (d : Temporary) → IsOfItem w (held C d) → ActFits C (Build w is ts d)
  made_fits (struct i) is ts d h = of_item (declarations C.items) i (held C d) h (held_type_has d)
  made_fits (variant_of i v) is ts d h = of_item (declarations C.items) i (held C d) h (held_type_has d)
  made_fits _ is ts d h = tt

  pub act_fits : (a : Act) → ActIsOfItem C a → ActFits C a
  act_fits (Build w is ts d) h = made_fits w is ts d h
  act_fits _ h = tt

-- ---- the types that `let`s write

pairs_written : (E : Declarations) (xs : List AnnotatedVariable) → PairsHave E (map plain-Variable xs) → AllWritten E (map written xs)
pairs_written E [] h = tt
pairs_written E (x ∷ xs) h = (h.0, pairs_written E xs h.1)

-- ---- a function of a typed program

-- where it stands
pub record Stands (G : Given) (ns : List ItemNames) (f : TypedFn) : Type 0 where
  pub item : ℕ
  pub span : Span
  pub text : plain.Function
  pub typed : FunctionTyped G item span text (entries (slice_get ns item)) (variables_at (slice_get ns item)) f

module _ (G : Given) (ns : List ItemNames) where
  no_function : (h : TypedFn) → Among h [] → ⊥
  no_function h w = elim w [ ]

  pub function_stands : (n : ℕ) (is : ProgramTree) (ts : List TypedFn) (h : TypedFn) → FunctionsTyped G ns n is ts → Among h ts → Stands G ns h
  function_stands n [] ts h typed w = absurd (no_function h (subst (λ (l : List TypedFn). Among h l) typed w))
  function_stands n (plain.rt_item s r ∷ is) ts h typed w = function_stands (suc n) is ts h typed w
  function_stands n (plain.struct_item s d ∷ is) ts h typed w = function_stands (suc n) is ts h typed w
  function_stands n (plain.enum_item s d ∷ is) ts h typed w = function_stands (suc n) is ts h typed w
  function_stands n (plain.function_item s f ∷ is) [] h typed w = absurd typed
  function_stands n (plain.function_item s f ∷ is) (t ∷ ts) _ typed walks.here = record { item = n; span = s; text = f; typed = typed.0 }
  function_stands n (plain.function_item s f ∷ is) (t ∷ ts) h typed (walks.there w) = function_stands (suc n) is ts h typed.1 w

module _ (p : ProgramTree) (names : List ItemNames) (t : Typed) (few : IsNumbered p) (formed : (items : List Decl) → Declares p names items → WellFormed items)
    (signed : WellSigned t.decls.items) (typed : IsTyped p names t) (f : TypedFn) (among : Among f t.functions) where
  abbrev pub given : Given
  given = record { program = p; declared = typed.declared; sizes = typed.sizes }

  abbrev D : List Decl
  D = t.decls.items

  abbrev E : Declarations
  E = declarations t.decls.items

  pub there : Stands given names f
  there = function_stands given names 0 p t.functions f typed.functions among

  raws_have : AllMayHave E (trimmed f.variables)
  raws_have = trimmed_may E f.variables (subst (λ (F : Declarations). AllMayHave F f.variables) (sym (same_declared t.decls.items typed.declared typed.same))
      (each_may (declarations typed.declared) f.variables (λ x. may_have (known_in given) (function_named there.item there.span there.text (entries (slice_get names there.item))) there.typed.types (subject.Variable x)
      (type_at f (subject.Variable x)) (there.typed.found (subject.Variable x)))))

  its_lets : PairsHave (declarations typed.declared) (annotated p typed.declared there.item (function_annotations there.span there.text (entries (slice_get names there.item))))
  its_lets =
      let ns = entries (slice_get names there.item) in
      let free = let_lifetimes (slice_get typed.declared there.item) in
      lets_have typed.declared (formed typed.declared typed.declares).named free p (all_count p names typed.declared few.lifetimes typed.declares.items) (function_annotations there.span there.text ns)
      (notes_fit (declarations typed.declared) there.item there.span there.text ns
      (function_fits (known_in given) there.typed.types (function_named there.item there.span there.text ns) there.typed.valid.prefers.typed))

  lets : AllWritten E (map written f.annotations)
  lets = subst (λ (F : Declarations). AllWritten F (map written f.annotations)) (sym (same_declared t.decls.items typed.declared typed.same))
      (pairs_written (declarations typed.declared) f.annotations (subst (λ (xs : List (ℕ × RegionTyp)). PairsHave (declarations typed.declared) xs) (sym there.typed.annotated) its_lets))

  module _ (P : ℕ → List Bound) (makes : AllMake E (actions_of (sites_of f))) (items : AreOfItems (context_of D P f) (actions_of (sites_of f))) where
    abbrev V : List Open
    V = open_types (declared_lifetimes (slice_get D f.item)) (body f).params (parameters (slice_get D f.item)) (map written f.annotations) 0 (trimmed f.variables)

    open_have : AllOpen E V
    open_have = variables_have E (declared_lifetimes (slice_get D f.item)) (body f).params (parameters (slice_get D f.item)) (map written f.annotations) 0 (trimmed f.variables)
        (parameters_have E (slice_get D f.item) (λ d e. signed.signatures f.item d e)) lets raws_have

    types_have : AllHave E (context_of D P f).lifetimes.types
    types_have = numbers_have E (declared_lifetimes (slice_get D f.item)) (V ++ opened (temporaries (function D f)))
        (opened_have E V (temporaries (function D f)) open_have
        (held_have D typed.well_formed.named signed V open_have [] (actions (function D f)) tt makes))

    pub fits_with : Fits (context_of D P f) (actions_of (sites_of f))
    fits_with = record {
      items = typed.well_formed.named;
      types = λ u w. one_has E u (context_of D P f).lifetimes.types types_have w;
      made = λ a w. act_fits (context_of D P f) types_have a.act (items a w);
    }

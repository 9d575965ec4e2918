-- Items and programs resolve as they do without their spans, and structs and enums hold the same.
use Rattle.std.proofs.Common.{◌≡◌, ℕ, suc, List, [], ◌∷◌, ◌++◌, length, map, Option, Some, None, option_map, Ok, Err, refl, sym, ap, ◌∙◌, subst}
use Rattle.rx_tree.specs.declared.tree.BoundLifetime.{BoundLifetime}
use Rattle.rx_tree.specs.declared.tree.Ident.{Ident}
use Rattle.rx_tree.specs.Plain as plain
use Rattle.rx_tree.specs.Plain.{FieldOf, Function, ItemTree, Parameter, ProgramTree, TypeTree, TypeTrees, VariantOf}
use Rattle.rx_tree.specs.Erase.{erase_field, erase_function, erase_ident, erase_item, erase_lifetime, erase_parameter, erase_program, erase_type, erase_types, erase_variant, SameProgram}
use Rattle.rx_graph_cycles.specs.Reaches.{NoCycle}
use Rattle.rx_resolve_names.specs.declared.resolved.ItemNames.{ItemNames}
use Rattle.rx_resolve_names.specs.Scopes.{entered, DeclaredNames, Variables}
use Rattle.rx_resolve_names.specs.Meant.{firsts, function_name, lifetimes_declared, number, type_name}
use Rattle.rx_resolve_names.specs.Steps.{and_then, both, child, declare, next, numbered, one, with_variable, ◌>>◌, Inside, Naming, Outcome}
use Rattle.rx_resolve_names.specs.Names.{behind, in_block, in_optional_type, in_type, in_types, lifetime_in, Bound}
use Rattle.rx_resolve_names.specs.Items.{apart, body_at, bounds_in, declared_in, distinct, in_declared, in_form, in_function, in_item, in_items, in_parameter, in_parameters, in_program, in_variants, lifetimes_of, numbers_from, Lists}
use Rattle.rx_resolve_names.specs.Causes.{Meant}
use Rattle.rx_resolve_names.specs.Holding.{held_among, held_by, held_by_fields, held_by_variants, held_in, held_in_tree, if_found}
use Rattle.rx_resolve_laws.specs.AlikeTables.{AlikeTables, AllAlike}
use Rattle.rx_resolve_laws.proofs.Steps.{as_type_there, both_like, declare_like, entered_same, firsts_same, in_turn, nothing_like, numbered_like, one_like, sim_then, variable_like, Eq, Equal, Like, SameDeclared, Sim}
use Rattle.rx_resolve_laws.proofs.Erased.{block_like, lifetime_same, optional_type_like, type_like, types_like, BoundAlike}

pub distinct_like : (ds es : DeclaredNames) (n : ℕ) (xs : List Ident) → SameDeclared ds es → Like (distinct ds n xs) (distinct es n (map erase_ident xs))
distinct_like ds es n [] d t u h = h
distinct_like ds es n (x ∷ xs) d t u h = sim_then SameDeclared AlikeTables (declare ds x n) (declare es (erase_ident x) n) (λ ds. distinct ds (suc n) xs t) (λ es. distinct es (suc n) (map erase_ident xs) u) (declare_like ds es x n d) (λ ds es z. distinct_like ds es (suc n) xs z t u h)

behind_same : (i : ℕ) (ts : TypeTrees) → behind i (erase_types ts) ≡ behind i ts
behind_same i plain.no_type = refl
behind_same i (plain.type_and t ts) = behind_same (next i) ts

params_same : (n : ℕ) (xs : List Parameter) → numbers_from n (map erase_parameter xs) ≡ numbers_from n xs
params_same n [] = refl
params_same n (x ∷ xs) = ap (λ (l : List ℕ). n ∷ l) (params_same (next n) xs)

many_same : {A B : Type 0} (f : A → B) (xs : List A) → length (map f xs) ≡ length xs
many_same f [] = refl
many_same f (x ∷ xs) = ap suc (many_same f xs)

body_same : (i : ℕ) (y : Option TypeTree) → body_at i (option_map erase_type y) ≡ body_at i y
body_same i None = refl
body_same i (Some t) = refl

lifetimes_erased : (ls : List BoundLifetime) → map (λ (l : BoundLifetime). l.name) (map erase_lifetime ls) ≡ map erase_ident (map (λ (l : BoundLifetime). l.name) ls)
lifetimes_erased [] = refl
lifetimes_erased (l ∷ ls) = ap (λ (xs : List Ident). erase_ident l.name ∷ xs) (lifetimes_erased ls)

declared_erased : (i : ItemTree) → lifetimes_declared (erase_item i) ≡ map erase_ident (lifetimes_declared i)
declared_erased (plain.rt_item s r) = refl
declared_erased (plain.struct_item s d) = refl
declared_erased (plain.enum_item s d) = refl
declared_erased (plain.function_item s f) = lifetimes_erased f.lifetimes

module _ (P : ProgramTree) (a : ℕ) (L M : DeclaredNames) (declared : SameDeclared L M) where
  abbrev I : Inside
  I = record { program = P; item = a; lifetimes = L }

  abbrev E : Inside
  E = record { program = erase_program P; item = a; lifetimes = M }

  fields_like : (at : List ℕ) (ds es : DeclaredNames) (i : ℕ) (fs : List FieldOf) → SameDeclared ds es → Like (in_declared I at ds i fs) (in_declared E at es i (map erase_field fs))
  fields_like at ds es i [] d t u h = h
  fields_like at ds es i (f ∷ fs) d t u h =
      sim_then SameDeclared AlikeTables (declare ds f.name i) (declare es (erase_ident f.name) i) (λ ds. (in_type I (child at i) f.typ >> in_declared I at ds (next i) fs) t) (λ es. (in_type E (child at i) (erase_type f.typ) >> in_declared E at es (next i) (map erase_field fs)) u) (declare_like ds es f.name i d)
      (λ ds es z. in_turn _ _ _ _ (type_like P a L M declared (child at i) f.typ) (fields_like at ds es (next i) fs z) t u h)

  variants_like : (at : List ℕ) (ds es : DeclaredNames) (n i : ℕ) (vs : List VariantOf) → SameDeclared ds es → Like (in_variants I at ds n i vs) (in_variants E at es n i (map erase_variant vs))
  variants_like at ds es n i [] d t u h = h
  variants_like at ds es n i (v ∷ vs) d t u h =
      sim_then SameDeclared AlikeTables (declare ds v.name n) (declare es (erase_ident v.name) n) (λ ds. (in_types I at i v.types >> in_variants I at ds (suc n) (behind i v.types) vs) t)
      (λ es. (in_types E at i (erase_types v.types) >> in_variants E at es (suc n) (behind i (erase_types v.types)) (map erase_variant vs)) u) (declare_like ds es v.name n d)
      (λ ds es z. subst (λ (k : ℕ). Sim AlikeTables ((in_types I at i v.types >> in_variants I at ds (suc n) (behind i v.types) vs) t) ((in_types E at i (erase_types v.types) >> in_variants E at es (suc n) k (map erase_variant vs)) u)) (sym (behind_same i v.types))
      (in_turn _ _ _ _ (types_like P a L M declared at i v.types) (variants_like at ds es (suc n) (behind i v.types) vs z) t u h))

  bounds_like : (ls : List Ident) → Equal (bounds_in I ls) (bounds_in E (map erase_ident ls))
  bounds_like [] = refl
  bounds_like (l ∷ ls) = both_like (one (lifetime_in I l)) (one (lifetime_in E (erase_ident l))) (bounds_in I ls) (bounds_in E (map erase_ident ls)) (one_like (lifetime_in I l) (lifetime_in E (erase_ident l)) (lifetime_same P a L M declared l)) (bounds_like ls)

  lifetimes_like : (ds es : DeclaredNames) (n : ℕ) (ls : List BoundLifetime) → SameDeclared ds es → Equal (lifetimes_of I ds n ls) (lifetimes_of E es n (map erase_lifetime ls))
  lifetimes_like ds es n [] d = refl
  lifetimes_like ds es n (l ∷ ls) d =
      sim_then SameDeclared Eq (declare ds l.name n) (declare es (erase_ident l.name) n) (λ ds. both (bounds_in I l.bounds) (lifetimes_of I ds (suc n) ls)) (λ es. both (bounds_in E (map erase_ident l.bounds)) (lifetimes_of E es (suc n) (map erase_lifetime ls))) (declare_like ds es l.name n d)
      (λ ds es z. both_like (bounds_in I l.bounds) (bounds_in E (map erase_ident l.bounds)) (lifetimes_of I ds (suc n) ls) (lifetimes_of E es (suc n) (map erase_lifetime ls)) (bounds_like l.bounds) (lifetimes_like ds es (suc n) ls z))

  abbrev Both : Bound → Bound → Type 0
  Both = BoundAlike P a L M declared

  parameter_like : (at : List ℕ) (i : ℕ) (x : Parameter) (b c : Bound) → Both b c → Sim Both (in_parameter I at i x b) (in_parameter E at i (erase_parameter x) c)
  parameter_like at i x b c h =
      sim_then SameDeclared Both (declare b.bindings x.name i) (declare c.bindings (erase_ident x.name) i) (λ ds. and_then (in_type I (child at i) x.typ (with_variable x.name.span b.tables)) (λ t. Ok (record { bindings = ds; tables = t })))
      (λ ds. and_then (in_type E (child at i) (erase_type x.typ) (with_variable (erase_ident x.name).span c.tables)) (λ t. Ok (record { bindings = ds; tables = t }))) (declare_like b.bindings c.bindings x.name i h.bindings)
      (λ ds es z. sim_then AlikeTables Both (in_type I (child at i) x.typ (with_variable x.name.span b.tables)) (in_type E (child at i) (erase_type x.typ) (with_variable (erase_ident x.name).span c.tables)) (λ t. Ok (record { bindings = ds; tables = t })) (λ t. Ok (record { bindings = es; tables = t }))
      (type_like P a L M declared (child at i) x.typ _ _ (variable_like x.name.span (erase_ident x.name).span b.tables c.tables h.tables)) (λ t u k. record { bindings = z; tables = k }))

  parameters_like : (at : List ℕ) (i : ℕ) (xs : List Parameter) (b c : Bound) → Both b c → Sim Both (in_parameters I at i xs b) (in_parameters E at i (map erase_parameter xs) c)
  parameters_like at i [] b c h = h
  parameters_like at i (x ∷ xs) b c h = sim_then Both Both (in_parameter I at i x b) (in_parameter E at i (erase_parameter x) c) (in_parameters I at (next i) xs) (in_parameters E at (next i) (map erase_parameter xs)) (parameter_like at i x b c h) (λ d e z. parameters_like at (next i) xs d e z)

  -- the result, and the body with the parameters in scope
  rest : Inside → Function → List ℕ → Variables → ℕ → ℕ → Naming
  rest J f at sc k l = in_optional_type J (child at k) f.result >> in_block J sc [] (child at l) f.body

  rest_like : (f : Function) (at : List ℕ) (sc : Variables) (k l : ℕ) → Like (rest I f at sc k l) (rest E (erase_function f) at sc k l)
  unfolding rest
  rest_like f at sc k l = in_turn _ _ _ _ (optional_type_like P a L M declared (child at k) f.result) (block_like P a L M declared sc [] (child at l) f.body)

  function_like : (at : List ℕ) (f : Function) → Like (in_function I [] [] at f) (in_function E [] [] at (erase_function f))
  unfolding rest
  function_like at f t u h =
      sim_then Eq AlikeTables (lifetimes_of I [] 0 f.lifetimes) (lifetimes_of E [] 0 (map erase_lifetime f.lifetimes)) _ _ (lifetimes_like [] [] 0 f.lifetimes tt)
      (λ ns ms e. sim_then AlikeTables AlikeTables (numbered I at (ns ++ numbers_from 0 f.params) t) (numbered E at (ms ++ numbers_from 0 (map erase_parameter f.params)) u) _ _
      (subst (λ (l : List ℕ). Sim AlikeTables (numbered I at (ns ++ numbers_from 0 f.params) t) (numbered E at l u)) (ap (λ (l : List ℕ). l ++ numbers_from 0 f.params) e ∙ ap (λ (l : List ℕ). ms ++ l) (sym (params_same 0 f.params)))
      (numbered_like P (erase_program P) a L M at (ns ++ numbers_from 0 f.params) t u h))
      (λ v w k. sim_then Both AlikeTables (in_parameters I at 0 f.params (record { bindings = []; tables = v })) (in_parameters E at 0 (map erase_parameter f.params) (record { bindings = []; tables = w })) _ _
      (parameters_like at 0 f.params (record { bindings = []; tables = v }) (record { bindings = []; tables = w }) (record { bindings = tt; tables = k }))
      (λ b c z. body b c z)))
    where
      n : ℕ
      n = length f.params

      body : (b c : Bound) → Both b c → Sim AlikeTables (rest I f at (entered [] b.bindings) (number (length f.params)) (body_at (number (length f.params)) f.result) b.tables)
          (rest E (erase_function f) at (entered [] c.bindings) (number (length (map erase_parameter f.params))) (body_at (number (length (map erase_parameter f.params))) (option_map erase_type f.result)) c.tables)
      body b c z =
          subst (λ (k : ℕ). Sim AlikeTables (rest I f at (entered [] b.bindings) (number (length f.params)) (body_at (number (length f.params)) f.result) b.tables) (rest E (erase_function f) at (entered [] c.bindings) (number k) (body_at (number k) (option_map erase_type f.result)) c.tables)) (sym (many_same erase_parameter f.params))
          (subst (λ (k : ℕ). Sim AlikeTables (rest I f at (entered [] b.bindings) (number (length f.params)) (body_at (number (length f.params)) f.result) b.tables) (rest E (erase_function f) at (entered [] c.bindings) (number (length f.params)) k c.tables)) (sym (body_same (number (length f.params)) f.result))
          (subst (λ (sc : Variables). Sim AlikeTables (rest I f at (entered [] b.bindings) (number (length f.params)) (body_at (number (length f.params)) f.result) b.tables) (rest E (erase_function f) at sc (number (length f.params)) (body_at (number (length f.params)) f.result) c.tables)) (entered_same [] b.bindings c.bindings z.bindings)
          (rest_like f at (entered [] b.bindings) (number (length f.params)) (body_at (number (length f.params)) f.result) b.tables c.tables z.tables)))

  form_like : (i : ItemTree) → Like (in_form I [] [] [] i) (in_form E [] [] [] (erase_item i))
  form_like (plain.rt_item s r) = nothing_like
  form_like (plain.struct_item s d) = in_turn _ _ _ _ (distinct_like [] [] 0 d.lifetimes tt) (fields_like [] [] [] 0 d.fields tt)
  form_like (plain.enum_item s d) = in_turn _ _ _ _ (distinct_like [] [] 0 d.lifetimes tt) (variants_like [] [] [] 0 0 d.variants tt)
  form_like (plain.function_item s f) = function_like [] f

-- ---- items

item_like : (p : ProgramTree) (n : ℕ) (i : ItemTree) → Sim AlikeTables (in_item p n i) (in_item (erase_program p) n (erase_item i))
item_like p n i =
    form_like p (number n) (firsts [] 0 (lifetimes_declared i)) (firsts [] 0 (lifetimes_declared (erase_item i)))
    (subst (λ (l : List Ident). SameDeclared (firsts [] 0 (lifetimes_declared i)) (firsts [] 0 l)) (sym (declared_erased i)) (firsts_same [] [] 0 (lifetimes_declared i) tt)) i _ _
    (record { vars = refl; lifetimes = many_same (λ (l : Ident). l.span) (lifetimes_declared i) ∙ sym (many_same erase_ident (lifetimes_declared i)) ∙ ap length (sym (declared_erased i)) ∙ sym (many_same (λ (l : Ident). l.span) (lifetimes_declared (erase_item i))); loops = refl; names = refl })

items_like : (p : ProgramTree) (n : ℕ) (is : ProgramTree) → Sim AllAlike (in_items p n is) (in_items (erase_program p) n (erase_program is))
items_like p n [] = tt
items_like p n (i ∷ is) =
    sim_then AlikeTables AllAlike (in_item p n i) (in_item (erase_program p) n (erase_item i)) (λ x. and_then (in_items p (suc n) is) (λ xs. Ok (x ∷ xs))) (λ x. and_then (in_items (erase_program p) (suc n) (erase_program is)) (λ xs. Ok (x ∷ xs))) (item_like p n i)
    (λ t u h. sim_then AllAlike AllAlike (in_items p (suc n) is) (in_items (erase_program p) (suc n) (erase_program is)) (λ xs. Ok (t ∷ xs)) (λ xs. Ok (u ∷ xs)) (items_like p (suc n) is) (λ ts us k. (h, k)))

-- ---- the lists of items

record ListsAlike (l m : Lists) : Type 0 where
  types : SameDeclared l.types m.types
  functions : SameDeclared l.functions m.functions

name_like : (ds es : DeclaredNames) (n : ℕ) (o o' : Option Ident) → o' ≡ option_map erase_ident o → SameDeclared ds es → Sim SameDeclared (declared_in ds n o) (declared_in es n o')
name_like ds es n o o' e h = subst (λ (z : Option Ident). Sim SameDeclared (declared_in ds n o) (declared_in es n z)) (sym e) (by o)
  where
    by : (o : Option Ident) → Sim SameDeclared (declared_in ds n o) (declared_in es n (option_map erase_ident o))
    by None = h
    by (Some x) = declare_like ds es x n h

type_erased : (i : ItemTree) → type_name (erase_item i) ≡ option_map erase_ident (type_name i)
type_erased (plain.rt_item s r) = refl
type_erased (plain.struct_item s d) = refl
type_erased (plain.enum_item s d) = refl
type_erased (plain.function_item s f) = refl

function_erased : (i : ItemTree) → function_name (erase_item i) ≡ option_map erase_ident (function_name i)
function_erased (plain.rt_item s r) = refl
function_erased (plain.struct_item s d) = refl
function_erased (plain.enum_item s d) = refl
function_erased (plain.function_item s f) = refl

apart_like : (l m : Lists) (n : ℕ) (is : ProgramTree) → ListsAlike l m → Sim (λ (x y : Unit {0}). Unit {0}) (apart l n is) (apart m n (erase_program is))
apart_like l m n [] h = tt
apart_like l m n (i ∷ is) h =
    sim_then SameDeclared (λ (x y : Unit {0}). Unit {0}) (declared_in l.types n (type_name i)) (declared_in m.types n (type_name (erase_item i))) _ _ (name_like l.types m.types n (type_name i) (type_name (erase_item i)) (type_erased i) h.types)
    (λ ts ts' z. sim_then SameDeclared (λ (x y : Unit {0}). Unit {0}) (declared_in l.functions n (function_name i)) (declared_in m.functions n (function_name (erase_item i))) _ _ (name_like l.functions m.functions n (function_name i) (function_name (erase_item i)) (function_erased i) h.functions)
    (λ fs fs' k. apart_like (record { types = ts; functions = fs }) (record { types = ts'; functions = fs' }) (suc n) is (record { types = z; functions = k })))

program_like : (p : ProgramTree) → Sim AllAlike (in_program p) (in_program (erase_program p))
program_like p = sim_then (λ (x y : Unit {0}). Unit {0}) AllAlike (apart (record { types = []; functions = [] }) 0 p) (apart (record { types = []; functions = [] }) 0 (erase_program p)) (λ _. in_items p 0 p) (λ _. in_items (erase_program p) 0 (erase_program p))
    (apart_like (record { types = []; functions = [] }) (record { types = []; functions = [] }) 0 p (record { types = tt; functions = tt })) (λ x y h. items_like p 0 p)

-- ---- what structs and enums hold

mutual
  held_same : (p : ProgramTree) (t : TypeTree) → held_in (erase_program p) (erase_type t) ≡ held_in p t
  held_same p (plain.kind_type s k) = refl
  held_same p (plain.bool_type s) = refl
  held_same p (plain.tuple_type s ts) = held_among_same p ts
  held_same p (plain.ref_type s l m t) = held_same p t
  held_same p (plain.named_type s x ls) = ap if_found (as_type_there p x.name)

  held_among_same : (p : ProgramTree) (ts : TypeTrees) → held_among (erase_program p) (erase_types ts) ≡ held_among p ts
  held_among_same p plain.no_type = refl
  held_among_same p (plain.type_and t ts) = ap (λ (l : List ℕ). l ++ held_among (erase_program p) (erase_types ts)) (held_same p t) ∙ ap (λ (l : List ℕ). held_in p t ++ l) (held_among_same p ts)

fields_held : (p : ProgramTree) (fs : List FieldOf) → held_by_fields (erase_program p) (map erase_field fs) ≡ held_by_fields p fs
fields_held p [] = refl
fields_held p (f ∷ fs) = ap (λ (l : List ℕ). l ++ held_by_fields (erase_program p) (map erase_field fs)) (held_same p f.typ) ∙ ap (λ (l : List ℕ). held_in p f.typ ++ l) (fields_held p fs)

variants_held : (p : ProgramTree) (vs : List VariantOf) → held_by_variants (erase_program p) (map erase_variant vs) ≡ held_by_variants p vs
variants_held p [] = refl
variants_held p (v ∷ vs) = ap (λ (l : List ℕ). l ++ held_by_variants (erase_program p) (map erase_variant vs)) (held_among_same p v.types) ∙ ap (λ (l : List ℕ). held_among p v.types ++ l) (variants_held p vs)

item_held : (p : ProgramTree) (i : ItemTree) → held_by (erase_program p) (erase_item i) ≡ held_by p i
item_held p (plain.rt_item s r) = refl
item_held p (plain.struct_item s d) = fields_held p d.fields
item_held p (plain.enum_item s d) = variants_held p d.variants
item_held p (plain.function_item s f) = refl

items_held : (p : ProgramTree) (is : ProgramTree) → map (held_by (erase_program p)) (erase_program is) ≡ map (held_by p) is
items_held p [] = refl
items_held p (i ∷ is) = ap (λ (l : List ℕ). l ∷ map (held_by (erase_program p)) (erase_program is)) (item_held p i) ∙ ap (λ (l : List (List ℕ)). held_by p i ∷ l) (items_held p is)

-- ---- programs that are equal apart from spans

second_ok : {A B : Type 0} (S : A → B → Type 0) (r : Outcome A) (s : Outcome B) (a : A) → Sim S r s → r ≡ Ok a → (b : B) × (s ≡ Ok b) × S a b
second_ok S (Ok a) (Ok b) c h e = (b, refl, subst (λ (x : _). S x b) (ok_is a c e) h)
  where
    ok_is : {A : Type 0} (a c : A) → ◌≡◌ {A = Outcome A} (Ok a) (Ok c) → a ≡ c
    ok_is a c e = cc
second_ok S (Ok a) (Err f) c h e = absurd h
second_ok S (Err f) s c h e = absurd (cc)

first_ok : {A B : Type 0} (S : A → B → Type 0) (r : Outcome A) (s : Outcome B) (b : B) → Sim S r s → s ≡ Ok b → (a : A) × (r ≡ Ok a) × S a b
first_ok S (Ok a) (Ok b) c h e = (a, refl, subst (λ (x : _). S a x) (ok_is b c e) h)
  where
    ok_is : {A : Type 0} (a c : A) → ◌≡◌ {A = Outcome A} (Ok a) (Ok c) → a ≡ c
    ok_is a c e = cc
first_ok S (Err f) (Ok b) c h e = absurd h
first_ok S r (Err f) c h e = absurd (cc)

both_alike : (ns es ms : List ItemNames) → AllAlike ns es → AllAlike ms es → AllAlike ns ms
both_alike [] [] [] h k = tt
both_alike (n ∷ ns) (e ∷ es) (m ∷ ms) h k = (
  record { vars = h.0.vars ∙ sym k.0.vars; lifetimes = h.0.lifetimes ∙ sym k.0.lifetimes; loops = h.0.loops ∙ sym k.0.loops; names = h.0.names ∙ sym k.0.names },
  both_alike ns es ms h.1 k.1,
)
both_alike [] (e ∷ es) ms h k = absurd h
both_alike (n ∷ ns) [] ms h k = absurd h
both_alike [] [] (m ∷ ms) h k = absurd k
both_alike (n ∷ ns) (e ∷ es) [] h k = absurd k

pub meant_there : (p q : ProgramTree) → SameProgram p q → (ns : List ItemNames) → Meant p ns → (ms : List ItemNames) × Meant q ms × AllAlike ns ms
meant_there p q e ns m =
    let x = second_ok AllAlike (in_program p) (in_program (erase_program p)) ns (program_like p) m.names_are in
    let y = first_ok AllAlike (in_program q) (in_program (erase_program q)) x.0 (program_like q) (ap in_program (sym e) ∙ x.1) in
    (y.0, record { names_are = y.1; finite = subst NoCycle (sym (items_held p p) ∙ ap held_in_tree e ∙ items_held q q) m.finite }, both_alike ns x.0 y.0 x.2 y.2)

-- What the signature of a function makes known is known in its body: the variable of each parameter has the declared type, with the same
-- numbers of the function's own lifetimes, so what this asks is told.
use Rattle.std.proofs.Common.{◌≡◌, ◌⊎◌, inl, inr, ℕ, zero, suc, ◌+◌, ◌<◌, ◌≤◌, ◌==◌, Bool, true, false, if◌then◌else◌, List, [], ◌∷◌, ◌++◌, length, map, get_or, Option, Some, None, slice_get, refl, sym, ap, ap₂, subst, ◌∙◌, arith}
use Rattle.std.proofs.lemmas.Bool.{eq-eqb, ne_eqb}
use Rattle.std.proofs.lemmas.List.{length-map}
use Rattle.rx_core.specs.declared.types.Bound.{Bound}
use Rattle.rx_core.specs.declared.types.Span.{Span}
use Rattle.rx_core.specs.declared.types.Ty.{Ty}
use Rattle.rx_graph_cycles.specs.Reaches.{IsIn}
use Rattle.rx_graph_cycles.proofs.Ways.{is_in_front, is_in_behind}
use Rattle.rx_tree.specs.declared.tree.Ident.{Ident}
use Rattle.rx_tree.specs.Plain as plain
use Rattle.rx_tree.specs.Plain.{TypeTree, TypeTrees, ProgramTree}
use Rattle.rx_resolve_names.specs.declared.resolved.ItemNames.{ItemNames}
use Rattle.rx_resolve_names.specs.declared.resolved.NodeNames.{NodeNames}
use Rattle.rx_lower_walks.specs.Walks.{Among, here, there}
use Rattle.rx_typed.specs.declared.declarations.Decl.{Decl}
use Rattle.rx_typed.specs.declared.declarations.Decl.TheVariants as decl
use Rattle.rx_typed.specs.declared.nodes.Declaration.{Declaration}
use Rattle.rx_typed.specs.declared.nodes.Site.{Site}
use Rattle.rx_typed.specs.declared.nodes.Stage.{Stage}
use Rattle.rx_typed.specs.Elaborated as elaborated
use Rattle.rx_typed.specs.Named as named
use Rattle.rx_typed.specs.Naming as naming
use Rattle.rx_typed.specs.Naming.{Cursor, a_node, an_entry, taken, lifetime_entry, of_type, of_types, function_named, function_variables}
use Rattle.rx_typed.specs.PlainTypes.{declarations}
use Rattle.rx_typed.specs.Regions.{RegionTyp, region_integer, region_boolean, region_tuple, region_reference, region_named, RegionTyps, no_region, region_and, regions_of, region-Ty, lifetimes_in, lifetimes_among}
use Rattle.rx_typed.specs.Renaming.{unit_region}
use Rattle.rx_typed.specs.Tree as tree
use Rattle.rx_typed.specs.Numbers.{open_one, open_in, number, numbers, numbered, all_numbered as types_numbered}
use Rattle.rx_typeck_solver.specs.declared.facts.Subject.TheVariants as subject
use Rattle.rx_typeck_elaborate_parts.specs.Assigning.{joined}
use Rattle.rx_typeck_typed.specs.declared.typed.TypedFn.{TypedFn}
use Rattle.rx_typeck_typed.specs.HaveTypes.{HasTypeInTables, EachTyped}
use Rattle.rx_typeck_typed.specs.Typing.{Given, type_at, is_mutable, FunctionTyped, FunctionsTyped}
use Rattle.rx_region_outlives.specs.Implied.{HasPair, implied_in, implied_among}
use Rattle.rx_region_outlives.proofs.ImpliedLemmas.{has_front, has_behind, has_either}
use Rattle.rx_lower_lifetimes.specs.Values.{Open, Held, lifetimes_of, result_type}
use Rattle.rx_lower_lifetimes.specs.Variables.{Written, parameter_type, written_type, told as told_type, open_type, open_types}
use Rattle.rx_lower_lifetimes.specs.Numbered.{all_numbered, opened}
use Rattle.rx_lower_lifetimes.specs.Lowered.{parameters, bounds_of, temporaries}
use Rattle.rx_lower.specs.Functions.{trimmed, trimmed_and, written, function}
use Rattle.rx_facts.specs.Functions.{body}
use Rattle.rx_region.specs.Constraints.{Context}
use Rattle.rx_region.specs.Known.{KnownToOutlive, parameters_ask, told}
use Rattle.rx_region.specs.Tables.{Follows}
use Rattle.rx_check.specs.Contexts.{AreAsked, context_of}
use Rattle.rx_repair.proofs.Accepting.{follows_known}
use Rattle.rx_repair.proofs.Deciding.{follows_more}
use Rattle.rx_repair.proofs.Parameters.{Fitting}
use Rattle.rx_compact.specs.Outliving.{Outlives}
use Rattle.rx_compact.proofs.Telling.{known_follows}
use Rattle.rx_compact_accepted.proofs.Below.{types_below}
use Rattle.rx_compact_accepted.proofs.Longer.{one_more, type_rises, optional_type_rises, body_rises}
use Rattle.rx_compact_accepted.proofs.Types.{own_number}

-- ---- a type of the function's own lifetimes keeps its numbers

own_numbers : (n next : ℕ) (ls : List ℕ) → ((l : ℕ) → IsIn ls l → l < n) → numbers n next ls ≡ ls
own_numbers n next [] h = refl
own_numbers n next (l ∷ ls) h = ap₂ (λ x xs. x ∷ xs) (own_number n next l (h l (inl refl))) (own_numbers n (next + open_one n l) ls (λ k w. h k (inr w)))

mutual
  own_numbered : (n next : ℕ) (t : RegionTyp) → ((l : ℕ) → IsIn (lifetimes_in t) l → l < n) → numbered n next t ≡ t
  own_numbered n next (region_integer k) h = refl
  own_numbered n next region_boolean h = refl
  own_numbered n next (region_tuple ts) h = ap region_tuple (own_all_numbered n next ts h)
  own_numbered n next (region_reference m l t) h = ap₂ (region_reference m) (own_number n next l (h l (inl refl))) (own_numbered n (next + open_one n l) t (λ k w. h k (inr w)))
  own_numbered n next (region_named i ls) h = ap (region_named i) (own_numbers n next ls h)

  own_all_numbered : (n next : ℕ) (ts : RegionTyps) → ((l : ℕ) → IsIn (lifetimes_among ts) l → l < n) → types_numbered n next ts ≡ ts
  own_all_numbered n next no_region h = refl
  own_all_numbered n next (region_and t ts) h = ap₂ region_and
      (own_numbered n next t (λ l w. h l (is_in_front (lifetimes_in t) (lifetimes_among ts) l w)))
      (own_all_numbered n (next + open_in n t) ts (λ l w. h l (is_in_behind (lifetimes_in t) (lifetimes_among ts) l w)))

-- ---- the type of a parameter's variable

type_of_parameter : (own : ℕ) (ps : List tree.Parameter) (ts : List Ty) (ws : List Written) (y : ℕ) (rs : List (Option Ty)) (x n : ℕ) (vs : List Open) (t : Ty) → ((l : ℕ) → IsIn (lifetimes_in (region-Ty t)) l → l < own)
    → x < length rs → parameter_type ps ts (y + x) ≡ Some t → get_or (all_numbered n (open_types own ps ts ws y rs ++ vs)) x unit_region ≡ region-Ty t
type_of_parameter own ps ts ws y [] x n vs t below h e = absurd (omega (arith, h))
type_of_parameter own ps ts ws y (r ∷ rs) zero n vs t below h e =
    let z : y ≡ y + 0 = omega arith in
    ap (λ o. numbered (open_type own (told_type o (written_type ws y)) r).from n (open_type own (told_type o (written_type ws y)) r).typ) (ap (parameter_type ps ts) z ∙ e)
    ∙ own_numbered own n (region-Ty t) below
type_of_parameter own ps ts ws y (r ∷ rs) (suc x) n vs t below h e =
    let v : Open = open_type own (told_type (parameter_type ps ts y) (written_type ws y)) r in
    let z : suc y + x ≡ y + suc x = omega arith in
    type_of_parameter own ps ts ws (suc y) rs x (n + open_in v.from v.typ) vs t below (omega (arith, h)) (ap (parameter_type ps ts) z ∙ e)

-- ---- parameters have the numbers of their places

abbrev AllFrom : ℕ → List ℕ → Type 0
AllFrom n [] = Unit {0}
AllFrom n (x ∷ xs) = (x ≡ n) × AllFrom (suc n) xs

abbrev variables_of : List tree.Parameter → List ℕ
variables_of ps = map (λ (p : tree.Parameter). p.variable) ps

-- each of these has one of these types
abbrev AllFound : List tree.Parameter → List Ty → List tree.Parameter → List Ty → Type 0
AllFound ps ts [] us = Unit {0}
AllFound ps ts (q ∷ qs) [] = Unit {0}
AllFound ps ts (q ∷ qs) (u ∷ us) = (parameter_type ps ts q.variable ≡ Some u) × AllFound ps ts qs us

found_behind : (p : tree.Parameter) (t : Ty) (ps : List tree.Parameter) (ts : List Ty) (n k : ℕ) (qs : List tree.Parameter) (us : List Ty) → p.variable ≡ n → n < k → AllFrom k (variables_of qs) → AllFound ps ts qs us
    → AllFound (p ∷ ps) (t ∷ ts) qs us
found_behind p t ps ts n k [] us e w a f = tt
found_behind p t ps ts n k (q ∷ qs) [] e w a f = tt
found_behind p t ps ts n k (q ∷ qs) (u ∷ us) e w a f =
    let x = a.0 in (
      ap (λ b. if b then Some t else parameter_type ps ts q.variable) (ne_eqb p.variable q.variable (λ z. omega (arith, z, e, w, x))) ∙ f.0,
      found_behind p t ps ts n (suc k) qs us e (omega (arith, w)) a.1 f.1,
    )

all_found : (n : ℕ) (ps : List tree.Parameter) (ts : List Ty) → AllFrom n (variables_of ps) → AllFound ps ts ps ts
all_found n [] ts a = tt
all_found n (p ∷ ps) [] a = tt
all_found n (p ∷ ps) (t ∷ ts) a = (
  ap (λ b. if b then Some t else parameter_type ps ts p.variable) (eq-eqb p.variable p.variable refl),
  found_behind p t ps ts n (suc n) ps ts a.0 (omega arith) a.1 (all_found (suc n) ps ts a.1),
)

-- ---- numbering

-- types declare no variable
taken_still : (l : List NodeNames) (c : Cursor) → (taken l c).1.declared ≡ c.declared
taken_still [] c = refl
taken_still (n ∷ l) c = refl

entry_still : (c : Cursor) → (an_entry c).1.declared ≡ c.declared
entry_still c = taken_still c.names c

lifetime_still : (o : Option Ident) (c : Cursor) → (lifetime_entry o c).1.declared ≡ c.declared
lifetime_still None c = refl
lifetime_still (Some l) c = entry_still c

mutual
  type_still : (y : TypeTree) (c : Cursor) → (of_type y c).1.declared ≡ c.declared
  type_still (plain.kind_type s k) c = refl
  type_still (plain.bool_type s) c = refl
  type_still (plain.tuple_type s ts) c = types_still ts (a_node s Site.Value c).1
  type_still (plain.ref_type s l m y) c = let d = (a_node s Site.Value c).1 in type_still y (lifetime_entry l d).1 ∙ lifetime_still l d
  type_still (plain.named_type s x ls) c = entry_still (a_node s Site.Value c).1

  types_still : (ys : TypeTrees) (c : Cursor) → (of_types ys c).1.declared ≡ c.declared
  types_still plain.no_type c = refl
  types_still (plain.type_and y ys) c = types_still ys (of_type y c).1 ∙ type_still y c

-- the parameters of a text from a cursor on
abbrev From : List plain.Parameter → Cursor → Type 0
From xs c = AllFrom c.declared (map (λ (p : named.Parameter). p.variable) (naming.of_parameters xs c).0) × (length c.variables + length xs ≤ length (naming.of_parameters xs c).1.variables)

one_from : (x : plain.Parameter) (xs : List plain.Parameter) (c : Cursor) → From xs (naming.of_parameter x c).1 → From (x ∷ xs) c
one_from x xs c rest = (
  (refl, subst (λ n. AllFrom n (map (λ (p : named.Parameter). p.variable) (naming.of_parameters xs (naming.of_parameter x c).1).0)) (type_still x.typ c1) rest.0),
  (let a = rest.1 in let b = one_more c.variables d in let e = (type_rises x.typ c1).grows in
      let r : suc (length c.variables) + length xs ≤ length (naming.of_parameters xs (naming.of_parameter x c).1).1.variables = omega (arith, a, b, e) in omega (arith, r)),
)
  where
    d : Declaration
    d = record { mutable = x.mutable; stage = Stage.Known }

    c1 : Cursor
    c1 = (naming.declare d c).1

all_from : (xs : List plain.Parameter) (c : Cursor) → From xs c
all_from [] c = (tt, omega arith)
all_from (x ∷ xs) c = one_from x xs c (all_from xs (naming.of_parameter x c).1)

same_parameters : (ps : List named.Parameter) → variables_of (elaborated.parameters ps) ≡ map (λ (p : named.Parameter). p.variable) ps
same_parameters [] = refl
same_parameters (p ∷ ps) = ap (λ xs. p.variable ∷ xs) (same_parameters ps)

-- ---- tables that go on up to the last type

trimmed_long : (vs : List (Option Ty)) (x : ℕ) (t : Ty) → joined (slice_get vs x) ≡ Some t → x < length (trimmed vs)
trimmed_long [] x t e = absurd (cc)
trimmed_long (v ∷ vs) zero t e = by v e (trimmed vs)
  where
    by : (v : Option Ty) → v ≡ Some t → (us : List (Option Ty)) → 0 < length (trimmed_and v us)
    by None e us = absurd (cc)
    by (Some u) e us = omega arith
trimmed_long (v ∷ vs) (suc x) t e = by v (trimmed vs) (trimmed_long vs x t e)
  where
    by : (v : Option Ty) (us : List (Option Ty)) → x < length us → suc x < length (trimmed_and v us)
    by None [] h = absurd (omega (arith, h))
    by None (u ∷ us) h = omega (arith, h)
    by (Some w) us h = omega (arith, h)

-- ---- each variable has a type

pub variables_typed : (G : Given) (ns : List ItemNames) (i : ℕ) (is : ProgramTree) (ts : List TypedFn) → FunctionsTyped G ns i is ts → EachTyped ns i is ts → (t : TypedFn) → Among t ts
    → (x : ℕ) → x < length t.mutable → HasTypeInTables t (subject.Variable x)
variables_typed G ns i [] ts h k t a = absurd (elim (subst (λ (l : List TypedFn). Among t l) h a) [ ])
variables_typed G ns i (plain.rt_item a b ∷ is) ts h k t y = variables_typed G ns (suc i) is ts h k t y
variables_typed G ns i (plain.struct_item a b ∷ is) ts h k t y = variables_typed G ns (suc i) is ts h k t y
variables_typed G ns i (plain.enum_item a b ∷ is) ts h k t y = variables_typed G ns (suc i) is ts h k t y
variables_typed G ns i (plain.function_item s f ∷ is) [] h k t y = absurd h
variables_typed G ns i (plain.function_item s f ∷ is) (_ ∷ ts) h k t here = k.0.variables
variables_typed G ns i (plain.function_item s f ∷ is) (_ ∷ ts) h k t (there y) = variables_typed G ns (suc i) is ts h.1 k.1 t y

module _ (G : Given) (place : ℕ) (s : Span) (f : plain.Function) (ns : List NodeNames) (vars : List Span) (h : TypedFn) (T : FunctionTyped G place s f ns vars h) (typed : (x : ℕ) → x < length h.mutable → HasTypeInTables h (subject.Variable x)) where
  abbrev F : named.Function
  F = function_named place s f ns

  abbrev c1 : Cursor
  c1 = (a_node s Site.Value (naming.begins ns)).1

  abbrev c2 : Cursor
  c2 = (naming.entry_if (naming.has_entry f) c1).1

  abbrev Q : List named.Parameter × Cursor
  Q = naming.of_parameters f.params c2

  entry_keeps : (b : Bool) (c : Cursor) → (naming.entry_if b c).1.declared ≡ c.declared
  entry_keeps true c = entry_still c
  entry_keeps false c = refl

  from_zero : AllFrom 0 (variables_of (body h).params)
  from_zero = subst (λ ps. AllFrom 0 (variables_of ps)) (sym (ap (λ (t : tree.Function). t.params) T.tree))
      (subst (AllFrom 0) (sym (same_parameters Q.0)) (subst (λ n. AllFrom n (map (λ (p : named.Parameter). p.variable) Q.0)) (entry_keeps (naming.has_entry f) c1) (all_from f.params c2).0))

  enough : length f.params ≤ length (function_variables s f ns)
  enough =
      let R = (naming.of_optional_type f.result Q.1).1 in
      let a = (all_from f.params c2).1 in
      let b = (optional_type_rises f.result Q.1).grows in
      let d = (body_rises f.body Site.Expects R).grows in
      let v : length f.params ≤ length (naming.of_body Site.Expects f.body R).1.variables = omega (arith, a, b, d) in
      v

  has_type : (x : ℕ) → x < length f.params → (t : Ty) × (type_at h (subject.Variable x) ≡ Some t)
  has_type x w =
      let size : length h.mutable ≡ length (function_variables s f ns) = ap (λ (l : List Bool). length l) T.mutable ∙ length-map (function_variables s f ns) is_mutable in
      let e = enough in
      typed x (omega (arith, w, e, size))

  long : (x : ℕ) → x < length f.params → x < length (trimmed h.variables)
  long x w = let r = has_type x w in trimmed_long h.variables x r.0 r.1

  as_many : (xs : List plain.Parameter) (c : Cursor) → length (naming.of_parameters xs c).0 ≡ length xs
  as_many [] c = refl
  as_many (x ∷ xs) c = ap suc (as_many xs (naming.of_parameter x c).1)

  below_last : (n : ℕ) (xs : List ℕ) → AllFrom n xs → (m : ℕ) → n + length xs ≡ m → (x : ℕ) → IsIn xs x → x < m
  below_last n [] a m e x w = absurd w
  below_last n (y ∷ ys) a m e x (inl q) = let z = a.0 in omega (arith, z, q, e)
  below_last n (y ∷ ys) a m e x (inr w) = below_last (suc n) ys a.1 m (omega (arith, e)) x w

  all_long : (x : ℕ) → IsIn (variables_of (body h).params) x → x < length (trimmed h.variables)
  all_long x w = long x (below_last 0 (variables_of (body h).params) from_zero (length f.params)
      (ap (λ (ps : List tree.Parameter). 0 + length (variables_of ps)) (ap (λ (t : tree.Function). t.params) T.tree)
      ∙ (ap (λ (xs : List ℕ). 0 + length xs) (same_parameters Q.0) ∙ (let a = length-map Q.0 (λ (p : named.Parameter). p.variable) in let b = as_many f.params c2 in omega (arith, a, b)))) x w)

  -- ---- what is told

  module _ (D : List Decl) (P : ℕ → List Bound) (asked : AreAsked D P) (fit : Fitting (declarations D) (slice_get D h.item)) (count : length (body h).params ≡ length (parameters (slice_get D h.item))) where
    abbrev C : Context
    C = context_of D P h

    abbrev own : ℕ
    own = lifetimes_of (slice_get D h.item)

    abbrev ps : List tree.Parameter
    ps = (body h).params

    abbrev ts : List Ty
    ts = parameters (slice_get D h.item)

    parameter_is : (x : ℕ) (t : Ty) → ((l : ℕ) → IsIn (lifetimes_in (region-Ty t)) l → l < own) → x < length (trimmed h.variables) → parameter_type ps ts x ≡ Some t → get_or C.lifetimes.types x unit_region ≡ region-Ty t
    parameter_is x t below w e =
        let z : x ≡ 0 + x = omega arith in
        type_of_parameter own ps ts (map written h.annotations) 0 (trimmed h.variables) x own (opened (temporaries (function D h))) t below w (ap (parameter_type ps ts) (sym z) ∙ e)

    parameters_told : (qs : List tree.Parameter) (us : List Ty) → length qs ≡ length us → AllFound ps ts qs us → ((x : ℕ) → IsIn (variables_of qs) x → x < length (trimmed h.variables))
        → ((l : ℕ) → IsIn (lifetimes_among (regions_of (map region-Ty us))) l → l < own) → (l k : ℕ) → HasPair (implied_among P (regions_of (map region-Ty us))) l k → HasPair (parameters_ask C (variables_of qs)) l k
    parameters_told [] [] n a w below l k v = v
    parameters_told [] (u ∷ us) n a w below l k v = absurd (omega (arith, n))
    parameters_told (q ∷ qs) [] n a w below l k v = absurd (omega (arith, n))
    parameters_told (q ∷ qs) (u ∷ us) n a w below l k v = elim (has_either (implied_in P (region-Ty u)) (implied_among P (regions_of (map region-Ty us))) l k v) [
      | inl x ↦ has_front (implied_in P (get_or C.lifetimes.types q.variable unit_region)) (parameters_ask C (variables_of qs)) l k
          (subst (λ t. HasPair (implied_in P t) l k) (sym (parameter_is q.variable u (λ m z. below m (is_in_front (lifetimes_in (region-Ty u)) (lifetimes_among (regions_of (map region-Ty us))) m z)) (w q.variable (inl refl)) a.0)) x)
      | inr x ↦ has_behind (implied_in P (get_or C.lifetimes.types q.variable unit_region)) (parameters_ask C (variables_of qs)) l k
          (parameters_told qs us (omega (arith, n)) a.1 (λ y z. w y (inr z)) (λ m z. below m (is_in_behind (lifetimes_in (region-Ty u)) (lifetimes_among (regions_of (map region-Ty us))) m z)) l k x)
    ]

    abbrev says : Option Decl → List Bound
    says o = bounds_of o ++ (implied_among P (regions_of (map region-Ty (parameters o))) ++ implied_in P (result_type o))

    says_told : (l k : ℕ) → HasPair (says (slice_get D h.item)) l k → HasPair (told C) l k
    says_told l k v = elim (has_either (bounds_of (slice_get D h.item)) (implied_among P (regions_of (map region-Ty ts)) ++ implied_in P (result_type (slice_get D h.item))) l k v) [
      | inl x ↦ has_front C.lifetimes.bounds (parameters_ask C C.lifetimes.params ++ implied_in P C.lifetimes.answer) l k x
      | inr x ↦ has_behind C.lifetimes.bounds (parameters_ask C C.lifetimes.params ++ implied_in P C.lifetimes.answer) l k
          (elim (has_either (implied_among P (regions_of (map region-Ty ts))) (implied_in P (result_type (slice_get D h.item))) l k x) [
            | inl y ↦ has_front (parameters_ask C C.lifetimes.params) (implied_in P C.lifetimes.answer) l k
                (parameters_told ps ts count (all_found 0 ps ts from_zero) all_long (types_below (declarations D) own (regions_of (map region-Ty ts)) fit.params) l k y)
            | inr y ↦ has_behind (parameters_ask C C.lifetimes.params) (implied_in P C.lifetimes.answer) l k y
          ])
    ]

    pub signature_known : (n : ℕ) (qs : List Ty) (t : Ty) (bs : List Bound) → slice_get D h.item ≡ Some (decl.Func n qs t bs) → (l k : ℕ) → Outlives D (slice_get D h.item) l k → KnownToOutlive C l k
    signature_known n qs t bs at l k w =
        follows_known C l k (follows_more (says (slice_get D h.item)) (told C) says_told l k
        (subst (λ o. Follows (says o) l k) (sym at) ((known_follows D P asked n qs t bs l k).1 (subst (λ o. Outlives D o l k) at w))))

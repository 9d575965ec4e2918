-- Types that are written: what they are without lifetimes, where the rules are met, and as they are read with lifetimes. A parameter has the
-- type that its function declares.
use Rattle.std.proofs.Common.{◌≡◌, ℕ, suc, Bool, true, false, not, ◌||◌, List, [], ◌∷◌, ◌++◌, map, Option, Some, None, Ok, Err, slice_get, refl, sym, ap, ◌∙◌, subst}
use Rattle.rx_core.specs.declared.types.Kind.{Kind}
use Rattle.rx_core.specs.declared.types.Span.{Span}
use Rattle.rx_core.specs.declared.types.Ty.{Ty}
use Rattle.rx_tree.specs.declared.tree.Ident.{Ident}
use Rattle.rx_tree.specs.declared.tree.BoundLifetime.{BoundLifetime}
use Rattle.rx_tree.specs.Lists.{Every}
use Rattle.rx_tree.specs.Plain as plain
use Rattle.rx_tree.specs.Plain.{TypeTree, TypeTrees, ProgramTree}
use Rattle.rx_resolve_names.specs.declared.resolved.NodeNames.{NodeNames}
use Rattle.rx_resolve_names.specs.Meant.{number}
use Rattle.rx_typed.specs.declared.nodes.Site.{Site}
use Rattle.rx_typed.specs.declared.nodes.Stage.{Stage}
use Rattle.rx_typed.specs.Types as types
use Rattle.rx_typed.specs.Types.{Shapes, Typ, integer, boolean, tuple_of, reference, no_shape, shape_and, shapes_of}
use Rattle.rx_typed.specs.PlainTypes.{plain-Ty, typ_integer, typ_boolean, typ_tuple, typ_shared, typ_mut, typ_item}
use Rattle.rx_typed.specs.Named as named
use Rattle.rx_typed.specs.Named.{Written, WrittenTypes, Parameter, written_node}
use Rattle.rx_typed.specs.Naming as naming
use Rattle.rx_typed.specs.Naming.{Cursor, of_type, of_types}
use Rattle.rx_typeck_typed.specs.Steps as steps
use Rattle.rx_typeck_typed.specs.Steps.{Outcome, Reading, on_ok}
use Rattle.rx_typeck_typed.specs.Written.{elided, as_many, all_elided, listed, lifetimes_at, lifetimes_of, pointing, type_of, types_of}
use Rattle.rx_typeck_typed.specs.Items.{entry_of, bounded, one_each, parameters_of}
use Rattle.rx_typeck_solver.specs.declared.facts.Subject.TheVariants as subject
use Rattle.rx_typeck_solver.specs.Facts.{Assignment, KnownItems, types_at}
use Rattle.rx_typeck_typed.specs.Asking.{Asking}
use Rattle.rx_typeck_typed.specs.Demands as rules
use Rattle.rx_repair.proofs.Asking.{Asks, asks_map, none, both, then_first, then_second, one_asked, quiet, lifetimes_u}
use Rattle.rx_repair.proofs.Places.{some_same}
use Rattle.rx_repair.proofs.Pieces.{own}

abbrev mutual
  pub written_typ : Written → Typ
  written_typ (named.a_kind n k) = integer k
  written_typ (named.a_bool n) = boolean
  written_typ (named.a_tuple n ts) = tuple_of (written_typs ts)
  written_typ (named.a_reference n m t) = reference m (written_typ t)
  written_typ (named.an_item n i ls) = types.named i

  pub written_typs : WrittenTypes → Shapes Kind
  written_typs named.no_written = no_shape
  written_typs (named.written_and t ts) = shape_and (written_typ t) (written_typs ts)

-- ---- what the rules give

module _ (K : KnownItems) (A : Assignment) where
  abbrev Wants : Type 0 → Asking → Type 0
  Wants R a = Asks K A R a

  mutual
    pub type_given : (t : Written) → Wants (own K A (written_node t) ≡ written_typ t) (rules.of_type t)
    type_given (named.a_kind n k) = asks_map (λ h. sym (some_same _ _ h.0)) (one_asked n _ _ _)
    type_given (named.a_bool n) = asks_map (λ h. sym (some_same _ _ h.0)) (one_asked n _ _ _)
    type_given (named.a_tuple n ts) = asks_map (λ h. sym (some_same _ _ h.1.0) ∙ ap tuple_of h.0) (both (types_given ts) (one_asked n _ _ _))
    type_given (named.a_reference n m t) = asks_map (λ h. sym (some_same _ _ h.1.0) ∙ ap (reference m) h.0) (both (type_given t) (one_asked n _ _ _))
    type_given (named.an_item n i ls) = asks_map (λ h. sym (some_same _ _ h.0)) (then_second (lifetimes_u n i ls) (one_asked n _ _ _))

    types_given : (ts : WrittenTypes) → Wants (shapes_of (types_at A (rules.written_nodes ts)) ≡ written_typs ts) (rules.of_types ts)
    types_given named.no_written = asks_map (λ h. refl) none
    types_given (named.written_and t ts) =
        asks_map (λ h. ap (λ (x : Typ). shape_and x (shapes_of (types_at A (rules.written_nodes ts)))) h.0 ∙ ap (shape_and (written_typ t)) h.1) (both (type_given t) (types_given ts))

  pub whole_given : (t : Written) → Wants (own K A (written_node t) ≡ written_typ t) (rules.whole_type t)
  whole_given t = then_first (type_given t) (quiet (written_node t) _ _ _)

  abbrev pub Taken : Parameter → Type 0
  Taken x = A (subject.Variable x.variable) ≡ written_typ x.typ

  pub parameters_given : (xs : List Parameter) → Wants (Every Taken xs) (rules.of_parameters xs)
  parameters_given [] = none
  parameters_given (x ∷ xs) = both (asks_map (λ h. sym (some_same _ _ h.1.0) ∙ h.0) (both (whole_given x.typ) (one_asked (written_node x.typ) _ _ _))) (parameters_given xs)

-- ---- as they are read

-- an outcome that is well, and of which this holds
abbrev pub Well : {A : Type 0} → (A → Type 0) → Outcome A → Type 0
Well Q (Ok a) = Q a
Well Q (Err e) = ⊥

well_then : {A B : Type 0} (Q : A → Type 0) (R : B → Type 0) (m : Outcome A) (f : A → Outcome B) → Well Q m → ((a : A) → Q a → Well R (f a)) → Well R (on_ok m f)
well_then Q R (Ok a) f h k = k a h
well_then Q R (Err e) f h k = absurd h

pub well_is : {A : Type 0} (Q : A → Type 0) (m : Outcome A) (a : A) → Well Q m → m ≡ Ok a → Q a
well_is Q m a h e = subst (λ (o : Outcome _). Well Q o) e h

abbrev pub others : List NodeNames → List NodeNames
others [] = []
others (x ∷ xs) = xs

abbrev pub entry_numbers : List NodeNames → List ℕ
entry_numbers [] = []
entry_numbers (x ∷ xs) = x.numbers

read_left : (ns : List NodeNames) (r : Reading) → r.names ≡ ns → (steps.taken ns r).1.names ≡ others ns
read_left [] r e = e
read_left (x ∷ xs) r e = refl

read_numbers : (ns : List NodeNames) (r : Reading) → (steps.taken ns r).0 ≡ entry_numbers ns
read_numbers [] r = refl
read_numbers (x ∷ xs) r = refl

pub left_by : (ns : List NodeNames) (c : Cursor) → c.names ≡ ns → (naming.taken ns c).1.names ≡ others ns
left_by [] c e = e
left_by (x ∷ xs) c e = refl

pub numbers_by : (ns : List NodeNames) (c : Cursor) → (naming.taken ns c).0.0 ≡ entry_numbers ns
numbers_by [] c = refl
numbers_by (x ∷ xs) c = refl

-- the entry that is read is the one that is numbered
same_entry : (r : Reading) (c : Cursor) → r.names ≡ c.names → (naming.taken c.names c).0.0 ≡ (steps.taken r.names r).0
same_entry r c e = numbers_by c.names c ∙ (ap entry_numbers (sym e) ∙ sym (read_numbers r.names r))

same_left : (r : Reading) (c : Cursor) → r.names ≡ c.names → (steps.taken r.names r).1.names ≡ (naming.taken c.names c).1.names
same_left r c e = read_left r.names r refl ∙ (ap others e ∙ sym (left_by c.names c refl))

-- where a type stands: what `elided` reads
abbrev domain : {R S : Type 0} → (R → S) → Type 0
domain {R} {S} f = R

abbrev pub Role : Type 0
Role = domain elided

abbrev Stays : {A : Type 0} → List NodeNames → A × Reading → Type 0
Stays ns x = x.1.names ≡ ns

-- a place where each type is well, whatever it leaves out
pub record Lenient (e : Role) : Type 0 where
  pub elides : (s : Span) (r : Reading) → Well (λ (x : ℕ × Reading). x.1.names ≡ r.names) (elided e s r)
  pub counts : (s : Span) (ds : List Ident) (ls : List (Option Ident)) → as_many e s ds ls ≡ Ok tt

module _ (p : ProgramTree) (e : Role) (L : Lenient e) where
  all_elided_stay : (s : Span) (ds : List Ident) (r : Reading) → Well (Stays {A = List ℕ} r.names) (all_elided e s ds r)
  all_elided_stay s [] r = refl
  all_elided_stay s (d ∷ ds) r =
      well_then (Stays {A = ℕ} r.names) (Stays {A = List ℕ} r.names) (elided e s r) _ (L.elides s r)
      (λ a h. well_then (Stays {A = List ℕ} a.1.names) (Stays {A = List ℕ} r.names) (all_elided e s ds a.1) _ (all_elided_stay s ds a.1) (λ b k. k ∙ h))

  listed_stay : (s : Span) (ls : List (Option Ident)) (ns : List ℕ) (r : Reading) → Well (Stays {A = List ℕ} r.names) (listed e s ls ns r)
  listed_stay s [] ns r = refl
  listed_stay s (None ∷ ls) ns r =
      well_then (Stays {A = ℕ} r.names) (Stays {A = List ℕ} r.names) (elided e s r) _ (L.elides s r)
      (λ a h. well_then (Stays {A = List ℕ} a.1.names) (Stays {A = List ℕ} r.names) (listed e s ls ns a.1) _ (listed_stay s ls ns a.1) (λ b k. k ∙ h))
  listed_stay s (Some x ∷ ls) ns r =
      let r1 : Reading = record r { lifetimes = r.lifetimes ++ steps.first ns ∷ [] } in
      well_then (Stays {A = List ℕ} r1.names) (Stays {A = List ℕ} r.names) (listed e s ls (steps.others ns) r1) _ (listed_stay s ls (steps.others ns) r1) (λ b k. k)

  lifetimes_stay : (s : Span) (ds : List Ident) (ls : Option (List (Option Ident))) (ns : List ℕ) (r : Reading) → Well (Stays {A = List ℕ} r.names) (lifetimes_at e s ds ls ns r)
  lifetimes_stay s ds None ns r = all_elided_stay s ds r
  lifetimes_stay s ds (Some ls) ns r = subst (λ (o : Outcome (Unit {0})). Well (Stays {A = List ℕ} r.names) (on_ok o (λ _. listed e s ls ns r))) (sym (L.counts s ds ls)) (listed_stay s ls ns r)

  -- it is what is written, and as many entries of names were taken as the tree with numbers takes
  abbrev pub IsRead : Written × Cursor → Ty × Reading → Type 0
  IsRead y x = (plain-Ty x.0 ≡ written_typ y.0) × (x.1.names ≡ y.1.names)

  abbrev AreRead : WrittenTypes × Cursor → List Ty × Reading → Type 0
  AreRead y x = (shapes_of (map plain-Ty x.0) ≡ written_typs y.0) × (x.1.names ≡ y.1.names)

  pointing_is : (m : Bool) (l : ℕ) (t : Ty) (u : Typ) → plain-Ty t ≡ u → plain-Ty (pointing m l t) ≡ reference m u
  pointing_is false l t u h = typ_shared l t ∙ ap (reference false) h
  pointing_is true l t u h = typ_mut l t ∙ ap (reference true) h

  mutual
    pub type_read : (t : TypeTree) (r : Reading) (c : Cursor) → r.names ≡ c.names → Well (IsRead (of_type t c)) (type_of p e t r)
    type_read (plain.kind_type s k) r c h = (typ_integer k, h)
    type_read (plain.bool_type s) r c h = (typ_boolean, h)
    type_read (plain.tuple_type s ts) r c h =
        let d = (naming.a_node s Site.Value c).1 in
        well_then (AreRead (of_types ts d)) (IsRead (of_type (plain.tuple_type s ts) c)) (types_of p e ts r) _ (types_read ts r d h) (λ a k. (typ_tuple a.0 ∙ ap tuple_of k.0, k.1))
    type_read (plain.ref_type s None m t) r c h =
        let d = (naming.a_node s Site.Value c).1 in
        well_then (Stays {A = ℕ} r.names) (IsRead (of_type (plain.ref_type s None m t) c)) (elided e s r) _ (L.elides s r)
        (λ a k. well_then (IsRead (of_type t d)) (IsRead (of_type (plain.ref_type s None m t) c)) (type_of p e t a.1) _ (type_read t a.1 d (k ∙ h)) (λ b l. (pointing_is m a.0 b.0 _ l.0, l.1)))
    type_read (plain.ref_type s (Some l) m t) r c h =
        let d0 = (naming.a_node s Site.Value c).1 in
        let d = (naming.an_entry d0).1 in
        let x = steps.taken r.names r in
        let r1 : Reading = record x.1 { lifetimes = x.1.lifetimes ++ steps.first x.0 ∷ [] } in
        well_then (IsRead (of_type t d)) (IsRead (of_type (plain.ref_type s (Some l) m t) c)) (type_of p e t r1) _ (type_read t r1 d (same_left r d0 h)) (λ b k. (pointing_is m (steps.first x.0) b.0 _ k.0, k.1))
    type_read (plain.named_type s y ls) r c h =
        let d0 = (naming.a_node s Site.Value c).1 in
        let x = steps.taken r.names r in
        let i = steps.first x.0 in
        well_then (Stays {A = List ℕ} x.1.names) (IsRead (of_type (plain.named_type s y ls) c)) (lifetimes_at e s (lifetimes_of (slice_get p i)) ls (steps.others x.0) x.1) _
        (lifetimes_stay s (lifetimes_of (slice_get p i)) ls (steps.others x.0) x.1) (λ a k. (typ_item i a.0 ∙ ap (λ (ns : List ℕ). types.named (naming.first ns)) (sym (same_entry r d0 h)), k ∙ same_left r d0 h))

    types_read : (ts : TypeTrees) (r : Reading) (c : Cursor) → r.names ≡ c.names → Well (AreRead (of_types ts c)) (types_of p e ts r)
    types_read plain.no_type r c h = (refl, h)
    types_read (plain.type_and t ts) r c h =
        let d = (of_type t c).1 in
        well_then (IsRead (of_type t c)) (AreRead (of_types (plain.type_and t ts) c)) (type_of p e t r) _ (type_read t r c h)
        (λ a k. well_then (AreRead (of_types ts d)) (AreRead (of_types (plain.type_and t ts) c)) (types_of p e ts a.1) _ (types_read ts a.1 d k.1)
        (λ b l. (ap (λ (u : Typ). shape_and u (shapes_of (map plain-Ty b.0))) k.0 ∙ ap (shape_and (written_typ (of_type t c).0)) l.0, l.1)))

-- ---- parameters

-- the place of a parameter's type
abbrev in_parameter : (F : Role) × ((p : ProgramTree) (x : plain.Parameter) (xs : List plain.Parameter) (r : Reading) → parameters_of p (x ∷ xs) r ≡ steps.in_front (type_of p F x.typ) (parameters_of p xs) r)
in_parameter = (_, λ p x xs r. refl)

parameter_lenient : Lenient in_parameter.0
parameter_lenient = record { elides = λ s r. refl; counts = λ s ds ls. refl }

-- the types that are declared are those that are written
abbrev pub Agree : List Parameter → List Ty → Type 0
Agree [] [] = Unit {0}
Agree [] (t ∷ ts) = ⊥
Agree (x ∷ xs) [] = ⊥
Agree (x ∷ xs) (t ∷ ts) = (plain-Ty t ≡ written_typ x.typ) × Agree xs ts

pub parameters_read : (p : ProgramTree) (xs : List plain.Parameter) (r : Reading) (c : Cursor) → r.names ≡ c.names → Well (λ (x : List Ty × Reading). Agree (naming.of_parameters xs c).0 x.0) (parameters_of p xs r)
parameters_read p [] r c h = tt
parameters_read p (x ∷ xs) r c h =
    let d = (naming.declare (record { mutable = x.mutable; stage = Stage.Known }) c).1 in
    well_then (IsRead p in_parameter.0 parameter_lenient (of_type x.typ d)) (λ (z : List Ty × Reading). Agree (naming.of_parameters (x ∷ xs) c).0 z.0) (type_of p in_parameter.0 x.typ r) _
    (type_read p in_parameter.0 parameter_lenient x.typ r d h)
    (λ a k. well_then (λ (z : List Ty × Reading). Agree (naming.of_parameters xs (of_type x.typ d).1).0 z.0) (λ (z : List Ty × Reading). Agree (naming.of_parameters (x ∷ xs) c).0 z.0) (parameters_of p xs a.1) _
    (parameters_read p xs a.1 (of_type x.typ d).1 k.1) (λ b l. (k.0, l)))

-- the types without lifetimes that are declared
abbrev pub AgreeAs : List Parameter → List Typ → Type 0
AgreeAs [] [] = Unit {0}
AgreeAs [] (t ∷ ts) = ⊥
AgreeAs (x ∷ xs) [] = ⊥
AgreeAs (x ∷ xs) (t ∷ ts) = (t ≡ written_typ x.typ) × AgreeAs xs ts

pub agree_plain : (xs : List Parameter) (ts : List Ty) → Agree xs ts → AgreeAs xs (map plain-Ty ts)
agree_plain [] [] h = tt
agree_plain [] (t ∷ ts) h = h
agree_plain (x ∷ xs) [] h = h
agree_plain (x ∷ xs) (t ∷ ts) h = (h.0, agree_plain xs ts h.1)

-- ---- the entry in front of them

nothing_append : (xs ys : List ℕ) → not (naming.is_nothing (xs ++ ys)) ≡ (not (naming.is_nothing xs) || not (naming.is_nothing ys))
nothing_append [] ys = refl
nothing_append (x ∷ xs) ys = refl

each_nothing : (n : ℕ) (xs : List Ident) → not (naming.is_nothing (one_each n xs)) ≡ not (naming.is_nothing xs)
each_nothing n [] = refl
each_nothing n (x ∷ xs) = refl

bounded_nothing : (n : ℕ) (ls : List BoundLifetime) → not (naming.is_nothing (bounded n ls)) ≡ naming.has_bounds ls
bounded_nothing n [] = refl
bounded_nothing n (l ∷ ls) =
    nothing_append (one_each (number n) l.bounds) (bounded (suc n) ls)
    ∙ (ap (λ (b : Bool). b || not (naming.is_nothing (bounded (suc n) ls))) (each_nothing (number n) l.bounds) ∙ ap (λ (b : Bool). not (naming.is_nothing l.bounds) || b) (bounded_nothing (suc n) ls))

entry_names : (B : List ℕ) (xs : List plain.Parameter) (r : Reading) (c : Cursor) → r.names ≡ c.names
    → Well (λ (q : List ℕ × Reading). q.1.names ≡ (naming.entry_if (not (naming.is_nothing B) || not (naming.is_nothing xs)) c).1.names) (entry_of B xs r)
entry_names [] [] r c h = h
entry_names [] (x ∷ xs) r c h = same_left r c h
entry_names (b ∷ B) xs r c h = same_left r c h

-- so far a function's reading and its numbering go along one text
pub entry_read : (f : plain.Function) (r : Reading) (c : Cursor) → r.names ≡ c.names → Well (λ (q : List ℕ × Reading). q.1.names ≡ (naming.entry_if (naming.has_entry f) c).1.names) (entry_of (bounded 0 f.lifetimes) f.params r)
entry_read f r c h =
    subst (λ (b : Bool). Well (λ (q : List ℕ × Reading). q.1.names ≡ (naming.entry_if (b || not (naming.is_nothing f.params)) c).1.names) (entry_of (bounded 0 f.lifetimes) f.params r)) (bounded_nothing 0 f.lifetimes)
    (entry_names (bounded 0 f.lifetimes) f.params r c h)

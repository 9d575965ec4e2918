-- The types of operands one by one: those that are declared of parameters, parts and fields.
use Rattle.std.proofs.Common.{◌≡◌, ℕ, zero, suc, ◌+◌, List, [], ◌∷◌, length, map, drop, Option, Some, None, slice_get, refl, sym, ap, ◌∙◌, subst, arith}
use Rattle.rx_typed.specs.declared.nodes.Node.{Node}
use Rattle.rx_typed.specs.Types as types
use Rattle.rx_typed.specs.Types.{Typ, FieldDeclared, fields_declared, field_typ}
use Rattle.rx_typed.specs.Named as named
use Rattle.rx_typed.specs.Named.{Exps, Fields, node_of}
use Rattle.rx_typed.specs.Elaborated as elaborated
use Rattle.rx_typed.specs.Elaborated.{Assigned}
use Rattle.rx_typed.specs.Tree.{fields_of}
use Rattle.rx_typeck_solver.specs.Facts.{Assignment, KnownItems, types_at, names_of}
use Rattle.rx_typeck_typed.specs.Demands.{argument_count, names_given, exp_nodes}
use Rattle.rx_meaning_typed.specs.TypedActs.{types_of_fields, Fill, no_field, field_and}
use Rattle.rx_repair.proofs.Places.{some_same}
use Rattle.rx_repair.proofs.Pieces.{own}
use Rattle.rx_meaning_accepted.proofs.Steps.{listed_at, field_at}

-- the types of a list of values, by their nodes
abbrev pub each_as : (Node → Typ) → Exps → List Typ
each_as g named.no_exp = []
each_as g (named.exp_and e es) = g (node_of e) ∷ each_as g es

-- they stand in a list, from a number on
abbrev pub EachAt : (Node → Typ) → List Typ → ℕ → Exps → Type 0
EachAt g ps k named.no_exp = Unit {0}
EachAt g ps k (named.exp_and e es) = (slice_get ps k ≡ Some (g (node_of e))) × EachAt g ps (suc k) es

pub fill_each : (T : Assigned) (g : Node → Typ) (ps : List Typ) (k : ℕ) (es : Exps) → EachAt g ps k es → Fill ps (fields_of (elaborated.operands T k es)) (each_as g es)
fill_each T g ps k named.no_exp h = no_field
fill_each T g ps k (named.exp_and e es) h = field_and (listed_at ps k (g (node_of e)) h.0) (fill_each T g ps (suc k) es h.1)

pub each_length : (g : Node → Typ) (es : Exps) → length (each_as g es) ≡ argument_count es
each_length g named.no_exp = refl
each_length g (named.exp_and e es) = ap suc (each_length g es)

drop_at : (ps : List Typ) (k : ℕ) (u : Typ) → slice_get ps k ≡ Some u → drop k ps ≡ u ∷ drop (suc k) ps
drop_at [] k u e = absurd (cc)
drop_at (p ∷ ps) zero u e = ap (λ (z : Typ). z ∷ ps) (some_same p u e)
drop_at (p ∷ ps) (suc k) u e = drop_at ps k u e

drop_all : (ps : List Typ) (k : ℕ) → length ps ≡ k → drop k ps ≡ []
drop_all [] zero e = refl
drop_all [] (suc k) e = refl
drop_all (p ∷ ps) zero e = absurd (omega (arith, e))
drop_all (p ∷ ps) (suc k) e = drop_all ps k (omega (arith, e))

-- all of the list from there on
pub each_listed : (g : Node → Typ) (ps : List Typ) (k : ℕ) (es : Exps) → EachAt g ps k es → length ps ≡ k + argument_count es → each_as g es ≡ drop k ps
each_listed g ps k named.no_exp h e = sym (drop_all ps k (omega (arith, e)))
each_listed g ps k (named.exp_and x es) h e =
    ap (λ (l : List Typ). g (node_of x) ∷ l) (each_listed g ps (suc k) es h.1 (omega (arith, e))) ∙ sym (drop_at ps k (g (node_of x)) h.0)

-- a list stands in itself
pub each_within : (g : Node → Typ) (ts : List Typ) (k : ℕ) (es : Exps) → ((i : ℕ) → slice_get ts (k + i) ≡ slice_get (each_as g es) i) → EachAt g ts k es
each_within g ts k named.no_exp f = tt
each_within g ts k (named.exp_and e es) f = (
  ap (λ (j : ℕ). slice_get ts j) (let q : k ≡ k + 0 = omega arith in q) ∙ f 0,
  each_within g ts (suc k) es (λ i. ap (λ (j : ℕ). slice_get ts j) (let q : suc k + i ≡ k + suc i = omega arith in q) ∙ f (suc i)),
)

pub nodes_as : (K : KnownItems) (A : Assignment) (es : Exps) → types_at A (exp_nodes es) ≡ each_as (own K A) es
nodes_as K A named.no_exp = refl
nodes_as K A (named.exp_and e es) = ap (λ (l : List Typ). own K A (node_of e) ∷ l) (nodes_as K A es)

-- ---- fields

abbrev pub fields_as : (Node → Typ) → Fields → List Typ
fields_as g named.no_field = []
fields_as g (named.field_and x e fs) = g (node_of e) ∷ fields_as g fs

abbrev pub FieldsAt : (Node → Typ) → List FieldDeclared → Fields → Type 0
FieldsAt g ds named.no_field = Unit {0}
FieldsAt g ds (named.field_and x e fs) = (field_typ ds x ≡ Some (g (node_of e))) × FieldsAt g ds fs

pub fill_fields : (T : Assigned) (g : Node → Typ) (i : ℕ) (fs : Fields) → FieldsAt g (fields_declared (slice_get T.items i)) fs
    → Fill (types_of_fields (fields_declared (slice_get T.items i))) (fields_of (elaborated.fields T i fs)) (fields_as g fs)
fill_fields T g i named.no_field h = no_field
fill_fields T g i (named.field_and x e fs) h = field_and (field_at (fields_declared (slice_get T.items i)) x (g (node_of e)) h.0) (fill_fields T g i fs h.1)

pub fields_length : (g : Node → Typ) (fs : Fields) → length (fields_as g fs) ≡ length (names_given fs)
fields_length g named.no_field = refl
fields_length g (named.field_and x e fs) = ap suc (fields_length g fs)

pub names_length : (ds : List FieldDeclared) → length (names_of ds) ≡ length (types_of_fields ds)
names_length [] = refl
names_length (d ∷ ds) = ap suc (names_length ds)

-- Types of nodes that were made, by the entries of what fits.
use Rattle.std.proofs.Common.{◌≡◌, ◌+◌, ◌<◌, ℕ, zero, suc, Bool, List, [], ◌∷◌, length, slice_get, Some, Option, refl, sym, ap, ◌∙◌, subst, arith}
use Rattle.rx_core.specs.declared.types.Span.{Span}
use Rattle.rx_core.specs.declared.types.Kind.{Kind}
use Rattle.rx_resolve_names.specs.Meant.{number}
use Rattle.rx_typed.specs.declared.nodes.Node.{Node}
use Rattle.rx_typed.specs.declared.nodes.Site.{Site}
use Rattle.rx_typed.specs.declared.nodes.Use.{Use}
use Rattle.rx_typed.specs.Types.{Shapes, Typ}
use Rattle.rx_typed.specs.Named as named
use Rattle.rx_typed.specs.Named.{node_of, Exp, Exps, Patterns}
use Rattle.rx_typeck_solver.specs.declared.facts.Subject.TheVariants as subject
use Rattle.rx_typeck_solver.specs.Facts.{Assignment, KnownItems}
use Rattle.rx_typeck_typed.specs.Asking.{expected, type_of}
use Rattle.rx_engine_names.specs.HandedOut.{AreBound, AreJoined, AreMade, IsMade}
use Rattle.rx_engine_names.specs.HandedOut.AreBound.{none_bound, more_bound}
use Rattle.rx_engine_names.specs.HandedOut.IsMade.{is_made}
use Rattle.rx_engine_names.specs.HandedOut.AreMade.{none_made, more_made}
use Rattle.rx_engine_names.specs.HandedOut.AreJoined.{one_joined, more_joined}
use Rattle.rx_engine_typing.specs.Corresponding.{given_types}
use Rattle.rx_engine_holes.specs.Entries.{Context, Entries, Has}
use Rattle.rx_engine_holes.specs.CallFits.{MembersFit, PartsBind, ValueFits}
use Rattle.rx_engine_holes.specs.CallFits.MembersFit.{no_members, more_members}
use Rattle.rx_engine_holes.specs.CallFits.PartsBind.{no_parts, more_parts}
use Rattle.rx_engine_holes.specs.CallFits.ValueFits.{a_variable, a_tuple}
use Rattle.rx_engine_made_calls.specs.Contexts.{Tells}
use Rattle.rx_engine_made_trees.specs.Nodes.{KeepsItsType}
use Rattle.rx_engine_made_trees.specs.Nodes.KeepsItsType.{of_any_type, looked_into, of_its_type}
use Rattle.rx_engine_made_trees.specs.Giving.{GivesThem, NamesAll, NamesVariable}
use Rattle.rx_engine_made_trees.specs.Giving.NamesVariable.{a_variable as names_it}
use Rattle.rx_engine_made_trees.specs.Giving.NamesAll.{names_none, names_and}
use Rattle.rx_engine_made_trees.specs.Giving.GivesThem.{one, a_tuple as in_tuple}
use Rattle.rx_engine_made_trees.specs.Handing.{BindsAll}
use Rattle.rx_engine_made_trees.specs.Handing.BindsAll.{binds_none, binds_and}
use Rattle.rx_engine_simulation.specs.Packing.{bare}

-- so many numbers from one on
abbrev pub from : ℕ → ℕ → List ℕ
from d zero = []
from d (suc k) = d ∷ from (suc d) k

abbrev pub Few : ℕ → ℕ → Type 0
Few d k = (i : ℕ) → i < k → number (d + i) ≡ d + i

first_number : (d : ℕ) → d + 0 ≡ d
first_number d = omega arith

pub next_number : (d i : ℕ) → d + suc i ≡ suc d + i
next_number d i = omega arith

pub few_first : (d k : ℕ) → Few d (suc k) → number d ≡ d
few_first d k few = subst (λ (n : ℕ). number n ≡ n) (first_number d) (few 0 (omega arith))

pub few_behind : (d k : ℕ) → Few d (suc k) → Few (suc d) k
few_behind d k few i w = subst (λ (n : ℕ). number n ≡ n) (next_number d i) (few (suc i) (omega (arith, w)))

module _ (W : Assignment) where
  -- variables from a number on have these types
  abbrev pub RowHas : ℕ → List Typ → Type 0
  RowHas d [] = Unit {0}
  RowHas d (t ∷ ts) = (W (subject.Variable d) ≡ t) × RowHas (suc d) ts

  -- at a site, a node of type `t` where `u` is expected keeps its type
  abbrev pub WantedAt : Site → Node → Typ → Typ → Type 0
  WantedAt Site.Value n u t = Unit {0}
  WantedAt Site.Scrutinee n u t = Unit {0}
  WantedAt Site.Expects n u t = (W (expected n) ≡ u) × (u ≡ t)
  WantedAt Site.Reborrows n u t = (W (expected n) ≡ u) × (u ≡ t)
  WantedAt _ n u t = ⊥

  module _ (E : KnownItems) where
    pub keeps_at : (n : Node) (s : Site) (u t : Typ) → n.site ≡ s → WantedAt s n u t → W (type_of n) ≡ t → KeepsItsType (given_types E W) n
    keeps_at n Site.Value u t i w h = of_any_type i
    keeps_at n Site.Scrutinee u t i w h = looked_into i
    keeps_at n Site.Expects u t i w h = of_its_type (w.0 ∙ (w.1 ∙ sym h))
    keeps_at n Site.Reborrows u t i w h = of_its_type (w.0 ∙ (w.1 ∙ sym h))
    keeps_at n Site.Place u t i w h = absurd w
    keeps_at n Site.Initialises u t i w h = absurd w

    -- ---- variables that were made

    pub data MadeVariable (d : ℕ) (t : Typ) : Exp → Type 0 where
      made_so : {n : Node} {u : Use} → u.number ≡ d → W (type_of n) ≡ t → W (subject.Variable d) ≡ t → MadeVariable d t (named.var n u)

    pub made_variable : {f : ℕ} {s : Span} {d : ℕ} {e : Exp} {B : Context} {u t : Typ} {a : Entries} → IsMade s d e → ValueFits E f B e u t a → Has W a → Tells W B → number d ≡ d → MadeVariable d t e
    made_variable (is_made {n} {u} i j) (a_variable {t = t} b known) h k few = made_so (j ∙ few) h.0 (subst (λ (m : ℕ). W (subject.Variable m) ≡ t) (j ∙ few) (k _ t b))

    pub made_type : {d : ℕ} {t : Typ} {e : Exp} → MadeVariable d t e → W (subject.Variable d) ≡ t
    made_type (made_so i j k) = k

    pub made_names : {d : ℕ} {t : Typ} {e : Exp} (s : Site) (u : Typ) → MadeVariable d t e → (node_of e).site ≡ s → WantedAt s (node_of e) u t → NamesVariable (given_types E W) d e
    made_names {t = t} s u (made_so {n = n} i j k) e w = names_it i (keeps_at n s u t e w j)

    -- members of a tuple
    pub members_named : {s : Span} {B : Context} {d k : ℕ} {es : Exps} {ts : Shapes Kind} {a : Entries} → AreMade s d k es → MembersFit E B es ts a → Has W a → Tells W B → Few d k → NamesAll (given_types E W) (from d k) es
    members_named none_made no_members h k few = names_none
    members_named {d = d} {k = suc j} (more_made (is_made i e) ms) (more_members b known site rest) h k few =
        names_and (names_it (e ∙ few_first d j few) (of_any_type site)) (members_named ms rest h.1 k (few_behind d j few))

    -- the one, or a tuple
    pub joined_named : {f : ℕ} {s : Span} {B : Context} {d k : ℕ} {e : Exp} {u t : Typ} {a : Entries} (z : Site) → AreJoined s d k (named.present e) → ValueFits E f B e u t a → Has W a → Tells W B → Few d k → (node_of e).site ≡ z
        → (k ≡ 1 → MadeVariable d t e → WantedAt z (node_of e) u t) → GivesThem (given_types E W) bare (from d k) e
    joined_named {d = d} {u = u} z (one_joined m) v h k few i want = let x = made_variable m v h k (few_first d 0 few) in one (made_names z u x i (want refl x))
    joined_named z (more_joined j ms) (a_tuple mf limits) h k few i want = in_tuple (members_named ms mf h.1 k few)

-- ---- patterns

pub binds_all : {s : Span} {d : ℕ} {ms : List Bool} {ps : Patterns} → AreBound s d ms ps → BindsAll (from d (length ms)) ps
binds_all none_bound = binds_none
binds_all (more_bound i bs) = binds_and (binds_all bs)

none_before : (k : ℕ) → k ≡ 0 + k
none_before k = omega arith

one_further : (j k : ℕ) → j + suc k ≡ suc j + k
one_further j k = omega arith

some_same : (t u : Typ) → ◌≡◌ {A = Option Typ} (Some t) (Some u) → t ≡ u
some_same t u e = cc

pub bound_types : (W : Assignment) (E : KnownItems) {s : Span} {d k : ℕ} {ms : List Bool} {ps : Patterns} {all : List Typ} {a : Entries} (ts : List Typ) → AreBound s d ms ps → PartsBind E all k ps a → Has W a → length ms ≡ length ts
    → ((j : ℕ) → slice_get all (j + k) ≡ slice_get ts j) → RowHas W d ts
bound_types W E [] none_bound no_parts h e g = tt
bound_types W E (t ∷ ts) none_bound no_parts h e g = absurd (omega (arith, e))
bound_types W E [] (more_bound i bs) p h e g = absurd (omega (arith, e))
bound_types W E {k = k} {all = all} (t ∷ ts) (more_bound i bs) (more_parts {t = v} there limits rest) h e g =
    (h.1.0 ∙ some_same v t (sym there ∙ (ap (slice_get all) (none_before k) ∙ g 0)), bound_types W E ts bs rest h.1.1 (omega (arith, e)) (λ j. ap (slice_get all) (one_further j k) ∙ g (suc j)))

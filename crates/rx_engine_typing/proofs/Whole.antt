-- Whole functions: where the assignment of the first meets what the rules of types ask, their typed trees are alike.
use Rattle.std.proofs.Common.{ℕ, ◌*◌, ◌≤◌, Bool, true, false, List, [], subst, arith}
use Rattle.rx_typed.specs.declared.nodes.Node.{Node}
use Rattle.rx_typed.specs.declared.nodes.Use.{Use}
use Rattle.rx_typed.specs.Named.{Function, body_node}
use Rattle.rx_typed.specs.Elaborated.{Assigned, elaborated}
use Rattle.rx_typed.specs.Tree as tree
use Rattle.rx_typeck_solver.specs.declared.facts.Demand.{Demand}
use Rattle.rx_typeck_solver.specs.declared.facts.Subject.TheVariants as subject_of
use Rattle.rx_typeck_solver.specs.Facts.{Assignment, KnownItems, MeetsEach}
use Rattle.rx_typeck_typed.specs.Demands as rules
use Rattle.rx_engine_blocks.specs.Renumbering.{Renumbering, node_at}
use Rattle.rx_engine_blocks.specs.DemandsLike.{DemandsLike, NoSpecial}
use Rattle.rx_engine_blocks.specs.DemandsLike.DemandsLike.{like_other_demands}
use Rattle.rx_engine_simulation.specs.Turns.{Allowance}
use Rattle.rx_engine_simulation.specs.Histories.{Facts}
use Rattle.rx_engine_simulation.specs.Openings.{Openings}
use Rattle.rx_engine_simulation.specs.Programs.{About, Untouched, facts_of, LikeFunction}
use Rattle.rx_engine_typing.specs.Renumbered.{Holes, known_before, no_holes, use_so, RenumberedFunction}
use Rattle.rx_engine_typing.specs.Counted.{holes_in_body}
use Rattle.rx_engine_typing.specs.Corresponding.{Corresponding, StayApart, FieldsApart}
use Rattle.rx_engine_typing.specs.Scoped.{entered, parameter_variables, ScopedFunction}
use Rattle.rx_engine_typing.proofs.Looks.{Fits}
use Rattle.rx_engine_typing.proofs.Holes.{no_fits}
use Rattle.rx_engine_typing.proofs.Sights.{sights}
use Rattle.rx_engine_typing.proofs.Bound.{params_at}
use Rattle.rx_engine_typing.proofs.Asking.{Asks, then_first, then_second, quiet, parameters_u, result_u, never_given_u}
use Rattle.rx_engine_typing.proofs.Alike.{TreesThere, body_asks, Body1}

-- no variable is special
abbrev pub nothing_special : About
nothing_special = record { special = []; asked = [] }

pub untouched : (g : tree.Function) → Untouched g nothing_special
untouched g = λ a h x i. absurd i

module _ (r : Renumbering) (loops : ℕ → ℕ) (H : Holes) (Special : List Demand → List Demand → Type 0) (fits : Fits r loops H Special) (K : KnownItems) (A : Assignment) (T' : Assigned)
    (a : Corresponding r (record { items = K.items; typ = λ n. A (subject_of.Node n); expected = λ n. A (subject_of.Expected n) }) T') (fields_apart : FieldsApart K.items)
    (O : Openings) (gain : Allowance) (c : ℕ) (apart : StayApart r.variables) (loops_apart : StayApart loops) where
  abbrev pub T : Assigned
  T = record { items = K.items; typ = λ n. A (subject_of.Node n); expected = λ n. A (subject_of.Expected n) }

  abbrev pub facts : Function → Facts
  facts f = facts_of (elaborated T f) nothing_special (untouched (elaborated T f))

  module _ (f g : Function) (h : RenumberedFunction r loops H f g) (scoped : ScopedFunction f) (holes : TreesThere r loops H Special fits K A T' a fields_apart O gain c (facts f) apart loops_apart) where
    asks : Asks K A (Body1 r loops H Special fits K A T' a fields_apart O gain c (facts f) apart loops_apart (entered [] (parameter_variables f.params)) [] (holes_in_body h.body) f.body g.body) (rules.of_function f)
    asks = then_second (parameters_u f.params) (then_second (result_u f.result) (then_second (quiet (body_node f.body) _ _ _)
        (then_first (body_asks r loops H Special fits K A T' a fields_apart O gain c (facts f) apart loops_apart holes f.item (entered [] (parameter_variables f.params)) [] h.body scoped.body) (never_given_u f.never_given))))

    pub functions_alike : MeetsEach K A (rules.demands f) → holes_in_body h.body * c ≤ gain.turns → LikeFunction r.items O gain (elaborated T f) (elaborated T' g)
    functions_alike met le = record {
      about = nothing_special;
      untouched = untouched (elaborated T f);
      inside = sights r (entered [] (parameter_variables f.params));
      params = params_at r apart (facts f) h.params [] scoped.params;
      body = (asks.gives (subst (λ (l : List Demand). MeetsEach K A l) (asks.adds []) met)).whole gain.turns (le, omega arith);
    }

-- where any variable may be `mut` in one alone, and any assignment may give no type
module _ (r : Renumbering) (loops : ℕ → ℕ) (K : KnownItems) (A : Assignment) (T' : Assigned)
    (a : Corresponding r (record { items = K.items; typ = λ n. A (subject_of.Node n); expected = λ n. A (subject_of.Expected n) }) T') (fields_apart : FieldsApart K.items)
    (O : Openings) (gain : Allowance) (apart : StayApart r.variables) (loops_apart : StayApart loops) where
  abbrev Anything : List Demand → List Demand → Type 0
  Anything es es' = Unit {0}

  any_named : (n n' : Node) (x y : Use) (k l : Bool) {ds ds' : List Demand} → DemandsLike r Anything ds ds' → DemandsLike r Anything (rules.named_at n x k ds) (rules.named_at n' y l ds')
  any_named n n' x y true true d = like_other_demands _ _ d tt
  any_named n n' x y true false d = like_other_demands _ _ d tt
  any_named n n' x y false true d = like_other_demands _ _ d tt
  any_named n n' x y false false d = like_other_demands _ _ d tt

  known_fits : Fits r loops known_before Anything
  known_fits = record {
    node = λ e e' h. absurd h;
    place = λ e e' h. absurd h;
    root = λ e e' h. absurd h;
    diverges = λ e e' h. absurd h;
    never = λ e e' h. absurd h;
    uses = λ x m k h. record { remade = record { lost = λ n b own ps. tt; new = λ n s b own ps. tt }; named = λ n s ds ds' d. any_named n (node_at r n s) x (use_so r m k x) x.known k d };
    block_node = λ b b' h. absurd h;
    block_diverges = λ b b' h. absurd h;
    block_never = λ b b' h. absurd h;
  }

  pub known_before_alike : (f g : Function) → RenumberedFunction r loops known_before f g → ScopedFunction f → MeetsEach K A (rules.demands f)
      → LikeFunction r.items O gain (elaborated (record { items = K.items; typ = λ n. A (subject_of.Node n); expected = λ n. A (subject_of.Expected n) }) f) (elaborated T' g)
  known_before_alike f g h scoped met = functions_alike r loops known_before Anything known_fits K A T' a fields_apart O gain 0 apart loops_apart f g h scoped
      (record { expression = λ i xs ls e e' z s. absurd z; block = λ i xs ls b b' z s. absurd z }) met (omega arith)

-- where nothing else stands for anything
module _ (r : Renumbering) (loops : ℕ → ℕ) (K : KnownItems) (A : Assignment) (T' : Assigned)
    (a : Corresponding r (record { items = K.items; typ = λ n. A (subject_of.Node n); expected = λ n. A (subject_of.Expected n) }) T') (fields_apart : FieldsApart K.items)
    (O : Openings) (gain : Allowance) (apart : StayApart r.variables) (loops_apart : StayApart loops) where
  pub whole_alike : (f g : Function) → RenumberedFunction r loops no_holes f g → ScopedFunction f → MeetsEach K A (rules.demands f)
      → LikeFunction r.items O gain (elaborated (record { items = K.items; typ = λ n. A (subject_of.Node n); expected = λ n. A (subject_of.Expected n) }) f) (elaborated T' g)
  whole_alike f g h scoped met = functions_alike r loops no_holes NoSpecial (no_fits r loops) K A T' a fields_apart O gain 0 apart loops_apart f g h scoped
      (record { expression = λ i xs ls e e' z s. absurd z; block = λ i xs ls b b' z s. absurd z }) met (omega arith)

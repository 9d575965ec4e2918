-- A run that is copied into the new function: its matches are covered there.
use Rattle.std.proofs.Common.{inl, ℕ, zero, suc, List, [], ◌∷◌, Option, Some, None, option_map, refl, ap, arith}
use Rattle.rx_typed.specs.declared.nodes.Node.{Node}
use Rattle.rx_typed.specs.declared.nodes.Site.{Site}
use Rattle.rx_typed.specs.Types.{Typ}
use Rattle.rx_typed.specs.Named as named
use Rattle.rx_typed.specs.Named.{Body, Else, Exp, Statements}
use Rattle.rx_typed.specs.Tree as tree
use Rattle.rx_typed.specs.Tree.{mark_of}
use Rattle.rx_typed.specs.Elaborated.{matched, tail, value, Assigned}
use Rattle.rx_typeck_solver.specs.declared.facts.Subject.TheVariants as subject
use Rattle.rx_typeck_solver.specs.declared.facts.Demand.{Demand}
use Rattle.rx_typeck_solver.specs.Facts.{Assignment, KnownItems}
use Rattle.rx_cover.specs.Causes.{AllCovered, Covered, CoversTyp}
use Rattle.rx_cover.specs.Choices.{choice_of, choices, choices_before, scrutinee_typ, Choice}
use Rattle.rx_engine_blocks.specs.Along.{composed, text_or, MutableAt, PartialInverse, Viewed}
use Rattle.rx_engine_blocks.specs.Blocks.{Behind}
use Rattle.rx_engine_blocks.specs.DemandsLike.{Is}
use Rattle.rx_engine_blocks.specs.DemandsLike.Is.{itself}
use Rattle.rx_engine_blocks.specs.Knows.{Knows}
use Rattle.rx_engine_blocks.specs.Renumbering.{node_at, Renumbering}
use Rattle.rx_engine_typing.specs.Corresponding.{given_types}
use Rattle.rx_engine_typing.specs.Renumbered.{NodeAt, RenumberedElse, RenumberedStatements}
use Rattle.rx_engine_typing.specs.Renumbered.NodeAt.{renumbered}
use Rattle.rx_engine_typing.proofs.Looks.{Fits, RootOf, RootLike as root}
use Rattle.rx_engine_holes.specs.Sited.{at_site}
use Rattle.rx_engine_holes.specs.Special.{special_at, SpecialExp}
use Rattle.rx_engine_holes.specs.Special.SpecialExp.{a_break, a_continue, a_dereference, a_suffix}
use Rattle.rx_engine_holes.specs.Returned.{ReturnedExp}
use Rattle.rx_engine_holes.specs.Returned.ReturnedExp.{a_bare_return, a_return, a_unit_return, otherwise}
use Rattle.rx_engine_holes.proofs.Asking.{special_fits}
use Rattle.rx_engine_covered.specs.LikeChoices as alike
use Rattle.rx_engine_covered.specs.Quiet.{quiet_holes, MatchesNothing, QuietlyMade}
use Rattle.rx_engine_covered.specs.Seen.{SeenElse, SeenExp, SeenNodes, SeenStatements, SeenTypes}
use Rattle.rx_engine_covered.specs.Within.{choices_at_end, choices_in_statements}
use Rattle.rx_engine_covered.proofs.Covering.{marked_like, place_there, statements_there, tail_there, value_there, HolesThere, There}
use Rattle.rx_engine_covered.proofs.Functions.{items_apart}
use Rattle.rx_engine_covered.proofs.Marks.{covered_both, goes_none, value_before, Goes}
use Rattle.rx_engine_covered.proofs.Sited.{sited_covered}

-- whatever is asked
abbrev Anything : List Demand → List Demand → Type 0
Anything gs gs' = Unit {0}

module _ (r : Renumbering) (u : PartialInverse r) (view : Viewed) (behind : Behind) (D E : KnownItems) (A V : Assignment) (loops : ℕ → ℕ) (f : ℕ) where
  abbrev Quiet : ℕ → Exp → Exp → Type 0
  Quiet k e e' = ReturnedExp r u view D E A V loops f (quiet_holes r u view behind D E A V loops f k) e e'

  special : Fits r loops (special_at ⊥ r u view behind A V) Anything
  special = special_fits ⊥ r u view behind D E A V loops Anything (λ a b h. tt) (λ a b h. tt) (λ d a e. tt) (λ a b h. tt)

  first_fits : Fits r loops (quiet_holes r u view behind D E A V loops f zero) Anything
  first_fits = record {
    node = λ e e' h. special.node e e' h.0;
    place = λ e e' h. special.place e e' h.0;
    root = λ e e' h. special.root e e' h.0;
    diverges = λ e e' h. special.diverges e e' h.0;
    never = λ e e' h. special.never e e' h.0;
    uses = λ x m k h. special.uses x m k h;
    block_node = λ b b' h. absurd h;
    block_diverges = λ b b' h. absurd h;
    block_never = λ b b' h. absurd h;
  }

  more_fits : (k : ℕ) → Fits r loops (quiet_holes r u view behind D E A V loops f k) Anything → Fits r loops (quiet_holes r u view behind D E A V loops f (suc k)) Anything
  more_fits k inner = record {
    node = λ e e' h. node e e' h.0;
    place = λ e e' h. place e e' h.0;
    root = λ e e' h. its_root e e' h.0;
    diverges = λ e e' h. diverges e e' h.0;
    never = λ e e' h. never e e' h.0;
    uses = λ x m k h. special.uses x m k h;
    block_node = λ b b' h. absurd h;
    block_diverges = λ b b' h. absurd h;
    block_never = λ b b' h. absurd h;
  }
    where
      node : (e e' : Exp) → Quiet k e e' → NodeAt r (named.node_of e) (named.node_of e')
      node e e' (otherwise h) = inner.node e e' h
      node e e' (a_return t h a w p q) = renumbered
      node e e' (a_unit_return h z p i a b c t v) = renumbered
      node e e' (a_bare_return h) = renumbered

      place : (e e' : Exp) → Quiet k e e' → Is (named.is_place e) (named.is_place e')
      place e e' (otherwise h) = inner.place e e' h
      place e e' (a_return t h a w p q) = itself
      place e e' (a_unit_return h z p i a b c t v) = itself
      place e e' (a_bare_return h) = itself

      its_root : (e e' : Exp) → Quiet k e e' → RootOf r Anything e e'
      its_root e e' (otherwise h) = inner.root e e' h
      its_root e e' (a_return t h a w p q) = root.plain
      its_root e e' (a_unit_return h z p i a b c t v) = root.plain
      its_root e e' (a_bare_return h) = root.plain

      diverges : (e e' : Exp) → Quiet k e e' → Is (named.diverges e) (named.diverges e')
      diverges e e' (otherwise h) = inner.diverges e e' h
      diverges e e' (a_return t h a w p q) = itself
      diverges e e' (a_unit_return h z p i a b c t v) = itself
      diverges e e' (a_bare_return h) = itself

      never : (e e' : Exp) → Quiet k e e' → Is (named.never e) (named.never e')
      never e e' (otherwise h) = inner.never e e' h
      never e e' (a_return t h a w p q) = itself
      never e e' (a_unit_return h z p i a b c t v) = itself
      never e e' (a_bare_return h) = itself

  quiet_fits : (k : ℕ) → Fits r loops (quiet_holes r u view behind D E A V loops f k) Anything
  quiet_fits zero = first_fits
  quiet_fits (suc k) = more_fits k (quiet_fits k)

  abbrev seen : SeenNodes
  seen n = view (subject.Node n)

  -- the types of the text, and those of the copy
  abbrev T : Assigned
  T = given_types D A

  abbrev T' : Assigned
  T' = given_types E (composed r u view A V)

  module _ (knows : Knows r D E) (mutable : MutableAt view A) where
    types_seen : SeenTypes r seen T T'
    types_seen = record {
      apart = items_apart r D E knows;
      items = knows.items;
      typ = λ n. ap (λ o. text_or r view (option_map subject.Node o) A (V (subject.Node (r.nodes n)))) (u.node_there n);
      mutable = λ n e. mutable (subject.Node n) e;
    }

    abbrev Same : ℕ → Exp → Exp → Type 0
    Same k e e' = There r loops (quiet_holes r u view behind D E A V loops f k) Anything (quiet_fits k) seen T T' types_seen e e'

    abbrev AllSame : ℕ → Type 0
    AllSame k = HolesThere r loops (quiet_holes r u view behind D E A V loops f k) Anything (quiet_fits k) seen T T' types_seen

    bound_covered : (k : ℕ) (c : tree.Scrutinee) (n x : ℕ) (m : tree.Mode) → Covered E.items (choice_of k c (tree.bind n x m ∷ []))
    bound_covered k c n x m = record { narrow = omega arith; covers = by (scrutinee_typ c) }
      where
        by : (o : Option Typ) → CoversTyp E.items o (tree.bind n x m ∷ [])
        by None = tt
        by (Some t) = λ v h. inl tt

    nothing_matched : (e : Exp) → MatchesNothing e → (a : List Choice) → Goes D.items E.items a (choices (mark_of (value T' e)).node (value T' e))
    nothing_matched e q a = goes_none D.items E.items a (choices (mark_of (value T' e)).node (value T' e)) (q T' (mark_of (value T' e)).node)

    first_same : AllSame zero
    first_same = record { expressions = λ h v. by h.0 h.1; blocks = λ h v. absurd h }
      where
        by : {e e' : Exp} → SpecialExp r u view behind A V e e' → QuietlyMade e e' → Same zero e e'
        by (a_dereference {n = n} {s = s} h i v) q = place_there r loops (quiet_holes r u view behind D E A V loops f zero) Anything (quiet_fits zero) seen T T' types_seen n (node_at r n s) renumbered _ _ refl refl
        by (a_suffix {n = n} h) q = record { goes = λ k m c. tt; typ = marked_like r loops (quiet_holes r u view behind D E A V loops f zero) Anything (quiet_fits zero) seen T T' types_seen n.number }
        by (a_break {e = e} h) q = record { goes = λ k m. nothing_matched e q []; typ = alike.LikeScrutinee.is_never }
        by (a_continue {e = e} h) q = record { goes = λ k m. nothing_matched e q []; typ = alike.LikeScrutinee.is_never }

    more_same : (k : ℕ) → AllSame k → AllSame (suc k)
    more_same k inner = record { expressions = λ {e} {e'} h v. by e e' h.0 h.1 v; blocks = λ h v. absurd h }
      where
        by : (e e' : Exp) → Quiet k e e' → QuietlyMade e e' → SeenExp seen e → Same (suc k) e e'
        by e e' (otherwise h) q v = let g = inner.expressions h v in record { goes = g.goes; typ = g.typ }
        by _ _ (a_return {e = e} {e' = e'} t h a w p z) q v =
            let g = value_there r loops (quiet_holes r u view behind D E A V loops f k) Anything (quiet_fits k) seen T T' types_seen inner h v in record {
              goes = λ j m c. covered_both E.items (choices (mark_of (value T' e')).node (value T' e')) [] (g.goes (mark_of (value T e)).node (mark_of (value T' e')).node c) tt;
              typ = alike.LikeScrutinee.is_never;
            }
        by _ _ (a_unit_return {e = e} {e' = e'} {v = x} h z p i a b c t d) q v =
            let g = value_there r loops (quiet_holes r u view behind D E A V loops f k) Anything (quiet_fits k) seen T T' types_seen inner h v in
            let o = at_site Site.Initialises e' in record {
              goes = λ j m c. (
                bound_covered _ (matched T' o (value T' o)) _ _ _,
                covered_both E.items (choices_before (matched T' o (value T' o))) (choices (mark_of (value T' x)).node (value T' x))
                    (value_before T' E.items o (value T' o) (sited_covered T' E.items Site.Initialises e' (mark_of (value T' e')).node (mark_of (value T' o)).node (g.goes (mark_of (value T e)).node (mark_of (value T' e')).node c)))
                    (nothing_matched x q [] tt),
              );
              typ = alike.LikeScrutinee.is_never;
            }
        by _ _ (a_bare_return {e = e} h) q v = record { goes = λ j m. nothing_matched e q []; typ = alike.LikeScrutinee.is_never }

    all_same : (k : ℕ) → AllSame k
    all_same zero = first_same
    all_same (suc k) = more_same k (all_same k)

    pub copied_covered : (k : ℕ) (ss ss' : Statements) → RenumberedStatements r loops (quiet_holes r u view behind D E A V loops f k) ss ss' → SeenStatements seen ss → AllCovered D.items (choices_in_statements T ss) → AllCovered E.items (choices_in_statements T' ss')
    copied_covered k ss ss' h v = statements_there r loops (quiet_holes r u view behind D E A V loops f k) Anything (quiet_fits k) seen T T' types_seen (all_same k) h v
        (tree.unit (record { node = 0; typ = None })) (tree.unit (record { node = 0; typ = None })) (λ j m c. tt)

    pub copied_end_covered : (k : ℕ) (n n' : Node) (ss ss' : Statements) (o o' : Else) → RenumberedStatements r loops (quiet_holes r u view behind D E A V loops f k) ss ss' → RenumberedElse r loops (quiet_holes r u view behind D E A V loops f k) o o'
        → SeenStatements seen ss → SeenElse seen o → AllCovered D.items (choices_at_end T n ss o) → AllCovered E.items (choices_at_end T' n' ss' o')
    copied_end_covered k n n' ss ss' o o' h g v w = statements_there r loops (quiet_holes r u view behind D E A V loops f k) Anything (quiet_fits k) seen T T' types_seen (all_same k) h v (tail T n o) (tail T' n' o')
        (λ j m. tail_there r loops (quiet_holes r u view behind D E A V loops f k) Anything (quiet_fits k) seen T T' types_seen (all_same k) n n' g w j m)

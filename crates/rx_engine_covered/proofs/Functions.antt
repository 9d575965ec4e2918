-- Whole functions that are one by other numbers, with types that correspond.
use Rattle.std.proofs.Common.{ℕ, sym, ap, ◌∙◌, Bool, true, false, List}
use Rattle.rx_typed.specs.declared.nodes.Node.{Node}
use Rattle.rx_typed.specs.declared.nodes.Use.{Use}
use Rattle.rx_typeck_solver.specs.declared.facts.Demand.{Demand}
use Rattle.rx_typeck_typed.specs.Demands as rules
use Rattle.rx_engine_blocks.specs.DemandsLike.{DemandsLike}
use Rattle.rx_engine_blocks.specs.DemandsLike.DemandsLike.{like_other_demands}
use Rattle.rx_engine_blocks.specs.Renumbering.{node_at}
use Rattle.rx_engine_typing.specs.Renumbered.{known_before, use_so}
use Rattle.rx_engine_typing.proofs.Looks.{Fits}
use Rattle.rx_typed.specs.Elaborated.{elaborated, Assigned}
use Rattle.rx_typed.specs.Named.{Function}
use Rattle.rx_typeck_solver.specs.Facts.{KnownItems}
use Rattle.rx_cover.specs.Causes.{AllCovered}
use Rattle.rx_cover.specs.Choices.{choices_of}
use Rattle.rx_engine_blocks.specs.DemandsLike.{NoSpecial}
use Rattle.rx_engine_blocks.specs.Knows.{Knows}
use Rattle.rx_engine_blocks.specs.Renumbering.{Renumbering}
use Rattle.rx_engine_typing.specs.Corresponding.{Corresponding, StayApart}
use Rattle.rx_engine_typing.specs.Renumbered.{no_holes, RenumberedFunction}
use Rattle.rx_engine_typing.proofs.Holes.{no_fits}
use Rattle.rx_engine_covered.specs.Seen.{none_seen, SeenTypes}
use Rattle.rx_engine_covered.proofs.Covering.{function_there, HolesThere}
use Rattle.rx_engine_covered.proofs.Unseen.{body_unseen}

pub items_apart : (r : Renumbering) (D E : KnownItems) → Knows r D E → StayApart r.items
items_apart r D E k i j e = sym (k.unnamed i) ∙ (ap k.unitem e ∙ k.unnamed j)

pub seen_where_they_correspond : (r : Renumbering) → StayApart r.items → (T T' : Assigned) → Corresponding r T T' → SeenTypes r none_seen T T'
seen_where_they_correspond r apart T T' a = record { apart = apart; items = a.items; typ = a.typ; mutable = λ n e. absurd (cc) }

pub without_holes : (r : Renumbering) (loops : ℕ → ℕ) (T T' : Assigned) (s : SeenTypes r none_seen T T') → HolesThere r loops no_holes NoSpecial (no_fits r loops) none_seen T T' s
without_holes r loops T T' s = record { expressions = λ h v. absurd h; blocks = λ h v. absurd h }

pub renumbered_covered : (r : Renumbering) (loops : ℕ → ℕ) → StayApart r.items → (T T' : Assigned) → Corresponding r T T' → (f g : Function) → RenumberedFunction r loops no_holes f g
    → AllCovered T.items (choices_of (elaborated T f).body) → AllCovered T'.items (choices_of (elaborated T' g).body)
renumbered_covered r loops apart T T' a f g h c =
    let s = seen_where_they_correspond r apart T T' a in
    function_there r loops no_holes NoSpecial (no_fits r loops) none_seen T T' s (without_holes r loops T T' s) h.body (body_unseen f.body) c

-- ---- where variables may be `mut` in one alone or known in the second alone, and assignments may give no type there

abbrev Anything : List Demand → List Demand → Type 0
Anything es es' = Unit {0}

module _ (r : Renumbering) (loops : ℕ → ℕ) where
  any_named : (n n' : Node) (x y : Use) (k l : Bool) {ds ds' : List Demand} → DemandsLike r Anything ds ds' → DemandsLike r Anything (rules.named_at n x k ds) (rules.named_at n' y l ds')
  any_named n n' x y true true d = like_other_demands _ _ d tt
  any_named n n' x y true false d = like_other_demands _ _ d tt
  any_named n n' x y false true d = like_other_demands _ _ d tt
  any_named n n' x y false false d = like_other_demands _ _ d tt

  known_fits : Fits r loops known_before Anything
  known_fits = record {
    node = λ e e' h. absurd h;
    place = λ e e' h. absurd h;
    root = λ e e' h. absurd h;
    diverges = λ e e' h. absurd h;
    never = λ e e' h. absurd h;
    uses = λ x m k h. record { remade = record { lost = λ n b own ps. tt; new = λ n s b own ps. tt }; named = λ n s ds ds' d. any_named n (node_at r n s) x (use_so r m k x) x.known k d };
    block_node = λ b b' h. absurd h;
    block_diverges = λ b b' h. absurd h;
    block_never = λ b b' h. absurd h;
  }

  pub known_before_covered : StayApart r.items → (T T' : Assigned) → Corresponding r T T' → (f g : Function) → RenumberedFunction r loops known_before f g
      → AllCovered T.items (choices_of (elaborated T f).body) → AllCovered T'.items (choices_of (elaborated T' g).body)
  known_before_covered apart T T' a f g h c =
      function_there r loops known_before Anything known_fits none_seen T T' (seen_where_they_correspond r apart T T' a) (record { expressions = λ h v. absurd h; blocks = λ h v. absurd h }) h.body (body_unseen f.body) c

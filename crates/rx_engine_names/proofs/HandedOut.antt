-- What the end of the new function hands out resolves there: variables that correspond to the outs, the variant Next, a tuple.
use Rattle.std.proofs.Common.{◌≡◌, ℕ, Bool, false, List, [], ◌∷◌, map, Option, Some, Ok, refl, sym, ap, ◌∙◌}
use Rattle.rx_core.specs.declared.types.Span.{Span}
use Rattle.rx_tree.specs.Lists.{Every}
use Rattle.rx_tree.specs.Plain as plain
use Rattle.rx_tree.specs.Plain.{Expression, Expressions, OptionalExpressions}
use Rattle.rx_resolve_names.specs.Scopes.{Variables, variable_named}
use Rattle.rx_resolve_names.specs.declared.resolved.ItemNames.{ItemNames}
use Rattle.rx_resolve_names.specs.declared.resolved.NodeNames.{NodeNames}
use Rattle.rx_resolve_names.specs.Meant.{Around}
use Rattle.rx_resolve_names.specs.Steps.{Inside, known, one, child, next, names}
use Rattle.rx_resolve_names.specs.Names.{variant_in, in_expression, in_expressions, in_arguments}
use Rattle.rx_typed.specs.declared.nodes.Node.{Node}
use Rattle.rx_typed.specs.declared.nodes.Site.{Site}
use Rattle.rx_typed.specs.declared.nodes.Use.{Use}
use Rattle.rx_typed.specs.Named as named
use Rattle.rx_typed.specs.Named.{Exp, Exps}
use Rattle.rx_typed.specs.Naming as numbering
use Rattle.rx_typed.specs.Naming.{an_entry, first, second, use_of, declaration, of_expressions, of_arguments}
use Rattle.rx_hoist_extraction.specs.Names.{Names}
use Rattle.rx_hoist_extraction.specs.Plan.{Exit, enum_name, exit_name}
use Rattle.rx_hoist_extraction.specs.Made.{ident, as_expressions, given}
use Rattle.rx_engine_names.specs.Renaming.{Renaming, Has, Made}
use Rattle.rx_engine_names.specs.Calls.{Passed, passed_on, Calls}
use Rattle.rx_engine_names.specs.Moves.{Moves, IsOut, is_out, AreOuts, no_outs, more_outs, IsVariant}
use Rattle.rx_engine_names.proofs.SideBySide.{then_ok, Grows}
use Rattle.rx_engine_names.proofs.MadePlaces.{is_that}
use Rattle.rx_engine_names.proofs.MovedPlaces.{loose}
use Rattle.rx_engine_names.proofs.MadeRows.{Later, makes_later}
use Rattle.rx_engine_names.proofs.MadeCalls.{ExpAlone, ExpsAlone, made_variable}
use Rattle.rx_engine_names.proofs.Alone.{Alone, weaker, alone_give, alone_then, alone_map, alone_node, KindAlone, Makes, makes_nothing, makes_then, makes_map, makes_entry}

abbrev pub ArgumentsAlone : (Renaming → Exps → Type 0) → ItemNames → OptionalExpressions → KindAlone
ArgumentsAlone S u e R u' es = Alone (S R) u u' es (of_arguments e)

pub data First (S : Exp → Type 0) (T : Exps → Type 0) : Exps → Type 0 where
  first_of : {e : Exp} {es : Exps} → S e → T es → First S T (named.exp_and e es)

pub data IsTuple (s : Span) (S : Exps → Type 0) : Exp → Type 0 where
  is_tuple : {n : Node} {es : Exps} → n.span ≡ s → S es → IsTuple s S (named.tuple n es)

-- a variable by its number
pub data IsUse (s : Span) (m : ℕ) : Exp → Type 0 where
  is_use : {n : Node} {u : Use} → n.span ≡ s → u.number ≡ m → IsUse s m (named.var n u)

passed_is_out : (C : Calls) (V : Moves) (R : Renaming) (x : List ℕ) {e : Exp} → C.place ≡ V.place → C.scope ≡ V.scope → Passed C R x e → IsOut V R x e
passed_is_out C V R x p q (passed_on g s v) = is_out (g ∙ p) (ap (λ (sc : Variables). variable_named sc x) (sym q) ∙ s) v

use_alone : {u : ItemNames} (s : Span) (m : ℕ) (n : Node) → n.span ≡ s → (u' : ItemNames) (es : List NodeNames) → Alone (λ a. a ≡ (m ∷ [], false)) u u' es an_entry
    → Alone (IsUse s m) u u' es (numbering.and_then an_entry (λ ns c. (named.var n (use_of (first ns.0) (declaration c (first ns.0))), c)))
use_alone s m n g u' es N = record {
  holds = λ c rest q e. let y = N.holds c rest q e in record { like = is_use g (ap (λ (a : List ℕ × Bool). first a.0) y.like); stands = y.stands; left = y.left };
}

module _ (items : ℕ → ℕ) (I' : Inside) (sc' : Variables) (ls' : List Around) where
  given_made : (M : Made) (at' : List ℕ) (es : List Expression) (S : Renaming → Exps → Type 0) (u : ItemNames) → Makes items M u (λ v. in_expressions I' sc' ls' at' 0 (as_expressions es) u ≡ Ok v) (ExpsAlone S u (as_expressions es))
      → Makes items M u (λ v. in_arguments I' sc' ls' at' (given es) u ≡ Ok v) (ArgumentsAlone S u (given es))
  given_made M at' [] S u A = makes_map A (λ a. a) (λ R sv N. N Site.Expects)
  given_made M at' (e ∷ es) S u A = makes_map A (λ a. a) (λ R sv N. N Site.Expects)

module _ (items : ℕ → ℕ) (V : Moves) (I' : Inside) (sc' : Variables) (ls' : List Around) (M : Made) where
  -- the name of an out means variables that correspond
  abbrev pub OutMeant : List ℕ → Type 0
  OutMeant x = (n : ℕ) × (m : ℕ) × (variable_named V.scope x ≡ Some n) × (variable_named sc' x ≡ Some m) × Has M.variables n m

  pub out_made : (at' : List ℕ) (x : List ℕ) → OutMeant x → (u : ItemNames) → Makes items M u (λ v. in_expression I' sc' ls' at' (plain.var V.place x) u ≡ Ok v) (ExpAlone (λ R b. IsOut V R x b) u (plain.var V.place x))
  out_made at' x h u =
      let C : Calls = record { plan = V.plan; place = V.place; scope = V.scope; number = 0 } in
      makes_map (made_variable items C I' sc' ls' M at' x h u) (λ a. a) (λ R sv N m k. weaker (N m k) (λ b p. passed_is_out C V R x refl refl p))

  pub outs_made : (at' : List ℕ) (i' : ℕ) (xs : Names) → Every OutMeant xs → (u : ItemNames)
      → Makes items M u (λ v. in_expressions I' sc' ls' at' i' (as_expressions (map (plain.var V.place) xs)) u ≡ Ok v) (ExpsAlone (λ R b. AreOuts V R xs b) u (as_expressions (map (plain.var V.place) xs)))
  outs_made at' i' [] h u = makes_nothing u (λ v. Ok u ≡ Ok v) (ExpsAlone (λ R b. AreOuts V R [] b) u plain.no_expression) refl (λ R k. alone_give named.no_exp no_outs)
  outs_made at' i' (x ∷ xs) h u =
      let A = out_made (child at' i') x h.0 u in
      let B = outs_made at' (next i') xs h.1 A.table in
      makes_then A B (λ y z. then_ok (in_expression I' sc' ls' (child at' i') (plain.var V.place x)) (in_expressions I' sc' ls' at' (next i') (as_expressions (map (plain.var V.place) xs))) u A.table B.table y z)
      (λ R sv N O k. alone_then (N false k) (λ e d. alone_map (named.exp_and e) (O k) (λ es f. more_outs d f)))

  -- an operand in front of others
  pub operand_made : (at' : List ℕ) (i' : ℕ) (e : Expression) (es : Expressions) (S : Renaming → Exp → Type 0) (T : Renaming → Exps → Type 0) (u : ItemNames) → (A : Makes items M u (λ v. in_expression I' sc' ls' (child at' i') e u ≡ Ok v) (ExpAlone S u e))
      → Makes items M A.table (λ v. in_expressions I' sc' ls' at' (next i') es A.table ≡ Ok v) (ExpsAlone T A.table es)
      → Makes items M u (λ v. in_expressions I' sc' ls' at' i' (plain.expression_and e es) u ≡ Ok v) (ExpsAlone (λ R. First (S R) (T R)) u (plain.expression_and e es))
  operand_made at' i' e es S T u A B =
      makes_then A B (λ y z. then_ok (in_expression I' sc' ls' (child at' i') e) (in_expressions I' sc' ls' at' (next i') es) u A.table B.table y z)
      (λ R sv N O k. alone_then (N false k) (λ a d. alone_map (named.exp_and a) (O k) (λ as' f. first_of d f)))

  -- the variant of an exit
  pub variant_made : (at' : List ℕ) (x : Exit) (es : List Expression) (S : Renaming → Exps → Type 0) → variant_in I' (ident V.place (enum_name V.plan)) (ident V.place (exit_name x)) ≡ Ok (V.enum ∷ V.variant x ∷ [])
      → ((u : ItemNames) → Later items M u (λ v. in_expressions I' sc' ls' at' 0 (as_expressions es) u ≡ Ok v) (ExpsAlone S u (as_expressions es))) → (u : ItemNames)
      → Later items M u (λ v. in_expression I' sc' ls' at' (plain.variant V.place (ident V.place (enum_name V.plan)) (ident V.place (exit_name x)) (given es)) u ≡ Ok v)
      (ExpAlone (λ R b. IsVariant V x (S R) b) u (plain.variant V.place (ident V.place (enum_name V.plan)) (ident V.place (exit_name x)) (given es)))
  variant_made at' x es S is ops u =
      let r = variant_in I' (ident V.place (enum_name V.plan)) (ident V.place (exit_name x)) in
      let A = makes_entry {items = items} {M = M} I' at' u V.enum (V.variant x ∷ []) r is in
      let L = ops A.table in
      let B = given_made items I' sc' ls' L.made at' es S A.table L.makes in record {
        made = L.made;
        grows = L.grows;
        makes = makes_then (makes_later L.grows A) B (λ y z. then_ok (names I' at' r) (in_arguments I' sc' ls' at' (given es)) u A.table B.table y z)
            (λ R sv N O m k. alone_node V.place k (λ n g. alone_then N (λ a d. alone_map (λ as'. named.variant n (first a.0) (second a.0) as') O (λ as' o. is_that (loose items) V I' sc' ls' x n (S R) a as' g d o))));
      }

  pub outs_later : (G : Made) → Grows M G → (xs : Names) → Every OutMeant xs → Every (λ (x : List ℕ). (n : ℕ) × (m : ℕ) × (variable_named V.scope x ≡ Some n) × (variable_named sc' x ≡ Some m) × Has G.variables n m) xs
  outs_later G g [] h = tt
  outs_later G g (x ∷ xs) h = ((h.0.0, h.0.1, h.0.2, h.0.3, g.variables h.0.0 h.0.1 h.0.4), outs_later G g xs h.1)

  -- a variable of the new function's own
  pub use_made : (at' : List ℕ) (s : Span) (x : List ℕ) (m : ℕ) → variable_named sc' x ≡ Some m → (u : ItemNames) → Makes items M u (λ v. in_expression I' sc' ls' at' (plain.var s x) u ≡ Ok v) (ExpAlone (λ R. IsUse s m) u (plain.var s x))
  use_made at' s x m is u =
      let A = makes_entry {items = items} {M = M} I' at' u m [] (one (known (variable_named sc' x) s)) (ap (λ (o : Option ℕ). one (known o s)) is) in
      makes_map A (λ a. a) (λ R sv N b k. alone_node s k (λ n g. use_alone s m n g A.table A.added N))

  -- a tuple
  pub tuple_made : (at' : List ℕ) (es : Expressions) (S : Renaming → Exps → Type 0) (u : ItemNames) → Makes items M u (λ v. in_expressions I' sc' ls' at' 0 es u ≡ Ok v) (ExpsAlone S u es)
      → Makes items M u (λ v. in_expression I' sc' ls' at' (plain.tuple V.place es) u ≡ Ok v) (ExpAlone (λ R. IsTuple V.place (S R)) u (plain.tuple V.place es))
  tuple_made at' es S u A = makes_map A (λ a. a) (λ R sv N m k. alone_node V.place k (λ n g. alone_map (named.tuple n) (N Site.Value) (λ es h. is_tuple g h)))

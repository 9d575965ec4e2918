-- Where the signature of one function is short, functions have no more lifetime positions: their types have as many, and a call may have fewer.
use Rattle.std.proofs.Common.{◌≡◌, inl, inr, ℕ, ◌+◌, ◌<◌, ◌≤◌, List, [], ◌∷◌, length, map, Option, Some, slice_get, refl, sym, ap, ap₂, subst, ◌∙◌, arith}
use Rattle.std.proofs.lemmas.List.{length-map}
use Rattle.rx_core.specs.declared.types.Bound.{Bound}
use Rattle.rx_core.specs.declared.types.Ty.{Ty}
use Rattle.rx_typed.specs.declared.declarations.Decl.{Decl}
use Rattle.rx_typed.specs.Regions.{RegionTyp, lifetimes_in}
use Rattle.rx_typed.specs.Tree as tree
use Rattle.rx_lower_walks.specs.Actions.{Act, Declare, Dead, Read, Write, Borrow, Test, Call, Build, Input, Print, Give, Action}
use Rattle.rx_lower_walks.specs.Text.{actions_of}
use Rattle.rx_lower_walks.specs.Pieces.{graph}
use Rattle.rx_lower_lifetimes.specs.Values.{Open, Held, lifetimes_of}
use Rattle.rx_lower_lifetimes.specs.Variables.{Written}
use Rattle.rx_lower_lifetimes.specs.Positions.{own_lifetimes, all_own, in_variables, in_held, positions}
use Rattle.rx_lower_lifetimes.specs.Lowered.{known, actions, function_of}
use Rattle.rx_lower.specs.Functions.{trimmed, written, function}
use Rattle.rx_typeck_typed.specs.Bindings.{lifetimes}
use Rattle.rx_typeck_typed.specs.declared.typed.TypedFn.{TypedFn}
use Rattle.rx_facts.specs.Functions.{body, sites_of, IsSmall}
use Rattle.rx_check.specs.Contexts.{AreAsked}
use Rattle.rx_repair.proofs.Deciding.{same_or}
use Rattle.rx_compact_types.specs.Positions.{no_number}
use Rattle.rx_compact_types.proofs.Filling.{lifetimes_renamed, unnumbered_same}
use Rattle.rx_compact_accepted.specs.AreShort.{AreShort}
use Rattle.rx_compact_accepted.proofs.Items.{lifetimes_elsewhere}
use Rattle.rx_compact_accepted.proofs.Types.{form, OpenUnder, AllUnder}
use Rattle.rx_compact_accepted.proofs.Temporaries.{AllLike}
use Rattle.rx_compact_accepted.proofs.Function.{BothFit, FunctionsFit, variables_are, held_are}

as_many : (t u : RegionTyp) → form u ≡ form t → length (lifetimes_in u) ≡ length (lifetimes_in t)
as_many t u e =
    sym (length-map (lifetimes_in u) no_number) ∙ (ap length (sym (lifetimes_renamed no_number u)) ∙ (ap (λ x. length (lifetimes_in x)) e ∙ (ap length (lifetimes_renamed no_number t) ∙ length-map (lifetimes_in t) no_number)))

one_form : (own new_own : ℕ) (g : ℕ → ℕ) (v w : Open) → OpenUnder own new_own g v w → form w.typ ≡ form v.typ
one_form own new_own g v w (inl h) = ap form h.2 ∙ unnumbered_same g v.typ
one_form own new_own g v w (inr h) = h.2

variables_same : (own new_own : ℕ) (g : ℕ → ℕ) (vs ws : List Open) → AllUnder own new_own g vs ws → in_variables ws ≡ in_variables vs
variables_same own new_own g [] [] h = refl
variables_same own new_own g [] (w ∷ ws) h = absurd h
variables_same own new_own g (v ∷ vs) [] h = absurd h
variables_same own new_own g (v ∷ vs) (w ∷ ws) h = ap₂ (λ x y. x + y) (as_many v.typ w.typ (one_form own new_own g v w h.0)) (variables_same own new_own g vs ws h.1)

held_same : (hs ks : List Held) → AllLike hs ks → in_held ks ≡ in_held hs
held_same [] [] l = refl
held_same [] (k ∷ ks) l = absurd l
held_same (h ∷ hs) [] l = absurd l
held_same (h ∷ hs) (k ∷ ks) l = ap₂ (λ x y. x + y) (as_many h.typ k.typ l.0.1) (held_same hs ks l.1)

sums : (a b c x y z : ℕ) → a ≡ x → b ≡ y → c ≤ z → a + (b + c) ≤ x + (y + z)
sums a b c x y z e g h = omega (arith, e, g, h)

through : (a b c : ℕ) → a ≤ b → b ≤ c → a ≤ c
through a b c h g = omega (arith, h, g)

module _ (i : ℕ) (f : ℕ → ℕ) (D E : List Decl) (S : AreShort i f D E) where
  fewer_called : (j : ℕ) → lifetimes_of (slice_get E j) ≤ lifetimes_of (slice_get D j)
  fewer_called j = elim (same_or j i) [
    | inl e ↦ subst (λ k. lifetimes_of (slice_get E k) ≤ lifetimes_of (slice_get D k)) (sym e)
        (let a = ap lifetimes_of S.like.under.old in let b = ap lifetimes S.like.under.old in let c = ap lifetimes_of S.like.under.new in let d = ap lifetimes S.like.under.new in let w = S.numbers.fewer in omega (arith, a, b, c, d, w))
    | inr ne ↦ (let a = lifetimes_elsewhere i f D E S.like j ne in omega (arith, a))
  ]

  fewer_own : (a : Act) → own_lifetimes E a ≤ own_lifetimes D a
  fewer_own (Call j ts d) = fewer_called j
  fewer_own (Borrow k p d) = omega arith
  fewer_own (Declare x) = omega arith
  fewer_own (Dead x) = omega arith
  fewer_own (Read m p d) = omega arith
  fewer_own (Write p t ss) = omega arith
  fewer_own (Test p c) = omega arith
  fewer_own (Build w is ts d) = omega arith
  fewer_own (Input d) = omega arith
  fewer_own (Print t) = omega arith
  fewer_own (Give t) = omega arith

  all_fewer : (us : List Action) → all_own E us ≤ all_own D us
  all_fewer [] = omega arith
  all_fewer (a ∷ us) = let x = fewer_own a.act in let y = all_fewer us in omega (arith, x, y)

module _ (i : ℕ) (f : ℕ → ℕ) (D E : List Decl) (B : BothFit i f D E) (P : ℕ → List Bound) (asked : AreAsked D P) (g : ℕ → ℕ) where
  fewer_positions : (item : ℕ) (b : tree.Function) (rs qs : List (Option Ty)) (ws xs : List Written) → FunctionsFit D E P g item b rs qs ws xs
      → positions (known (function_of E item b qs xs)) (actions_of (graph b)) ≤ positions (known (function_of D item b rs ws)) (actions_of (graph b))
  fewer_positions item b rs qs ws xs W =
      sums _ _ _ _ _ _
      (variables_same (lifetimes_of (slice_get D item)) (lifetimes_of (slice_get E item)) g (function_of D item b rs ws).variables (function_of E item b qs xs).variables (variables_are i f D E B P asked g item b rs qs ws xs W))
      (held_same _ _ (held_are i f D E B P asked g item b rs qs ws xs W))
      (all_fewer i f D E B.short (actions_of (graph b)))

  module _ (h k : TypedFn) (item : k.item ≡ h.item) (bodies : body k ≡ body h) (W : FunctionsFit D E P g h.item (body h) (trimmed h.variables) (trimmed k.variables) (map written h.annotations) (map written k.annotations)) where
    abbrev PositionsAs : ℕ → tree.Function → ℕ
    PositionsAs j b = positions (known (function_of E j b (trimmed k.variables) (map written k.annotations))) (actions_of (graph b))

    pub small_still : IsSmall D h → IsSmall E k
    small_still s = record {
      sites = subst (λ b. length (graph b) ≤ 16384) (sym bodies) s.sites;
      positions_are = subst (λ j. PositionsAs j (body k) ≤ 65536) (sym item) (subst (λ b. PositionsAs h.item b ≤ 65536) (sym bodies)
          (through _ _ _ (fewer_positions h.item (body h) (trimmed h.variables) (trimmed k.variables) (map written h.annotations) (map written k.annotations) W) s.positions_are));
    }

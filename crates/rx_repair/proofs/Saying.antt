-- What is known of a function's own lifetimes in its body follows from what its signature says: pair by pair, of its own lifetimes.
use Rattle.std.proofs.Common.{◌≡◌, inl, inr, ℕ, ◌<◌, List, [], ◌∷◌, ◌++◌, length, map, get_or, Option, slice_get, refl, subst}
use Rattle.rx_core.specs.declared.types.Bound.{Bound}
use Rattle.rx_core.specs.declared.types.Ty.{Ty}
use Rattle.rx_graph_cycles.specs.Reaches.{IsIn}
use Rattle.rx_typed.specs.declared.declarations.Decl.{Decl}
use Rattle.rx_typed.specs.Regions.{regions_of, region-Ty}
use Rattle.rx_typed.specs.Types.{Declarations}
use Rattle.rx_typed.specs.Renaming.{unit_region}
use Rattle.rx_region_outlives.specs.Implied.{HasPair, implied_in, implied_among}
use Rattle.rx_region_outlives.proofs.ImpliedLemmas.{has_front, has_behind, has_either}
use Rattle.rx_lower.specs.Functions.{trimmed, written}
use Rattle.rx_lower_lifetimes.specs.Values.{lifetimes_of, result_type}
use Rattle.rx_lower_lifetimes.specs.Lowered.{parameters, bounds_of}
use Rattle.rx_typeck_typed.specs.declared.typed.TypedFn.{TypedFn}
use Rattle.rx_facts.specs.Functions.{body}
use Rattle.rx_region.specs.Constraints.{Context}
use Rattle.rx_region.specs.Known.{parameters_ask, told}
use Rattle.rx_region.specs.Tables.{Follows, itself, by}
use Rattle.rx_check.specs.Contexts.{context_of}
use Rattle.rx_repair.specs.Signatures.{signature_says}
use Rattle.rx_repair.proofs.OtherBounds.{temporaries, those}
use Rattle.rx_repair.proofs.Parameters.{variable_of, parameter_pair, Fitting, says, says_is, said_below}

module _ (D : List Decl) (P : ℕ → List Bound) (f : TypedFn) (E : Declarations) (fit : Fitting E (slice_get D f.item)) (count : length (body f).params ≡ length (parameters (slice_get D f.item))) where
  abbrev C : Context
  C = context_of D P f

  abbrev o : Option Decl
  o = slice_get D f.item

  abbrev declared : List Bound
  declared = implied_among P (regions_of (map region-Ty (parameters o)))

  parameter_says : (x : ℕ) → IsIn C.lifetimes.params x → (l k : ℕ) → l < C.lifetimes.own → HasPair (implied_in P (get_or C.lifetimes.types x unit_region)) l k → HasPair declared l k
  parameter_says = parameter_pair P E (lifetimes_of o) (body f).params (parameters o) count fit.params (map written f.annotations) (trimmed f.variables) (temporaries D f.item [] P f D (those D f.item [] P f D))

  parameters_say : (xs : List ℕ) → ((x : ℕ) → IsIn xs x → IsIn C.lifetimes.params x) → (l k : ℕ) → l < C.lifetimes.own → HasPair (parameters_ask C xs) l k → HasPair declared l k
  parameters_say [] within l k w h = absurd h
  parameters_say (x ∷ xs) within l k w h = elim (has_either (implied_in P (get_or C.lifetimes.types x unit_region)) (parameters_ask C xs) l k h) [
    | inl a ↦ parameter_says x (within x (inl refl)) l k w a
    | inr b ↦ parameters_say xs (λ y v. within y (inr v)) l k w b
  ]

  pair_said : (l k : ℕ) → l < C.lifetimes.own → HasPair (told C) l k → HasPair (says P o) l k
  pair_said l k w h = elim (has_either (bounds_of o) (parameters_ask C C.lifetimes.params ++ implied_in P (result_type o)) l k h) [
    | inl a ↦ has_front (bounds_of o) (declared ++ implied_in P (result_type o)) l k a
    | inr b ↦ elim (has_either (parameters_ask C C.lifetimes.params) (implied_in P (result_type o)) l k b) [
      | inl c ↦ has_behind (bounds_of o) (declared ++ implied_in P (result_type o)) l k
          (has_front declared (implied_in P (result_type o)) l k (parameters_say C.lifetimes.params (λ x v. v) l k w c))
      | inr d ↦ has_behind (bounds_of o) (declared ++ implied_in P (result_type o)) l k (has_behind declared (implied_in P (result_type o)) l k d)
    ]
  ]

  pub follows_said : (l k : ℕ) → l < C.lifetimes.own → Follows (told C) l k → Follows (signature_says P o) l k
  follows_said l k w itself = itself
  follows_said l k w (by m pair rest) =
      let p = pair_said l m w pair in
      by m (subst (λ (ps : List Bound). HasPair ps l m) (says_is P o) p) (follows_said m k (said_below P E o fit l m p) rest)

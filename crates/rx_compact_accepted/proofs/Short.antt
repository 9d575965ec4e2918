-- The function that has the short signature: its own lifetimes go by the numbers of the signature, and what is known of the signature is known
-- in its body.
use Rattle.std.proofs.Common.{◌≡◌, inl, inr, ℕ, ◌-◌, ◌+◌, ◌<◌, ◌≤◌, List, length, map, slice_get, sym, ap, subst, ◌∙◌, arith, if◌then◌else◌, lt-ltb, le-ltb}
use Rattle.rx_core.specs.declared.types.Bound.{Bound}
use Rattle.rx_typed.specs.declared.declarations.Decl.{Decl}
use Rattle.rx_typed.specs.PlainTypes.{declarations}
use Rattle.rx_typed.specs.Regions.{regions_of, region-Ty}
use Rattle.rx_typed.specs.Renaming.{renamed, all_renamed}
use Rattle.rx_region_outlives.specs.Implied.{HasPair}
use Rattle.rx_lower_walks.specs.Text.{actions_of}
use Rattle.rx_lower_lifetimes.specs.Values.{lifetimes_of, result_type}
use Rattle.rx_lower_lifetimes.specs.Lowered.{parameters, bounds_of}
use Rattle.rx_lower.specs.Functions.{trimmed, written}
use Rattle.rx_typeck_typed.specs.Bindings.{lifetimes}
use Rattle.rx_typeck_typed.specs.declared.typed.TypedFn.{TypedFn}
use Rattle.rx_facts.specs.Functions.{body, sites_of}
use Rattle.rx_check.specs.Contexts.{AreAsked, context_of}
use Rattle.rx_region.specs.Known.{KnownToOutlive}
use Rattle.rx_repair.specs.Fitting.{Fits}
use Rattle.rx_compact.specs.Outliving.{Outlives}
use Rattle.rx_compact_laws.specs.MergedSignatures.{AreBoundsUnder, IsUnder}
use Rattle.rx_compact_types.specs.KnownNumbers.{AreKnownNumbers}
use Rattle.rx_compact_passes.proofs.Alike.{FunctionAlike}
use Rattle.rx_compact_types.specs.ShortLets.{extended}
use Rattle.rx_compact_accepted.specs.LetsUnder.{LetsUnder}
use Rattle.rx_compact_accepted.proofs.Below.{type_below, types_below, bounds_below, type_agrees, types_agree}
use Rattle.rx_compact_accepted.proofs.Function.{BothFit, FunctionsFit}
use Rattle.rx_compact_accepted.proofs.Others.{told_own, old_open, new_open}

module _ (i : ℕ) (f : ℕ → ℕ) (D E : List Decl) (B : BothFit i f D E) (P : ℕ → List Bound) (asked : AreAsked D P) (h k : TypedFn) (A : FunctionAlike h k) (item : k.item ≡ h.item) (this : h.item ≡ i) where
  abbrev n : ℕ
  n = lifetimes_of (slice_get D h.item)

  abbrev m : ℕ
  m = lifetimes_of (slice_get E h.item)

  abbrev pub g : ℕ → ℕ
  g = extended f n m

  under : IsUnder f (slice_get D h.item) (slice_get E h.item)
  under = subst (λ j. IsUnder f (slice_get D j) (slice_get E j)) (sym this) B.short.like.under

  numbers : AreKnownNumbers D (slice_get D h.item) (slice_get E h.item) f
  numbers = subst (λ j. AreKnownNumbers D (slice_get D j) (slice_get E j) f) (sym this) B.short.numbers

  count_is : n ≡ lifetimes (slice_get D h.item)
  count_is = ap lifetimes_of under.old ∙ sym (ap lifetimes under.old)

  new_count_is : m ≡ lifetimes (slice_get E h.item)
  new_count_is = ap lifetimes_of under.new ∙ sym (ap lifetimes under.new)

  own_is : (l : ℕ) → l < n → g l ≡ f l
  own_is l w = ap (λ b. if b then f l else (l - n) + m) (lt-ltb l n w)

  behind_is : (l : ℕ) → n ≤ l → g l ≡ (l - n) + m
  behind_is l w = ap (λ b. if b then f l else (l - n) + m) (le-ltb l n w)

  parameters_are : regions_of (map region-Ty (parameters (slice_get E h.item))) ≡ all_renamed f (regions_of (map region-Ty (parameters (slice_get D h.item))))
  parameters_are = subst (λ o. regions_of (map region-Ty (parameters (slice_get E h.item))) ≡ all_renamed f (regions_of (map region-Ty (parameters o)))) (sym under.old)
      (subst (λ o. regions_of (map region-Ty (parameters o)) ≡ all_renamed f (regions_of (map region-Ty under.params))) (sym under.new) under.params_are)

  answer_is : result_type (slice_get E h.item) ≡ renamed f (result_type (slice_get D h.item))
  answer_is = subst (λ o. result_type (slice_get E h.item) ≡ renamed f (result_type o)) (sym under.old)
      (subst (λ o. result_type o ≡ renamed f (region-Ty under.answer)) (sym under.new) under.answer_is)

  bounds_are : AreBoundsUnder f (bounds_of (slice_get D h.item)) (bounds_of (slice_get E h.item))
  bounds_are = subst (λ o. AreBoundsUnder f (bounds_of o) (bounds_of (slice_get E h.item))) (sym under.old) (subst (λ o. AreBoundsUnder f under.bounds (bounds_of o)) (sym under.new) under.bounds_are)

  below : (l k : ℕ) → HasPair (bounds_of (slice_get D h.item)) l k → (l < n) × (k < n)
  below = bounds_below n (bounds_of (slice_get D h.item)) (B.fitting h.item).bounds

  known_there : ((l k : ℕ) → Outlives D (slice_get D h.item) l k → KnownToOutlive (context_of D P h) l k) → (l k : ℕ) → l < n → k < n → g l ≡ g k → KnownToOutlive (context_of D P h) l k
  known_there known l k w v e =
      known l k (numbers.known l k (subst (λ x. l < x) count_is w) (subst (λ x. k < x) count_is v) (sym (own_is l w) ∙ (e ∙ own_is k v)))

  pub fit : (count : length (body h).params ≡ length (parameters (slice_get D h.item)))
      → Fits (context_of D P h) (actions_of (sites_of h)) → Fits (context_of E P k) (actions_of (sites_of k)) → ((l k : ℕ) → Outlives D (slice_get D h.item) l k → KnownToOutlive (context_of D P h) l k)
      → LetsUnder g (map written h.annotations) (map written k.annotations)
      → FunctionsFit D E P g h.item (body h) (trimmed h.variables) (trimmed k.variables) (map written h.annotations) (map written k.annotations)
  fit count fits new_fits known lets = record {
    small = λ l w. subst (λ x. x < m) (sym (own_is l w)) (subst (λ x. f l < x) (sym new_count_is) (numbers.within l (subst (λ x. l < x) count_is w)));
    opens = λ l w. (let e = behind_is l w in omega (arith, e, w));
    params = parameters_are ∙ types_agree f g (regions_of (map region-Ty (parameters (slice_get D h.item))))
        (λ l w. sym (own_is l (types_below (declarations D) n (regions_of (map region-Ty (parameters (slice_get D h.item)))) (B.fitting h.item).params l w)));
    answer = answer_is ∙ type_agrees f g (result_type (slice_get D h.item)) (λ l w. sym (own_is l (type_below (declarations D) n (result_type (slice_get D h.item)) (B.fitting h.item).answer l w)));
    bounds = record {
      kept = λ l j w.
          let c = below l j w in
          elim (bounds_are.kept l j w) [
            | inl e ↦ inl (own_is l c.0 ∙ (e ∙ sym (own_is j c.1)))
            | inr v ↦ inr (subst (λ x. HasPair (bounds_of (slice_get E h.item)) x (g j)) (sym (own_is l c.0)) (subst (λ x. HasPair (bounds_of (slice_get E h.item)) (f l) x) (sym (own_is j c.1)) v))
          ];
      only = λ x y w.
          let r = bounds_are.only x y w in
          let c = below r.0 r.1 r.2 in
          (r.0, r.1, r.2, r.3 ∙ sym (own_is r.0 c.0), r.4 ∙ sym (own_is r.1 c.1));
    };
    lets = lets;
    raws = A.types;
    variables = (old_open i f D E B P asked h k item A.bodies fits).0;
    new_variables = (new_open i f D E B P asked h k item A.bodies new_fits).0;
    held = (old_open i f D E B P asked h k item A.bodies fits).1;
    new_held = (new_open i f D E B P asked h k item A.bodies new_fits).1;
    fits = fits;
    equal = known_there known;
    own = told_own D P h (B.fitting h.item) count;
  }

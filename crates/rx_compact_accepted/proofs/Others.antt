-- A function that isn't the short one: its own lifetimes keep their numbers, and its `let`s write what they did.
use Rattle.std.proofs.Common.{◌≡◌, ◌≢◌, ◌↔◌, inl, inr, ℕ, ◌<◌, ◌≤◌, List, [], ◌∷◌, length, map, Option, Some, None, option_map, slice_get, refl, sym, ap, ap₂, subst, ◌∙◌}
use Rattle.rx_core.specs.declared.types.Bound.{Bound}
use Rattle.rx_core.specs.declared.types.Ty.{Ty}
use Rattle.rx_tree.specs.Plain.{ProgramTree}
use Rattle.rx_resolve_names.specs.declared.resolved.ItemNames.{ItemNames}
use Rattle.rx_typed.specs.declared.declarations.Decl.{Decl}
use Rattle.rx_typed.specs.declared.declarations.Decl.TheVariants as decl
use Rattle.rx_typed.specs.Naming.{function_annotations}
use Rattle.rx_typed.specs.PlainTypes.{declarations}
use Rattle.rx_typed.specs.Regions.{regions_of, region-Ty}
use Rattle.rx_typed.specs.Tree as tree
use Rattle.rx_typed_declarations.specs.Variance.{unrecorded}
use Rattle.rx_region_outlives.specs.Implied.{HasPair}
use Rattle.rx_lower_walks.specs.Text.{actions_of}
use Rattle.rx_lower_walks.specs.Pieces.{graph}
use Rattle.rx_lower_lifetimes.specs.Values.{lifetimes_of, result_type}
use Rattle.rx_lower_lifetimes.specs.Lowered.{parameters, bounds_of, function_of, lifetimes, temporaries}
use Rattle.rx_lower.specs.Functions.{trimmed, written, function}
use Rattle.rx_typeck_typed.specs.Bindings as bindings
use Rattle.rx_typeck_typed.specs.Bindings.{of_lets, annotated}
use Rattle.rx_typeck_typed.specs.Walks.{plain-Variable}
use Rattle.rx_typeck_typed.specs.Written as reading
use Rattle.rx_typeck_typed.specs.declared.typed.TypedFn.{TypedFn}
use Rattle.rx_typeck_typed.specs.Typing.{Given, entries}
use Rattle.rx_facts.specs.Functions.{body, sites_of}
use Rattle.rx_facts.proofs.Positions.{parameters_same}
use Rattle.rx_region.specs.Known as knowing
use Rattle.rx_region.specs.Known.{KnownToOutlive, told}
use Rattle.rx_region.specs.Tables as tables
use Rattle.rx_region.specs.Tables.{Follows}
use Rattle.rx_loan.specs.Accepted.{IsAccepted}
use Rattle.rx_check.specs.Contexts.{AreAsked, context_of}
use Rattle.rx_check.specs.Functions.{Borrows}
use Rattle.rx_repair.specs.Fitting.{Fits}
use Rattle.rx_repair.specs.Signatures.{signature_says}
use Rattle.rx_repair.proofs.Parameters.{Fitting, says_is, said_below}
use Rattle.rx_repair.proofs.Saying.{follows_said}
use Rattle.rx_compact_laws.specs.MergedSignatures.{AreBoundsUnder}
use Rattle.rx_compact_types.proofs.Programs.{renamed_itself, all_renamed_itself}
use Rattle.rx_compact_passes.proofs.Alike.{FunctionAlike}
use Rattle.rx_compact_accepted.specs.AreShort.{IsShort, AreShort}
use Rattle.rx_compact_accepted.proofs.Items.{elsewhere, lifetimes_elsewhere, result_elsewhere}
use Rattle.rx_compact_accepted.proofs.Both.{TypedBoth}
use Rattle.rx_compact_accepted.proofs.Lets.{lets_same, same_lets}
use Rattle.rx_compact_accepted.proofs.Fitted.{AllOpen, AllHeld, variables_whole}
use Rattle.rx_compact_accepted.proofs.Function.{BothFit, FunctionsFit, function_accepted}

bounds_plain : (o : Option Decl) → bounds_of (option_map unrecorded o) ≡ bounds_of o
bounds_plain None = refl
bounds_plain (Some decl.Rt) = refl
bounds_plain (Some (decl.Struct c l vs fs)) = refl
bounds_plain (Some (decl.Enum c l vs ds)) = refl
bounds_plain (Some (decl.Func l ps t bs)) = refl

-- ---- what is known of a function's own lifetimes speaks of these

module _ (D : List Decl) (P : ℕ → List Bound) (h : TypedFn) (fit : Fitting (declarations D) (slice_get D h.item)) (count : length (body h).params ≡ length (parameters (slice_get D h.item))) where
  follows_below : (l k : ℕ) → Follows (signature_says P (slice_get D h.item)) l k → l < lifetimes_of (slice_get D h.item) → k < lifetimes_of (slice_get D h.item)
  follows_below l k tables.itself w = w
  follows_below l k (tables.by m pair rest) w =
      follows_below m k rest (said_below P (declarations D) (slice_get D h.item) fit l m (subst (λ ps. HasPair ps l m) (sym (says_is P (slice_get D h.item))) pair))

  pub told_own : (l k : ℕ) → HasPair (told (context_of D P h)) l k → l < lifetimes_of (slice_get D h.item) → k < lifetimes_of (slice_get D h.item)
  told_own l k pair w = follows_below l k (follows_said D P h (declarations D) fit count l k w (tables.by k pair tables.itself)) w

-- ---- both as one function

module _ (i : ℕ) (f : ℕ → ℕ) (D E : List Decl) (B : BothFit i f D E) (P : ℕ → List Bound) (asked : AreAsked D P) (h k : TypedFn) (item : k.item ≡ h.item) (bodies : body k ≡ body h) where
  abbrev AcceptedAs : ℕ → tree.Function → Type 0
  AcceptedAs j b = IsAccepted (record { items = E; implied = P; lifetimes = lifetimes (function_of E j b (trimmed k.variables) (map written k.annotations)) }) (graph b)

  abbrev OpenAs : ℕ → tree.Function → Type 0
  OpenAs j b = AllOpen (declarations E) (function_of E j b (trimmed k.variables) (map written k.annotations)).variables
      × AllHeld (declarations E) (temporaries (function_of E j b (trimmed k.variables) (map written k.annotations)))

  pub new_open : Fits (context_of E P k) (actions_of (sites_of k)) → OpenAs h.item (body h)
  new_open fit = subst (λ b. OpenAs h.item b) bodies (subst (λ j. OpenAs j (body k)) item
      (variables_whole (declarations E) (function E k).variables (temporaries (function E k)) (lifetimes_of (slice_get E k.item)) fit.types))

  pub old_open : Fits (context_of D P h) (actions_of (sites_of h)) → AllOpen (declarations D) (function D h).variables × AllHeld (declarations D) (temporaries (function D h))
  old_open fit = variables_whole (declarations D) (function D h).variables (temporaries (function D h)) (lifetimes_of (slice_get D h.item)) fit.types

  pub borrows_alike : (g : ℕ → ℕ) → FunctionsFit D E P g h.item (body h) (trimmed h.variables) (trimmed k.variables) (map written h.annotations) (map written k.annotations) → Borrows D P h ↔ Borrows E P k
  borrows_alike g W =
      let r = function_accepted i f D E B P asked g h.item (body h) (trimmed h.variables) (trimmed k.variables) (map written h.annotations) (map written k.annotations) W in (
        λ a. subst (λ j. AcceptedAs j (body k)) (sym item) (subst (λ b. AcceptedAs h.item b) (sym bodies) (r.0 a)),
        λ a. r.1 (subst (λ b. AcceptedAs h.item b) bodies (subst (λ j. AcceptedAs j (body k)) item a)),
      )

-- ---- one that isn't the short one

module _ (i : ℕ) (f : ℕ → ℕ) (D E : List Decl) (B : BothFit i f D E) (P : ℕ → List Bound) (asked : AreAsked D P) (p q : ProgramTree) (old new : List Decl) (sizes new_sizes : List ℕ)
    (like : IsShort i f old new) (plain : declarations new ≡ declarations old) (declared : (j : ℕ) → (j ≡ i → ⊥) → slice_get new j ≡ slice_get old j)
    (counts : (n : ℕ) → reading.lifetimes_of (slice_get q n) ≡ reading.lifetimes_of (slice_get p n)) (names news : List ItemNames) where
  abbrev G : Given
  G = record { program = p; declared = old; sizes = sizes }

  abbrev H : Given
  H = record { program = q; declared = new; sizes = new_sizes }

  module _ (h k : TypedFn) (A : FunctionAlike h k) (T : TypedBoth G H names news i h k) (other : h.item ≢ i) where
    item : k.item ≡ h.item
    item = T.is.item ∙ sym T.was.item

    place : T.place ≡ i → ⊥
    place e = other (T.was.item ∙ e)

    written_same : map plain-Variable k.annotations ≡ map plain-Variable h.annotations
    written_same =
        let as' = function_annotations T.span T.text (entries (slice_get names T.place)) in
        let free = bindings.lifetimes (slice_get old T.place) in
        T.is.annotated
        ∙ (ap₂ (λ x y. annotated q new T.place (function_annotations T.span x (entries y))) (T.same place).0 (T.same place).1
        ∙ (ap (λ o. of_lets q new (bindings.lifetimes o) as') (declared T.place place)
        ∙ (lets_same i f old new like plain free p q counts as' ∙ sym T.was.annotated)))

    own_same : lifetimes_of (slice_get E h.item) ≡ lifetimes_of (slice_get D h.item)
    own_same = lifetimes_elsewhere i f D E B.short.like h.item other

    pub fit : length (body h).params ≡ length (parameters (slice_get D h.item)) → Fits (context_of D P h) (actions_of (sites_of h)) → Fits (context_of E P k) (actions_of (sites_of k))
        → FunctionsFit D E P (λ l. l) h.item (body h) (trimmed h.variables) (trimmed k.variables) (map written h.annotations) (map written k.annotations)
    fit count fits new_fits = record {
      small = λ l w. subst (λ n. l < n) (sym own_same) w;
      opens = λ l w. subst (λ n. n ≤ l) (sym own_same) w;
      params = ap (λ ts. regions_of (map region-Ty ts)) (elsewhere i f D E B.short.like parameters parameters_same h.item other) ∙ sym (all_renamed_itself (regions_of (map region-Ty (parameters (slice_get D h.item)))));
      answer = result_elsewhere i f D E B.short.like h.item other ∙ sym (renamed_itself (result_type (slice_get D h.item)));
      bounds = subst (λ bs. AreBoundsUnder (λ l. l) (bounds_of (slice_get D h.item)) bs) (sym (elsewhere i f D E B.short.like bounds_of bounds_plain h.item other))
          (record { kept = λ l m w. inr w; only = λ x y w. (x, y, w, refl, refl) });
      lets = same_lets h.annotations k.annotations written_same;
      raws = A.types;
      variables = (old_open i f D E B P asked h k item A.bodies fits).0;
      new_variables = (new_open i f D E B P asked h k item A.bodies new_fits).0;
      held = (old_open i f D E B P asked h k item A.bodies fits).1;
      new_held = (new_open i f D E B P asked h k item A.bodies new_fits).1;
      fits = fits;
      equal = λ l m w v e. subst (λ n. KnownToOutlive (context_of D P h) l n) e knowing.itself;
      own = told_own D P h (B.fitting h.item) count;
    }

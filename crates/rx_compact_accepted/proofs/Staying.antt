-- The `let`s of the function with a short signature write the types of before by the new numbers of its lifetimes.
use Rattle.std.proofs.Common.{◌≡◌, ℕ, ◌+◌, ◌-◌, if◌then◌else◌, Bool, true, List, [], ◌∷◌, map, Option, Some, None, option_map, slice_get, refl, sym, ap, subst, ◌∙◌, arith, le-ltb}
use Rattle.std.proofs.lemmas.Option.{slice_get-map}
use Rattle.rx_core.specs.declared.types.Bound.{Bound}
use Rattle.rx_core.specs.declared.types.Span.{Span}
use Rattle.rx_core.specs.declared.types.Ty.{Ty}
use Rattle.rx_tree.specs.Plain as plain
use Rattle.rx_tree.specs.Plain.{Function, ProgramTree}
use Rattle.rx_tree.specs.Size.{IsNumbered}
use Rattle.rx_resolve_names.specs.declared.resolved.ItemNames.{ItemNames}
use Rattle.rx_resolve_names.specs.Causes.{Meant}
use Rattle.rx_typed.specs.declared.declarations.Decl.{Decl}
use Rattle.rx_typed.specs.declared.declarations.Decl.TheVariants as decl
use Rattle.rx_typed.specs.Naming.{Annotation, function_annotations}
use Rattle.rx_typed.specs.PlainTypes.{declarations}
use Rattle.rx_typed.specs.Types.{Declarations}
use Rattle.rx_typed_declarations.specs.Variance.{unrecorded}
use Rattle.rx_typed_declarations.specs.WellFormed.{item_fits}
use Rattle.rx_typed_declarations.proofs.Polarities.{same_declared}
use Rattle.rx_lower_lifetimes.specs.Values.{lifetimes_of}
use Rattle.rx_lower.specs.Functions.{written}
use Rattle.rx_typeck_typed.specs.Bindings.{lifetimes, of_lets}
use Rattle.rx_typeck_typed.specs.Programs.{Declares}
use Rattle.rx_typeck_typed.specs.Typing.{Given, entries, IsTyped}
use Rattle.rx_typeck_typed.specs.declared.typed.Typed.{Typed}
use Rattle.rx_typeck_typed.specs.declared.typed.TypedFn.{TypedFn}
use Rattle.rx_facts.specs.Passing.{Each}
use Rattle.rx_compact.specs.Outliving.{is_single}
use Rattle.rx_compact.specs.Compacted.{compacted, Tells, IsCompacted}
use Rattle.rx_compact_laws.specs.MergedSignatures.{IsUnder}
use Rattle.rx_compact_types.specs.ShortLets.{extended, LetsAlike}
use Rattle.rx_compact_types.specs.ShortTyped.{ShortProgram}
use Rattle.rx_compact_accepted.specs.Alike.{LetsStay, LetsStayAt}
use Rattle.rx_compact_accepted.specs.LetsUnder.{LetsUnder}
use Rattle.rx_compact_accepted.proofs.Both.{TypedBoth}
use Rattle.rx_compact_accepted.proofs.LetsRenamed.{turned, lets_are, lets_under}
use Rattle.rx_compact_accepted.proofs.PlacesRenamed.{Good}
use Rattle.rx_compact_accepted.proofs.Typed as typed
use Rattle.rx_compact_accepted.proofs.Typed.{Laws}
use Rattle.rx_compact_accepted.proofs.WrittenLets.{LetsHave, lets_have}

-- ---- declarations with polarities recorded

item_plain : (E : Declarations) (d : Decl) → item_fits E (unrecorded d) ≡ item_fits E d
item_plain E decl.Rt = refl
item_plain E (decl.Struct c n vs fs) = refl
item_plain E (decl.Enum c n vs ds) = refl
item_plain E (decl.Func n ps t bs) = refl

abbrev fits_if : Declarations → Option Decl → Bool
fits_if E None = true
fits_if E (Some d) = item_fits E d

plain_at : (D ds : List Decl) → map unrecorded D ≡ map unrecorded ds → (i : ℕ) → option_map unrecorded (slice_get D i) ≡ option_map unrecorded (slice_get ds i)
plain_at D ds e i = sym (slice_get-map unrecorded D i) ∙ (ap (λ (l : List Decl). slice_get l i) e ∙ slice_get-map unrecorded ds i)

fits_then : (D ds : List Decl) → declarations D ≡ declarations ds → Good D → (i : ℕ) (d : Decl) (o : Option Decl) → slice_get D i ≡ o → option_map unrecorded o ≡ Some (unrecorded d) → item_fits (declarations ds) d ≡ true
fits_then D ds same good i d None g k = absurd (cc)
fits_then D ds same good i d (Some x) g k =
    sym (item_plain (declarations ds) d) ∙ (ap (fits_if (declarations ds)) (sym k) ∙ (item_plain (declarations ds) x ∙ (ap (λ E. item_fits E x) (sym same) ∙ good i x g)))

good_declared : (D ds : List Decl) → map unrecorded D ≡ map unrecorded ds → Good D → Good ds
good_declared D ds e good i d h = fits_then D ds (same_declared D ds e) good i d (slice_get D i) refl (plain_at D ds e i ∙ ap (option_map unrecorded) h)

count_unrecorded : (o : Option Decl) → lifetimes_of (option_map unrecorded o) ≡ lifetimes_of o
count_unrecorded None = refl
count_unrecorded (Some decl.Rt) = refl
count_unrecorded (Some (decl.Struct c l vs fs)) = refl
count_unrecorded (Some (decl.Enum c l vs ds)) = refl
count_unrecorded (Some (decl.Func l ps t bs)) = refl

-- of a function, the same is counted
function_count : (D ds : List Decl) → map unrecorded D ≡ map unrecorded ds → (i n : ℕ) (ps : List Ty) (t : Ty) (bs : List Bound) → slice_get ds i ≡ Some (decl.Func n ps t bs)
    → lifetimes (slice_get ds i) ≡ lifetimes_of (slice_get D i)
function_count D ds e i n ps t bs h =
    ap lifetimes h ∙ (sym (ap lifetimes_of h) ∙ (sym (count_unrecorded (slice_get ds i)) ∙ (ap lifetimes_of (sym (plain_at D ds e i)) ∙ count_unrecorded (slice_get D i))))

behind_all : (f : ℕ → ℕ) (n m : ℕ) → extended f n m n ≡ m
behind_all f n m = let z : (n - n) + m ≡ m = omega arith in ap (λ b. if b then f n else (n - n) + m) (le-ltb n n (omega arith)) ∙ z

-- ---- function by function

module _ (laws : Laws) (p : ProgramTree) (i : ℕ) (names : List ItemNames) (meant : Meant p names) (small : IsNumbered p) (ds : List Decl) (declares : Declares p names ds) (o : ℕ → ℕ → Bool) (tells : Tells ds i o)
    (new_small : IsNumbered (compacted o (is_single (slice_get ds i)) p i)) (s : ShortProgram p i (compacted o (is_single (slice_get ds i)) p i) names ds)
    (n : ℕ) (ps : List Ty) (answer : Ty) (bs : List Bound) (at : slice_get ds i ≡ Some (decl.Func n ps answer bs))
    (t u : Typed) (a : IsTyped p names t) (b : IsTyped (compacted o (is_single (slice_get ds i)) p i) s.news u) where
  abbrev q : ProgramTree
  q = compacted o (is_single (slice_get ds i)) p i

  abbrev D : List Decl
  D = t.decls.items

  abbrev E : List Decl
  E = u.decls.items

  abbrev f : ℕ → ℕ
  f = (s.declares.function n ps answer bs at).0

  abbrev G : Given
  G = record { program = p; declared = a.declared; sizes = a.sizes }

  abbrev H : Given
  H = record { program = q; declared = b.declared; sizes = b.sizes }

  -- at a number
  abbrev LetsAt : List Decl → List Decl → ℕ → Type 0
  LetsAt A B j = (r : Span) (g h : Function) → slice_get p j ≡ Some (plain.function_item r g) → slice_get q j ≡ Some (plain.function_item r h)
      → LetsAlike p q (lifetimes (slice_get A j)) (lifetimes (slice_get B j)) f (function_annotations r g (entries (slice_get names j))) (function_annotations r h (entries (slice_get s.news j)))

  lets_at : (j : ℕ) → j ≡ i → LetsAt a.declared b.declared j
  lets_at j e = subst (LetsAt a.declared b.declared) (sym e)
      (subst (λ A. LetsAt A b.declared i) (typed.old_declared laws p i names meant small ds declares o tells new_small s n ps answer bs at t u a b)
      (subst (λ B. LetsAt ds B i) (typed.new_declared laws p i names meant small ds declares o tells new_small s n ps answer bs at t u a b) (s.lets n ps answer bs at)))

  under : IsUnder f (slice_get a.declared i) (slice_get b.declared i)
  under = typed.under laws p i names meant small ds declares o tells new_small s n ps answer bs at t u a b

  old_count : (j : ℕ) → j ≡ i → lifetimes (slice_get a.declared j) ≡ lifetimes_of (slice_get D j)
  old_count j e = subst (λ k. lifetimes (slice_get a.declared k) ≡ lifetimes_of (slice_get D k)) (sym e) (function_count D a.declared a.same i under.count under.params under.answer under.bounds under.old)

  new_count : (j : ℕ) → j ≡ i → lifetimes (slice_get b.declared j) ≡ lifetimes_of (slice_get E j)
  new_count j e = subst (λ k. lifetimes (slice_get b.declared k) ≡ lifetimes_of (slice_get E k)) (sym e) (function_count E b.declared b.same i under.new_count under.new_params under.new_answer under.new_bounds under.new)

  one_stays : (h k : TypedFn) → TypedBoth G H names s.news i h k → h.item ≡ i → LetsStay D E f h k
  one_stays h k T e =
      let j : ℕ = T.place in
      let x : j ≡ i = sym T.was.item ∙ e in
      let c : ℕ = lifetimes (slice_get a.declared j) in
      let m : ℕ = lifetimes (slice_get b.declared j) in
      let as' : List Annotation = function_annotations T.span T.text (entries (slice_get names j)) in
      let bs' : List Annotation = function_annotations T.span T.new_text (entries (slice_get s.news j)) in
      let alike : LetsAlike p q c m f as' bs' = lets_at j x T.span T.text T.new_text T.stands T.new_stands in
      let have : LetsHave p (declarations a.declared) c as' =
      lets_have p names a.declared small.lifetimes a.declares.items a.sizes T.was.types j T.span T.text (entries (slice_get names j)) T.was.valid.prefers.typed c in
      let made : of_lets q b.declared m bs' ≡ map (turned (extended f c m)) (of_lets p a.declared c as') =
      lets_are i f a.declared b.declared (typed.short_declared laws p i names meant small ds declares o tells new_small s n ps answer bs at t u a b) (typed.plain_declared laws p i names meant small ds declares o tells new_small s n ps answer bs at t u a b)
      (good_declared D a.declared a.same a.well_formed.named) p q c m (behind_all f c m) as' bs' alike have in
      let under : LetsUnder (extended f c m) (map written h.annotations) (map written k.annotations) =
      lets_under (extended f c m) h.annotations k.annotations (T.is.annotated ∙ (made ∙ ap (map (turned (extended f c m))) (sym T.was.annotated))) in
      subst (λ l. LetsUnder (extended f l (lifetimes_of (slice_get E h.item))) (map written h.annotations) (map written k.annotations)) (old_count j x ∙ ap (λ l. lifetimes_of (slice_get D l)) (sym T.was.item))
      (subst (λ l. LetsUnder (extended f c l) (map written h.annotations) (map written k.annotations)) (new_count j x ∙ ap (λ l. lifetimes_of (slice_get E l)) (sym T.was.item)) under)

  each_stays : (hs ks : List TypedFn) → Each (TypedBoth G H names s.news i) hs ks → Each (LetsStayAt D E i f) hs ks
  each_stays [] [] x = tt
  each_stays [] (k ∷ ks) x = absurd x
  each_stays (h ∷ hs) [] x = absurd x
  each_stays (h ∷ hs) (k ∷ ks) x = (one_stays h k x.0, each_stays hs ks x.1)

  all_stay : Each (LetsStayAt D E i f) t.functions u.functions
  all_stay = each_stays t.functions u.functions (typed.pairs laws p i names meant small ds declares o tells new_small s n ps answer bs at t u a b)

pub lets_stay : Laws → (p : ProgramTree) (i : ℕ) (q : ProgramTree) (c : IsCompacted p i q) → IsNumbered p → IsNumbered q → (s : ShortProgram p i q c.names c.declared)
    → (n : ℕ) (ps : List Ty) (answer : Ty) (bs : List Bound) (at : slice_get c.declared i ≡ Some (decl.Func n ps answer bs)) (t u : Typed) → IsTyped p c.names t → IsTyped q s.news u
    → Each (LetsStayAt t.decls.items u.decls.items i (s.declares.function n ps answer bs at).0) t.functions u.functions
lets_stay laws p i q c small new_small s n ps answer bs at t u a b =
    subst (λ q. IsNumbered q → (s : ShortProgram p i q c.names c.declared) → IsTyped q s.news u → Each (LetsStayAt t.decls.items u.decls.items i (s.declares.function n ps answer bs at).0) t.functions u.functions) (sym c.same)
    (λ z s b. all_stay laws p i c.names c.meant small c.declared c.declares c.outlives c.tells z s n ps answer bs at t u a b) new_small s b

-- Whether a function is within the limits, and whether it is initialised, is one or the other, and of two typed programs of one text
-- the same.
use Rattle.std.proofs.Common.{◌≡◌, ◌≢◌, ◌⊎◌, inl, inr, ℕ, ◌<◌, ◌≤◌, List, [], ◌∷◌, length, map, Option, Some, None, option_map, refl, sym, ap, subst, ◌∙◌, arith, true≢false}
use Rattle.rx_core.specs.declared.types.Ty.{Ty}
use Rattle.rx_typed.specs.declared.declarations.Decl.{Decl}
use Rattle.rx_typed.specs.Types.{Typ, Declarations}
use Rattle.rx_typed.specs.PlainTypes.{plain-Ty}
use Rattle.rx_typed.specs.Regions.{erased, region-Ty}
use Rattle.rx_typed.specs.Tree as tree
use Rattle.rx_typed.specs.Tree.{Place}
use Rattle.rx_lower_walks.specs.Pieces.{graph}
use Rattle.rx_typed_declarations.specs.Variance.{unrecorded}
use Rattle.rx_typed_declarations.proofs.RegionLemmas.{is_erased}
use Rattle.rx_typed.specs.Numbers.{capped}
use Rattle.rx_lower_lifetimes.specs.declared.whole.LowerFault.{LowerFault}
use Rattle.rx_lower_lifetimes.specs.declared.whole.LowerFault.TheVariants as lower_fault
use Rattle.rx_typeck_typed.specs.declared.typed.TypedFn.{TypedFn}
use Rattle.rx_facts_tables.specs.Places.{Frame}
use Rattle.rx_facts_tables.specs.Initialised.{Initialised, IsUnset, looked, entered, IsAgain, again}
use Rattle.rx_lower.specs.Functions.{trimmed}
use Rattle.rx_facts.specs.declared.fault.InitFault.{InitFault}
use Rattle.rx_facts.specs.declared.fault.InitFault.TheVariants as fault
use Rattle.rx_facts.specs.Functions.{body, sites_of, IsSmall, IsLarge, frame_of, IsInitialised, IsUninitialised}
use Rattle.rx_facts.specs.Same.{SameFunction}
use Rattle.rx_facts.proofs.Positions.{positions_of, counted, is_counted}

-- ---- limits

small_or_large : (D : List Decl) (f : TypedFn) (i s n : ℕ) → IsSmall D f → IsLarge D (lower_fault.TooLarge i s n) f → ⊥
small_or_large D f i s n a b = by b.3
  where
    by : (16384 < length (sites_of f)) ⊎ (65536 < positions_of D f) → ⊥
    by (inl h) = omega (arith, h, a.sites)
    by (inr h) = omega (arith, h, a.positions_are)

pub settled_small : (D : List Decl) (e : LowerFault) → e ≢ lower_fault.OutOfMemory → (f : TypedFn) → IsLarge D e f → IsSmall D f → ⊥
settled_small D (lower_fault.TooLarge i s n) told f b a = small_or_large D f i s n a b
settled_small D lower_fault.OutOfMemory told f b a = told refl

pub one_large : (D : List Decl) (d e : LowerFault) → d ≢ lower_fault.OutOfMemory → e ≢ lower_fault.OutOfMemory → (f : TypedFn) → IsLarge D d f → IsLarge D e f → d ≡ e
one_large D (lower_fault.TooLarge i s n) (lower_fault.TooLarge j t m) h k f a b =
    λ x. lower_fault.TooLarge ((a.0 ∙ sym b.0) x) ((a.1 ∙ sym b.1) x) ((a.2 ∙ sym b.2) x)
one_large D lower_fault.OutOfMemory e h k f a b = absurd (h refl)
one_large D (lower_fault.TooLarge i s n) lower_fault.OutOfMemory h k f a b = absurd (k refl)

-- ---- initialisation

unset_or_not : (F : Frame) (muts : List _) (b : tree.Function) (n : ℕ) (p : Place) → Initialised F muts b → IsUnset F b n p → ⊥
unset_or_not F muts b n p all (looked w a walk at look some) = true≢false (sym ((all w a walk).looks p look some.0 some.1) ∙ some.2)
unset_or_not F muts b n p all (entered w a x qs walk at is enters stands) = true≢false (sym ((all w a walk).enters x qs enters) ∙ stands)

again_or_not : (F : Frame) (muts : List _) (b : tree.Function) (n x : ℕ) → Initialised F muts b → IsAgain muts b n x → ⊥
again_or_not F muts b n x all (again w a walk at assigns fixed was) = true≢false (sym was ∙ (all w a walk).assigns x assigns fixed)

pub settled_initialised : (D : Declarations) (P : ℕ → ℕ) (e : InitFault) → e ≢ fault.OutOfMemory → (f : TypedFn) → IsUninitialised D P e f → IsInitialised D P f → ⊥
settled_initialised D P (fault.Unset at q) told f u all = unset_or_not (frame_of D P f) f.mutable (body f) u.0 _ all u.2
settled_initialised D P (fault.Again at v) told f u all = again_or_not (frame_of D P f) f.mutable (body f) u.0 u.1 all u.4
settled_initialised D P fault.OutOfMemory told f u all = told refl

-- ---- of two typed programs

module _ (D E : List Decl) (items : map unrecorded D ≡ map unrecorded E) (f g : TypedFn) (same : SameFunction f g) where
  pub same_positions : positions_of D f ≡ positions_of E g
  same_positions = is_counted D f ∙ ((λ j. counted (items j) (same.item j) (same.bodies j) (same.types j) (same.annotated j)) ∙ sym (is_counted E g))

  same_sites : length (sites_of f) ≡ length (sites_of g)
  same_sites = ap (λ (b : tree.Function). length (graph b)) same.bodies

  pub same_small : IsSmall D f → IsSmall E g
  same_small a = record { sites = subst (λ n. n ≤ 16384) same_sites a.sites; positions_are = subst (λ n. n ≤ 65536) same_positions a.positions_are }

  abbrev Large : ℕ → ℕ → ℕ → ℕ → ℕ → ℕ → Type 0
  Large i s n item sites places = (i ≡ item) × (s ≡ capped sites) × (n ≡ capped places) × ((16384 < sites) ⊎ (65536 < places))

  pub same_large : (e : LowerFault) → IsLarge D e f → IsLarge E e g
  same_large (lower_fault.TooLarge i s n) a =
      subst (λ k. Large i s n g.item (length (sites_of g)) k) same_positions
      (subst (λ k. Large i s n g.item k (positions_of D f)) same_sites (subst (λ k. Large i s n k (length (sites_of f)) (positions_of D f)) same.item a))
  same_large lower_fault.OutOfMemory a = tt

plain_types : (rs : List (Option Ty)) → map (option_map plain-Ty) rs ≡ map (option_map erased) (map (option_map region-Ty) rs)
plain_types [] = refl
plain_types (None ∷ rs) = ap (λ (l : List (Option Typ)). None ∷ l) (plain_types rs)
plain_types (Some t ∷ rs) = λ j. Some (sym (is_erased t) j) ∷ plain_types rs j

module _ (D E : Declarations) (declared : D ≡ E) (P Q : ℕ → ℕ) (parts : P ≡ Q) (f g : TypedFn) (same : SameFunction f g) where
  same_frame : frame_of D P f ≡ frame_of E Q g
  same_frame =
      let types : map (option_map plain-Ty) (trimmed f.variables) ≡ map (option_map plain-Ty) (trimmed g.variables) =
      plain_types (trimmed f.variables) ∙ (ap (map (option_map erased)) same.types ∙ sym (plain_types (trimmed g.variables))) in
      λ j. record { declared = declared j; sizes = parts j; types = types j }

  pub same_initialised : IsInitialised D P f → IsInitialised E Q g
  same_initialised a =
      subst (λ (b : tree.Function). Initialised (frame_of E Q g) g.mutable b) same.bodies
      (subst (λ (m : List _). Initialised (frame_of E Q g) m (body f)) same.mutable (subst (λ (F : Frame). Initialised F f.mutable (body f)) same_frame a))

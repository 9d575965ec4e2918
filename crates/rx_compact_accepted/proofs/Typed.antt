-- Two typed programs, of which the second has a short signature of one function: what they declare, and all functions but this one.
use Rattle.std.proofs.Common.{◌≡◌, ◌⊎◌, inl, inr, ℕ, suc, ◌+◌, Bool, List, [], ◌∷◌, map, Option, Some, None, Result, Ok, option_map, slice_get, refl, sym, ap, subst, ◌∙◌, arith}
use Rattle.std.proofs.lemmas.Option.{slice_get-map}
use Rattle.rx_core.specs.declared.types.Bound.{Bound}
use Rattle.rx_core.specs.declared.types.Ty.{Ty}
use Rattle.rx_tree.specs.Plain.{ProgramTree}
use Rattle.rx_tree.specs.Size.{IsNumbered}
use Rattle.rx_graph_cycles.specs.Reaches.{NoCycle}
use Rattle.rx_resolve_names.specs.declared.resolved.ItemNames.{ItemNames}
use Rattle.rx_resolve_names.specs.Causes.{Meant}
use Rattle.rx_typed.specs.declared.declarations.Decl.{Decl}
use Rattle.rx_typed.specs.declared.declarations.Decl.TheVariants as decl
use Rattle.rx_typed.specs.PlainTypes.{declarations}
use Rattle.rx_typed.specs.Regions.{RegionTyp, held_regions, regions, regions_of, region-Ty}
use Rattle.rx_region_outlives.specs.Implied.{HasPair, Implied, ImpliedAmong}
use Rattle.rx_typed.specs.Types.{Declarations}
use Rattle.rx_typed_declarations.specs.Held.{held_by_each}
use Rattle.rx_typed_declarations.specs.Sizes.{Sized}
use Rattle.rx_typed_declarations.specs.Variance.{unrecorded}
use Rattle.rx_typed_declarations.specs.WellFormed.{WellSigned}
use Rattle.rx_lower_walks.specs.Walks.{Among}
use Rattle.rx_lower_walks.specs.Text.{actions_of}
use Rattle.rx_typeck_typed.specs.Programs.{Fits as FitsDeclared, Declares}
use Rattle.rx_typeck_typed.specs.Typing.{Given, FunctionsTyped, IsTyped}
use Rattle.rx_typeck_typed.specs.declared.typed.Typed.{Typed}
use Rattle.rx_typeck_typed.specs.declared.typed.TypedFn.{TypedFn}
use Rattle.rx_facts.specs.Functions.{sites_of}
use Rattle.rx_facts.specs.Passing.{Each}
use Rattle.rx_check.specs.Contexts.{context_of}
use Rattle.rx_check.proofs.Declared.{regions_alike}
use Rattle.rx_repair.specs.Fitting.{Fits}
use Rattle.rx_repair.proofs.Deciding.{same_or}
use Rattle.rx_repair.proofs.Parameters.{fitting}
use Rattle.rx_compact.specs.Outliving as outliving
use Rattle.rx_compact.specs.Outliving.{Says, Outlives, is_single}
use Rattle.rx_compact.specs.Compacted.{compacted, Tells}
use Rattle.rx_compact_laws.specs.MergedSignatures.{IsUnder}
use Rattle.rx_compact_laws.specs.ShortNames.{NamesStay}
use Rattle.rx_compact_laws.proofs.ShortNames.{names_stay}
use Rattle.rx_compact_types.specs.KnownNumbers.{AreKnownNumbers}
use Rattle.rx_compact_types.specs.ShortTyped.{ShortProgram}
use Rattle.rx_compact_passes.proofs.Alike.{FunctionAlike}
use Rattle.rx_compact_passes.proofs.Passing.{functions_alike, plain_alike}
use Rattle.rx_compact_accepted.specs.AreShort.{IsShort}
use Rattle.rx_compact_accepted.proofs.Both.{TypedBoth, all_both}
use Rattle.rx_compact_accepted.proofs.Function.{BothFit}

ok_is : {A E : Type 0} (a b : A) → ◌≡◌ {A = Result A E} (Ok a) (Ok b) → a ≡ b
ok_is a b e = cc

-- ---- what is declared

-- lists that have the same at each number
same_all : (xs ys : List (List RegionTyp)) → ((k : ℕ) → slice_get xs k ≡ slice_get ys k) → xs ≡ ys
same_all [] [] h = refl
same_all [] (y ∷ ys) h = absurd (none_some (h 0))
  where
    none_some : ◌≡◌ {A = Option (List RegionTyp)} None (Some y) → ⊥
    none_some e = cc
same_all (x ∷ xs) [] h = absurd (some_none (h 0))
  where
    some_none : ◌≡◌ {A = Option (List RegionTyp)} (Some x) None → ⊥
    some_none e = cc
same_all (x ∷ xs) (y ∷ ys) h = (λ j. some_is (h 0) j ∷ same_all xs ys (λ k. h (suc k)) j)
  where
    some_is : ◌≡◌ {A = Option (List RegionTyp)} (Some x) (Some y) → x ≡ y
    some_is e = cc

-- a function keeps nothing that is recorded
func_is : (o : Option Decl) (n : ℕ) (ps : List Ty) (t : Ty) (bs : List Bound) → option_map unrecorded o ≡ Some (decl.Func n ps t bs) → o ≡ Some (decl.Func n ps t bs)
func_is None n ps t bs e = e
func_is (Some decl.Rt) n ps t bs e = e
func_is (Some (decl.Struct c l vs fs)) n ps t bs e = absurd (cc)
func_is (Some (decl.Enum c l vs ds)) n ps t bs e = absurd (cc)
func_is (Some (decl.Func l qs u cs)) n ps t bs e = e

abbrev SaysBy : List (List RegionTyp) → List Ty → Ty → List Bound → ℕ → ℕ → Type 0
SaysBy H ps t bs l k = HasPair bs l k ⊎ (ImpliedAmong H (regions_of (map region-Ty ps)) l k ⊎ Implied H (region-Ty t) l k)

-- what is known depends on the types that items hold
module _ (D E : List Decl) (held : regions D ≡ regions E) where
  says_same : (o : Option Decl) (l k : ℕ) → Says D o l k → Says E o l k
  says_same (Some (decl.Func n ps t bs)) l k h = subst (λ H. SaysBy H ps t bs l k) held h
  says_same None l k h = h
  says_same (Some decl.Rt) l k h = h
  says_same (Some (decl.Struct c n vs fs)) l k h = h
  says_same (Some (decl.Enum c n vs ds)) l k h = h

  outlives_same : (o : Option Decl) (l k : ℕ) → Outlives D o l k → Outlives E o l k
  outlives_same o l k outliving.itself = outliving.itself
  outlives_same o l k (outliving.by m s rest) = outliving.by m (says_same o l m s) (outlives_same o m k rest)

module _ (i : ℕ) (f : ℕ → ℕ) (old new : List Decl) (others : (k : ℕ) → (k ≡ i → ⊥) → slice_get new k ≡ slice_get old k) (under : IsUnder f (slice_get old i) (slice_get new i)) where
  declared_short : IsShort i f old new
  declared_short = record { others = λ k ne. ap (option_map unrecorded) (others k ne); under = under }

  held_at : (k : ℕ) → option_map held_regions (slice_get new k) ≡ option_map held_regions (slice_get old k)
  held_at k = elim (same_or k i) [
    | inl e ↦ subst (λ j. option_map held_regions (slice_get new j) ≡ option_map held_regions (slice_get old j)) (sym e) (ap (option_map held_regions) under.new ∙ sym (ap (option_map held_regions) under.old))
    | inr ne ↦ ap (option_map held_regions) (others k ne)
  ]

  regions_same : regions new ≡ regions old
  regions_same = same_all (regions new) (regions old) (λ k. slice_get-map held_regions new k ∙ (held_at k ∙ sym (slice_get-map held_regions old k)))

  module _ (D E : List Decl) (same : map unrecorded D ≡ map unrecorded old) (new_same : map unrecorded E ≡ map unrecorded new) where
    plain_at : (A B : List Decl) → map unrecorded A ≡ map unrecorded B → (k : ℕ) → option_map unrecorded (slice_get A k) ≡ option_map unrecorded (slice_get B k)
    plain_at A B e k = sym (slice_get-map unrecorded A k) ∙ (ap (λ (l : List Decl). slice_get l k) e ∙ slice_get-map unrecorded B k)

    old_is : slice_get D i ≡ slice_get old i
    old_is = func_is (slice_get D i) under.count under.params under.answer under.bounds (plain_at D old same i ∙ ap (option_map unrecorded) under.old) ∙ sym under.old

    new_is : slice_get E i ≡ slice_get new i
    new_is = func_is (slice_get E i) under.new_count under.new_params under.new_answer under.new_bounds (plain_at E new new_same i ∙ ap (option_map unrecorded) under.new) ∙ sym under.new

    pub short_items : IsShort i f D E
    short_items = record {
      others = λ k ne. plain_at E new new_same k ∙ (ap (option_map unrecorded) (others k ne) ∙ sym (plain_at D old same k));
      under = subst (λ o. IsUnder f o (slice_get E i)) (sym old_is) (subst (λ o. IsUnder f (slice_get old i) o) (sym new_is) under);
    }

    pub held_same : regions E ≡ regions D
    held_same = regions_alike E new new_same ∙ (regions_same ∙ sym (regions_alike D old same))

    pub known_numbers : AreKnownNumbers old (slice_get old i) (slice_get new i) f → AreKnownNumbers D (slice_get D i) (slice_get E i) f
    known_numbers w = subst (λ o. AreKnownNumbers D o (slice_get E i) f) (sym old_is) (subst (λ o. AreKnownNumbers D (slice_get old i) o f) (sym new_is) (record {
      within = w.within;
      known = λ l k h g e. outlives_same old D (sym (regions_alike D old same)) (slice_get old i) l k (w.known l k h g e);
      fewer = w.fewer;
    }))

-- ---- the functions

-- what laws of the crates below say of typed programs
pub record Laws : Type 0 where
  pub signed : (p : ProgramTree) (names : List ItemNames) (t : Typed) → IsNumbered p → Meant p names → IsTyped p names t → WellSigned t.decls.items
  pub fits : (p : ProgramTree) (names : List ItemNames) (t : Typed) → IsNumbered p → Meant p names → IsTyped p names t → (f : TypedFn) → Among f t.functions → (P : ℕ → List Bound)
      → Fits (context_of t.decls.items P f) (actions_of (sites_of f))
  pub finite : (p : ProgramTree) (D : Declarations) → FitsDeclared p D → NoCycle (held_by_each D)
  pub some : (D : Declarations) → NoCycle (held_by_each D) → (P : ℕ → ℕ) × Sized D P

module _ (laws : Laws) (p : ProgramTree) (i : ℕ) (names : List ItemNames) (meant : Meant p names) (small : IsNumbered p) (ds : List Decl) (declares : Declares p names ds) (o : ℕ → ℕ → Bool) (tells : Tells ds i o)
    (new_small : IsNumbered (compacted o (is_single (slice_get ds i)) p i)) (s : ShortProgram p i (compacted o (is_single (slice_get ds i)) p i) names ds)
    (n : ℕ) (ps : List Ty) (answer : Ty) (bs : List Bound) (at : slice_get ds i ≡ Some (decl.Func n ps answer bs))
    (t u : Typed) (a : IsTyped p names t) (b : IsTyped (compacted o (is_single (slice_get ds i)) p i) s.news u) where
  abbrev q : ProgramTree
  q = compacted o (is_single (slice_get ds i)) p i

  abbrev pub f : ℕ → ℕ
  f = (s.declares.function n ps answer bs at).0

  pub old_declared : ds ≡ a.declared
  old_declared = ok_is ds a.declared (sym declares.items ∙ a.declares.items)

  pub new_declared : s.declares.new ≡ b.declared
  new_declared = ok_is s.declares.new b.declared (sym s.declares.declares.items ∙ b.declares.items)

  pub others : (k : ℕ) → (k ≡ i → ⊥) → slice_get b.declared k ≡ slice_get a.declared k
  others k ne = ap (λ (l : List Decl). slice_get l k) (sym new_declared) ∙ (s.declares.others k ne ∙ ap (λ (l : List Decl). slice_get l k) old_declared)

  pub under : IsUnder f (slice_get a.declared i) (slice_get b.declared i)
  under = subst (λ l. IsUnder f (slice_get l i) (slice_get b.declared i)) old_declared (subst (λ l. IsUnder f (slice_get ds i) (slice_get l i)) new_declared (s.declares.function n ps answer bs at).1)

  numbers : AreKnownNumbers a.declared (slice_get a.declared i) (slice_get b.declared i) f
  numbers = subst (λ l. AreKnownNumbers l (slice_get l i) (slice_get b.declared i) f) old_declared (subst (λ l. AreKnownNumbers ds (slice_get ds i) (slice_get l i) f) new_declared (s.declares.function n ps answer bs at).2)

  pub both : BothFit i f t.decls.items u.decls.items
  both =
      let signed = laws.signed p names t small meant a in
      record {
        short = record {
          like = short_items i f a.declared b.declared others under t.decls.items u.decls.items a.same b.same;
          numbers = known_numbers i f a.declared b.declared others under t.decls.items u.decls.items a.same b.same numbers;
          held = held_same i f a.declared b.declared others under t.decls.items u.decls.items a.same b.same;
          plain = plain_alike laws.finite laws.some p i names meant small ds declares o tells s t u a b;
          recorded = a.recorded;
          new_recorded = b.recorded;
        };
        good = a.well_formed.named;
        new_good = b.well_formed.named;
        fitting = λ j. fitting (declarations t.decls.items) (slice_get t.decls.items j) (λ d e. signed.signatures j d e);
      }

  abbrev N : NamesStay o (is_single (slice_get ds i)) p i names
  N = names_stay o (is_single (slice_get ds i)) p i names meant

  abbrev pub G : Given
  G = record { program = p; declared = a.declared; sizes = a.sizes }

  abbrev pub H : Given
  H = record { program = q; declared = b.declared; sizes = b.sizes }

  pub pairs : Each (TypedBoth G H names s.news i) t.functions u.functions
  pairs =
      let e : s.news ≡ N.news = ok_is s.news N.news (sym s.meant.names_are ∙ N.meant.names_are) in
      subst (λ ns. Each (TypedBoth G H names ns i) t.functions u.functions) (sym e)
      (all_both G H o (is_single (slice_get ds i)) names N.news i N.others 0 p i (omega arith) (λ k. ap (slice_get p) (let z : 0 + k ≡ k = omega arith in z)) (λ k. ap (slice_get q) (let z : 0 + k ≡ k = omega arith in z)) t.functions u.functions a.functions (subst (λ ns. FunctionsTyped H ns 0 q u.functions) e b.functions))

  pub short_declared : IsShort i f a.declared b.declared
  short_declared = declared_short i f a.declared b.declared others under

  pub plain_declared : declarations b.declared ≡ declarations a.declared
  plain_declared = ap declarations (sym new_declared) ∙ (s.declares.same ∙ ap declarations old_declared)

  pub alike : Each FunctionAlike t.functions u.functions
  alike = functions_alike laws.finite laws.some p i names meant small ds declares o tells s t u a b

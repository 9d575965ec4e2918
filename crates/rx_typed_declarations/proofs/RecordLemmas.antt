-- Polarities that are recorded with items change nothing else of them.
use Rattle.std.proofs.Common.{◌≡◌, ◌↔◌, ℕ, zero, suc, ◌<◌, ◌≤◌, List, [], ◌∷◌, ◌++◌, map, length, get_or, slice_get}
use Rattle.std.proofs.Common.{slice_set}
use Rattle.std.proofs.Common.{Option, Some, None, refl, sym, ap, ◌∙◌, subst, arith}
use Rattle.rx_typed.specs.declared.declarations.Polarity.{Polarity}
use Rattle.rx_typed.specs.declared.declarations.Polarity.TheVariants.{Inv}
use Rattle.rx_typed.specs.declared.declarations.Decl.{Decl}
use Rattle.rx_typed.specs.declared.declarations.Decl.TheVariants as decl
use Rattle.rx_graph_cycles.specs.Reaches.{NoCycle}
use Rattle.rx_typed.specs.Types.{Declarations}
use Rattle.rx_typed.specs.PlainTypes.{plain-Decl, declarations}
use Rattle.rx_typed_declarations.specs.Held.{held_by_each}
use Rattle.rx_typed.specs.Regions.{RegionTyp, held_regions, regions}
use Rattle.rx_typed_declarations.specs.WellFormed.{WellFormed, item_fits}
use Rattle.rx_typed_declarations.specs.Variance.{polarity, Invariant, TellsOf, AreVariances, Recorded, variances_recorded, recording, polarity_count, AsMany}
use Rattle.rx_typed_declarations.specs.Variance.{unrecorded, record_one, record_all}
use Rattle.rx_typed_declarations.proofs.VarianceLemmas.{tells_none, regions_past, regions_are}

pub record_set : (ds : List Decl) (i : ℕ) (d e r : Decl) (ps : List Polarity) → i < length ds → d ≡ get_or ds i d
    → r ≡ recording d ps → slice_set (slice_set ds i e) i r ≡ record_one ds i ps
record_set [] i d e r ps less is r_is = absurd (omega arith)
record_set (x ∷ ds) zero d e r ps less is r_is = ap (λ y. y ∷ ds) (r_is ∙ ap (λ y. recording y ps) is)
record_set (x ∷ ds) (suc i) d e r ps less is r_is = ap (λ l. x ∷ l) (record_set ds i d e r ps (omega arith) is r_is)

pub record_none : (ds : List Decl) (i : ℕ) (ps : List Polarity) → length ds ≤ i → record_one ds i ps ≡ ds
record_none [] i ps le = refl
record_none (d ∷ ds) zero ps le = absurd (omega arith)
record_none (d ∷ ds) (suc i) ps le = ap (λ l. d ∷ l) (record_none ds i ps (omega arith))

pub record_last : (ds : List Decl) (V : List (List Polarity)) (ps : List Polarity)
    → record_all ds (V ++ ps ∷ []) ≡ record_all (record_one ds (length V) ps) V
record_last [] [] ps = refl
record_last [] (qs ∷ V) ps = refl
record_last (d ∷ ds) [] ps = refl
record_last (d ∷ ds) (qs ∷ V) ps = ap (λ l. recording d qs ∷ l) (record_last ds V ps)

-- ---- what stays

unrecorded_recording : (d : Decl) (ps : List Polarity) → unrecorded (recording d ps) ≡ unrecorded d
unrecorded_recording decl.Rt ps = refl
unrecorded_recording (decl.Struct c l vs fs) ps = refl
unrecorded_recording (decl.Enum c l vs ds) ps = refl
unrecorded_recording (decl.Func l ts t bs) ps = refl

unrecorded_same : (ds : List Decl) (V : List (List Polarity)) → map unrecorded (record_all ds V) ≡ map unrecorded ds
unrecorded_same ds [] = refl
unrecorded_same [] (ps ∷ V) = refl
unrecorded_same (d ∷ ds) (ps ∷ V) = rw (unrecorded_recording d ps, unrecorded_same ds V) refl

plain_same : (d : Decl) (ps : List Polarity) → plain-Decl (recording d ps) ≡ plain-Decl d
plain_same decl.Rt ps = refl
plain_same (decl.Struct c l vs fs) ps = refl
plain_same (decl.Enum c l vs ds) ps = refl
plain_same (decl.Func l ts t bs) ps = refl

held_same : (d : Decl) (ps : List Polarity) → held_regions (recording d ps) ≡ held_regions d
held_same decl.Rt ps = refl
held_same (decl.Struct c l vs fs) ps = refl
held_same (decl.Enum c l vs ds) ps = refl
held_same (decl.Func l ts t bs) ps = refl

declarations_same : (ds : List Decl) (V : List (List Polarity)) → declarations (record_all ds V) ≡ declarations ds
declarations_same ds [] = refl
declarations_same [] (ps ∷ V) = refl
declarations_same (d ∷ ds) (ps ∷ V) = rw (plain_same d ps, declarations_same ds V) refl

regions_same : (ds : List Decl) (V : List (List Polarity)) → regions (record_all ds V) ≡ regions ds
regions_same ds [] = refl
regions_same [] (ps ∷ V) = refl
regions_same (d ∷ ds) (ps ∷ V) = rw (held_same d ps, regions_same ds V) refl

length_same : (ds : List Decl) (V : List (List Polarity)) → length (record_all ds V) ≡ length ds
length_same ds [] = refl
length_same [] (ps ∷ V) = refl
length_same (d ∷ ds) (ps ∷ V) = ap suc (length_same ds V)

fits_same : (D : Declarations) (d : Decl) (ps : List Polarity) → item_fits D (recording d ps) ≡ item_fits D d
fits_same D decl.Rt ps = refl
fits_same D (decl.Struct c l vs fs) ps = refl
fits_same D (decl.Enum c l vs ds) ps = refl
fits_same D (decl.Func l ts t bs) ps = refl

-- what stands at a number was there, perhaps with other polarities
record Was (ds : List Decl) (i : ℕ) (d : Decl) : Type 0 where
  item : Decl
  stood : slice_get ds i ≡ Some item
  fits_alike : (D : Declarations) → item_fits D d ≡ item_fits D item

was : (ds : List Decl) (V : List (List Polarity)) (i : ℕ) (d : Decl) → slice_get (record_all ds V) i ≡ Some d
    → Was ds i d
was ds [] i d is = record { item = d; stood = is; fits_alike = λ D. refl }
was [] (ps ∷ V) i d is = absurd (cc)
was (e ∷ ds) (ps ∷ V) zero d is =
    let same : recording e ps ≡ d = cc in
    record { item = e; stood = refl; fits_alike = λ D. ap (item_fits D) (sym same) ∙ fits_same D e ps }
was (e ∷ ds) (ps ∷ V) (suc i) d is =
    let w = was ds V i d is in record { item = w.item; stood = w.stood; fits_alike = w.fits_alike }

well_formed_same : (ds : List Decl) (V : List (List Polarity)) → WellFormed ds → WellFormed (record_all ds V)
well_formed_same ds V wf = record {
  numbered = rw (length_same ds V) wf.numbered;
  named = λ i d is. let w = was ds V i d is in
      rw (declarations_same ds V) (w.fits_alike (declarations ds) ∙ wf.named i w.item w.stood);
  finite = let Apart : Declarations → Type 0 = λ D. NoCycle (held_by_each D) in
      subst Apart (sym (declarations_same ds V)) wf.finite;
}

-- ---- what is recorded

-- what stands at a number before and after
data At (ds : List Decl) (V : List (List Polarity)) (i : ℕ) : Type 0 where
  past : slice_get ds i ≡ None → slice_get (record_all ds V) i ≡ None → At ds V i
  stands : (d : Decl) → slice_get ds i ≡ Some d → slice_get (record_all ds V) i ≡ Some (recording d (get_or V i []))
      → At ds V i

what_stands : (ds : List Decl) (V : List (List Polarity)) (i : ℕ) → length V ≡ length ds → At ds V i
what_stands [] [] i e = past refl refl
what_stands [] (ps ∷ V) i e = past refl refl
what_stands (d ∷ ds) [] i e = absurd (omega arith)
what_stands (d ∷ ds) (ps ∷ V) zero e = stands d refl refl
what_stands (d ∷ ds) (ps ∷ V) (suc i) e = by (what_stands ds V i (omega arith))
  where
    by : At ds V i → At (d ∷ ds) (ps ∷ V) (suc i)
    by (past was is) = past was is
    by (stands x was is) = stands x was is

module _ (ds : List Decl) (wf : WellFormed ds) where
  tells_recorded : (i : ℕ) (d : Decl) (ps : List Polarity) → slice_get ds i ≡ Some d → TellsOf ds i ps
      → TellsOf ds i (variances_recorded (Some (recording d ps)))
  tells_recorded i decl.Rt ps is tells = tells_none ds wf i (regions_are ds wf i decl.Rt is)
  tells_recorded i (decl.Struct c l vs fs) ps is tells = tells
  tells_recorded i (decl.Enum c l vs es) ps is tells = tells
  tells_recorded i (decl.Func l ts t bs) ps is tells = tells_none ds wf i (regions_are ds wf i (decl.Func l ts t bs) is)

  tells_at : (V : List (List Polarity)) (i : ℕ) → TellsOf ds i (get_or V i []) → At ds V i
      → TellsOf ds i (variances_recorded (slice_get (record_all ds V) i))
  tells_at V i tells (past was is) =
      let Tells : Option Decl → Type 0 = λ o. TellsOf ds i (variances_recorded o) in
      subst Tells (sym is) (tells_none ds wf i (regions_past ds wf i was))
  tells_at V i tells (stands d was is) =
      let Tells : Option Decl → Type 0 = λ o. TellsOf ds i (variances_recorded o) in
      subst Tells (sym is) (tells_recorded i d (get_or V i []) was tells)

  recorded_all : (V : List (List Polarity)) → AreVariances ds V → Recorded (record_all ds V)
  recorded_all V are i =
      let now = variances_recorded (slice_get (record_all ds V) i) in
      let Tells : List (List RegionTyp) → Type 0 = λ H. (k : ℕ) → (polarity now k ≡ Inv) ↔ Invariant H i k in
      subst Tells (sym (regions_same ds V)) (tells_at V i (are.each i) (what_stands ds V i are.whole))

-- ---- how many are recorded

abbrev HasAsMany : Option Decl → Type 0
HasAsMany o = length (variances_recorded o) ≡ polarity_count o

as_many_recorded : (d : Decl) (ps : List Polarity) → length ps ≡ polarity_count (Some d)
    → HasAsMany (Some (recording d ps))
as_many_recorded decl.Rt ps h = refl
as_many_recorded (decl.Struct c l vs fs) ps h = h
as_many_recorded (decl.Enum c l vs ds) ps h = h
as_many_recorded (decl.Func l ts t bs) ps h = refl

as_many_all : (ds : List Decl) (V : List (List Polarity)) → length V ≡ length ds
    → ((i : ℕ) → length (get_or V i []) ≡ polarity_count (slice_get ds i)) → AsMany (record_all ds V)
as_many_all ds V whole h i = by (what_stands ds V i whole)
  where
    by : At ds V i → HasAsMany (slice_get (record_all ds V) i)
    by (past was is) = subst HasAsMany (sym is) refl
    by (stands d was is) =
        subst HasAsMany (sym is) (as_many_recorded d (get_or V i []) (h i ∙ ap polarity_count was))

-- ---- the same, where the code has equations

pub record_pop : (items new : List Decl) (V T : List (List Polarity)) (ps : List Polarity) (n : ℕ) → V ≡ T ++ ps ∷ []
    → n ≡ length T → new ≡ record_one items n ps → record_all new T ≡ record_all items V
record_pop items new V T ps n all last one =
    ap (λ l. record_all l T) (one ∙ ap (λ m. record_one items m ps) last)
    ∙ sym (record_last items T ps) ∙ ap (record_all items) (sym all)

pub same_at : (items new : List Decl) (V : List (List Polarity)) → new ≡ record_all items V
    → map unrecorded new ≡ map unrecorded items
same_at items new V is = ap (map unrecorded) is ∙ unrecorded_same items V

pub well_formed_at : (items new : List Decl) (V : List (List Polarity)) → WellFormed items → new ≡ record_all items V
    → WellFormed new
well_formed_at items new V wf is = subst WellFormed (sym is) (well_formed_same items V wf)

pub recorded_at : (items items' new : List Decl) (V : List (List Polarity)) → WellFormed items → items' ≡ items
    → AreVariances items' V → new ≡ record_all items V → Recorded new
recorded_at items items' new V wf same are is =
    let Are : List Decl → Type 0 = λ ds. AreVariances ds V in
    let Rec : List Decl → Type 0 = λ ds. Recorded ds in
    subst Rec (sym is) (recorded_all items wf V (subst Are same are))

pub as_many_at : (items items' new : List Decl) (V : List (List Polarity)) → items' ≡ items → AreVariances items' V
    → new ≡ record_all items V → AsMany new
as_many_at items items' new V same are is =
    let Are : List Decl → Type 0 = λ ds. AreVariances ds V in
    let now : AreVariances items V = subst Are same are in
    let Many : List Decl → Type 0 = λ ds. AsMany ds in
    subst Many (sym is) (as_many_all items V now.whole now.as_many)

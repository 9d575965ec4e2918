-- The types that entries and lists stand for, one step at a time.
use Rattle.std.proofs.Common.{◌≡◌, ℕ, ◌<◌, Bool, IsTrue, List, [], ◌∷◌, ◌++◌, length, map, get_or, zero, suc, Option, Some, None, slice_get, append_assoc, append-nil, Result, Ok, IfOk, refl, sym, ap, ◌∙◌, subst, arith}
use Rattle.rx_core.specs.declared.types.Ty.{Ty}
use Rattle.rx_typed.specs.Types.{integer, tuple_of, no_shape, shape_and, shapes_map, Declarations}
use Rattle.rx_typed.specs.Regions.{RegionTyp, RegionTyps, no_region, region_and, regions_of, region-Ty}
use Rattle.rx_typeck_solver.specs.declared.arena.Form.{Form}
use Rattle.rx_typeck_solver.specs.declared.arena.Form.TheVariants as form
use Rattle.rx_typeck_solver.specs.declared.facts.Subject.{Subject}
use Rattle.rx_typeck_solver.specs.declared.facts.Subject.TheVariants as subject
use Rattle.rx_typeck_solver.specs.declared.export.Found.{Found}
use Rattle.rx_typeck_solver.specs.declared.solver.Solved.{Solved}
use Rattle.rx_typeck_solver.specs.Tabled.{index_of}
use Rattle.rx_typeck_solver.specs.Solver.{filled_leaf, filled_by}
use Rattle.rx_typeck_solver.specs.Cells.{Cell, is_one, is_many, term_in, shapes_in, cell_form, cell, IsList, FormOk, form_at}
use Rattle.rx_typeck_solver.specs.Solving.{IsSound}
use Rattle.rx_typeck_solver.specs.Views.{kind_found, IsEntry, typ_at, typs_at, unnumbered, all_unnumbered, regions_then, joined, EntryTyped, TableTyped, Entered, found_at, TypeFound, IsFound}
use Rattle.rx_typeck_solver.proofs.Adding.{cell_is}
use Rattle.rx_typeck_solver.proofs.Pairing.{term_is}
use Rattle.rx_typeck_solver.proofs.Trimming.{trimmed_told}
use Rattle.rx_typeck_solver.proofs.Viewing.{entry_some, entry_none}

-- a lower list
record Lower (s : Solved) (i j : ℕ) : Type 0 where
  pub list : IsList s.arena.entries.items j
  pub less : j < i

module _ (s : Solved) (g : IsSound s) (i : ℕ) (f : Form) (e : f ≡ form_at s.arena.entries.items i) where
  fit : (h : Form) → i < length s.arena.entries.items → f ≡ h → FormOk s.arena.entries.items (length s.tables.classes.parents.items) i h
  fit h l r = subst (λ x. FormOk s.arena.entries.items (length s.tables.classes.parents.items) i x) (sym e ∙ r) (g.fits.formed i l)

  pub tuple_lower : IsEntry s i → (j : ℕ) → f ≡ form.Tuple j → IsList s.arena.entries.items j × (j < i)
  tuple_lower t j r = let p = fit (form.Tuple j) t.0 r in let l = p.0 in let h = t.0 in ((omega (arith, l, h), p.1), p.0)

  pub tuple_typ : IsEntry s i → (j : ℕ) → f ≡ form.Tuple j → typ_at s i ≡ tuple_of (typs_at s j)
  tuple_typ t j r = ap (filled_by (kind_found s)) (term_is s.arena.entries.items (length s.tables.classes.parents.items) i f g.fits.formed t.0 e)
      ∙ ap (λ x. filled_by (kind_found s) (term_in (cell_form (cell s.arena.entries.items) x))) r

  pub reference_less : IsEntry s i → (m : Bool) (j : ℕ) → f ≡ form.Reference m j → j < i
  reference_less t m j r = (fit (form.Reference m j) t.0 r).0

  cell_here : IsList s.arena.entries.items i → cell s.arena.entries.items i ≡ cell_form (cell s.arena.entries.items) f
  cell_here t = cell_is s.arena.entries.items (length s.tables.classes.parents.items) g.fits.formed i t.0 ∙ ap (cell_form (cell s.arena.entries.items)) (sym e)

  pub list_first : IsList s.arena.entries.items i → (j k : ℕ) → f ≡ form.And j k → IsEntry s j × (j < i)
  list_first t j k r = let p = fit (form.And j k) t.0 r in let l = p.0 in let h = t.0 in ((omega (arith, l, h), p.1), p.0)

  pub list_others : IsList s.arena.entries.items i → (j k : ℕ) → f ≡ form.And j k → IsList s.arena.entries.items k × (k < i)
  list_others t j k r = let p = fit (form.And j k) t.0 r in let l = p.2 in let h = t.0 in ((omega (arith, l, h), p.3), p.2)

  pub list_typs : IsList s.arena.entries.items i → (j k : ℕ) → f ≡ form.And j k → typs_at s i ≡ shape_and (typ_at s j) (typs_at s k)
  list_typs t j k r = ap (λ c. shapes_map (filled_leaf (kind_found s)) (shapes_in c)) (cell_here t ∙ ap (cell_form (cell s.arena.entries.items)) r)

  none_left : (c : ℕ → Cell) (f : Form) → ((j k : ℕ) → f ≡ form.And j k → ⊥) → IsTrue (is_many (cell_form c f)) → shapes_in (cell_form c f) ≡ no_shape
  none_left c (form.And j k) n h = absurd (n j k refl)
  none_left c form.Nothing n h = refl
  none_left c _ n h = cc

  pub list_end : IsList s.arena.entries.items i → ((j k : ℕ) → f ≡ form.And j k → ⊥) → typs_at s i ≡ no_shape
  list_end t n = ap (λ c. shapes_map (filled_leaf (kind_found s)) (shapes_in c)) (cell_here t)
      ∙ ap (shapes_map (filled_leaf (kind_found s))) (none_left (cell s.arena.entries.items) f n (subst (λ c. IsTrue (is_many c)) (cell_here t) t.1))

-- ---- lists of regions

pub then_pushed : (ts : List RegionTyp) (t : RegionTyp) (rs : RegionTyps) → regions_then ts (region_and t rs) ≡ regions_then (ts ++ t ∷ []) rs
then_pushed [] t rs = refl
then_pushed (x ∷ ts) t rs = ap (λ r. region_and x r) (then_pushed ts t rs)

pub then_none : (ts : List RegionTyp) → regions_then ts no_region ≡ regions_of ts
then_none [] = refl
then_none (x ∷ ts) = ap (λ r. region_and x r) (then_none ts)

-- ---- what the code gives

pub given : {A E : Type 0} (P : A → Type 0) (r : Result A E) (a : A) → IfOk r P → r ≡ Ok a → P a
given P r a h e = subst (λ x. IfOk x P) e h

module _ (s : Solved) (g : IsSound s) (i : ℕ) (f : Form) (e : f ≡ form_at s.arena.entries.items i) (t : IsEntry s i) where
  pub open_typ : (n : ℕ) → f ≡ form.KindOf n → typ_at s i ≡ integer (kind_found s n)
  open_typ n r = ap (filled_by (kind_found s)) (term_is s.arena.entries.items (length s.tables.classes.parents.items) i f g.fits.formed t.0 e)
      ∙ ap (λ x. filled_by (kind_found s) (term_in (cell_form (cell s.arena.entries.items) x))) r

  one_here : IsTrue (is_one (cell_form (cell s.arena.entries.items) f))
  one_here = subst (λ c. IsTrue (is_one c)) (cell_is s.arena.entries.items (length s.tables.classes.parents.items) g.fits.formed i t.0 ∙ ap (cell_form (cell s.arena.entries.items)) (sym e)) t.1

  pub not_nothing : f ≡ form.Nothing → ⊥
  not_nothing r = let h = subst (λ x. IsTrue (is_one (cell_form (cell s.arena.entries.items) x))) r one_here in cc

  pub not_list : (j k : ℕ) → f ≡ form.And j k → ⊥
  not_list j k r = let h = subst (λ x. IsTrue (is_one (cell_form (cell s.arena.entries.items) x))) r one_here in cc

-- one more of a list
pub list_more : (D : Declarations) (s : Solved) (l a j k : ℕ) (ts : List Ty) (t : Ty) (us : List Ty) → us ≡ ts ++ t ∷ [] → region-Ty t ≡ unnumbered D (typ_at s j)
    → typs_at s a ≡ shape_and (typ_at s j) (typs_at s k) → all_unnumbered D (typs_at s l) ≡ regions_then (map region-Ty ts) (all_unnumbered D (typs_at s a))
    → all_unnumbered D (typs_at s l) ≡ regions_then (map region-Ty us) (all_unnumbered D (typs_at s k))
list_more D s l a j k ts t us more is list so =
    so ∙ ap (λ x. regions_then (map region-Ty ts) (all_unnumbered D x)) list
    ∙ ap (λ x. regions_then (map region-Ty ts) (region_and x (all_unnumbered D (typs_at s k)))) (sym is)
    ∙ then_pushed (map region-Ty ts) (region-Ty t) (all_unnumbered D (typs_at s k))
    ∙ ap (λ x. regions_then x (all_unnumbered D (typs_at s k))) (sym (ap (map region-Ty) more ∙ mapped ts t))
  where
    mapped : (ts : List Ty) (t : Ty) → map region-Ty (ts ++ t ∷ []) ≡ map region-Ty ts ++ region-Ty t ∷ []
    mapped [] t = refl
    mapped (x ∷ ts) t = ap (λ l. region-Ty x ∷ l) (mapped ts t)

-- ---- tables

-- one more entry
pub table_more : (s : Solved) (D : Declarations) (whole : List (Option ℕ)) (e : Option ℕ) (es : List (Option ℕ)) (all : List (Option Ty)) (t : Option Ty)
    → ((new : List (Option Ty)) → TableTyped s D (e ∷ es) new → TableTyped s D whole (all ++ new)) → EntryTyped s D e t
    → (new : List (Option Ty)) → TableTyped s D es new → TableTyped s D whole ((all ++ t ∷ []) ++ new)
table_more s D whole e es all t so here new h = subst (λ l. TableTyped s D whole l) (sym (append_assoc all (t ∷ []) new)) (so (t ∷ new) (here, h))

pub table_end : (s : Solved) (D : Declarations) (whole rest : List (Option ℕ)) (all : List (Option Ty)) → rest ≡ []
    → ((new : List (Option Ty)) → TableTyped s D rest new → TableTyped s D whole (all ++ new)) → TableTyped s D whole all
table_end s D whole rest all e so = subst (λ l. TableTyped s D whole l) (append-nil all) (so [] (subst (λ l. TableTyped s D l []) (sym e) tt))

-- by the numbers of entries
typed_at : (s : Solved) (D : Declarations) (es : List (Option ℕ)) (ts : List (Option Ty)) → TableTyped s D es ts → (n : ℕ) → EntryTyped s D (get_or es n None) (joined (slice_get ts n))
typed_at s D [] [] h n = nothing n
  where
    no_type : ℕ → Option (Option Ty)
    no_type n = slice_get [] n

    nothing : (n : ℕ) → EntryTyped s D (get_or [] n None) (joined (no_type n))
    nothing zero = refl
    nothing (suc n) = refl
typed_at s D [] (t ∷ ts) h n = absurd h
typed_at s D (e ∷ es) [] h n = absurd h
typed_at s D (e ∷ es) (t ∷ ts) h zero = h.0
typed_at s D (e ∷ es) (t ∷ ts) h (suc n) = typed_at s D es ts h.1 n

-- where each entry is one, by its number
all_entered : (s : Solved) (es : List (Option ℕ)) → ((n i : ℕ) → get_or es n None ≡ Some i → IsEntry s i) → Entered s es
all_entered s [] h = tt
all_entered s (None ∷ es) h = (tt, all_entered s es (λ n i. h (suc n) i))
all_entered s (Some i ∷ es) h = (h zero i refl, all_entered s es (λ n i. h (suc n) i))

pub entered : (s : Solved) → IsSound s → Entered s s.tables.variables.items × Entered s s.tables.nodes.items × Entered s s.tables.expected.items
unfolding index_of
entered s g = (
  all_entered s s.tables.variables.items (λ n i e. g.fits.terms (subject.Variable n) i e),
  all_entered s s.tables.nodes.items (λ n i e. g.fits.terms (subject.Node n) i e),
  all_entered s s.tables.expected.items (λ n i e. g.fits.terms (subject.Expected n) i e),
)

type_is : (s : Solved) (D : Declarations) (x : Subject) → IsSound s → (o : Option ℕ) (t : Option Ty) → o ≡ index_of s.tables x → EntryTyped s D o t → TypeFound s D x t
type_is s D x g None t e h = subst (λ o. TypeFound s D x o) (sym h) (entry_none s x None e refl)
type_is s D x g (Some i) t e h =
    let q = entry_some s x (Some i) i g e refl in
    subst (λ o. TypeFound s D x o) (sym h.1) (q.0, h.2 ∙ ap (unnumbered D) (sym q.2))

pub all_found : (s : Solved) (D : Declarations) (f : Found) → IsSound s → TableTyped s D s.tables.variables.items f.variables → TableTyped s D s.tables.nodes.items f.nodes
    → TableTyped s D s.tables.expected.items f.expected → IsFound s D f
unfolding index_of
all_found s D f g vs ns es = record {
  each = each;
  trimmed = (trimmed_told s D s.tables.variables.items f.variables vs g.fits.trimmed.0, trimmed_told s D s.tables.nodes.items f.nodes ns g.fits.trimmed.1, trimmed_told s D s.tables.expected.items f.expected es g.fits.trimmed.2);
}
  where
    each : (x : Subject) → TypeFound s D x (found_at f x)
    each (subject.Variable x) = type_is s D (subject.Variable x) g _ _ refl (typed_at s D _ _ vs x)
    each (subject.Node n) = type_is s D (subject.Node n) g _ _ refl (typed_at s D _ _ ns n)
    each (subject.Expected n) = type_is s D (subject.Expected n) g _ _ refl (typed_at s D _ _ es n)

-- the tables of the code, each by the slice that it reads
pub found_by : (s : Solved) (D : Declarations) (f : Found) (vs ns es : List (Option ℕ)) → IsSound s → vs ≡ s.tables.variables.items → ns ≡ s.tables.nodes.items → es ≡ s.tables.expected.items
    → TableTyped s D vs f.variables → TableTyped s D ns f.nodes → TableTyped s D es f.expected → IsFound s D f
found_by s D f vs ns es g ev en ee tv tn te = all_found s D f g (subst (λ l. TableTyped s D l f.variables) ev tv) (subst (λ l. TableTyped s D l f.nodes) en tn) (subst (λ l. TableTyped s D l f.expected) ee te)

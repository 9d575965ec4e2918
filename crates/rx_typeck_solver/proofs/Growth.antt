-- Types that are added one after another.
use Rattle.std.proofs.Common.{◌≡◌, ℕ, zero, suc, ◌-◌, ◌<◌, ◌≤◌, true, false, IsTrue, List, [], ◌∷◌, ◌++◌, length, get_or, drop, map, refl, sym, ap, ◌∙◌, subst, arith}
use Rattle.rx_core.specs.declared.types.Kind.{Kind}
use Rattle.rx_core.specs.declared.types.Ty.{Ty}
use Rattle.rx_core.specs.declared.types.Ty.TheVariants as ty
use Rattle.rx_typed.specs.Types.{Shapes, integer, boolean, tuple_of, reference, named, no_shape, shape_and, shapes_map, shapes_of}
use Rattle.rx_typed.specs.PlainTypes.{plain-Ty, typ_integer, typ_boolean, typ_tuple, typ_shared, typ_mut, typ_item}
use Rattle.rx_typeck_solver.specs.declared.arena.Entry.{Entry}
use Rattle.rx_typeck_solver.specs.Solver.{Leaf, Fixed, Term}
use Rattle.rx_typeck_solver.specs.Cells.{Cell, one, many, term_in, shapes_in, is_one, is_many, cell, term, IsTerm, IsList, Formable, Built, Extends, Makes}
use Rattle.rx_typeck_solver.specs.Tabled.{Sized}
use Rattle.rx_typeck_solver.specs.Reading.{AllTerms}
use Rattle.rx_typeck_solver.specs.Growing.{Grows, Grown, GrownAll, closed, closed_all}
use Rattle.rx_typeck_solver.proofs.Adding.{extends_all, extends_same}
use Rattle.rx_typeck_solver.proofs.States.{built_of, sized_of, term_kept}
use Rattle.rx_typeck_solver.proofs.ListReads.{append_nil}

pub grown_by : (sizes : List ℕ) (old new : List Entry) (i : ℕ) (c : Cell) → Formable old → Sized sizes old → ((n : ℕ) → Built sizes n old → Makes sizes n old new i c) → Grown sizes old new i c
grown_by sizes old new i c f s make =
    let m = make f.0 (built_of sizes f.0 old f.1 s) in
    record {
      grows = record { extends = m.extends; formed = λ n o. (make n (built_of sizes n old o s)).built.forms; sized = sized_of sizes f.0 new m.built };
      within = m.within;
      is = m.is;
    }

pub formable_after : (sizes : List ℕ) (old new : List Entry) → Formable old → Grows sizes old new → Formable new
formable_after sizes old new f g = (f.0, g.formed f.0 f.1)

pub grows_all : (sizes : List ℕ) (a b c : List Entry) → Grows sizes a b → Grows sizes b c → Grows sizes a c
grows_all sizes a b c g h = record { extends = extends_all a b c g.extends h.extends; formed = λ n o. h.formed n (g.formed n o); sized = h.sized }

pub grows_none : (sizes : List ℕ) (a : List Entry) → Sized sizes a → Grows sizes a a
grows_none sizes a s = record { extends = extends_same a; formed = λ n o. o; sized = s }

pub grown_after : (sizes : List ℕ) (a b c : List Entry) (i : ℕ) (d e : Cell) → Grows sizes a b → Grown sizes b c i d → d ≡ e → Grown sizes a c i e
grown_after sizes a b c i d e g h q = record { grows = grows_all sizes a b c g h.grows; within = h.within; is = h.is ∙ q }

pub grown_as : (sizes : List ℕ) (a b : List Entry) (i : ℕ) (d e : Cell) → Grown sizes a b i d → d ≡ e → Grown sizes a b i e
grown_as sizes a b i d e h q = record { grows = h.grows; within = h.within; is = h.is ∙ q }

-- a further entry over the one that was made
pub grown_over : (sizes : List ℕ) (a b c : List Entry) (i j : ℕ) (x d e : Cell) → Formable a → Grown sizes a b j x → ((n : ℕ) → Built sizes n b → Makes sizes n b c i d) → d ≡ e → Grown sizes a c i e
grown_over sizes a b c i j x d e f g make q = grown_after sizes a b c i d e g.grows (grown_by sizes b c i d (formable_after sizes a b f g.grows) g.grows.sized make) q

pub grown_term : (sizes : List ℕ) (a b : List Entry) (i : ℕ) (t : Term) → Grown sizes a b i (one t) → IsTerm b i × (term b i ≡ t)
grown_term sizes a b i t g = ((g.within, subst (λ c. IsTrue (is_one c)) (sym g.is) refl), ap term_in g.is)

pub grown_list : (sizes : List ℕ) (a b : List Entry) (i : ℕ) (ts : Shapes Leaf) → Grown sizes a b i (many ts) → IsList b i × (shapes_in (cell b i) ≡ ts)
grown_list sizes a b i ts g = ((g.within, subst (λ c. IsTrue (is_many c)) (sym g.is) refl), ap shapes_in g.is)

-- ---- terms that stood before

pub terms_kept : (a b : List Entry) (is : List ℕ) → Extends a b → AllTerms a is → AllTerms b is × (map (term b) is ≡ map (term a) is)
terms_kept a b [] x t = (tt, refl)
terms_kept a b (i ∷ is) x t = let p = terms_kept a b is x t.1 in ((term_kept a b i x t.0, p.0), ap (λ c. term_in c ∷ map (term b) is) (x.same i t.0.0) ∙ ap (λ l. term a i ∷ l) p.1)

pub term_at_list : (es : List Entry) (is : List ℕ) (k d : ℕ) → AllTerms es is → k < length is → IsTerm es (get_or is k d)
term_at_list es [] k d t h = absurd (omega arith)
term_at_list es (i ∷ is) zero d t h = t.0
term_at_list es (i ∷ is) (suc k) d t h = term_at_list es is k d t.1 (omega arith)

drop_map : (es : List Entry) (is : List ℕ) (k : ℕ) → 0 < k → k ≤ length is → map (term es) (drop (k - 1) is) ≡ term es (get_or is (k - 1) 0) ∷ map (term es) (drop k is)
drop_map es [] k z h = absurd (omega arith)
drop_map es (i ∷ is) zero z h = absurd (omega arith)
drop_map es (i ∷ is) (suc zero) z h = refl
drop_map es (i ∷ is) (suc (suc k)) z h = let a : suc (suc k) - 1 ≡ suc k = omega arith in let b : suc k - 1 ≡ k = omega arith in
    rw a (subst (λ m. map (term es) (drop m is) ≡ term es (get_or is m 0) ∷ map (term es) (drop (suc k) is)) b (drop_map es is (suc k) (omega arith) (omega arith)))

-- the list of a list's terms, from the last
pub listed_start : (sizes : List ℕ) (a b : List Entry) (i : ℕ) (is : List ℕ) → Formable a → Sized sizes a → ((sizes : List ℕ) (n : ℕ) → Built sizes n a → Makes sizes n a b i (many no_shape)) → drop (length is) is ≡ [] → Grown sizes a b i (many (shapes_of (map (term a) (drop (length is) is))))
listed_start sizes a b i is f s make e = grown_as sizes a b i (many no_shape) _ (grown_by sizes a b i (many no_shape) f s (make sizes)) (ap (λ l. many (shapes_of (map (term a) l))) (sym e))

pub listed_first : (sizes : List ℕ) (a b : List Entry) (is : List ℕ) (k : ℕ) → Grows sizes a b → AllTerms a is → 0 < k → k ≤ length is → IsTerm b (get_or is (k - 1) 0) × (term b (get_or is (k - 1) 0) ≡ term a (get_or is (k - 1) 0))
listed_first sizes a b is k g t z h = let q = term_at_list a is (k - 1) 0 t (omega (arith, z, h)) in (term_kept a b (get_or is (k - 1) 0) g.extends q, ap term_in (g.extends.same (get_or is (k - 1) 0) q.0))

pub listed_more : (sizes : List ℕ) (a b c : List Entry) (i j : ℕ) (is : List ℕ) (k : ℕ) → Formable a → AllTerms a is → 0 < k → k ≤ length is → Grown sizes a b j (many (shapes_of (map (term a) (drop k is))))
    → ((sizes : List ℕ) (n : ℕ) → IsTerm b (get_or is (k - 1) 0) → IsList b j → Built sizes n b → Makes sizes n b c i (many (shape_and (term b (get_or is (k - 1) 0)) (shapes_in (cell b j))))) → Grown sizes a c i (many (shapes_of (map (term a) (drop (k - 1) is))))
listed_more sizes a b c i j is k f t z h g make =
    let first = listed_first sizes a b is k g.grows t z h in
    let list = grown_list sizes a b j _ g in
    grown_over sizes a b c i j _ _ _ f g (λ n o. make sizes n first.0 list.0 o)
    (ap (λ u. many (shape_and u (shapes_in (cell b j)))) first.1 ∙ ap (λ us. many (shape_and (term a (get_or is (k - 1) 0)) us)) list.1 ∙ ap (λ l. many (shapes_of l)) (sym (drop_map a is k z h)))

-- ---- declared types

closed_shapes : (ts : List Ty) → shapes_map Fixed (shapes_of (map plain-Ty ts)) ≡ shapes_of (closed_all ts)
closed_shapes [] = refl
closed_shapes (t ∷ ts) = ap (shape_and (closed (plain-Ty t))) (closed_shapes ts)

pub closed_integer : (t : Ty) (k : Kind) → t ≡ ty.Int k → one (integer (Fixed k)) ≡ one (closed (plain-Ty t))
closed_integer t k e = ap (λ u. one (closed u)) (sym (ap plain-Ty e ∙ typ_integer k))

pub closed_boolean : (t : Ty) → t ≡ ty.Bool → one boolean ≡ one (closed (plain-Ty t))
closed_boolean t e = ap (λ u. one (closed u)) (sym (ap plain-Ty e ∙ typ_boolean))

pub closed_tuple : (t : Ty) (ts : List Ty) (us : List Term) → t ≡ ty.Tuple ts → us ≡ closed_all ts → one (tuple_of (shapes_of us)) ≡ one (closed (plain-Ty t))
closed_tuple t ts us e h = ap (λ l. one (tuple_of (shapes_of l))) h ∙ ap (λ l. one (tuple_of l)) (sym (closed_shapes ts)) ∙ ap (λ u. one (closed u)) (sym (ap plain-Ty e ∙ typ_tuple ts))

pub closed_shared : (t u : Ty) (l : ℕ) (v : Term) → t ≡ ty.Shared l u → v ≡ closed (plain-Ty u) → one (reference false v) ≡ one (closed (plain-Ty t))
closed_shared t u l v e h = ap (λ x. one (reference false x)) h ∙ ap (λ u. one (closed u)) (sym (ap plain-Ty e ∙ typ_shared l u))

pub closed_mut : (t u : Ty) (l : ℕ) (v : Term) → t ≡ ty.Mut l u → v ≡ closed (plain-Ty u) → one (reference true v) ≡ one (closed (plain-Ty t))
closed_mut t u l v e h = ap (λ x. one (reference true x)) h ∙ ap (λ u. one (closed u)) (sym (ap plain-Ty e ∙ typ_mut l u))

pub closed_item : (t : Ty) (i : ℕ) (ls : List ℕ) → t ≡ ty.Adt i ls → one (named i) ≡ one (closed (plain-Ty t))
closed_item t i ls e = ap (λ u. one (closed u)) (sym (ap plain-Ty e ∙ typ_item i ls))

-- the entries so far, and those that are to come
pub record GrownBefore (sizes : List ℕ) (old new : List Entry) (is : List ℕ) (rest all : List Term) : Type 0 where
  pub grows : Grows sizes old new
  pub terms : AllTerms new is
  pub are : map (term new) is ++ rest ≡ all

pub before_start : (sizes : List ℕ) (a : List Entry) (is : List ℕ) (all : List Term) → Sized sizes a → is ≡ [] → GrownBefore sizes a a is all all
before_start sizes a is all s e = record { grows = grows_none sizes a s; terms = subst (λ l. AllTerms a l) (sym e) tt; are = ap (λ l. map (term a) l ++ all) e }

all_pushed : (es : List Entry) (is : List ℕ) (i : ℕ) → AllTerms es is → IsTerm es i → AllTerms es (is ++ i ∷ [])
all_pushed es [] i t h = (h, tt)
all_pushed es (j ∷ is) i t h = (t.0, all_pushed es is i t.1 h)

map_pushed : (es : List Entry) (is : List ℕ) (i : ℕ) (rest : List Term) → map (term es) (is ++ i ∷ []) ++ rest ≡ map (term es) is ++ term es i ∷ rest
map_pushed es [] i rest = refl
map_pushed es (j ∷ is) i rest = ap (λ l. term es j ∷ l) (map_pushed es is i rest)

pub before_more : (sizes : List ℕ) (a b c : List Entry) (is next : List ℕ) (i : ℕ) (ts us : List Ty) (t : Ty) (all : List Term) → GrownBefore sizes a b is (closed_all ts) all → Grown sizes b c i (one (closed (plain-Ty t))) → next ≡ is ++ i ∷ [] → ts ≡ t ∷ us → GrownBefore sizes a c next (closed_all us) all
before_more sizes a b c is next i ts us t all g h en e =
    let k = terms_kept b c is h.grows.extends g.terms in
    let q = grown_term sizes b c i _ h in
    record {
      grows = grows_all sizes a b c g.grows h.grows;
      terms = subst (λ l. AllTerms c l) (sym en) (all_pushed c is i k.0 q.0);
      are = ap (λ l. map (term c) l ++ closed_all us) en ∙ map_pushed c is i (closed_all us) ∙ ap (λ l. l ++ term c i ∷ closed_all us) k.1 ∙ ap (λ u. map (term b) is ++ u ∷ closed_all us) q.1 ∙ ap (λ l. map (term b) is ++ closed_all l) (sym e) ∙ g.are;
    }

pub before_end : (sizes : List ℕ) (a b : List Entry) (is : List ℕ) (ts : List Ty) (all : List Term) → GrownBefore sizes a b is (closed_all ts) all → ts ≡ [] → GrownAll sizes a b is all
before_end sizes a b is ts all g e = record { grows = g.grows; terms = g.terms; are = sym (ap (λ l. map (term b) is ++ closed_all l) e ∙ append_nil (map (term b) is)) ∙ g.are }

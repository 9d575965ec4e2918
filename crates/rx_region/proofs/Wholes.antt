-- What functions answer, from what they call.
use Rattle.std.proofs.Common.{◌≡◌, ◌↔◌, ◌⊎◌, inl, inr, ℕ, zero, suc, ◌+◌, ◌*◌, ◌<◌, ◌≤◌, true, not, ◌&&◌, List, [], ◌∷◌, length, map, slice_get, get_or, Some, refl, sym, ap, ◌∙◌, subst, arith, true≢false}
use Rattle.rx_core.specs.declared.types.Bound.{Bound}
use Rattle.rx_core.specs.declared.types.Ty.{Ty}
use Rattle.rx_graph_bits.specs.Rows.{holds, words}
use Rattle.rx_graph.specs.Tables.{at, Regular, Empty}
use Rattle.rx_graph_closure.specs.Closing.{Within}
use Rattle.rx_graph_closure.specs.Filling.{HasExactly, Added}
use Rattle.rx_graph_closure.specs.Listing.{pairs_below}
use Rattle.rx_graph_cycles.specs.Reaches.{IsIn}
use Rattle.rx_typed.specs.Regions.{region-Ty, lifetimes_in}
use Rattle.rx_typed.specs.Tree.{Root}
use Rattle.rx_lower_walks.specs.Graph.{Site}
use Rattle.rx_lower_walks.specs.declared.site.Site as code_site
use Rattle.rx_lower_walks.specs.PlainSite.{plain-Site}
use Rattle.rx_lower_walks.specs.declared.actions.Temporary as code
use Rattle.rx_lower_walks.specs.PlainFlow.{plain-Temporary}
use Rattle.rx_typed.specs.Renaming.{unit_region}
use Rattle.rx_lower_lifetimes.specs.Lowered.{Lifetimes}
use Rattle.rx_facts_tables.specs.declared.table.LiveTable.{LiveTable}
use Rattle.rx_facts_tables.specs.LiveTables.{Lives}
use Rattle.rx_region.specs.Constraints.{Context, root_type, variables_of}
use Rattle.rx_region.specs.Known.{told}
use Rattle.rx_region.specs.Known as known
use Rattle.rx_region.specs.Solutions.{Point}
use Rattle.rx_region.specs.Points.{has_point}
use Rattle.rx_region.specs.Seeds.{Lived, VariableLived, TemporaryLived, Grows, AllBelow}
use Rattle.rx_region.specs.Tables.{Must, AllLived, Seeded, ClosedFrom, Knows}
use Rattle.rx_region.proofs.Seeding.{grows_then}
use Rattle.rx_region.proofs.Musts.{musts}
use Rattle.rx_region.proofs.Knowing.{pairs_known, rows_known}

-- ---- where variables and temporaries are live

pub no_lived : (L : Lifetimes) (r : Root) → unit_region ≡ root_type L r → (g : List Site) (m i : ℕ) → Lived L g r m i → ⊥
no_lived L r e g m i x = subst (λ t. IsIn (lifetimes_in t) m) (sym e) x.among

pub at_temporary : (ts : List code.Temporary) (k : ℕ) (d : code.Temporary) → k < length ts → slice_get (map plain-Temporary ts) k ≡ Some (plain-Temporary (get_or ts k d))
at_temporary [] k d h = absurd (omega (arith, h))
at_temporary (t ∷ ts) zero d h = refl
at_temporary (t ∷ ts) (suc k) d h = at_temporary ts k d (omega (arith, h))

length_temporaries : (ts : List code.Temporary) → length (map plain-Temporary ts) ≡ length ts
length_temporaries [] = refl
length_temporaries (t ∷ ts) = ap suc (length_temporaries ts)

pub length_sites : (ss : List code_site.Site) → length ss ≡ length (map plain-Site ss)
length_sites [] = refl
length_sites (s ∷ ss) = ap suc (length_sites ss)

pub live_added : (L : Lifetimes) (t : LiveTable) (n w count : ℕ) (A B C : List (List ℕ)) (ts ss : List code.Temporary) → count ≡ variables_of L
    → L.temporaries ≡ map plain-Temporary ts → ss ≡ ts → Regular (length A) w A → Grows t n w (λ g. VariableLived L g count) A B
    → Grows t n w (λ g. TemporaryLived L g (map plain-Temporary ss) (length ss)) B C → Grows t n w (AllLived L) A C
live_added L t n w count A B C ts ss e f h regular one more = grows_then t n w A B C (λ g. VariableLived L g (variables_of L))
    (λ g. TemporaryLived L g L.temporaries (length L.temporaries)) (AllLived L) regular
    (subst (λ c. Grows t n w (λ g. VariableLived L g c) A B) e one)
    (subst (λ rs. Grows t n w (λ g. TemporaryLived L g rs (length rs)) B C) (sym f)
    (subst (λ c. Grows t n w (λ g. TemporaryLived L g (map plain-Temporary ts) c) B C) (sym (length_temporaries ts))
    (subst (λ rs. Grows t n w (λ g. TemporaryLived L g (map plain-Temporary rs) (length rs)) B C) h more)))
    (λ g m i x. x) (λ g m i x. inl x) (λ g m i x. inr x)

-- ---- what sets must hold by themselves

pub wide_rows : (n w v : ℕ) (A : List (List ℕ)) → v ≡ w → Empty n w A → Regular (length A) v A
wide_rows n w v A e h = subst (λ u. Regular (length A) u A) (sym e) (subst (λ m. Regular m w A) (sym h.regular.count) h.regular)

pub regular_of : (w v : ℕ) (A B C : List (List ℕ)) (P Q : ℕ → ℕ → Type 0) → v ≡ w → Added v A B P → (Regular (length B) w B → Added w B C Q) → Regular (length C) w C
regular_of w v A B C P Q e one more = let h = subst (λ u. Added u A B P) e one in
    let r = (more (subst (λ m. Regular m w B) (sym h.regular.count) h.regular)).regular in subst (λ m. Regular m w C) (sym r.count) r

pub seeded : (L : Lifetimes) (t : LiveTable) (n sites w v : ℕ) (all : List ℕ) (A B C D : List (List ℕ)) → v ≡ w → Empty n w A → HasExactly w all (λ i. i < sites)
    → Added v A B (λ m i. (m < L.own) × (holds all i ≡ true)) → (Regular (length B) w B → Added w B C (λ m i. (m < L.own) × (i ≡ sites + m)))
    → Grows t sites w (AllLived L) C D → Seeded L t n sites w D
seeded L t n sites w v all A B C D e empty all_is joined diagonal grown = record {
  regular = subst (λ m. Regular m w D) size grown.regular;
  exact = λ g lives is l i k j.
      let x = (subst (λ u. Added u A B (λ m i. (m < L.own) × (holds all i ≡ true))) e joined).exact l i (omega (arith, k, empty.regular.count)) j in
      let y = (diagonal at_b).exact l i (omega (arith, k, size_b)) j in
      let z = (grown.added g lives is).exact l i (omega (arith, k, size)) j in
      (λ a. came g l i k j (z.0 a) y.0 x.0, λ a. goes g l i k j a z.1 y.1 x.1);
} where
  joined_w : Added w A B (λ m i. (m < L.own) × (holds all i ≡ true))
  joined_w = subst (λ u. Added u A B (λ m i. (m < L.own) × (holds all i ≡ true))) e joined

  size_b : length B ≡ n
  size_b = joined_w.regular.count ∙ empty.regular.count

  at_b : Regular (length B) w B
  at_b = subst (λ m. Regular m w B) (sym joined_w.regular.count) joined_w.regular

  size : length C ≡ n
  size = (diagonal at_b).regular.count ∙ size_b

  Parts : List Site → ℕ → ℕ → Type 0
  Parts g l i = ((l < L.own) × (i < sites)) ⊎ (((l < L.own) × (i ≡ sites + l)) ⊎ AllLived L g l i)

  in_a : (l i : ℕ) → l < n → (at A l i ≡ true) ⊎ ((l < L.own) × (holds all i ≡ true)) → i < 64 * w → (l < L.own) × (i < sites)
  in_a l i k (inl a) j = absurd (true≢false (sym a ∙ empty.nothing l i k))
  in_a l i k (inr a) j = (a.0, (all_is.exact i j).0 a.1)

  in_b : (g : List Site) (l i : ℕ) → l < n → i < 64 * w → (at B l i ≡ true) ⊎ ((l < L.own) × (i ≡ sites + l)) → (at B l i ≡ true → (at A l i ≡ true) ⊎ ((l < L.own) × (holds all i ≡ true)))
      → ((l < L.own) × (i < sites)) ⊎ (((l < L.own) × (i ≡ sites + l)) ⊎ AllLived L g l i)
  in_b g l i k j (inl a) f = inl (in_a l i k (f a) j)
  in_b g l i k j (inr a) f = inr (inl a)

  came : (g : List Site) (l i : ℕ) → l < n → i < 64 * w → (at C l i ≡ true) ⊎ AllLived L g l i → (at C l i ≡ true → (at B l i ≡ true) ⊎ ((l < L.own) × (i ≡ sites + l)))
      → (at B l i ≡ true → (at A l i ≡ true) ⊎ ((l < L.own) × (holds all i ≡ true)))
      → ((l < L.own) × (i < sites)) ⊎ (((l < L.own) × (i ≡ sites + l)) ⊎ AllLived L g l i)
  came g l i k j (inl a) h f = in_b g l i k j (h a) f
  came g l i k j (inr a) h f = inr (inr a)

  goes : (g : List Site) (l i : ℕ) → l < n → i < 64 * w → ((l < L.own) × (i < sites)) ⊎ (((l < L.own) × (i ≡ sites + l)) ⊎ AllLived L g l i)
      → ((at C l i ≡ true) ⊎ AllLived L g l i → at D l i ≡ true) → ((at B l i ≡ true) ⊎ ((l < L.own) × (i ≡ sites + l)) → at C l i ≡ true)
      → ((at A l i ≡ true) ⊎ ((l < L.own) × (holds all i ≡ true)) → at B l i ≡ true) → at D l i ≡ true
  goes g l i k j (inl a) z y x = z (inl (y (inl (x (inr (a.0, (all_is.exact i j).1 a.1))))))
  goes g l i k j (inr (inl a)) z y x = z (inl (y (inr a)))
  goes g l i k j (inr (inr a)) z y x = z (inr a)

pub asked : (C : Context) (g : List Site) (ts us : List Ty) (t : LiveTable) (count least n : ℕ) (T U : List (List ℕ)) → C.lifetimes.types ≡ map region-Ty ts → us ≡ ts
    → Seeded C.lifetimes t count n (words (n + C.lifetimes.own)) T → U ≡ T → n ≡ length g → C.lifetimes.own ≤ least → AllBelow us least → least ≤ count → Lives g t
    → (l : ℕ) (x : Point) → (has_point U n l x ≡ true) ↔ Must C g l x
asked C g ts us t count least n T U types_are same_types seeds same size own_below below more lives l x =
    subst (λ (V : List (List ℕ)). (has_point V n l x ≡ true) ↔ Must C g l x) (sym same)
    (musts C g ts types_are t count n (words (n + C.lifetimes.own)) T seeds lives size refl (omega (arith, own_below, more))
    (λ j y stands m among. let b = below j y (subst (λ zs. slice_get zs j ≡ Some y) (sym same_types) stands) m among in omega (arith, b, more)) l x)

pub table_regular : (count w : ℕ) (T U : List (List ℕ)) → Regular count w T → U ≡ T → Regular (length U) w U
table_regular count w T U h e = subst (λ (V : List (List ℕ)). Regular (length V) w V) (sym e) (subst (λ n. Regular n w T) (sym h.count) h)

pub table_within : (ps qs : List Bound) (count w : ℕ) (T U : List (List ℕ)) → Regular count w T → U ≡ T → Within qs count → qs ≡ ps → Within ps (length U)
table_within ps qs count w T U h e within same = subst (λ n. Within ps n) (sym (ap (λ (V : List (List ℕ)). length V) e ∙ h.count)) (subst (λ rs. Within rs count) same within)

-- ---- what is known

pub knows_so : (C : Context) (ts a b : List Bound) (n m : ℕ) (T U V : List (List ℕ)) (pairs : List Bound) → ts ≡ told C → a ≡ ts → b ≡ ts → Within a m → C.lifetimes.own ≤ m
    → n ≡ m → ClosedFrom b n T → V ≡ T → pairs ≡ pairs_below (λ l k. at V l (0 + k) && not (at [] l k)) C.lifetimes.own → U ≡ T
    → Knows C (record { pairs = pairs; rows = U; own = C.lifetimes.own })
knows_so C ts a b n m T U V pairs is same_a same_b within own_below size closed same_v listed same = record {
  own = refl;
  pairs = λ x y. pairs_known C ts n T is all_within below all_closed pairs (listed ∙ ap (λ W. pairs_below (λ l k. at W l (0 + k) && not (at [] l k)) C.lifetimes.own) same_v) x y;
  rows = λ x y i j. subst (λ W. (at W x y ≡ true) ↔ known.KnownToOutlive C x y) (sym same) (rows_known C ts n T is all_within below all_closed x y i j);
} where
  all_within : Within ts n
  all_within = subst (λ k. Within ts k) (sym size) (subst (λ qs. Within qs m) same_a within)

  below : C.lifetimes.own ≤ n
  below = omega (arith, own_below, size)

  all_closed : ClosedFrom ts n T
  all_closed = subst (λ qs. ClosedFrom qs n T) same_b closed

pub same_lists : (A B T U : List (List ℕ)) (n own : ℕ) → T ≡ A → U ≡ B
    → pairs_below (λ l k. at T l (n + k) && not (at U l k)) own ≡ pairs_below (λ l k. at A l (n + k) && not (at B l k)) own
same_lists A B T U n own e f = ap (λ W. pairs_below (λ l k. at W l (n + k) && not (at U l k)) own) e ∙ ap (λ W. pairs_below (λ l k. at A l (n + k) && not (at W l k)) own) f

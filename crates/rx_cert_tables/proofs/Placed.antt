-- Lines at their places: the first that doesn't fit; lines that are written one after another, and that they fit.
use Rattle.std.proofs.Common.{◌≡◌, ◌⊎◌, inl, inr, ℕ, zero, suc, ◌+◌, ◌-◌, ◌<◌, ◌≤◌, true, false, ◌&&◌, List, [], ◌∷◌, ◌++◌, length, take, get_or, Option, Some, None, refl, sym, ap, subst, ◌∙◌, arith, append_assoc}
use Rattle.std.specs.Prelude.{slice_get, nat_lt, nat_le, if◌then◌else◌, ◌==◌}
use Rattle.std.specs.List.{list_all}
use Rattle.std.proofs.lemmas.Bool.{cases_eq, cases_lt, eq-eqb, eqb-true, false≢true}
use Rattle.std.proofs.lemmas.List.{take_more, take_all, length-take-le}
use Rattle.rx_graph_bits.specs.Rows.{holds}
use Rattle.rx_cert_lines.specs.declared.item.Item.{Item}
use Rattle.rx_cert_lines.specs.declared.item.Item.TheVariants.{Number, Range, End}
use Rattle.rx_cert_lines.specs.declared.line.Head.{Head}
use Rattle.rx_cert_lines.specs.declared.line.Head.TheVariants.{Function, Region, Loan, Text}
use Rattle.rx_cert_lines.specs.declared.line.Line.{Line}
use Rattle.rx_cert_lines.specs.Lines.{is_part, precedes_first, is_set, line_text}
use Rattle.rx_cert_lines.specs.Certificates.{lines_text}
use Rattle.rx_cert_tables.specs.declared.shape.Shape.{Shape}
use Rattle.rx_cert_tables.specs.Sets.{is_site, is_end, has_site, has_end, IsSetOf}
use Rattle.rx_cert_tables.specs.Fitting.{fits_at, fits_function, count, Fits, AllFit, IsMisfit, is_within, is_number_of, is_loan_of, fits_region, fits_loan}
use Rattle.rx_cert_tables.specs.Written.{function_line, IsRegionLine, IsLoanLine, AreRegionLines, AreLoanLines, AreWritten}
use Rattle.rx_cert_tables.proofs.Tests.{and_parts, and_whole, or_parts, or_left, or_right, between, differs, le, lt, not_le, from_le, from_lt}

-- ---- the first line that doesn't fit

abbrev pub FitBefore : Shape → List Line → ℕ → Type 0
FitBefore f ls n = (k : ℕ) → k < n → Fits f ls k

pub none_before : (f : Shape) (ls : List Line) → FitBefore f ls 0
none_before f ls k h = absurd (omega (arith, h))

pub one_more_fits : (f : Shape) (ls : List Line) (n next : ℕ) (l : Line) → next ≡ n + 1 → FitBefore f ls n → slice_get ls n ≡ Some l → fits_at f n l ≡ true
    → FitBefore f ls next
one_more_fits f ls n next l e b s t k h = go (cases_eq k n) where
  go : (k ≡ n) ⊎ (k ≡ n → ⊥) → Fits f ls k
  go (inl q) = subst (Fits f ls) (sym q) (l, s, t)
  go (inr q) = b k (omega (arith, h, e, q))

some_same : (l m : Line) → ◌≡◌ {A = Option Line} (Some l) (Some m) → l ≡ m
some_same l m e = cc

pub unfit_here : (f : Shape) (ls : List Line) (n : ℕ) (l : Line) → n < count f → FitBefore f ls n → slice_get ls n ≡ Some l → fits_at f n l ≡ false → IsMisfit f ls n
unfit_here f ls n l w b s t = record {
  within = w;
  before = b;
  here = λ it. false≢true (sym t ∙ ap (fits_at f n) (some_same l it.0 (sym s ∙ it.1)) ∙ it.2);
}

pub missing_here : (f : Shape) (ls : List Line) (n : ℕ) → n < count f → FitBefore f ls n → slice_get ls n ≡ None → IsMisfit f ls n
missing_here f ls n w b s = record { within = w; before = b; here = λ it. never it.0 (sym s ∙ it.1) } where
  never : (l : Line) → ◌≡◌ {A = Option Line} None (Some l) → ⊥
  never l e = absurd (cc)

-- what stands at a place of a list
pub get_at : {X : Type 0} (xs : List X) (i : ℕ) (x : X) → i < length xs → x ≡ get_or xs i x → slice_get xs i ≡ Some x
get_at [] i x h e = absurd (omega (arith, h))
get_at (y ∷ ys) zero x h e = ap Some (sym e)
get_at (y ∷ ys) (suc i) x h e = get_at ys i x (omega (arith, h)) e

get_past : (ls : List Line) (i : ℕ) → length ls ≤ i → slice_get ls i ≡ None
get_past [] i h = refl
get_past (l ∷ ls) zero h = absurd (omega (arith, h))
get_past (l ∷ ls) (suc i) h = get_past ls i (omega (arith, h))

pub fits_next : (f : Shape) (ls : List Line) (n : ℕ) (l : Line) → n < length ls → l ≡ get_or ls n l → FitBefore f ls n → fits_at f n l ≡ true → FitBefore f ls (n + 1)
fits_next f ls n l h e b t = one_more_fits f ls n (n + 1) l refl b (get_at ls n l h e) t

pub unfit_next : (f : Shape) (ls : List Line) (n : ℕ) (l : Line) → n < count f → n < length ls → l ≡ get_or ls n l → FitBefore f ls n → fits_at f n l ≡ false → IsMisfit f ls n
unfit_next f ls n l w h e b t = unfit_here f ls n l w b (get_at ls n l h e) t

pub missing_end : (f : Shape) (ls : List Line) (n : ℕ) → n < count f → length ls ≤ n → FitBefore f ls n → IsMisfit f ls n
missing_end f ls n w h b = missing_here f ls n w b (get_past ls n h)

pub all_before : (f : Shape) (ls : List Line) (n : ℕ) → count f ≤ n → FitBefore f ls n → AllFit f ls
all_before f ls n h b k l = b k (omega (arith, h, l))

-- ---- lines one after another

pub lines_text_append : (ls ms : List Line) → lines_text (ls ++ ms) ≡ lines_text ls ++ lines_text ms
lines_text_append [] ms = refl
lines_text_append (l ∷ ls) ms = ap (λ x. line_text l ++ 10 ∷ x) (lines_text_append ls ms) ∙ sym (append_assoc (line_text l) (10 ∷ lines_text ls) (lines_text ms))

pub one_line_text : (l : Line) → line_text l ++ 10 ∷ [] ≡ lines_text (l ∷ [])
one_line_text l = refl

-- a line more is added
pub text_more : (old text new : List ℕ) (ls : List Line) (l : Line) → text ≡ old ++ lines_text ls → new ≡ text ++ (line_text l ++ 10 ∷ []) → new ≡ old ++ lines_text (ls ++ l ∷ [])
text_more old text new ls l e h = h ∙ ap (λ t. t ++ lines_text (l ∷ [])) e ∙ append_assoc old (lines_text ls) (lines_text (l ∷ []))
    ∙ ap (λ t. old ++ t) (sym (lines_text_append ls (l ∷ [])))

pub region_lines_more : (f : Shape) (rows : List (List ℕ)) (ls : List Line) (row : List ℕ) (l : Line) → AreRegionLines f rows ls → IsRegionLine f row l
    → AreRegionLines f (rows ++ row ∷ []) (ls ++ l ∷ [])
region_lines_more f [] [] row l a r = (r, tt)
region_lines_more f [] (m ∷ ms) row l a r = absurd a
region_lines_more f (s ∷ ss) [] row l a r = absurd a
region_lines_more f (s ∷ ss) (m ∷ ms) row l a r = (a.0, region_lines_more f ss ms row l a.1 r)

pub loan_lines_more : (f : Shape) (bs : List ℕ) (rows : List (List ℕ)) (ls : List Line) (b : ℕ) (row : List ℕ) (l : Line) → length rows ≡ length bs → AreLoanLines f bs rows ls
    → IsLoanLine f b row l → AreLoanLines f (bs ++ b ∷ []) (rows ++ row ∷ []) (ls ++ l ∷ [])
loan_lines_more f [] [] [] b row l e a r = (r, tt)
loan_lines_more f [] [] (m ∷ ms) b row l e a r = absurd a
loan_lines_more f [] (s ∷ ss) ls b row l e a r = absurd (omega (arith, e))
loan_lines_more f (c ∷ cs) [] ls b row l e a r = absurd (omega (arith, e))
loan_lines_more f (c ∷ cs) (s ∷ ss) [] b row l e a r = absurd a
loan_lines_more f (c ∷ cs) (s ∷ ss) (m ∷ ms) b row l e a r = (a.0, loan_lines_more f cs ss ms b row l (omega (arith, e)) a.1 r)

-- one line more, of the next row, and of the next borrow with its row
abbrev pub Regions : Shape → List (List ℕ) → List ℕ → List ℕ → Type 0
Regions f rows old text = (ls : List Line) × AreRegionLines f rows ls × (text ≡ old ++ lines_text ls)

pub regions_next : (f : Shape) (rows : List (List ℕ)) (k : ℕ) (row : List ℕ) (l : Line) (old text new : List ℕ) → k < length rows → row ≡ get_or rows k row
    → IsRegionLine f row l → new ≡ text ++ (line_text l ++ 10 ∷ []) → Regions f (take k rows) old text → Regions f (take (k + 1) rows) old new
regions_next f rows k row l old text new h e r n a = (
  a.0 ++ l ∷ [],
  subst (λ (ss : List (List ℕ)). AreRegionLines f ss (a.0 ++ l ∷ [])) (ap (λ x. take k rows ++ x ∷ []) e ∙ sym (take_more rows k row h))
      (region_lines_more f (take k rows) a.0 row l a.1 r),
  text_more old text new a.0 l a.2 n,
)

pub regions_taken : (f : Shape) (rows : List (List ℕ)) (k : ℕ) (old text : List ℕ) → length rows ≤ k → Regions f (take k rows) old text → Regions f rows old text
regions_taken f rows k old text h a = subst (λ (ss : List (List ℕ)). Regions f ss old text) (take_all k rows h) a

abbrev pub Loans : Shape → List ℕ → List (List ℕ) → List ℕ → List ℕ → Type 0
Loans f bs rows old text = (ls : List Line) × AreLoanLines f bs rows ls × (text ≡ old ++ lines_text ls)

got : (bs : List ℕ) (k b : ℕ) → ◌≡◌ {A = Option ℕ} (Some b) (slice_get bs k) → b ≡ get_or bs k 0
got [] k b e = absurd (cc)
got (c ∷ cs) zero b e = cc
got (c ∷ cs) (suc k) b e = got cs k b e

pub loans_next : (f : Shape) (rows : List (List ℕ)) (k b : ℕ) (row : List ℕ) (l : Line) (old text new : List ℕ) → k < length rows → length rows ≡ length f.borrows
    → ◌≡◌ {A = Option ℕ} (Some b) (slice_get f.borrows k) → row ≡ get_or rows k row → IsLoanLine f b row l → new ≡ text ++ (line_text l ++ 10 ∷ [])
    → Loans f (take k f.borrows) (take k rows) old text → Loans f (take (k + 1) f.borrows) (take (k + 1) rows) old new
loans_next f rows k b row l old text new h w g e r n a = (
  a.0 ++ l ∷ [],
  subst (λ (ss : List (List ℕ)). AreLoanLines f (take (k + 1) f.borrows) ss (a.0 ++ l ∷ [])) (ap (λ x. take k rows ++ x ∷ []) e ∙ sym (take_more rows k row h))
      (subst (λ (bs : List ℕ). AreLoanLines f bs (take k rows ++ row ∷ []) (a.0 ++ l ∷ []))
      (ap (λ x. take k f.borrows ++ x ∷ []) (got f.borrows k b g) ∙ sym (take_more f.borrows k 0 (omega (arith, h, w))))
      (loan_lines_more f (take k f.borrows) (take k rows) a.0 b row l
      (length-take-le k rows (omega (arith, h)) ∙ sym (length-take-le k f.borrows (omega (arith, h, w)))) a.1 r)),
  text_more old text new a.0 l a.2 n,
)

pub loans_taken : (f : Shape) (rows : List (List ℕ)) (k : ℕ) (old text : List ℕ) → length rows ≤ k → length rows ≡ length f.borrows
    → Loans f (take k f.borrows) (take k rows) old text → Loans f f.borrows rows old text
loans_taken f rows k old text h w a =
    subst (λ (ss : List (List ℕ)). Loans f f.borrows ss old text) (take_all k rows h)
    (subst (λ (bs : List ℕ). Loans f bs (take k rows) old text) (take_all k f.borrows (omega (arith, h, w))) a)

pub written : (f : Shape) (regions loans : List (List ℕ)) (old one two three : List ℕ) → one ≡ old ++ (line_text (function_line f) ++ 10 ∷ [])
    → ((ls : List Line) × AreRegionLines f regions ls × (two ≡ one ++ lines_text ls)) → ((ls : List Line) × AreLoanLines f f.borrows loans ls × (three ≡ two ++ lines_text ls))
    → (ls : List Line) × AreWritten f regions loans ls × (three ≡ old ++ lines_text ls)
written f regions loans old one two three e a b = (
  function_line f ∷ (a.0 ++ b.0),
  record { sets = a.0; scopes = b.0; lines = refl; are_sets = a.1; are_scopes = b.1 },
  b.2 ∙ ap (λ t. t ++ lines_text b.0) (a.2 ∙ ap (λ t. t ++ lines_text a.0) e) ∙ append_assoc (old ++ lines_text (function_line f ∷ [])) (lines_text a.0) (lines_text b.0)
      ∙ append_assoc old (lines_text (function_line f ∷ [])) (lines_text a.0 ++ lines_text b.0)
      ∙ ap (λ t. old ++ (lines_text (function_line f ∷ []) ++ t)) (sym (lines_text_append a.0 b.0))
      ∙ ap (λ t. old ++ t) (sym (lines_text_append (function_line f ∷ []) (a.0 ++ b.0))),
)

-- ---- what is written fits

all_within : (sites own : ℕ) (row : List ℕ) (is : List Item) → is_set is ≡ true → ((p : ℕ) → has_site is p ≡ true → p < sites) → ((k : ℕ) → has_end is k ≡ true → k < own)
    → list_all (is_within sites own) is ≡ true
all_within sites own row [] s p k = refl
all_within sites own row (i ∷ is) s p k =
    let a = and_parts (is_part i && precedes_first i is) (is_set is) s in
    and_whole (is_within sites own i) (list_all (is_within sites own) is) (first i (and_parts (is_part i) (precedes_first i is) a.0).0 p k)
    (all_within sites own row is a.1 (λ q h. p q (or_right_site i is q h)) (λ q h. k q (or_right_end i is q h))) where
      or_right_site : (i : Item) (is : List Item) (q : ℕ) → has_site is q ≡ true → has_site (i ∷ is) q ≡ true
      or_right_site i is q h = or_right (is_site i q) (has_site is q) h

      or_right_end : (i : Item) (is : List Item) (q : ℕ) → has_end is q ≡ true → has_end (i ∷ is) q ≡ true
      or_right_end i is q h = or_right (is_end i q) (has_end is q) h

      first : (i : Item) → is_part i ≡ true → ((p : ℕ) → has_site (i ∷ is) p ≡ true → p < sites) → ((k : ℕ) → has_end (i ∷ is) k ≡ true → k < own) → is_within sites own i ≡ true
      first (Number n) q p k = absurd (false≢true q)
      first (Range a b) q p k = lt b sites (p b (or_left (nat_le a b && nat_le b b) (has_site is b) (between a b b (from_le a b q) (omega arith))))
      first (End n) q p k = lt n own (k n (or_left (n == n) (has_end is n) (eq-eqb n n refl)))

set_within : (sites own : ℕ) (row : List ℕ) (is : List Item) → IsSetOf sites own row is → list_all (is_within sites own) is ≡ true
set_within sites own row is s = all_within sites own row is s.set
    (λ p h. from_lt p sites (and_parts (nat_lt p sites) (holds row p) (sym (s.site p) ∙ h)).0)
    (λ k h. from_lt k own (and_parts (nat_lt k own) (holds row (sites + k)) (sym (s.end k) ∙ h)).0)

head_region : (f : Shape) (l : Line) → l.head ≡ Region → list_all (is_within f.sites f.own) l.items ≡ true → fits_region f l ≡ true
head_region f l e h = ap (λ x. fits_region f (record { head = x; items = l.items })) e ∙ h

head_loan : (f : Shape) (b : ℕ) (l : Line) → l.head ≡ Loan → is_loan_of b f.sites l.items ≡ true → fits_loan f b l ≡ true
head_loan f b l e h = ap (λ x. fits_loan f b (record { head = x; items = l.items })) e ∙ h

region_fits : (f : Shape) (row : List ℕ) (l : Line) → IsRegionLine f row l → fits_region f l ≡ true
region_fits f row l r = head_region f l r.head (set_within f.sites f.own row l.items r.items)

loan_fits : (f : Shape) (b : ℕ) (row : List ℕ) (l : Line) → IsLoanLine f b row l → fits_loan f b l ≡ true
loan_fits f b row l r = let is = r.items.0 in
    head_loan f b l r.head (ap (is_loan_of b f.sites) r.items.1 ∙ and_whole (b == b) (list_all (is_within f.sites 0) is) (eq-eqb b b refl) (set_within f.sites 0 row is r.items.2))

region_at : (f : Shape) (rows : List (List ℕ)) (ls more : List Line) → AreRegionLines f rows ls → (n : ℕ) → n < length rows
    → (l : Line) × (slice_get (ls ++ more) n ≡ Some l) × (fits_region f l ≡ true)
region_at f [] ls more a n h = absurd (omega (arith, h))
region_at f (r ∷ rs) [] more a n h = absurd a
region_at f (r ∷ rs) (l ∷ ls) more a zero h = (l, refl, region_fits f r l a.0)
region_at f (r ∷ rs) (l ∷ ls) more a (suc n) h = region_at f rs ls more a.1 n (omega (arith, h))

region_count : (f : Shape) (rows : List (List ℕ)) (ls : List Line) → AreRegionLines f rows ls → length ls ≡ length rows
region_count f [] [] a = refl
region_count f [] (l ∷ ls) a = absurd a
region_count f (r ∷ rs) [] a = absurd a
region_count f (r ∷ rs) (l ∷ ls) a = ap suc (region_count f rs ls a.1)

loan_at : (f : Shape) (bs : List ℕ) (rows : List (List ℕ)) (ls : List Line) → AreLoanLines f bs rows ls → (n : ℕ) → n < length bs
    → (l : Line) × (slice_get ls n ≡ Some l) × (fits_loan f (get_or bs n 0) l ≡ true)
loan_at f [] rows ls a n h = absurd (omega (arith, h))
loan_at f (b ∷ bs) [] ls a n h = absurd a
loan_at f (b ∷ bs) (r ∷ rs) [] a n h = absurd a
loan_at f (b ∷ bs) (r ∷ rs) (l ∷ ls) a zero h = (l, refl, loan_fits f b r l a.0)
loan_at f (b ∷ bs) (r ∷ rs) (l ∷ ls) a (suc n) h = loan_at f bs rs ls a.1 n (omega (arith, h))

behind : (ls ms : List Line) (k n : ℕ) → length ls ≡ k → k ≤ n → slice_get (ls ++ ms) n ≡ slice_get ms (n - k)
behind [] ms k n e h = ap (slice_get ms) (same e) where
  same : zero ≡ k → n ≡ n - k
  same e = omega (arith, e)
behind (l ∷ ls) ms zero n e h = absurd (omega (arith, e))
behind (l ∷ ls) ms (suc k) zero e h = absurd (omega (arith, h))
behind (l ∷ ls) ms (suc k) (suc n) e h = behind ls ms k n (omega (arith, e)) (omega (arith, h)) ∙ ap (slice_get ms) same where
  same : n - k ≡ suc n - suc k
  same = omega arith

-- ---- what fits holds no other site or end point

pub site_within : (sites own : ℕ) (is : List Item) (p : ℕ) → list_all (is_within sites own) is ≡ true → has_site is p ≡ true → p < sites
site_within sites own [] p h s = absurd (false≢true s)
site_within sites own (i ∷ is) p h s = let a = and_parts (is_within sites own i) (list_all (is_within sites own) is) h in
    go i a.0 (or_parts (is_site i p) (has_site is p) s) (λ e. site_within sites own is p a.1 e) where
      go : (i : Item) → is_within sites own i ≡ true → (is_site i p ≡ true) ⊎ (has_site is p ≡ true) → (has_site is p ≡ true → p < sites) → p < sites
      go i w (inr e) r = r e
      go (Number n) w (inl e) r = absurd (false≢true e)
      go (Range a b) w (inl e) r = let q = and_parts (nat_le a p) (nat_le p b) e in let k = from_le p b q.1 in let l = from_lt b sites w in omega (arith, k, l)
      go (End n) w (inl e) r = absurd (false≢true e)

pub end_within : (sites own : ℕ) (is : List Item) (k : ℕ) → list_all (is_within sites own) is ≡ true → has_end is k ≡ true → k < own
end_within sites own [] k h s = absurd (false≢true s)
end_within sites own (i ∷ is) k h s = let a = and_parts (is_within sites own i) (list_all (is_within sites own) is) h in
    go i a.0 (or_parts (is_end i k) (has_end is k) s) (λ e. end_within sites own is k a.1 e) where
      go : (i : Item) → is_within sites own i ≡ true → (is_end i k ≡ true) ⊎ (has_end is k ≡ true) → (has_end is k ≡ true → k < own) → k < own
      go i w (inr e) r = r e
      go (Number n) w (inl e) r = absurd (false≢true e)
      go (Range a b) w (inl e) r = absurd (false≢true e)
      go (End n) w (inl e) r = let q = eqb-true k n e in let l = from_lt n own w in omega (arith, q, l)

-- a line that fits as a lifetime's, or as a loan's, holds only sites and end points of the function
pub region_within : (f : Shape) (l : Line) → fits_region f l ≡ true → list_all (is_within f.sites f.own) l.items ≡ true
region_within f l h = go l.head h where
  go : (h : Head) → fits_region f (record { head = h; items = l.items }) ≡ true → list_all (is_within f.sites f.own) l.items ≡ true
  go Function e = absurd (false≢true e)
  go Region e = e
  go Loan e = absurd (false≢true e)
  go Text e = absurd (false≢true e)

pub loan_within : (f : Shape) (b : ℕ) (l : Line) → fits_loan f b l ≡ true → (p : ℕ) → has_site l.items p ≡ true → p < f.sites
loan_within f b l h p s = go l.head h where
  inside : (is : List Item) → is_loan_of b f.sites is ≡ true → has_site is p ≡ true → p < f.sites
  inside [] e s = absurd (false≢true e)
  inside (i ∷ is) e s = let a = and_parts (is_number_of b i) (list_all (is_within f.sites 0) is) e in
      by (or_parts (is_site i p) (has_site is p) s) a.0 a.1 where
        number : (i : Item) → is_number_of b i ≡ true → is_site i p ≡ false
        number (Number n) e = refl
        number (Range c d) e = absurd (false≢true e)
        number (End n) e = absurd (false≢true e)

        by : (is_site i p ≡ true) ⊎ (has_site is p ≡ true) → is_number_of b i ≡ true → list_all (is_within f.sites 0) is ≡ true → p < f.sites
        by (inl q) n w = absurd (false≢true (sym (number i n) ∙ q))
        by (inr q) n w = site_within f.sites 0 is p w q

  go : (h : Head) → fits_loan f b (record { head = h; items = l.items }) ≡ true → p < f.sites
  go Function e = absurd (false≢true e)
  go Region e = absurd (false≢true e)
  go Loan e = inside l.items e s
  go Text e = absurd (false≢true e)

-- ---- a line at a place behind the first

pub written_fit : (f : Shape) (regions loans : List (List ℕ)) (ls : List Line) → length regions ≡ f.lifetimes → AreWritten f regions loans ls → AllFit f ls
written_fit f regions loans ls e w n h = subst (λ l. Fits f l n) (sym w.lines) (at n h) where
  first : fits_at f 0 (function_line f) ≡ true
  first = and_whole ((f.item == f.item) && (f.sites == f.sites)) (f.lifetimes == f.lifetimes)
      (and_whole (f.item == f.item) (f.sites == f.sites) (eq-eqb f.item f.item refl) (eq-eqb f.sites f.sites refl)) (eq-eqb f.lifetimes f.lifetimes refl)

  later : (n : ℕ) (l : Line) → fits_at f (suc n) l ≡ (if nat_le (suc n) f.lifetimes then fits_region f l else fits_loan f (get_or f.borrows (suc n - 1 - f.lifetimes) 0) l)
  later n l = ap (λ b. if b then fits_function f l else (if nat_le (suc n) f.lifetimes then fits_region f l else fits_loan f (get_or f.borrows (suc n - 1 - f.lifetimes) 0) l))
      (differs (suc n) 0 (λ e. omega (arith, e)))

  region_here : (n : ℕ) (l : Line) → suc n ≤ f.lifetimes → fits_region f l ≡ true → fits_at f (suc n) l ≡ true
  region_here n l k t = later n l
      ∙ ap (λ b. if b then fits_region f l else fits_loan f (get_or f.borrows (suc n - 1 - f.lifetimes) 0) l) (le (suc n) f.lifetimes k) ∙ t

  loan_here : (n m : ℕ) (l : Line) → f.lifetimes ≤ n → n - f.lifetimes ≡ m → fits_loan f (get_or f.borrows m 0) l ≡ true → fits_at f (suc n) l ≡ true
  loan_here n m l k q t = later n l
      ∙ ap (λ b. if b then fits_region f l else fits_loan f (get_or f.borrows (suc n - 1 - f.lifetimes) 0) l) (not_le (suc n) f.lifetimes (omega (arith, k)))
      ∙ ap (λ x. fits_loan f (get_or f.borrows x 0) l) (same k q) ∙ t where
        same : f.lifetimes ≤ n → n - f.lifetimes ≡ m → suc n - 1 - f.lifetimes ≡ m
        same k q = omega (arith, q)

  by : (n : ℕ) → (n < f.lifetimes) ⊎ (f.lifetimes ≤ n) → suc n < count f → Fits f (function_line f ∷ (w.sets ++ w.scopes)) (suc n)
  by n (inl k) h = let r = region_at f regions w.sets w.scopes w.are_sets n (omega (arith, k, e)) in (r.0, r.1, region_here n r.0 k r.2)
  by n (inr k) h = let r = loan_at f f.borrows loans w.scopes w.are_scopes (n - f.lifetimes) (omega (arith, k, h)) in
      (r.0, behind w.sets w.scopes f.lifetimes n (region_count f regions w.sets w.are_sets ∙ e) k ∙ r.1, loan_here n (n - f.lifetimes) r.0 k refl r.2)

  at : (n : ℕ) → n < count f → Fits f (function_line f ∷ (w.sets ++ w.scopes)) n
  at zero h = (function_line f, refl, first)
  at (suc n) h = by n (cases_lt n f.lifetimes) h

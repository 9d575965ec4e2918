-- Lines that are written from the rows of sets and of scopes say these.
use Rattle.std.proofs.Common.{◌≡◌, ℕ, zero, suc, ◌+◌, ◌<◌, Bool, ◌&&◌, List, [], ◌∷◌, ◌++◌, length, get_or, Option, Some, refl, sym, ap, subst, ◌∙◌, arith}
use Rattle.std.specs.Prelude.{slice_get}
use Rattle.rx_graph_bits.specs.Rows.{holds}
use Rattle.rx_region.specs.Solutions.{Sets}
use Rattle.rx_cert_lines.specs.declared.item.Item.{Item}
use Rattle.rx_cert_lines.specs.declared.line.Line.{Line}
use Rattle.rx_cert_lines.specs.Certificates.{lines_text}
use Rattle.rx_cert_tables.specs.declared.shape.Shape.{Shape}
use Rattle.rx_cert_tables.specs.Sets.{IsSetOf}
use Rattle.rx_cert_tables.specs.Written.{IsRegionLine, IsLoanLine, AreRegionLines, AreLoanLines, AreWritten}
use Rattle.rx_cert_tables.proofs.Placed.{written_fit}
use Rattle.rx_cert_tables.proofs.Tests.{lt}
use Rattle.rx_cert_sets.specs.Pushed.{IsSetLine, AreScopeItems, IsScopeLine, ArePushed}
use Rattle.rx_cert_sets.specs.Making.{IsPointRow, IsScopeRow, AllRows}

some_same : {X : Type 0} (x y : X) → ◌≡◌ {A = Option X} (Some x) (Some y) → x ≡ y
some_same x y e = cc

-- a line at a place is that of the row there
region_at : (f : Shape) (rows : List (List ℕ)) (ls : List Line) → AreRegionLines f rows ls → (n : ℕ) (l : Line) → slice_get ls n ≡ Some l
    → (n < length rows) × IsRegionLine f (get_or rows n []) l
region_at f [] [] a n l e = absurd (cc)
region_at f [] (m ∷ ms) a n l e = absurd a
region_at f (r ∷ rs) [] a n l e = absurd a
region_at f (r ∷ rs) (m ∷ ms) a zero l e = (omega arith, subst (λ (x : Line). IsRegionLine f r x) (some_same m l e) a.0)
region_at f (r ∷ rs) (m ∷ ms) a (suc n) l e = let p = region_at f rs ms a.1 n l e in (omega (arith, p.0), p.1)

loan_at : (f : Shape) (bs : List ℕ) (rows : List (List ℕ)) (ls : List Line) → AreLoanLines f bs rows ls → (n b : ℕ) (l : Line) → slice_get ls n ≡ Some l → slice_get bs n ≡ Some b
    → (n < length rows) × IsLoanLine f b (get_or rows n []) l
loan_at f [] rows ls a n b l e g = absurd (cc)
loan_at f (c ∷ cs) [] ls a n b l e g = absurd a
loan_at f (c ∷ cs) (r ∷ rs) [] a n b l e g = absurd a
loan_at f (c ∷ cs) (r ∷ rs) (m ∷ ms) a zero b l e g = (omega arith, subst (λ (x : Line). IsLoanLine f b r x) (some_same m l e) (subst (λ (x : ℕ). IsLoanLine f x r m) (some_same c b g) a.0))
loan_at f (c ∷ cs) (r ∷ rs) (m ∷ ms) a (suc n) b l e g = let p = loan_at f cs rs ms a.1 n b l e g in (omega (arith, p.0), p.1)

region_count : (f : Shape) (rows : List (List ℕ)) (ls : List Line) → AreRegionLines f rows ls → length ls ≡ length rows
region_count f [] [] a = refl
region_count f [] (l ∷ ls) a = absurd a
region_count f (r ∷ rs) [] a = absurd a
region_count f (r ∷ rs) (l ∷ ls) a = ap suc (region_count f rs ls a.1)

loan_count : (f : Shape) (bs : List ℕ) (rows : List (List ℕ)) (ls : List Line) → AreLoanLines f bs rows ls → length ls ≡ length bs
loan_count f [] rows [] a = refl
loan_count f [] rows (l ∷ ls) a = absurd a
loan_count f (b ∷ bs) [] ls a = absurd a
loan_count f (b ∷ bs) (r ∷ rs) [] a = absurd a
loan_count f (b ∷ bs) (r ∷ rs) (l ∷ ls) a = ap suc (loan_count f bs rs ls a.1)

set_says : (f : Shape) (R : Sets) (n : ℕ) (row : List ℕ) (l : Line) → IsRegionLine f row l → IsPointRow R f.sites f.own n row → IsSetLine f R n l
set_says f R n row l i r = record {
  head = i.head;
  set = i.items.set;
  fit = i.items.fit;
  sites_are = λ p h. i.items.site p ∙ ap (λ b. b && holds row p) (lt p f.sites h) ∙ r.site_held p h;
  ends_are = λ k h. i.items.end k ∙ ap (λ b. b && holds row (f.sites + k)) (lt k f.own h) ∙ r.end_held k h;
}

scope_says : (f : Shape) (S : ℕ → ℕ → Bool) (n b : ℕ) (row : List ℕ) (l : Line) → IsLoanLine f b row l → IsScopeRow S f.sites n row → IsScopeLine f S n b l
scope_says f S n b row l i r = record { head = i.head; parts = (i.items.0, i.items.1, said i.items.0 i.items.2) } where
  said : (is : List Item) → IsSetOf f.sites 0 row is → AreScopeItems f S n is
  said is s = record { set = s.set; fit = s.fit; sites_are = λ p h. s.site p ∙ ap (λ b. b && holds row p) (lt p f.sites h) ∙ r.site_held p h }

pub pushed : (f : Shape) (R : Sets) (S : ℕ → ℕ → Bool) (regions loans : List (List ℕ)) (ls : List Line) → AllRows (IsPointRow R f.sites f.own) f.lifetimes regions
    → AllRows (IsScopeRow S f.sites) (length f.borrows) loans → AreWritten f regions loans ls → ArePushed f R S ls
pushed f R S regions loans ls a b w = record {
  fits = written_fit f regions loans ls a.counted w;
  sets = w.sets;
  scopes = w.scopes;
  lines = w.lines;
  set_count = region_count f regions w.sets w.are_sets ∙ a.counted;
  are_sets = λ n l e. let p = region_at f regions w.sets w.are_sets n l e in set_says f R n (get_or regions n []) l p.1 (a.each n (subst (λ (x : ℕ). n < x) a.counted p.0));
  scope_count = loan_count f f.borrows loans w.scopes w.are_scopes;
  are_scopes = λ n c l e g. let p = loan_at f f.borrows loans w.scopes w.are_scopes n c l e g in
      scope_says f S n c (get_or loans n []) l p.1 (b.each n (subst (λ (x : ℕ). n < x) b.counted p.0));
}

-- the same of the rows as slices
pub all_said : (f : Shape) (R : Sets) (S : ℕ → ℕ → Bool) (sets scopes regions loans : List (List ℕ)) (count : ℕ) (old new : List ℕ)
    → AllRows (IsPointRow R f.sites f.own) f.lifetimes sets → AllRows (IsScopeRow S f.sites) count scopes → count ≡ length f.borrows → regions ≡ sets → loans ≡ scopes
    → ((ls : List Line) × AreWritten f regions loans ls × (new ≡ old ++ lines_text ls)) → (ls : List Line) × ArePushed f R S ls × (new ≡ old ++ lines_text ls)
all_said f R S sets scopes regions loans count old new a b n e g w = (
  w.0,
  pushed f R S regions loans w.0 (subst (λ (rs : List (List ℕ)). AllRows (IsPointRow R f.sites f.own) f.lifetimes rs) (sym e) a)
      (subst (λ (rs : List (List ℕ)). AllRows (IsScopeRow S f.sites) (length f.borrows) rs) (sym g) (subst (λ (k : ℕ). AllRows (IsScopeRow S f.sites) k scopes) n b)) w.1,
  w.2,
)

-- The items of a row: runs of held sites, and then end points, one after another, make a set.
use Rattle.std.proofs.Common.{◌≡◌, ◌⊎◌, inl, inr, ℕ, suc, ◌+◌, ◌-◌, ◌<◌, ◌≤◌, Bool, true, false, ◌&&◌, ◌||◌, ◌==◌, List, [], ◌∷◌, ◌++◌, refl, sym, ap, subst, ◌∙◌, arith}
use Rattle.std.specs.Prelude.{nat_lt, nat_le, if◌then◌else◌}
use Rattle.std.specs.List.{list_all}
use Rattle.std.proofs.lemmas.Bool.{cases_eq, cases_lt, eq-eqb, false≢true}
use Rattle.rx_graph_bits.specs.Rows.{holds}
use Rattle.rx_cert_lines.specs.declared.item.Item.{Item}
use Rattle.rx_cert_lines.specs.declared.item.Item.TheVariants.{Number, Range, End}
use Rattle.rx_cert_lines.specs.Items.{Small, Fits, AllFit}
use Rattle.rx_cert_lines.specs.Lines.{is_range, is_part, precedes, precedes_first, is_set}
use Rattle.rx_cert_tables.specs.Sets.{is_site, is_end, has_site, has_end, IsSetOf}
use Rattle.rx_cert_tables.specs.Filling.{IsRun, SitesOf}
use Rattle.rx_cert_tables.proofs.Tests.{or_none, and_none, and_parts, and_whole, or_right, or_left, differs, between, below, above, le, lt, not_lt, from_le, from_lt}

-- ---- one item more

has_site_more : (is : List Item) (i : Item) (p : ℕ) → has_site (is ++ i ∷ []) p ≡ (has_site is p || is_site i p)
has_site_more [] i p = or_none (is_site i p)
has_site_more (j ∷ js) i p = ap (λ b. is_site j p || b) (has_site_more js i p) ∙ assoc (is_site j p) (has_site js p) (is_site i p) where
  assoc : (a b c : Bool) → (a || (b || c)) ≡ ((a || b) || c)
  assoc true b c = refl
  assoc false b c = refl

has_end_more : (is : List Item) (i : Item) (k : ℕ) → has_end (is ++ i ∷ []) k ≡ (has_end is k || is_end i k)
has_end_more [] i k = or_none (is_end i k)
has_end_more (j ∷ js) i k = ap (λ b. is_end j k || b) (has_end_more js i k) ∙ assoc (is_end j k) (has_end js k) (is_end i k) where
  assoc : (a b c : Bool) → (a || (b || c)) ≡ ((a || b) || c)
  assoc true b c = refl
  assoc false b c = refl

all_fit_more : (is : List Item) (i : Item) → AllFit is → Fits i → AllFit (is ++ i ∷ [])
all_fit_more [] i a f = (f, tt)
all_fit_more (j ∷ js) i a f = (a.0, all_fit_more js i a.1 f)

all_ranges_more : (is : List Item) (a b : ℕ) → list_all is_range is ≡ true → list_all is_range (is ++ Range a b ∷ []) ≡ true
all_ranges_more [] a b h = refl
all_ranges_more (j ∷ js) a b h = let p = and_parts (is_range j) (list_all is_range js) h in
    and_whole (is_range j) (list_all is_range (js ++ Range a b ∷ [])) p.0 (all_ranges_more js a b p.1)

-- a set's part, what follows it, and the rest
record Cut (i : Item) (is : List Item) : Type 0 where
  part : is_part i ≡ true
  first : precedes_first i is ≡ true
  rest : is_set is ≡ true

cut : (i : Item) (is : List Item) → is_set (i ∷ is) ≡ true → Cut i is
cut i is h = let p = and_parts (is_part i && precedes_first i is) (is_set is) h in let q = and_parts (is_part i) (precedes_first i is) p.0 in
    record { part = q.0; first = q.1; rest = p.1 }

joined : (i : Item) (is : List Item) → is_part i ≡ true → precedes_first i is ≡ true → is_set is ≡ true → is_set (i ∷ is) ≡ true
joined i is a b c = and_whole (is_part i && precedes_first i is) (is_set is) (and_whole (is_part i) (precedes_first i is) a b) c

-- a part whose items may all stand before it makes the set longer
module _ (new : Item) (part : is_part new ≡ true) where
  set_more : (is : List Item) → ((i : Item) (js : List Item) → is_part i ≡ true → (ks : List Item) → is ≡ js ++ i ∷ ks → precedes i new ≡ true) → is_set is ≡ true
      → is_set (is ++ new ∷ []) ≡ true
  set_more [] before h = joined new [] part refl refl
  set_more (i ∷ []) before h = let c = cut i [] h in joined i (new ∷ []) c.part (before i [] c.part [] refl) (joined new [] part refl refl)
  set_more (i ∷ (j ∷ is)) before h = let c = cut i (j ∷ is) h in
      joined i (j ∷ (is ++ new ∷ [])) c.part c.first (set_more (j ∷ is) (λ k js q ks e. before k (i ∷ js) q ks (ap (λ x. i ∷ x) e)) c.rest)

has_there : (js ks : List Item) (i : Item) (p : ℕ) → is_site i p ≡ true → has_site (js ++ i ∷ ks) p ≡ true
has_there [] ks i p h = or_left (is_site i p) (has_site ks p) h
has_there (j ∷ js) ks i p h = or_right (is_site j p) (has_site (js ++ i ∷ ks) p) (has_there js ks i p h)

end_there : (js ks : List Item) (i : Item) (k : ℕ) → is_end i k ≡ true → has_end (js ++ i ∷ ks) k ≡ true
end_there [] ks i k h = or_left (is_end i k) (has_end ks k) h
end_there (j ∷ js) ks i k h = or_right (is_end j k) (has_end (js ++ i ∷ ks) k) (end_there js ks i k h)

-- a range behind sites that it doesn't touch
range_more : (is : List Item) (a b : ℕ) → a ≤ b → ((p : ℕ) → has_site is p ≡ true → p + 1 < a) → ((k : ℕ) → has_end is k ≡ false) → is_set is ≡ true
    → is_set (is ++ Range a b ∷ []) ≡ true
range_more is a b h apart none_end s = set_more (Range a b) (le a b h) is before s where
  before : (i : Item) (js : List Item) → is_part i ≡ true → (ks : List Item) → is ≡ js ++ i ∷ ks → precedes i (Range a b) ≡ true
  before (Number n) js q ks e = absurd (false≢true q)
  before (Range c d) js q ks e =
      lt (d + 1) a (apart d (ap (λ l. has_site l d) e ∙ has_there js ks (Range c d) d (between c d d (from_le c d q) (omega arith))))
  before (End n) js q ks e = absurd (false≢true (sym (none_end n) ∙ ap (λ l. has_end l n) e ∙ end_there js ks (End n) n (eq-eqb n n refl)))

-- an end point behind smaller ones
end_more : (is : List Item) (k : ℕ) → ((m : ℕ) → has_end is m ≡ true → m < k) → is_set is ≡ true → is_set (is ++ End k ∷ []) ≡ true
end_more is k apart s = set_more (End k) refl is before s where
  before : (i : Item) (js : List Item) → is_part i ≡ true → (ks : List Item) → is ≡ js ++ i ∷ ks → precedes i (End k) ≡ true
  before (Number n) js q ks e = absurd (false≢true q)
  before (Range c d) js q ks e = refl
  before (End n) js q ks e = lt n k (apart n (ap (λ l. has_end l n) e ∙ end_there js ks (End n) n (eq-eqb n n refl)))

-- ---- the run from a held site on

pub record HeldTo (row : List ℕ) (first end sites : ℕ) : Type 0 where
  pub after : first < end
  pub within : end ≤ sites
  pub held : (p : ℕ) → first ≤ p → p < end → holds row p ≡ true

pub held_one : (row : List ℕ) (first sites : ℕ) → first < sites → holds row first ≡ true → HeldTo row first (first + 1) sites
held_one row first sites h k = record { after = omega arith; within = omega (arith, h); held = λ p i j. ap (holds row) (same p i j) ∙ k } where
  same : (p : ℕ) → first ≤ p → p < first + 1 → p ≡ first
  same p i j = omega (arith, i, j)

pub held_more : (row : List ℕ) (first end sites : ℕ) → HeldTo row first end sites → end < sites → holds row end ≡ true → HeldTo row first (end + 1) sites
held_more row first end sites r h k = record { after = omega (arith, r.after); within = omega (arith, h); held = λ p i j. at p i j (cases_eq p end) } where
  at : (p : ℕ) → first ≤ p → p < end + 1 → (p ≡ end) ⊎ (p ≡ end → ⊥) → holds row p ≡ true
  at p i j (inl e) = ap (holds row) e ∙ k
  at p i j (inr e) = r.held p i (omega (arith, j, e))

pub run_ends : (row : List ℕ) (first end sites : ℕ) → HeldTo row first end sites → (end < sites → holds row end ≡ false) → IsRun row first end sites
run_ends row first end sites r s = record { after = r.after; within = r.within; held = r.held; stops = s }

-- ---- the runs so far

pub record RunsTo (row : List ℕ) (sites : ℕ) (is : List Item) (at : ℕ) : Type 0 where
  pub set : is_set is ≡ true
  pub fit : AllFit is
  pub site : (p : ℕ) → has_site is p ≡ (nat_lt p at && holds row p)
  pub end : (k : ℕ) → has_end is k ≡ false
  -- where the next site is held, the one before it is not
  pub fresh : (q : ℕ) → suc q ≡ at → at < sites → holds row at ≡ true → holds row q ≡ false
  pub within : at ≤ sites

pub no_runs : (row : List ℕ) (sites : ℕ) → RunsTo row sites [] 0
no_runs row sites = record {
  set = refl;
  fit = tt;
  site = λ p. ap (λ b. b && holds row p) (sym (not_lt p 0 (omega arith)));
  end = λ k. refl;
  fresh = λ q e h k. absurd (omega (arith, e));
  within = omega arith;
}

pub passed : (row : List ℕ) (sites : ℕ) (is : List Item) (at next : ℕ) → next ≡ at + 1 → at < sites → holds row at ≡ false → RunsTo row sites is at → RunsTo row sites is next
passed row sites is at next e h o r = record {
  set = r.set;
  fit = r.fit;
  site = λ p. r.site p ∙ same p (cases_eq p at);
  end = r.end;
  fresh = λ q f k l. ap (holds row) (before q f) ∙ o;
  within = omega (arith, h, e);
} where
  before : (q : ℕ) → suc q ≡ next → q ≡ at
  before q f = omega (arith, f, e)

  same : (p : ℕ) → (p ≡ at) ⊎ (p ≡ at → ⊥) → (nat_lt p at && holds row p) ≡ (nat_lt p next && holds row p)
  same p (inl q) = let f : holds row p ≡ false = ap (holds row) q ∙ o in
      ap (λ b. nat_lt p at && b) f ∙ and_none (nat_lt p at) ∙ sym (ap (λ b. nat_lt p next && b) f ∙ and_none (nat_lt p next))
  same p (inr q) = ap (λ b. b && holds row p) (by (cases_lt p at)) where
    by : (p < at) ⊎ (at ≤ p) → nat_lt p at ≡ nat_lt p next
    by (inl k) = lt p at k ∙ sym (lt p next (omega (arith, k, e)))
    by (inr k) = not_lt p at k ∙ sym (not_lt p next (omega (arith, k, e, q)))

pub run_more : (row : List ℕ) (sites : ℕ) (is : List Item) (at end last : ℕ) → Small sites → last ≡ end - 1 → holds row at ≡ true → RunsTo row sites is at
    → IsRun row at end sites → RunsTo row sites (is ++ Range at last ∷ []) end
run_more row sites is at end last small e h r n = record {
  set = range_more is at last (omega (arith, e, n.after)) (λ p f. apart p f (cases_eq (suc p) at)) r.end r.set;
  fit = all_fit_more is (Range at last) r.fit (omega (arith, small, n.after, n.within), omega (arith, small, e, n.after, n.within));
  site = λ p. has_site_more is (Range at last) p ∙ ap (λ b. b || is_site (Range at last) p) (r.site p) ∙ same p (cases_lt p at) (cases_lt p end);
  end = λ k. has_end_more is (Range at last) k ∙ or_none (has_end is k) ∙ r.end k;
  fresh = λ q f k l. absurd (false≢true (sym (n.stops k) ∙ l));
  within = n.within;
} where
  apart : (p : ℕ) → has_site is p ≡ true → (suc p ≡ at) ⊎ (suc p ≡ at → ⊥) → p + 1 < at
  apart p f (inl q) = let both = and_parts (nat_lt p at) (holds row p) (sym (r.site p) ∙ f) in
      absurd (false≢true (sym (r.fresh p q (omega (arith, n.after, n.within)) h) ∙ both.1))
  apart p f (inr q) = let both = and_parts (nat_lt p at) (holds row p) (sym (r.site p) ∙ f) in
      let k = from_lt p at both.0 in omega (arith, k, q)

  same : (p : ℕ) → (p < at) ⊎ (at ≤ p) → (p < end) ⊎ (end ≤ p)
      → ((nat_lt p at && holds row p) || (nat_le at p && nat_le p last)) ≡ (nat_lt p end && holds row p)
  same p (inl k) j = ap (λ b. (nat_lt p at && holds row p) || b) (below at p last k) ∙ or_none (nat_lt p at && holds row p)
      ∙ ap (λ b. b && holds row p) (lt p at k ∙ sym (lt p end (omega (arith, k, n.after))))
  same p (inr k) (inl j) = ap (λ b. (b && holds row p) || (nat_le at p && nat_le p last)) (not_lt p at k) ∙ between at p last k (omega (arith, j, e))
      ∙ sym (and_whole (nat_lt p end) (holds row p) (lt p end j) (n.held p k j))
  same p (inr k) (inr j) = ap (λ b. (b && holds row p) || (nat_le at p && nat_le p last)) (not_lt p at k) ∙ above at p last (omega (arith, j, e, n.after))
      ∙ ap (λ b. b && holds row p) (sym (not_lt p end j))

pub all_runs : (row : List ℕ) (sites : ℕ) (is : List Item) (at : ℕ) → sites ≤ at → RunsTo row sites is at → SitesOf row sites is
all_runs row sites is at h r = let e : at ≡ sites = omega (arith, h, r.within) in
    record { set = r.set; fit = r.fit; site = λ p. r.site p ∙ ap (λ n. nat_lt p n && holds row p) e; end = r.end }

-- ---- end points behind them

pub record EndsTo (row : List ℕ) (sites : ℕ) (is : List Item) (n : ℕ) : Type 0 where
  pub set : is_set is ≡ true
  pub fit : AllFit is
  pub site : (p : ℕ) → has_site is p ≡ (nat_lt p sites && holds row p)
  pub end : (k : ℕ) → has_end is k ≡ (nat_lt k n && holds row (sites + k))

pub no_ends : (row : List ℕ) (sites : ℕ) (is : List Item) → SitesOf row sites is → EndsTo row sites is 0
no_ends row sites is s = record { set = s.set; fit = s.fit; site = s.site; end = λ k. s.end k ∙ ap (λ b. b && holds row (sites + k)) (sym (not_lt k 0 (omega arith))) }

-- the tests at the next end point
module _ (row : List ℕ) (sites n next : ℕ) (e : next ≡ n + 1) where
  up_to : (k : ℕ) → (k ≡ n → ⊥) → nat_lt k n ≡ nat_lt k next
  up_to k q = by (cases_lt k n) where
    by : (k < n) ⊎ (n ≤ k) → nat_lt k n ≡ nat_lt k next
    by (inl j) = lt k n j ∙ sym (lt k next (omega (arith, j, e)))
    by (inr j) = not_lt k n j ∙ sym (not_lt k next (omega (arith, j, e, q)))

  pub end_passed : (is : List Item) → holds row (sites + n) ≡ false → EndsTo row sites is n → EndsTo row sites is next
  end_passed is o s = record { set = s.set; fit = s.fit; site = s.site; end = λ k. s.end k ∙ same k (cases_eq k n) } where
    same : (k : ℕ) → (k ≡ n) ⊎ (k ≡ n → ⊥) → (nat_lt k n && holds row (sites + k)) ≡ (nat_lt k next && holds row (sites + k))
    same k (inl q) = let f : holds row (sites + k) ≡ false = ap (λ x. holds row (sites + x)) q ∙ o in
        ap (λ b. nat_lt k n && b) f ∙ and_none (nat_lt k n) ∙ sym (ap (λ b. nat_lt k next && b) f ∙ and_none (nat_lt k next))
    same k (inr q) = ap (λ b. b && holds row (sites + k)) (up_to k q)

  pub end_held : (is : List Item) → Small n → holds row (sites + n) ≡ true → EndsTo row sites is n → EndsTo row sites (is ++ End n ∷ []) next
  end_held is small h s = record {
    set = end_more is n (λ m f. from_lt m n (and_parts (nat_lt m n) (holds row (sites + m)) (sym (s.end m) ∙ f)).0) s.set;
    fit = all_fit_more is (End n) s.fit small;
    site = λ p. has_site_more is (End n) p ∙ or_none (has_site is p) ∙ s.site p;
    end = λ k. has_end_more is (End n) k ∙ ap (λ b. b || (k == n)) (s.end k) ∙ same k (cases_eq k n);
  } where
    same : (k : ℕ) → (k ≡ n) ⊎ (k ≡ n → ⊥) → ((nat_lt k n && holds row (sites + k)) || (k == n)) ≡ (nat_lt k next && holds row (sites + k))
    same k (inl q) = or_right (nat_lt k n && holds row (sites + k)) (k == n) (eq-eqb k n q)
        ∙ sym (and_whole (nat_lt k next) (holds row (sites + k)) (lt k next (omega (arith, q, e))) (ap (λ x. holds row (sites + x)) q ∙ h))
    same k (inr q) = ap (λ b. (nat_lt k n && holds row (sites + k)) || b) (differs k n q) ∙ or_none (nat_lt k n && holds row (sites + k))
        ∙ ap (λ b. b && holds row (sites + k)) (up_to k q)

  pub end_told : (is new : List Item) (held : Bool) → Small n → held ≡ holds row (sites + n) → new ≡ (if held then is ++ End n ∷ [] else is) → EndsTo row sites is n
      → EndsTo row sites new next
  end_told is new true small h e s = subst (λ (js : List Item). EndsTo row sites js next) (sym e) (end_held is small (sym h) s)
  end_told is new false small h e s = subst (λ (js : List Item). EndsTo row sites js next) (sym e) (end_passed is (sym h) s)

pub all_ends : (row : List ℕ) (sites own : ℕ) (is : List Item) (n : ℕ) → n ≡ own → EndsTo row sites is n → IsSetOf sites own row is
all_ends row sites own is n e s = record { set = s.set; fit = s.fit; site = s.site; end = λ k. s.end k ∙ ap (λ m. nat_lt k m && holds row (sites + k)) e }

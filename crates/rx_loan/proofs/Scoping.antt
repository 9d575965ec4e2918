-- Where a loan is in scope, by rows of bits.
use Rattle.std.proofs.Common.{◌≡◌, ◌⊎◌, inl, inr, ◌↔◌, ℕ, zero, suc, ◌+◌, ◌*◌, ◌<◌, ◌≤◌, Bool, true, false, ◌&&◌, ◌||◌, ◌==◌, List, [], ◌∷◌, ◌++◌, map, length, get_or, slice_get, Option, Some, None, refl, ap, sym, ◌∙◌, subst, arith, true≢false}
use Rattle.std.proofs.lemmas.Bool.{cases_eq, eq-eqb}
use Rattle.std.proofs.lemmas.List.{length-append, length-map, get_or_append_left}
use Rattle.std.proofs.lemmas.Nat.Bits.{bit_at-zero}
use Rattle.std.proofs.Math.Seq.{get_or-append_seam}
use Rattle.rx_typed.specs.Tree.{Place}
use Rattle.rx_graph_bits.specs.Rows.{holds}
use Rattle.rx_graph.specs.Tables.{at}
use Rattle.rx_graph.proofs.Spreading.{different}
use Rattle.rx_lower_walks.specs.Graph.{Site, site_at}
use Rattle.rx_facts_tables.specs.Along.{edges_of}
use Rattle.rx_graph_reach.specs.Reached.{Reached, next, further}
use Rattle.rx_graph_reach.proofs.Seeing.{leads_within}
use Rattle.rx_loan.specs.declared.accesses.Loan as code
use Rattle.rx_loan.specs.PlainOf.{plain-Loan}
use Rattle.rx_loan.specs.Accesses.{Loan}
use Rattle.rx_loan.specs.Loans.{ends_at, InScope}
use Rattle.rx_loan.specs.Tables.{Stops, Marks, Scopes, AllScoped}

-- ---- the sites that end loans of a place

pub record Stopping (g : List Site) (q : Place) (row : List ℕ) (k : ℕ) : Type 0 where
  pub wide : length g ≤ 64 * length row
  pub done : (p : ℕ) → p < k → p < length g → holds row p ≡ ends_at (site_at g p) q
  pub none : (p : ℕ) → k ≤ p → p < length g → holds row p ≡ false

pub nothing_stops : (g : List Site) (q : Place) (ws : List ℕ) → length g ≤ 64 * length ws → ((i : ℕ) → holds ws i ≡ false) → Stopping g q ws 0
nothing_stops g q ws wide none = record { wide = wide; done = λ p h w. absurd (omega (arith, h)); none = λ p h w. none p }

no_more : (b : Bool) → ((b && false) || false) ≡ false
no_more true = refl
no_more false = refl

kept : (b c : Bool) → ((b && false) || c) ≡ c
kept true c = refl
kept false c = refl

only : (b : Bool) → ((b && true) || false) ≡ b
only true = refl
only false = refl

pub stops_next : (g : List Site) (q : Place) (old new : List ℕ) (k : ℕ) (b : Bool) (s : Site) → k < length g → site_at g k ≡ Some s → b ≡ ends_at (Some s) q
    → Marks old new k b → Stopping g q old k → Stopping g q new (k + 1)
stops_next g q old new k b s within here is marks before = record {
  wide = subst (λ n. length g ≤ 64 * n) (sym marks.0) before.wide;
  done = λ p h w. earlier p w (cases_eq p k) (λ f. before.done p (omega (arith, h, f)) w);
  none = λ p h w. marks.1 p (omega (arith, w, before.wide)) ∙ ap (λ c. (b && c) || holds old p) (different p k (λ f. omega (arith, f, h)))
      ∙ ap (λ c. (b && false) || c) (before.none p (omega (arith, h)) w) ∙ no_more b;
} where
  earlier : (p : ℕ) → p < length g → (p ≡ k) ⊎ (p ≡ k → ⊥) → ((p ≡ k → ⊥) → holds old p ≡ ends_at (site_at g p) q) → holds new p ≡ ends_at (site_at g p) q
  earlier p w (inl e) f = marks.1 p (omega (arith, w, before.wide)) ∙ ap (λ c. (b && c) || holds old p) (eq-eqb p k e)
      ∙ ap (λ c. (b && true) || c) (before.none p (omega (arith, e)) w) ∙ only b ∙ is ∙ ap (λ (o : Option Site). ends_at o q) (sym here) ∙ ap (λ n. ends_at (site_at g n) q) (sym e)
  earlier p w (inr e) f = marks.1 p (omega (arith, w, before.wide)) ∙ ap (λ c. (b && c) || holds old p) (different p k e) ∙ kept b (holds old p) ∙ f e

pub stops_done : (g : List Site) (q : Place) (row : List ℕ) (k : ℕ) → length g ≤ k → Stopping g q row k → Stops g q row
stops_done g q row k past before p w = before.done p (omega (arith, w, past)) w

-- ---- one loan

pub length_edges : (g : List Site) → length (edges_of g) ≡ length g
length_edges g = length-map g (λ (s : Site). s.next)

other_stops : (edges : List (List ℕ)) (inside stops others : ℕ → Bool) (first p : ℕ) → ((q : ℕ) → q < length edges → stops q ≡ others q)
    → Reached edges inside stops first p → Reached edges inside others first p
other_stops edges inside stops others first p same (next t i) = next t i
other_stops edges inside stops others first p same (further q r e t i) =
    further q (other_stops edges inside stops others first q same r) (sym (same q (leads_within edges q p t)) ∙ e) t i

pub scoped : (g : List Site) (R : ℕ → ℕ → Bool) (l : Loan) (edges : List (List ℕ)) (inside stops row : List ℕ) → edges ≡ edges_of g
    → ((p : ℕ) → R l.region p ≡ holds inside p) → Stops g l.place stops
    → ((p : ℕ) → p < length edges → (holds row p ≡ true) ↔ Reached edges (holds inside) (holds stops) l.site p) → Scopes g R l row
scoped g R l edges inside stops row is same ends found p w = (λ h. there (both.0 h), λ r. both.1 (back r)) where
  within : p < length edges
  within = subst (λ n. p < n) (sym (ap length is ∙ length_edges g)) w

  both : (holds row p ≡ true) ↔ Reached edges (holds inside) (holds stops) l.site p
  both = found p within

  small : (q : ℕ) → q < length edges → q < length g
  small q h = subst (λ n. q < n) (ap length is ∙ length_edges g) h

  inside_there : (h : ℕ → Bool) (q : ℕ) → Reached edges (holds inside) h l.site q → Reached edges (R l.region) h l.site q
  inside_there h q (next t i) = next t (same q ∙ i)
  inside_there h q (further r s n t i) = further r (inside_there h r s) n t (same q ∙ i)

  inside_back : (h : ℕ → Bool) (q : ℕ) → Reached edges (R l.region) h l.site q → Reached edges (holds inside) h l.site q
  inside_back h q (next t i) = next t (sym (same q) ∙ i)
  inside_back h q (further r s n t i) = further r (inside_back h r s) n t (sym (same q) ∙ i)

  there : Reached edges (holds inside) (holds stops) l.site p → InScope g R l p
  there r = subst (λ es. Reached es (R l.region) (λ q. ends_at (site_at g q) l.place) l.site p) is
      (other_stops edges (R l.region) (holds stops) (λ q. ends_at (site_at g q) l.place) l.site p (λ q h. ends q (small q h)) (inside_there (holds stops) p r))

  back : InScope g R l p → Reached edges (holds inside) (holds stops) l.site p
  back r = inside_back (holds stops) p (other_stops edges (R l.region) (λ q. ends_at (site_at g q) l.place) (holds stops) l.site p (λ q h. sym (ends q (small q h)))
      (subst (λ es. Reached es (R l.region) (λ q. ends_at (site_at g q) l.place) l.site p) (sym is) r))

-- a lifetime without a row has no site
pub never : (g : List Site) (regions : List (List ℕ)) (l : Loan) (row : List ℕ) → length regions ≤ l.region → ((i : ℕ) → holds row i ≡ false) → Scopes g (at regions) l row
never g regions l row past none p w = (λ h. absurd (true≢false (sym h ∙ none p)), λ r. absurd (nowhere r)) where
  no_row : (rs : List (List ℕ)) (n : ℕ) → length rs ≤ n → get_or rs n [] ≡ []
  no_row [] n h = refl
  no_row (r ∷ rs) zero h = absurd (omega (arith, h))
  no_row (r ∷ rs) (suc n) h = no_row rs n (omega (arith, h))

  nothing : (q : ℕ) → at regions l.region q ≡ false
  nothing q = ap (λ r. holds r q) (no_row regions l.region past) ∙ ap (λ n. n == 1) (bit_at-zero _)

  nowhere : InScope g (at regions) l p → ⊥
  nowhere (next t i) = true≢false (sym i ∙ nothing p)
  nowhere (further r s e t i) = true≢false (sym i ∙ nothing p)

-- the row of a lifetime that has one
pub row_there : (regions : List (List ℕ)) (n : ℕ) (r : List ℕ) → slice_get regions n ≡ Some r → (p : ℕ) → at regions n p ≡ holds r p
row_there [] n r h p = absurd (none h) where
  none : None ≡ Some r → ⊥
  none e = subst (λ (o : Option (List ℕ)). is_none o) e tt where
    is_none : Option (List ℕ) → Type 0
    is_none None = Unit {0}
    is_none (Some _) = ⊥
row_there (x ∷ regions) zero r h p = ap (λ (o : Option (List ℕ)). holds (some_of o) p) h where
  some_of : Option (List ℕ) → List ℕ
  some_of None = []
  some_of (Some y) = y
row_there (x ∷ regions) (suc n) r h p = row_there regions n r h p

-- ---- all loans

pub none_scoped : (g : List Site) (R : ℕ → ℕ → Bool) (ls : List Loan) → AllScoped g R ls [] 0
none_scoped g R ls = record { count = refl; each = λ i l h. absurd (omega (arith, h)) }

same_loan : (ls : List Loan) (k : ℕ) (l m : Loan) → slice_get ls k ≡ Some l → slice_get ls k ≡ Some m → l ≡ m
same_loan ls k l m h i = ap (λ (o : Option Loan). some_of o) (sym h ∙ i) where
  some_of : Option Loan → Loan
  some_of None = l
  some_of (Some y) = y

pub loan_there : (ls : List code.Loan) (k : ℕ) (l : code.Loan) → k < length ls → l ≡ get_or ls k l → slice_get (map plain-Loan ls) k ≡ Some (plain-Loan l)
loan_there [] k l h e = absurd (omega (arith, h))
loan_there (m ∷ ls) zero l h e = ap (λ x. Some (plain-Loan x)) (sym e)
loan_there (m ∷ ls) (suc k) l h e = loan_there ls k l (omega (arith, h)) e

pub scoped_next : (g : List Site) (R : ℕ → ℕ → Bool) (ls : List Loan) (rows : List (List ℕ)) (k : ℕ) (l : Loan) (row : List ℕ) → slice_get ls k ≡ Some l
    → Scopes g R l row → AllScoped g R ls rows k → AllScoped g R ls (rows ++ row ∷ []) (k + 1)
scoped_next g R ls rows k l row here scopes before = record {
  count = length-append rows (row ∷ []) ∙ ap (λ n. n + 1) before.count;
  each = λ i m h at_i. one i m h at_i (cases_eq i k);
} where
  one : (i : ℕ) (m : Loan) → i < k + 1 → slice_get ls i ≡ Some m → (i ≡ k) ⊎ (i ≡ k → ⊥) → Scopes g R m (get_or (rows ++ row ∷ []) i [])
  one i m h at_i (inl e) = subst (λ r. Scopes g R m r) (sym (ap (λ n. get_or (rows ++ row ∷ []) n []) (e ∙ sym before.count) ∙ get_or-append_seam rows row [] []))
      (subst (λ x. Scopes g R x row) (same_loan ls k l m here (subst (λ n. slice_get ls n ≡ Some m) e at_i)) scopes)
  one i m h at_i (inr e) = subst (λ r. Scopes g R m r) (sym (get_or_append_left rows (row ∷ []) [] i (omega (arith, h, e, before.count)))) (before.each i m (omega (arith, h, e)) at_i)

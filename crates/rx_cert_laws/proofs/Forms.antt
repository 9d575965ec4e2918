-- The lines that are written of a function are lines of a certificate.
use Rattle.std.proofs.Common.{◌≡◌, ℕ, zero, suc, ◌+◌, ◌-◌, ◌<◌, ◌≤◌, Bool, true, false, ◌==◌, nat_lt, nat_le, if◌then◌else◌, List, [], ◌∷◌, ◌++◌, length, map, get_or, Option, Some, slice_get, refl, ap, sym, ◌∙◌, subst, arith, true≢false}
use Rattle.std.specs.List.{list_all}
use Rattle.std.proofs.lemmas.Bool.{ltb-true, leb-true}
use Rattle.rx_graph.proofs.Spreading.{different}
use Rattle.rx_typed.specs.Tree.{Place}
use Rattle.rx_lower_walks.specs.Actions.{Act, Declare, Dead, Read, Write, Borrow, Test, Call, Build, Input, Print, Give}
use Rattle.rx_lower_walks.specs.Graph.{Site}
use Rattle.rx_lower_lifetimes.specs.Numbered.{Own, none, region, signed}
use Rattle.rx_loan.specs.Accesses.{Loan}
use Rattle.rx_loan.specs.Loans.{borrow_loan, loan_at, loans_from, loans_of}
use Rattle.rx_region.specs.Solutions.{Sets}
use Rattle.rx_cert_lines.specs.declared.item.Item.{Item}
use Rattle.rx_cert_lines.specs.declared.item.Item.TheVariants.{Number, Range, End}
use Rattle.rx_cert_lines.specs.declared.line.Head.{Head}
use Rattle.rx_cert_lines.specs.declared.line.Head.TheVariants as head
use Rattle.rx_cert_lines.specs.declared.line.Line.{Line}
use Rattle.rx_cert_lines.specs.Items.{Small}
use Rattle.rx_cert_lines.specs.Items as items
use Rattle.rx_cert_lines.specs.Lines.{is_range, is_set, is_form}
use Rattle.rx_cert_lines.specs.Certificates.{IsFront, AreFront}
use Rattle.rx_cert_tables.specs.declared.shape.Shape.{Shape}
use Rattle.rx_cert_tables.specs.Fitting.{is_within, is_number_of, is_loan_of, fits_function, fits_region, fits_loan, fits_at, AllFit}
use Rattle.rx_cert_tables.specs.Written.{function_line}
use Rattle.rx_cert_tables.proofs.Tests.{and_parts, and_whole}
use Rattle.rx_cert_sets.specs.Pushed.{ArePushed, IsSetLine, IsScopeLine}
use Rattle.rx_cert_laws.proofs.Lists.{some_there}

-- ---- lines one after another

pub front_both : (xs ys : List Line) → AreFront xs → AreFront ys → AreFront (xs ++ ys)
front_both [] ys h g = g
front_both (x ∷ xs) ys h g = (h.0, front_both xs ys h.1 g)

each_front : (xs : List Line) → ((n : ℕ) (l : Line) → slice_get xs n ≡ Some l → IsFront l) → AreFront xs
each_front [] h = tt
each_front (x ∷ xs) h = (h 0 x refl, each_front xs (λ n l e. h (suc n) l e))

behind_there : (xs ys : List Line) (k n : ℕ) → length xs ≡ k → slice_get (xs ++ ys) (k + n) ≡ slice_get ys n
behind_there [] ys k n e = let z : k + n ≡ n = omega (arith, e) in ap (λ m. slice_get ys m) z
behind_there (x ∷ xs) ys zero n e = absurd (omega (arith, e))
behind_there (x ∷ xs) ys (suc k) n e = let z : suc k + n ≡ suc (k + n) = omega arith in
    ap (λ m. slice_get (x ∷ (xs ++ ys)) m) z ∙ behind_there xs ys k n (omega (arith, e))

-- ---- each line

function_front : (f : Shape) → Small f.item → Small f.sites → Small f.lifetimes → IsFront (function_line f)
function_front f item sites lifetimes = record {
  line = record { form = refl; fit = (item, (sites, (lifetimes, tt))) };
  front = λ e. absurd (cc);
}

set_front : (f : Shape) (R : Sets) (n : ℕ) (l : Line) → IsSetLine f R n l → IsFront l
set_front f R n l s = record {
  line = record { form = ap (λ h. is_form h l.items) s.head ∙ s.set; fit = s.fit };
  front = λ e. let x : head.Region ≡ head.Text = sym s.head ∙ e in absurd (cc);
}

-- what a loan's line holds behind its borrow are ranges
ranges_alone : (sites : ℕ) (is : List Item) → list_all (is_within sites 0) is ≡ true → list_all is_range is ≡ true
ranges_alone sites [] h = refl
ranges_alone sites (Number n ∷ is) h = absurd (true≢false (sym h))
ranges_alone sites (Range a b ∷ is) h = ranges_alone sites is (and_parts (is_within sites 0 (Range a b)) (list_all (is_within sites 0) is) h).1
ranges_alone sites (End n ∷ is) h = let less = ltb-true n 0 (and_parts (nat_lt n 0) (list_all (is_within sites 0) is) h).0 in absurd (omega (arith, less))

loan_ranges : (f : Shape) (b : ℕ) (l : Line) → fits_loan f b l ≡ true → (c : ℕ) (is : List Item) → l.items ≡ Number c ∷ is → list_all is_range is ≡ true
loan_ranges f b l h c is e = go l.head h where
  go : (t : Head) → fits_loan f b (record { head = t; items = l.items }) ≡ true → list_all is_range is ≡ true
  go head.Function x = absurd (true≢false (sym x))
  go head.Region x = absurd (true≢false (sym x))
  go head.Loan x = ranges_alone f.sites is
      (and_parts (is_number_of b (Number c)) (list_all (is_within f.sites 0) is) (ap (λ (js : List Item). is_loan_of b f.sites js) (sym e) ∙ x)).1
  go head.Text x = absurd (true≢false (sym x))

-- the line of a loan, by its place
loan_at_place : (f : Shape) (n : ℕ) (l : Line) → fits_at f (1 + (f.lifetimes + n)) l ≡ true
    → fits_loan f (get_or f.borrows (1 + (f.lifetimes + n) - 1 - f.lifetimes) 0) l ≡ true
loan_at_place f n l e = go (nat_le (1 + (f.lifetimes + n)) f.lifetimes) refl (later (different (1 + (f.lifetimes + n)) 0 (λ z. omega (arith, z))) e) where
  later : (1 + (f.lifetimes + n) == 0) ≡ false → fits_at f (1 + (f.lifetimes + n)) l ≡ true
      → (if nat_le (1 + (f.lifetimes + n)) f.lifetimes then fits_region f l else fits_loan f (get_or f.borrows (1 + (f.lifetimes + n) - 1 - f.lifetimes) 0) l) ≡ true
  later z x = subst (λ b. (if b then fits_function f l
      else (if nat_le (1 + (f.lifetimes + n)) f.lifetimes then fits_region f l else fits_loan f (get_or f.borrows (1 + (f.lifetimes + n) - 1 - f.lifetimes) 0) l)) ≡ true) z x

  go : (b : Bool) → nat_le (1 + (f.lifetimes + n)) f.lifetimes ≡ b
      → (if b then fits_region f l else fits_loan f (get_or f.borrows (1 + (f.lifetimes + n) - 1 - f.lifetimes) 0) l) ≡ true
      → fits_loan f (get_or f.borrows (1 + (f.lifetimes + n) - 1 - f.lifetimes) 0) l ≡ true
  go true w x = let y = leb-true (1 + (f.lifetimes + n)) f.lifetimes w in absurd (omega (arith, y))
  go false w x = x

scope_front : (f : Shape) (S : ℕ → ℕ → Bool) (n b c : ℕ) (l : Line) → Small b → IsScopeLine f S n b l → fits_loan f c l ≡ true → IsFront l
scope_front f S n b c l small s fits = record {
  line = record {
    form = (λ j. is_form (s.head j) (s.parts.1 j))
        ∙ and_whole (list_all is_range s.parts.0) (is_set s.parts.0) (loan_ranges f c l fits b s.parts.0 s.parts.1) s.parts.2.set;
    fit = subst (λ (is : List Item). items.AllFit is) (sym s.parts.1) (small, s.parts.2.fit);
  };
  front = λ e. let x : head.Loan ≡ head.Text = sym s.head ∙ e in absurd (cc);
}

-- ---- those of a function

some_same : (l m : Line) → ◌≡◌ {A = Option Line} (Some l) (Some m) → l ≡ m
some_same l m e = cc

pub function_lines : (f : Shape) (R : Sets) (S : ℕ → ℕ → Bool) (us : List Line) → ArePushed f R S us → Small f.item → Small f.sites → Small f.lifetimes
    → ((n b : ℕ) → slice_get f.borrows n ≡ Some b → Small b) → AreFront us
function_lines f R S us pushed item sites lifetimes borrows = subst AreFront (sym pushed.lines)
    (function_front f item sites lifetimes, front_both pushed.sets pushed.scopes sets_front scopes_front) where
      sets_front : AreFront pushed.sets
      sets_front = each_front pushed.sets (λ n l at_n. set_front f R n l (pushed.are_sets n l at_n))

      line_there : (n : ℕ) → slice_get us (1 + (f.lifetimes + n)) ≡ slice_get pushed.scopes n
      line_there n = ap (λ (ls : List Line). slice_get ls (1 + (f.lifetimes + n))) pushed.lines
          ∙ ap (λ m. slice_get (function_line f ∷ (pushed.sets ++ pushed.scopes)) m) next
          ∙ behind_there pushed.sets pushed.scopes f.lifetimes n pushed.set_count where
            next : 1 + (f.lifetimes + n) ≡ suc (f.lifetimes + n)
            next = omega arith

      scope_at : (n : ℕ) (l : Line) → slice_get pushed.scopes n ≡ Some l → n < length pushed.scopes → IsFront l
      scope_at n l at_n within =
          let b = some_there f.borrows n (omega (arith, within, pushed.scope_count)) in
          let x = pushed.fits (1 + (f.lifetimes + n)) (omega (arith, within, pushed.scope_count)) in
          let same = some_same x.0 l (sym x.1 ∙ line_there n ∙ at_n) in
          scope_front f S n b.0 (get_or f.borrows (1 + (f.lifetimes + n) - 1 - f.lifetimes) 0) l (borrows n b.0 b.1) (pushed.are_scopes n b.0 l at_n b.1)
          (subst (λ (m : Line). fits_loan f (get_or f.borrows (1 + (f.lifetimes + n) - 1 - f.lifetimes) 0) m ≡ true) same (loan_at_place f n x.0 x.2))

      within_of : (ls : List Line) (n : ℕ) (l : Line) → slice_get ls n ≡ Some l → n < length ls
      within_of [] n l h = absurd (cc)
      within_of (x ∷ ls) zero l h = omega arith
      within_of (x ∷ ls) (suc n) l h = let r = within_of ls n l h in omega (arith, r)

      scopes_front : AreFront pushed.scopes
      scopes_front = each_front pushed.scopes (λ n l at_n. scope_at n l at_n (within_of pushed.scopes n l at_n))

-- ---- the borrows of a function are sites

one_loan : (b n : ℕ) (k : Bool) (p : Place) (o : Own) (ls : List Loan) → n < b → ((i : ℕ) (l : Loan) → slice_get ls i ≡ Some l → l.site < b)
    → (i : ℕ) (l : Loan) → slice_get (borrow_loan n k p o ++ ls) i ≡ Some l → l.site < b
one_loan b n k p none ls w more i l h = more i l h
one_loan b n k p (region r) ls w more zero l h = let e : record { site = n; region = r; mutable = k; place = p } ≡ l = cc in
    subst (λ m. m < b) (ap (λ (x : Loan). x.site) e) w
one_loan b n k p (region r) ls w more (suc i) l h = more i l h
one_loan b n k p (signed S) ls w more i l h = more i l h

act_loans : (b n : ℕ) (a : Act) (o : Own) (ls : List Loan) → n < b → ((i : ℕ) (l : Loan) → slice_get ls i ≡ Some l → l.site < b)
    → (i : ℕ) (l : Loan) → slice_get (loan_at n a o ++ ls) i ≡ Some l → l.site < b
act_loans b n (Declare x) o ls w more = more
act_loans b n (Dead x) o ls w more = more
act_loans b n (Read m p d) o ls w more = more
act_loans b n (Write p t ss) o ls w more = more
act_loans b n (Borrow k p d) o ls w more = one_loan b n k p o ls w more
act_loans b n (Test p c) o ls w more = more
act_loans b n (Call f ts d) o ls w more = more
act_loans b n (Build v is ts d) o ls w more = more
act_loans b n (Input d) o ls w more = more
act_loans b n (Print t) o ls w more = more
act_loans b n (Give t) o ls w more = more

loans_below : (b n : ℕ) (g : List Site) (os : List Own) → n + length g ≤ b → (i : ℕ) (l : Loan) → slice_get (loans_from n g os) i ≡ Some l → l.site < b
loans_below b n [] os w i l h = absurd (cc)
loans_below b n (s ∷ g) [] w i l h = absurd (cc)
loans_below b n (s ∷ g) (o ∷ os) w i l h = act_loans b n s.action.act o (loans_from (n + 1) g os) (omega (arith, w)) (loans_below b (n + 1) g os (omega (arith, w))) i l h

mapped_below : (b : ℕ) (ls : List Loan) → ((i : ℕ) (l : Loan) → slice_get ls i ≡ Some l → l.site < b) → (i n : ℕ)
    → slice_get (map (λ (l : Loan). l.site) ls) i ≡ Some n → n < b
mapped_below b [] h i n e = absurd (cc)
mapped_below b (l ∷ ls) h zero n e = let same : l.site ≡ n = cc in subst (λ m. m < b) same (h 0 l refl)
mapped_below b (l ∷ ls) h (suc i) n e = mapped_below b ls (λ j m. h (suc j) m) i n e

pub borrows_below : (g : List Site) (os : List Own) (i n : ℕ) → slice_get (map (λ (l : Loan). l.site) (loans_of g os)) i ≡ Some n → n < length g
borrows_below g os = mapped_below (length g) (loans_of g os) (loans_below (length g) 0 g os (omega arith))

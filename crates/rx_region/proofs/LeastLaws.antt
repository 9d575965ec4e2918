-- There is a least solution: solutions are closed under intersection, what is asked and nothing else is one, and each has it.
use Rattle.std.proofs.Common.{◌≡◌, ◌↔◌, ℕ, Bool, true, false, ◌&&◌, List, refl, sym, true≢false}
use Rattle.rx_lower_walks.specs.Graph.{Site}
use Rattle.rx_region.specs.Constraints.{Context}
use Rattle.rx_region.specs.Solutions.{Point, Sets, Solution, both, Least, whole, ends, live, longer, AreLeast}

and_true : (a b : Bool) → a ≡ true → b ≡ true → (a && b) ≡ true
and_true a b e f = rw (e, f) refl

first_true : (a b : Bool) → (a && b) ≡ true → a ≡ true
first_true true b e = refl
first_true false b e = e

second_true : (a b : Bool) → (a && b) ≡ true → b ≡ true
second_true true b e = e
second_true false b e = absurd (true≢false (sym e))

pub intersection : (C : Context) (g : List Site) (R S : Sets) → Solution C g R → Solution C g S → Solution C g (both R S)
intersection C g R S r s = record {
  whole = λ l p own there. and_true (R l _) (S l _) (r.whole l p own there) (s.whole l p own there);
  ends = λ l own. and_true (R l _) (S l _) (r.ends l own) (s.ends l own);
  live = λ x p l is there. and_true (R l _) (S l _) (r.live x p l is there) (s.live x p l is there);
  longer = λ l k pair x h. and_true (R l x) (S l x) (r.longer l k pair x (first_true (R k x) (S k x) h)) (s.longer l k pair x (second_true (R k x) (S k x) h));
}

pub least_serves : (C : Context) (g : List Site) (R : Sets) → AreLeast C g R → Solution C g R
least_serves C g R are = record {
  whole = λ l p own there. (are l _).1 (whole own there);
  ends = λ l own. (are l _).1 (ends own);
  live = λ r p l is there. (are l _).1 (live r is there);
  longer = λ l k pair x h. (are l x).1 (longer k pair ((are k x).0 h));
}

pub least_is_within : (C : Context) (g : List Site) (R : Sets) → Solution C g R → (l : ℕ) (x : Point) → Least C g l x → R l x ≡ true
least_is_within C g R s l x (whole {p = p} own there) = s.whole l p own there
least_is_within C g R s l x (ends own) = s.ends l own
least_is_within C g R s l x (live {p = p} r is there) = s.live r p l is there
least_is_within C g R s l x (longer k pair h) = s.longer l k pair x (least_is_within C g R s k x h)

-- Contexts that impose and know the same have the same solutions, missing pairs and acceptance.
use Rattle.std.proofs.Common.{ℕ, List}
use Rattle.rx_lower_walks.specs.Graph.{Site}
use Rattle.rx_lower_walks.specs.Text.{actions_of}
use Rattle.rx_lower_walks.specs.Actions.{Action}
use Rattle.rx_lower_lifetimes.specs.Lowered.{Lifetimes}
use Rattle.rx_core.specs.declared.types.Bound.{Bound}
use Rattle.rx_typed.specs.declared.declarations.Decl.{Decl}
use Rattle.rx_region.specs.Constraints.{Context, imposed}
use Rattle.rx_region.specs.Solutions.{Point, Sets, Solution, Least, whole, ends, live, longer, AreLeast}
use Rattle.rx_region.specs.Known.{KnownToOutlive, itself, by, told, Missing}
use Rattle.rx_region.specs.Passing.{IsFirst}
use Rattle.rx_loan.specs.Accepted.{AcceptedBy, IsAccepted}
use Rattle.rx_loan.specs.Answer.{IsForbidden}
use Rattle.rx_check.proofs.Asking.{Within}

abbrev pub context : List Decl → (ℕ → List Bound) → Lifetimes → Context
context D P L = record { items = D; implied = P; lifetimes = L }

-- the second imposes and knows all that the first does
pub record Covers (C K : Context) : Type 0 where
  pub imposes : (us : List Action) → Within (imposed C us) (imposed K us)
  pub tells : Within (told C) (told K)

module _ (D E : List Decl) (P Q : ℕ → List Bound) (L : Lifetimes) where
  solution_alike : Covers (context E Q L) (context D P L) → (g : List Site) (R : Sets) → Solution (context D P L) g R → Solution (context E Q L) g R
  solution_alike back g R s = record {
    whole = s.whole;
    ends = s.ends;
    live = s.live;
    longer = λ l k h. s.longer l k (back.imposes (actions_of g) l k h);
  }

  least_alike : Covers (context D P L) (context E Q L) → (g : List Site) (l : ℕ) (x : Point) → Least (context D P L) g l x → Least (context E Q L) g l x
  least_alike forth g l x (whole own there) = whole own there
  least_alike forth g l x (ends own) = ends own
  least_alike forth g l x (live r is there) = live r is there
  least_alike forth g l x (longer k pair h) = longer k (forth.imposes (actions_of g) l k pair) (least_alike forth g k x h)

  known_alike : Covers (context D P L) (context E Q L) → (l k : ℕ) → KnownToOutlive (context D P L) l k → KnownToOutlive (context E Q L) l k
  known_alike forth l k itself = itself
  known_alike forth l k (by m pair h) = by m (forth.tells l m pair) (known_alike forth m k h)

module _ (D E : List Decl) (P Q : ℕ → List Bound) (L : Lifetimes) (forth : Covers (context D P L) (context E Q L)) (back : Covers (context E Q L) (context D P L)) where
  pub missing_alike : (g : List Site) (l k : ℕ) → Missing (context D P L) g l k → Missing (context E Q L) g l k
  missing_alike g l k m = record {
    long = m.long;
    short = m.short;
    needed = least_alike D E P Q L forth g l _ m.needed;
    unknown = λ h. m.unknown (known_alike E D Q P L back l k h);
  }

  pub least_sets_alike : (g : List Site) (R : Sets) → AreLeast (context D P L) g R → AreLeast (context E Q L) g R
  least_sets_alike g R are l x = (λ h. least_alike D E P Q L forth g l x ((are l x).0 h), λ h. (are l x).1 (least_alike E D Q P L back g l x h))

  accepted_alike : (g : List Site) (R : Sets) → AcceptedBy (context D P L) g R → AcceptedBy (context E Q L) g R
  accepted_alike g R a = record {
    solution = solution_alike D E P Q L back g R a.solution;
    known = λ l k x y h. known_alike D E P Q L forth l k (a.known l k x y h);
    legal = a.legal;
  }

  pub acceptance_alike : (g : List Site) → IsAccepted (context D P L) g → IsAccepted (context E Q L) g
  acceptance_alike g a = (a.0, accepted_alike g a.0 a.1)

module _ (D E : List Decl) (P Q : ℕ → List Bound) (L : Lifetimes) (forth : Covers (context D P L) (context E Q L)) (back : Covers (context E Q L) (context D P L)) where
  pub first_alike : (g : List Site) (l k : ℕ) → IsFirst (context D P L) g l k → IsFirst (context E Q L) g l k
  first_alike g l k first x y m = first x y (missing_alike E D Q P L back forth g x y m)

  pub forbidden_alike : (g : List Site) (b p : ℕ) → IsForbidden (context D P L) g b p → IsForbidden (context E Q L) g b p
  forbidden_alike g b p f = record {
    none_missing = λ l k m. f.none_missing l k (missing_alike E D Q P L back forth g l k m);
    sets = f.sets;
    least = least_sets_alike D E P Q L forth back g f.sets f.least;
    met = f.met;
  }

-- Rows of variables: those of the text that a renaming does not know, each another; how the new function has those of its params (REM, "Extract
-- method").
use Rattle.std.specs.Prelude.{◌≡◌, ℕ, nat_eq, if◌then◌else◌, List, [], ◌∷◌, Option, Some, None}
use Rattle.rx_typed.specs.Tree.{Parameter}
use Rattle.rx_engine_simulation.specs.Sights.{In, How, special, Sight, sight, Renaming, sight_of}

abbrev pub AreUnseen : Renaming → List ℕ → Type 0
AreUnseen R [] = Unit {0}
AreUnseen R (x ∷ xs) = (sight_of R x ≡ None) × (In x xs → ⊥) × AreUnseen R xs

abbrev pub variables_of : List Parameter → List ℕ
variables_of [] = []
variables_of (p ∷ ps) = p.variable ∷ variables_of ps

-- each of the text's in one of the answer's, so
abbrev pub seen_so : Renaming → List ℕ → List How → List ℕ → Renaming
seen_so R (x ∷ xs) (h ∷ hs) (z ∷ zs) = seen_so ((x, sight z h) ∷ R) xs hs zs
seen_so R _ _ _ = R

-- ---- without some variables

abbrev pub without_one : ℕ → Renaming → Renaming
without_one x [] = []
without_one x (b ∷ R) = if nat_eq x b.0 then without_one x R else b ∷ without_one x R

abbrev pub without : List ℕ → Renaming → Renaming
without [] R = R
without (x ∷ xs) R = without_one x (without xs R)

-- ---- and with them as another has them

abbrev pub as_if : ℕ → Option Sight → Renaming → Renaming
as_if x None Rc = Rc
as_if x (Some e) Rc = (x, e) ∷ Rc

abbrev pub with_back : Renaming → Renaming → List ℕ → Renaming
with_back R Rc [] = Rc
with_back R Rc (x ∷ xs) = with_back R (as_if x (sight_of R x) Rc) xs

-- all that may be elsewhere
abbrev pub specials : List ℕ → List How
specials [] = []
specials (x ∷ xs) = special ∷ specials xs

-- what is handed out was received in these and put back from there, where the variables outside have it
abbrev pub handed_back : Renaming → List ℕ → List ℕ → Renaming
handed_back R xs os = with_back R (seen_so (without xs R) xs (specials xs) os) xs

-- ---- no two are the same

abbrev pub Distinct : List ℕ → Type 0
Distinct [] = Unit {0}
Distinct (x ∷ xs) = (In x xs → ⊥) × Distinct xs

abbrev pub OneToOne : Renaming → Type 0
OneToOne R = (x z : ℕ) (e f : Sight) → sight_of R x ≡ Some e → sight_of R z ≡ Some f → e.to ≡ f.to → x ≡ z

pub data SameLength : List ℕ → List ℕ → Type 0 where
  both_end : SameLength [] []
  both_more : {x o : ℕ} {xs os : List ℕ} → SameLength xs os → SameLength (x ∷ xs) (o ∷ os)

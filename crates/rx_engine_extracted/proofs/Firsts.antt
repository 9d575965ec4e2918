-- What a part of a definition asks of the first statement of what is left, by what that statement is.
use Rattle.std.proofs.Common.{◌≡◌, refl, sym, ap, ◌∙◌, ◌<◌, length, arith, ℕ, Bool, true, false, not, if◌then◌else◌, List, [], ◌∷◌, Option, Some, None}
use Rattle.rx_typed.specs.Tree as tree
use Rattle.rx_typed.specs.Tree.{Exp, Operands, Parameter, Pattern, Subpatterns, Body}
use Rattle.rx_modes_policy.specs.declared.uses.Mode.{Mode}
use Rattle.rx_engine_simulation.specs.Sights.{special, Renaming, sight_of}
use Rattle.rx_engine_alike.specs.Likeness.{if_so, and_then, is_none}
use Rattle.rx_engine_alike.specs.Variables.{is_in, with_seen}
use Rattle.rx_engine_alike.specs.Giving.{takes}
use Rattle.rx_engine_extracted.specs.Told.{Told, is_special_sight}
use Rattle.rx_engine_extracted.specs.Entering.{passed_if, given_to, with_locals_of}
use Rattle.rx_engine_extracted.specs.PlainEntering.{next_given}
use Rattle.rx_engine_extracted.specs.Handing.{Put, Stood, as_assigned, received_in, received, with_assigned, put_back, redeclared, is_there, parts_of, stood_if, hands_none, hands_one, hands_several}
use Rattle.rx_engine_extracted.specs.Reading.{declares_one, assigns_first, binds_first, runs_first}
use Rattle.rx_engine_extracted.specs.PlainHanding.{put_in, stood_with, assigns_one, binds_one, received_back_of}

pub assigned_first : (b : Body) → assigns_first b ≡ and_then (runs_first b) (λ r. and_then (as_assigned r.0) (λ q. Some (q.0, q.1, r.1)))
assigned_first (tree.ends e) = refl
assigned_first (tree.runs e b) = refl
assigned_first (tree.declares n xs b) = refl
assigned_first (tree.lets n q c b) = refl

pub ruleset assigned_rules = (assigned_first)

pub locals_first : (R Rp : Renaming) (x : ℕ) (xs : List ℕ) (b : Body)
    → with_locals_of R Rp (x ∷ xs) b ≡ and_then (declares_one b) (λ r. if_so (is_special_sight (sight_of R x)) (and_then (with_seen Rp x r.0 special) (λ Rq. with_locals_of R Rq xs r.1)))
locals_first R Rp x xs (tree.ends e) = refl
locals_first R Rp x xs (tree.runs e b) = refl
locals_first R Rp x xs (tree.declares n [] b) = refl
locals_first R Rp x xs (tree.declares n (y ∷ []) b) = refl
locals_first R Rp x xs (tree.declares n (y ∷ z ∷ zs) b) = refl
locals_first R Rp x xs (tree.lets n q c b) = refl

pub redeclared_first : (Rb Rc : Renaming) (x : ℕ) (xs : List ℕ) (b : Body)
    → redeclared Rb Rc (x ∷ xs) b ≡ and_then (declares_one b) (λ r. if_so (is_special_sight (sight_of Rb x)) (and_then (with_seen Rc x r.0 special) (λ Rd. redeclared Rb Rd xs r.1)))
redeclared_first Rb Rc x xs (tree.ends e) = refl
redeclared_first Rb Rc x xs (tree.runs e b) = refl
redeclared_first Rb Rc x xs (tree.declares n [] b) = refl
redeclared_first Rb Rc x xs (tree.declares n (y ∷ []) b) = refl
redeclared_first Rb Rc x xs (tree.declares n (y ∷ z ∷ zs) b) = refl
redeclared_first Rb Rc x xs (tree.lets n q c b) = refl

if_not : {B : Type 0} (t : Bool) (o : Option B) → if_so (not t) o ≡ (if t then None else o)
if_not true o = refl
if_not false o = refl

pub given_first : (R : Renaming) (cold : List ℕ) (Rp : Renaming) (x : ℕ) (xs : List ℕ) (ms : List Mode) (es : Operands) (ps : List Parameter)
    → given_to R cold Rp (x ∷ xs) ms es ps
    ≡ and_then (next_given ms es ps) (λ g. and_then (passed_if g.mode (sight_of R x) (is_in x cold) g.given) (λ h. and_then (with_seen Rp x g.variable h)
    (λ Rq. given_to R cold Rq xs g.modes g.operands g.params)))
given_first R cold Rp x xs [] es ps = refl
given_first R cold Rp x xs (m ∷ ms) tree.no_operand ps = refl
given_first R cold Rp x xs (m ∷ ms) (tree.operand_and i e es) [] = refl
given_first R cold Rp x xs (m ∷ ms) (tree.operand_and i e es) (p ∷ ps) = refl

pub given_done : (R Rp : Renaming) (cold xs : List ℕ) (ms : List Mode) (es : Operands) (ps : List Parameter) (t : Bool) (x : Option Renaming) → length xs < 1
    → given_to R cold Rp [] ms es ps ≡ if_so t (Some Rp) → given_to R cold Rp xs ms es ps ≡ x → if_so t (Some Rp) ≡ x
given_done R Rp cold [] ms es ps t x none done all = sym done ∙ all
given_done R Rp cold (y ∷ ys) ms es ps t x none done all = absurd (omega arith)

-- a variable that is outside is put back, another stays
pub put_first : (T : Told) (R Rc : Renaming) (x : ℕ) (xs : List ℕ) (o : ℕ) (os : List ℕ) (b : Body)
    → put_back T R Rc (x ∷ xs) (o ∷ os) b
    ≡ (if is_there R x then and_then (assigns_first b) (λ r. if_so (takes o r.1) (and_then (with_assigned T R Rc x r.0) (λ Rd. put_back T R Rd xs os r.2))) else put_back T R Rc xs os b)
put_first T R Rc x xs o os (tree.ends e) = if_not (is_there R x) _
put_first T R Rc x xs o os (tree.runs e b) = ap (λ (m : Option Put). if is_there R x then m else put_back T R Rc xs os (tree.runs e b)) (by (as_assigned e))
  where
    by : (m : Option (ℕ × Exp)) → and_then m (λ r. if_so (takes o r.1) (and_then (with_assigned T R Rc x r.0) (λ Rd. put_back T R Rd xs os b)))
        ≡ and_then {A = ℕ × Exp × Body} (and_then m (λ r. Some (r.0, r.1, b))) (λ r. if_so (takes o r.1) (and_then (with_assigned T R Rc x r.0) (λ Rd. put_back T R Rd xs os r.2)))
    by None = refl
    by (Some r) = refl
put_first T R Rc x xs o os (tree.declares n zs b) = if_not (is_there R x) _
put_first T R Rc x xs o os (tree.lets n q c b) = if_not (is_there R x) _

-- ---- what stands for the run

pub none_first : (Rs : Renaming) (b : Body) → hands_none Rs b ≡ and_then (runs_first b) (λ r. Some (stood_with r.0 Rs r.1))
none_first Rs (tree.ends e) = refl
none_first Rs (tree.runs e b) = refl
none_first Rs (tree.declares n zs b) = refl
none_first Rs (tree.lets n q c b) = refl

abbrev or_else : {A B : Type 0} → Option A → (A → Option B) → Option B → Option B
or_else None f o = o
or_else (Some a) f o = f a

pub one_first : (T : Told) (R Rs : Renaming) (x : ℕ) (b : Body)
    → hands_one T R Rs x b ≡ or_else (assigns_first b) (assigns_one T R Rs x) (and_then (binds_first b) (binds_one R Rs x))
one_first T R Rs x (tree.ends e) = refl
one_first T R Rs x (tree.runs e b) = by (as_assigned e)
  where
    by : (m : Option (ℕ × Exp)) → and_then m (λ r. assigns_one T R Rs x (r.0, r.1, b))
        ≡ or_else {A = ℕ × Exp × Body} (and_then m (λ r. Some (r.0, r.1, b))) (assigns_one T R Rs x) None
    by None = refl
    by (Some r) = refl
one_first T R Rs x (tree.declares n zs b) = refl
one_first T R Rs x (tree.lets n q (tree.at_place m p) b) = refl
one_first T R Rs x (tree.lets n q (tree.of_value e) b) = refl

pub ruleset one_rules = (one_first)

put_stood : {A : Type 0} (m : Option A) (f : A → Option Put) (e : Exp) → and_then m (λ a. stood_if (f a) e) ≡ stood_if (and_then m f) e
put_stood None f e = refl
put_stood (Some a) f e = refl

pub several_first : (T : Told) (R Rs : Renaming) (xs : List ℕ) (b : Body)
    → hands_several T R Rs xs b ≡ and_then (binds_first b) (λ r. and_then (parts_of r.0) (λ ps. stood_if (received_back_of T R Rs xs ps r.2) r.1))
several_first T R Rs xs (tree.ends e) = refl
several_first T R Rs xs (tree.runs e b) = refl
several_first T R Rs xs (tree.declares n zs b) = refl
several_first T R Rs xs (tree.lets n q (tree.at_place m p) b) = refl
several_first T R Rs xs (tree.lets n q (tree.of_value e) b) = by (parts_of q)
  where
    inner : (os : Option (List ℕ)) → and_then os (λ os. and_then (received R Rs xs os) (λ Rr. stood_if (put_back T R Rr xs os b) e))
        ≡ stood_if (and_then os (λ os. and_then (received R Rs xs os) (λ Rr. put_back T R Rr xs os b))) e
    inner None = refl
    inner (Some os) = put_stood (received R Rs xs os) (λ Rr. put_back T R Rr xs os b) e

    by : (m : Option Subpatterns) → and_then m (λ ps. and_then (received_in 0 ps) (λ os. and_then (received R Rs xs os) (λ Rr. stood_if (put_back T R Rr xs os b) e)))
        ≡ and_then m (λ ps. stood_if (received_back_of T R Rs xs ps b) e)
    by None = refl
    by (Some ps) = inner (received_in 0 ps)

pub ruleset several_rules = (several_first)

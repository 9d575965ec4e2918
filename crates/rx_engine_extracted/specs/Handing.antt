-- Whether the caller does with what is handed out what the plan says: a variable that the run declares is declared by it, another is assigned;
-- what the run declares besides and is named behind it is declared again (REM, "Extract method": outputs; Rust Reference, "let statements",
-- "Assignment expressions").
use Rattle.std.specs.Prelude.{ℕ, suc, nat_eq, Bool, true, false, not, ◌&&◌, ◌||◌, List, [], ◌∷◌, Option, Some, None, if◌then◌else◌}
use Rattle.rx_core.specs.declared.types.Step.{Step}
use Rattle.rx_typed.specs.Tree as tree
use Rattle.rx_typed.specs.Tree.{Root, variable, Place, Pattern, Subpatterns, by_value, Exp, Scrutinee, Body}
use Rattle.rx_engine_simulation.specs.Sights.{Hold, fixed, shut, free, How, plain, special, through, copied, viewed, absent, sight, Sight, Renaming, sight_of}
use Rattle.rx_engine_alike.specs.Likeness.{if_so, and_then, is_none}
use Rattle.rx_engine_alike.specs.Same.{same_bool}
use Rattle.rx_engine_alike.specs.Variables.{is_new, with_seen}
use Rattle.rx_engine_alike.specs.Giving.{is_special, takes}
use Rattle.rx_engine_extracted.specs.Told.{Told, may_be_assigned, is_special_sight}

-- ---- the variables that values are received in, each by value, for fields from this one on

abbrev pub received_by : Pattern → Option ℕ
received_by (tree.bind k q (by_value mutable)) = Some q
received_by _ = None

abbrev pub with_one : Option ℕ → Option (List ℕ) → Option (List ℕ)
with_one (Some q) (Some qs) = Some (q ∷ qs)
with_one _ _ = None

abbrev pub received_in : ℕ → Subpatterns → Option (List ℕ)
received_in i tree.no_part = Some []
received_in i (tree.part_and j p ps) = if_so (nat_eq i j) (with_one (received_by p) (received_in (suc i) ps))

-- each of the text's is in that variable then; with the variables outside
abbrev pub received : Renaming → Renaming → List ℕ → List ℕ → Option Renaming
received R Rc [] [] = Some Rc
received R Rc (x ∷ xs) (o ∷ os) = if_so (is_new R o) (and_then (with_seen Rc x o special) (λ Rd. received R Rd xs os))
received R Rc _ _ = None

-- ---- assignments that put back

abbrev pub variable_at : Root → List Step → Option ℕ
variable_at (variable y) [] = Some y
variable_at _ _ = None

-- the variable and what is assigned to it
abbrev pub as_assigned : Exp → Option (ℕ × Exp)
as_assigned (tree.assign m p e) = and_then (variable_at p.root p.steps) (λ y. Some (y, e))
as_assigned _ = None

abbrev pub is_sight_in : Option Sight → ℕ → Bool
is_sight_in None y = false
is_sight_in (Some e) y = nat_eq e.to y && is_special e.how

-- the caller's own variable is assigned
abbrev pub with_assigned : Told → Renaming → Renaming → ℕ → ℕ → Option Renaming
with_assigned T R Rc x y = if_so (is_sight_in (sight_of R x) y && (is_new Rc y && may_be_assigned T x)) (Some ((x, sight y special) ∷ Rc))

pub record Put : Type 0 where
  pub inside : Renaming
  pub rest : Body

abbrev pub is_there : Renaming → ℕ → Bool
is_there R x = not (is_none (sight_of R x))

-- what is outside is put back by an assignment each; what the run declares stays
abbrev pub put_back : Told → Renaming → Renaming → List ℕ → List ℕ → Body → Option Put
put_back T R Rc [] [] b = Some (record { inside = Rc; rest = b })
put_back T R Rc (x ∷ xs) (o ∷ os) (tree.runs e b) =
    if is_there R x then and_then (as_assigned e) (λ r. if_so (takes o r.1) (and_then (with_assigned T R Rc x r.0) (λ Rd. put_back T R Rd xs os b)))
    else put_back T R Rc xs os (tree.runs e b)
put_back T R Rc (x ∷ xs) (o ∷ os) (tree.ends e) = if_so (not (is_there R x)) (put_back T R Rc xs os (tree.ends e))
put_back T R Rc (x ∷ xs) (o ∷ os) (tree.declares n ys b) = if_so (not (is_there R x)) (put_back T R Rc xs os (tree.declares n ys b))
put_back T R Rc (x ∷ xs) (o ∷ os) (tree.lets n q c b) = if_so (not (is_there R x)) (put_back T R Rc xs os (tree.lets n q c b))
put_back T R Rc _ _ b = None

-- ---- what stands for the run: the expression that gives what is handed out, and what follows

pub record Stood : Type 0 where
  pub called : Exp
  pub inside : Renaming
  pub rest : Body

abbrev pub stood_if : Option Put → Exp → Option Stood
stood_if None e = None
stood_if (Some p) e = Some (record { called = e; inside = p.inside; rest = p.rest })

-- without what is handed out
abbrev pub hands_one : Told → Renaming → Renaming → ℕ → Body → Option Stood
hands_one T R Rs x (tree.runs e b) = and_then (as_assigned e) (λ r. if_so (is_none (sight_of Rs x)) (and_then (with_assigned T R Rs x r.0) (λ Rr. Some (record { called = r.1; inside = Rr; rest = b }))))
hands_one T R Rs x (tree.lets n q (tree.of_value e) b) = and_then (received_by q) (λ y. and_then (received R Rs (x ∷ []) (y ∷ [])) (λ Rr. Some (record { called = e; inside = Rr; rest = b })))
hands_one T R Rs x _ = None

abbrev pub parts_of : Pattern → Option Subpatterns
parts_of (tree.parts ps) = Some ps
parts_of _ = None

abbrev pub hands_several : Told → Renaming → Renaming → List ℕ → Body → Option Stood
hands_several T R Rs xs (tree.lets n q (tree.of_value e) b) = and_then (parts_of q) (λ ps. and_then (received_in 0 ps) (λ os. and_then (received R Rs xs os) (λ Rr. stood_if (put_back T R Rr xs os b) e)))
hands_several T R Rs xs _ = None

abbrev pub hands_none : Renaming → Body → Option Stood
hands_none Rs (tree.runs e b) = Some (record { called = e; inside = Rs; rest = b })
hands_none Rs _ = None

abbrev pub hands_back : Told → Renaming → Renaming → List ℕ → Body → Option Stood
hands_back T R Rs [] b = hands_none Rs b
hands_back T R Rs (x ∷ []) b = hands_one T R Rs x b
hands_back T R Rs (x ∷ z ∷ xs) b = hands_several T R Rs (x ∷ z ∷ xs) b

-- ---- declared again: variables that the new function has where the run ends there

abbrev pub redeclared : Renaming → Renaming → List ℕ → Body → Option Put
redeclared Rb Rc [] b = Some (record { inside = Rc; rest = b })
redeclared Rb Rc (x ∷ xs) (tree.declares n (y ∷ []) b) = if_so (is_special_sight (sight_of Rb x)) (and_then (with_seen Rc x y special) (λ Rd. redeclared Rb Rd xs b))
redeclared Rb Rc (x ∷ xs) _ = None

-- ---- nothing is lost: each variable of the one is seen so in the other

abbrev pub same_hold : Hold → Hold → Bool
same_hold fixed fixed = true
same_hold shut shut = true
same_hold free free = true
same_hold _ _ = false

abbrev pub same_how : How → How → Bool
same_how (plain h) (plain k) = same_hold h k
same_how special special = true
same_how (through h m) (through k n) = same_hold h k && same_bool m n
same_how copied copied = true
same_how viewed viewed = true
same_how absent absent = true
same_how _ _ = false

abbrev pub is_seen_so : Option Sight → Sight → Bool
is_seen_so None s = false
is_seen_so (Some t) s = nat_eq t.to s.to && same_how t.how s.how

abbrev pub is_within : Renaming → Renaming → Bool
is_within [] R = true
is_within (b ∷ S) R = is_seen_so (sight_of R b.0) b.1 && is_within S R

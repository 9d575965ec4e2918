-- What stands for a run, as what the code finds stands for it; and what each form of it asks of the first statement.
use Rattle.std.specs.Prelude.{ℕ, List, [], ◌∷◌, Option, Some}
use Rattle.rx_typed.specs.Tree.{Exp, Pattern, Subpatterns, Body}
use Rattle.rx_typed.specs.PlainTree.{plain-Expr}
use Rattle.rx_engine_simulation.specs.Sights.{Renaming, sight_of}
use Rattle.rx_engine_alike.specs.Likeness.{if_so, and_then, is_none}
use Rattle.rx_engine_extracted.specs.Told.{Told}
use Rattle.rx_engine_extracted.specs.Handing as handing
use Rattle.rx_engine_extracted.specs.Handing.{received_by, received_in, received, put_back, with_assigned}
use Rattle.rx_engine_alike.specs.PlainParts.{plain-Part}
use Rattle.rx_engine_extracted.specs.declared.handing.Stood.{Stood}

abbrev pub put_in : Renaming → Body → handing.Put
put_in R b = record { inside = R; rest = b }

abbrev pub stood_with : Exp → Renaming → Body → handing.Stood
stood_with e R b = record { called = e; inside = R; rest = b }

abbrev pub stood_in : Renaming → Stood → handing.Stood
stood_in R s = stood_with (plain-Expr s.called.now) R (plain-Part s.rest)

-- a variable is assigned, by the statement's variable and value, and what follows it
abbrev pub assigns_one : Told → Renaming → Renaming → ℕ → ℕ × Exp × Body → Option handing.Stood
assigns_one T R Rs x r = if_so (is_none (sight_of Rs x)) (and_then (with_assigned T R Rs x r.0) (λ Rr. Some (stood_with r.1 Rr r.2)))

-- it is declared, by the statement's pattern and value
abbrev pub binds_one : Renaming → Renaming → ℕ → Pattern × Exp × Body → Option handing.Stood
binds_one R Rs x r = and_then (received_by r.0) (λ y. and_then (received R Rs (x ∷ []) (y ∷ [])) (λ Rr. Some (stood_with r.1 Rr r.2)))

-- several are received in these parts, and put back
abbrev pub received_back_of : Told → Renaming → Renaming → List ℕ → Subpatterns → Body → Option handing.Put
received_back_of T R Rs xs ps b = and_then (received_in 0 ps) (λ os. and_then (received R Rs xs os) (λ Rr. put_back T R Rr xs os b))

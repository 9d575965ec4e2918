-- What a plan says of its run's variables: which would have another storage in a function of their own, and the text that is asked, the
-- function with marks at the points of the run, where the params are used as a call that stands for the run uses them (REM, "Extract
-- method").
use Rattle.std.specs.Prelude.{ℕ, Bool, List, [], ◌∷◌, ◌++◌}
use Rattle.rx_typed.specs.Tree.{Function}
use Rattle.rx_exits_plan.specs.Points.{Exit}
use Rattle.rx_exits_plan.specs.Marked.{marked}
use Rattle.rx_exits_plan.specs.Occurrences.{those}
use Rattle.rx_exits_plan.specs.Asked.{Asked}
use Rattle.rx_exits_plan.specs.Plan.{Plan}
use Rattle.rx_modes_given.specs.GivenAway.{is_given_away}
use Rattle.rx_engine_simulation.specs.Programs.{About}

-- what some exit hands out
abbrev pub handed : List Exit → (Exit → List ℕ) → List ℕ
handed [] outs = []
handed (e ∷ es) outs = outs e ++ handed es outs

-- params that are given away, locals, what is handed out, and what is declared again behind the call
abbrev pub special_of : Asked → List Bool → Plan → List ℕ
special_of A muts k = those (is_given_away A muts) k.params ++ (k.locals ++ (handed k.exits k.outs ++ k.redeclared))

abbrev pub about_run : Asked → List Bool → Plan → About
about_run A muts k = record { special = special_of A muts k; asked = [] }

-- where these variables are used on entry
abbrev pub marked_with : Asked → List ℕ → Function
marked_with A xs = marked A.run A.home.around.loops xs A.function

abbrev pub text_of : Asked → Plan → Function
text_of A k = marked_with A k.params

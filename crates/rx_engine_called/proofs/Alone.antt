-- Where the run's value is handed out, its block's tail is of the run: nothing follows it there, so nothing is redeclared.
use Rattle.std.proofs.Common.{◌≡◌, ℕ, ◌+◌, Bool, true, false, not, ◌&&◌, if◌then◌else◌, List, [], ◌∷◌, ◌++◌, length, drop, Option, Some, None, refl, sym, ap, ◌∙◌, arith, length-drop}
use Rattle.std.proofs.Math.ListN.{drop_of_length-le}
use Rattle.std.specs.Option.{is_some}
use Rattle.rx_typed.specs.Types.{Typ}
use Rattle.rx_typed.specs.Tree.{Exp}
use Rattle.rx_typeck_typed.specs.declared.typed.TypedFn.{TypedFn}
use Rattle.rx_exits_plan.specs.Blocks.{statements, tail, written_tail, Statement}
use Rattle.rx_exits_plan.specs.Runs.{behind, Home, Run, Sits}
use Rattle.rx_exits_plan.specs.Points.{next}
use Rattle.rx_exits_plan.specs.Asked.{Asked}
use Rattle.rx_exits_plan.specs.Occurrences.{has_number, in_statements, is_direct, is_named_behind, occurrences, those, variables_among}
use Rattle.rx_exits_plan.specs.Plan.{handed_value, is_redeclared, variables_of}
use Rattle.rx_exits_plan.specs.PlainPlan.{IsExitPlan, plan_of}
use Rattle.rx_hoist_extraction.specs.Plan.{has_exit, outs_of, to_next, Variable}
use Rattle.rx_hoist_extraction.specs.Values.{variables_held, next_values, result_if_any, result_of, Value}
use Rattle.rx_hoist_naming.specs.NamedPlan.{last_number, named_plan, named_variables, names_in, Told, value_if}

-- a value that is the run's is one
lone : (b : Bool) (v : Option Typ) (outs : List Variable) (u : Typ) → ◌≡◌ {A = List Value} (if b then result_if_any v ++ variables_held outs else []) (result_of u ∷ []) → is_some v ≡ true
lone false v outs u e = absurd (cc)
lone true (Some w) outs u e = refl
lone true None [] u e = absurd (cc)
lone true None (x ∷ outs) u e = absurd (cc)

is_valued : (b : Bool) (t : TypedFn) (n : ℕ) → is_some (value_if b t n) ≡ true → b ≡ true
is_valued true t n e = refl
is_valued false t n e = absurd (cc)

has_tail : (b : Bool) (e : Exp) → is_some (handed_value (if b then Some e else None)) ≡ true → b ≡ true
has_tail true e h = refl
has_tail false e h = absurd (cc)

-- nothing follows a run with its block's tail
none_behind : (r : Run) (h : Home) → r.first + r.count ≡ length (statements h.body) → behind r h.body ≡ []
none_behind r h e =
    let l = statements h.body in
    let m = length-drop r.first l in
    drop_of_length-le (drop r.first l) (omega (arith, e, m))

abbrev all_behind : Run → Home → List Statement → Bool → List ℕ
all_behind r h ss b = variables_among (in_statements ss ++ (if b then [] else occurrences (tail h.body)))

none_named : (r : Run) (h : Home) (x : ℕ) (ss : List Statement) (b : Bool) → ss ≡ [] → b ≡ true → has_number x (all_behind r h ss b) ≡ false
none_named r h x [] true d e = refl
none_named r h x (s ∷ ss) b d e = absurd (cc)
none_named r h x [] false d e = absurd (cc)

and_middle : (a b c : Bool) → b ≡ false → (a && b && c) ≡ false
and_middle true true c e = absurd (cc)
and_middle true false c e = refl
and_middle false b c e = refl

none_of_them : (f : ℕ → Bool) (l : List ℕ) → ((x : ℕ) → f x ≡ false) → those f l ≡ []
none_of_them f [] h = refl
none_of_them f (x ∷ l) h = by (f x) (h x) (none_of_them f l h)
  where
    by : (b : Bool) → b ≡ false → those f l ≡ [] → (if b then x ∷ those f l else those f l) ≡ []
    by true e rest = absurd (cc)
    by false e rest = rest

pub alone : (A : Told) (q : Asked) → Sits q.function q.run q.home → IsExitPlan q A.plan → (u : Typ) → next_values (named_plan A) ≡ result_of u ∷ [] → (named_plan A).redeclared ≡ []
alone A q sits is u e =
    let pl = named_plan A in
    let valued = is_valued A.plan.value A.function (last_number A) (lone (has_exit to_next pl.exits) pl.value (outs_of to_next pl.exits) u e) in
    let tailed = has_tail q.run.tail (written_tail q.run.block (tail q.home.body)) (sym is.value ∙ valued) in
    let none = none_behind q.run q.home (sits.whole tailed) in
    let outs = (plan_of q A.plan).outs next in
    let no : (x : ℕ) → is_redeclared q outs x ≡ false = λ x.
    and_middle (is_direct q.run q.home.body x) (is_named_behind q.run q.home.body x) (not (has_number x outs)) (none_named q.run q.home x (behind q.run q.home.body) q.run.tail none tailed) in
    ap (named_variables (names_in A) A.function) (is.plan.redeclared ∙ none_of_them (is_redeclared q outs) (variables_of q) no)

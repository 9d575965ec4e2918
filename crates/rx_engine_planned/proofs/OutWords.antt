-- The names of what an exit hands out are identifiers of the text, since the function declares these variables.
use Rattle.std.proofs.Common.{◌≡◌, ℕ, zero, suc, ◌<◌, ◌≤◌, arith, Bool, true, false, if◌then◌else◌, List, [], ◌∷◌, length, map, get_or, refl}
use Rattle.rx_tree.specs.Lists.{Every}
use Rattle.rx_typeck_typed.specs.declared.typed.TypedFn.{TypedFn}
use Rattle.rx_exits_plan.specs.Asked.{Asked}
use Rattle.rx_exits_plan.specs.Plan.{variables_of}
use Rattle.rx_exits_plan.specs.PlainPlan.{IsExitPlan}
use Rattle.rx_exits_plan.specs.declared.plan.ExitOuts.{ExitOuts}
use Rattle.rx_hoist_extraction.specs.Names.{Names}
use Rattle.rx_hoist_extraction.specs.Plan.{names_of, outs_of, same_exit, Exit, Leaving}
use Rattle.rx_hoist_naming.specs.NamedPlan.{named_leaving, named_plan, named_variables, names_in, Told}
use Rattle.rx_hoist_naming.specs.Words.{OutsAgree}
use Rattle.rx_hoist_naming.proofs.Plans.{exits_few, run_few, Few}

word_at : (W : List ℕ → Type 0) (ns : Names) (x : ℕ) → Every W ns → x < length ns → W (get_or ns x [])
word_at W [] x h l = absurd (omega (arith, l))
word_at W (n ∷ ns) zero h l = h.0
word_at W (n ∷ ns) (suc x) h l = word_at W ns x h.1 (omega (arith, l))

module _ (W : List ℕ → Type 0) (ns : Names) (t : TypedFn) (words : Every W ns) where
  outs_words : (xs : List ℕ) → Every (λ (x : ℕ). x < length ns) xs → Every W (names_of (named_variables ns t xs))
  outs_words [] h = tt
  outs_words (x ∷ xs) h = (word_at W ns x words h.0, outs_words xs h.1)

  exits_words : (ls : List ℕ) (es : List ExitOuts) → Every (λ (e : ExitOuts). Few (length ns) e.outs) es → Every (λ (x : Leaving). Every W (names_of x.outs)) (map (named_leaving ns t ls) es)
  exits_words ls [] h = tt
  exits_words ls (e ∷ es) h = (let f = h.0 in outs_words e.outs f.below, exits_words ls es h.1)

found_words : (W : List ℕ → Type 0) (e : Exit) (xs : List Leaving) → Every (λ (x : Leaving). Every W (names_of x.outs)) xs → Every W (names_of (outs_of e xs))
found_words W e [] h = tt
found_words W e (x ∷ xs) h = by (same_exit e x.exit) (found_words W e xs h.1)
  where
    by : (b : Bool) → Every W (names_of (outs_of e xs)) → Every W (names_of (if b then x.outs else outs_of e xs))
    by true r = h.0
    by false r = r

pub outs_are_words : (W : List ℕ → Type 0) (A : Told) (q : Asked) → IsExitPlan q A.plan → OutsAgree A.plan.exits → Every W (names_in A) → Every (λ (x : ℕ). x < length (names_in A)) (variables_of q) → (e : Exit)
    → Every W (names_of (outs_of e (named_plan A).exits))
outs_are_words W A q plan agree words below e =
    found_words W e (named_plan A).exits (exits_words W (names_in A) A.function words A.loops A.plan.exits (exits_few (length (names_in A)) q A.plan plan agree (run_few (length (names_in A)) q below)))

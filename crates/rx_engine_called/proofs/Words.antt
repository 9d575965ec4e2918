-- The names in a plan are words of the text, since each of its variables has a name that its function declares.
use Rattle.std.proofs.Common.{◌≡◌, ℕ, zero, suc, ◌<◌, List, [], ◌∷◌, length, map, get_or, Option, Some, slice_get, refl, sym, ◌∙◌, subst, arith}
use Rattle.rx_core.specs.declared.types.Span.{Span}
use Rattle.rx_tree.specs.Lists.{Every, nth}
use Rattle.rx_tree.specs.Plain as plain
use Rattle.rx_tree.specs.Plain.{Function, ItemTree, ProgramTree}
use Rattle.rx_typeck_elaborate_parts.specs.Assigning.{shape_of}
use Rattle.rx_typeck_solver.specs.declared.facts.Subject.{Subject}
use Rattle.rx_typeck_solver.specs.declared.facts.Subject.TheVariants as subject
use Rattle.rx_typeck_typed.specs.declared.typed.TypedFn.{TypedFn}
use Rattle.rx_typeck_typed.specs.Typing.{type_at}
use Rattle.rx_exits_plan.specs.declared.plan.ExitOuts.{ExitOuts}
use Rattle.rx_exits_plan.specs.Asked.{Asked}
use Rattle.rx_exits_plan.specs.Plan.{variables_of}
use Rattle.rx_exits_plan.specs.PlainPlan.{IsExitPlan}
use Rattle.rx_hoist_extraction.specs.Names.{Names}
use Rattle.rx_hoist_extraction.specs.Plan.{Leaving, Variable}
use Rattle.rx_hoist_naming.specs.DeclaredNames.{declared_names}
use Rattle.rx_hoist_naming.specs.NamedPlan.{named_leaving, named_plan, named_variables, names_in, Told}
use Rattle.rx_hoist_naming.specs.Words.{NamesTypes, OutsAgree}
use Rattle.rx_hoist_naming.proofs.Plans.{exits_few, Few, redeclared_few, run_few}

pub nth_slice : {A : Type 0} (l : List A) (n : ℕ) → nth l n ≡ slice_get l n
nth_slice [] n = refl
nth_slice (x ∷ l) zero = refl
nth_slice (x ∷ l) (suc n) = nth_slice l n

pub name_of : (Q : List ℕ → Type 0) (ns : Names) (x : ℕ) → Every Q ns → x < length ns → Q (get_or ns x [])
name_of Q [] x h l = absurd (omega (arith, l))
name_of Q (n ∷ ns) zero h l = h.0
name_of Q (n ∷ ns) (suc x) h l = name_of Q ns x h.1 (omega (arith, l))

module _ (Q : List ℕ → Type 0) (ns : Names) (t : TypedFn) (words : Every Q ns) where
  named_variables_have : (xs : List ℕ) → Every (λ (x : ℕ). x < length ns) xs → Every (λ (v : Variable). Q v.name) (named_variables ns t xs)
  named_variables_have [] h = tt
  named_variables_have (x ∷ xs) h = (name_of Q ns x words h.0, named_variables_have xs h.1)

  leavings_have : (ls : List ℕ) (es : List ExitOuts) → Every (λ (e : ExitOuts). Few (length ns) e.outs) es → Every (λ (x : Leaving). Every (λ (v : Variable). Q v.name) x.outs) (map (named_leaving ns t ls) es)
  leavings_have ls [] h = tt
  leavings_have ls (e ∷ es) h = (let f = h.0 in named_variables_have e.outs f.below, leavings_have ls es h.1)

-- the types of variables
pub types_named : (P : ProgramTree) (ns : Names) (t : TypedFn) → ((x : Subject) → NamesTypes P (shape_of (type_at t x))) → (xs : List ℕ) → Every (λ (v : Variable). NamesTypes P v.typ) (named_variables ns t xs)
types_named P ns t h [] = tt
types_named P ns t h (x ∷ xs) = (h (subject.Variable x), types_named P ns t h xs)

module _ (Q : List ℕ → Type 0) (A : Told) (words : Every Q (names_in A)) (q : Asked) (is : IsExitPlan q A.plan) (agree : OutsAgree A.plan.exits) (below : Every (λ (x : ℕ). x < length (names_in A)) (variables_of q)) where
  pub outs_named : Every (λ (x : Leaving). Every (λ (v : Variable). Q v.name) x.outs) (named_plan A).exits
  outs_named = leavings_have Q (names_in A) A.function words A.loops A.plan.exits (exits_few (length (names_in A)) q A.plan is agree (run_few (length (names_in A)) q below))

  pub redeclared_named : Every (λ (v : Variable). Q v.name) (named_plan A).redeclared
  redeclared_named =
      let few = redeclared_few (length (names_in A)) q A.plan is agree (run_few (length (names_in A)) q below) in
      named_variables_have Q (names_in A) A.function words A.plan.redeclared few.below

-- where the item of the function stands
pub words_there : (Q : List ℕ → Type 0) (A : Told) (s : Span) (f : Function) → nth A.program A.function.item ≡ Some (plain.function_item s f) → Every Q (declared_names (Some (plain.function_item s f))) → Every Q (names_in A)
words_there Q A s f e h = subst (λ (o : Option ItemTree). Every Q (declared_names o)) (sym e ∙ nth_slice A.program A.function.item) h

-- What a program does is one thing, however it is typed: so two programs keep each other's runs where their typed programs do.
use Rattle.std.proofs.Common.{◌≡◌, ℕ, ℤ, ◌*◌, List, [], ◌∷◌, None, Some, refl, sym, ap, ◌∙◌, subst}
use Rattle.rx_core.proofs.Results.{ok_is}
use Rattle.rx_tree.specs.Plain.{ProgramTree}
use Rattle.rx_resolve_names.specs.declared.resolved.ItemNames.{ItemNames}
use Rattle.rx_resolve_names.specs.Causes.{Meant}
use Rattle.rx_typed.specs.Types.{Declarations, rt_declared, struct_declared, enum_declared, function_declared}
use Rattle.rx_typed.specs.PlainTypes.{declarations}
use Rattle.rx_typed.specs.PlainTree.{plain-TypedTree}
use Rattle.rx_typeck_typed.specs.declared.typed.Typed.{Typed}
use Rattle.rx_typeck_typed.specs.declared.typed.TypedFn.{TypedFn}
use Rattle.rx_typeck_typed.specs.Typing.{IsTyped}
use Rattle.rx_typeck_typed.specs.Alike.{FunctionsAlike, AreAlike}
use Rattle.rx_meaning.specs.declared.outcome.Outcome.{Outcome}
use Rattle.rx_meaning.specs.Programs.{main_in, run, UpTo}
use Rattle.rx_machine.specs.Functions.{typed_functions, program_of}
use Rattle.rx_check.specs.Passes.{IsFront, Accepted}
use Rattle.rx_engine.specs.Runs.{Does}
use Rattle.rx_engine.specs.Promise.{KeepsRuns}

-- typed programs that are alike are one program
same_functions : (D : Declarations) (ts us : List TypedFn) → FunctionsAlike ts us → typed_functions D ts ≡ typed_functions D us
same_functions [] ts us h = refl
same_functions (function_declared ps r ∷ D) [] [] h = ap (λ l. None ∷ l) (same_functions D [] [] h)
same_functions (function_declared ps r ∷ D) [] (u ∷ us) h = absurd h
same_functions (function_declared ps r ∷ D) (t ∷ ts) [] h = absurd h
same_functions (function_declared ps r ∷ D) (t ∷ ts) (u ∷ us) h =
    ap (λ x. Some x ∷ typed_functions D ts) h.2 ∙ ap (λ l. Some (plain-TypedTree u.tree) ∷ l) (same_functions D ts us h.3)
same_functions (rt_declared ∷ D) ts us h = ap (λ l. None ∷ l) (same_functions D ts us h)
same_functions (struct_declared c l fs ∷ D) ts us h = ap (λ l. None ∷ l) (same_functions D ts us h)
same_functions (enum_declared c l vs ∷ D) ts us h = ap (λ l. None ∷ l) (same_functions D ts us h)

pub same_program : (t u : Typed) (m : ℕ) → AreAlike t u → program_of t m ≡ program_of u m
same_program t u m h =
    ap (λ F. record { functions = F; main = m })
    (same_functions (declarations t.decls.items) t.functions u.functions h.functions ∙ ap (λ D. typed_functions D u.functions) h.declared)

-- names have one meaning
pub one_meaning : (p : ProgramTree) (ns ms : List ItemNames) → Meant p ns → Meant p ms → ns ≡ ms
one_meaning p ns ms a b = ok_is ns ms (sym a.names_are ∙ b.names_are)

pub outcome_some : (p : ProgramTree) (turns : ℕ) (input : List ℤ) → Accepted p → (o : Outcome) × Does p turns input o
outcome_some p turns input h = let f = h.1.front in
    (run (program_of h.0 (main_in p 0)) input turns, record { names = f.names; meant = f.meant; types = h.0; typed = f.typed; outcome = refl })

module _ (alike : (p : ProgramTree) (ns : List ItemNames) (t u : Typed) → IsTyped p ns t → IsTyped p ns u → AreAlike t u) where
  pub outcome_one : (p : ProgramTree) (turns : ℕ) (input : List ℤ) (o q : Outcome) → Does p turns input o → Does p turns input q → o ≡ q
  outcome_one p turns input o q d e =
      let k : IsTyped p d.names e.types = subst (λ x. IsTyped p x e.types) (one_meaning p e.names d.names e.meant d.meant) e.typed in
      let same = same_program d.types e.types (main_in p 0) (alike p d.names d.types e.types d.typed k) in
      d.outcome ∙ (ap (λ P. run P input turns) same ∙ sym e.outcome)

  -- it is that of any types that it has
  outcome_by : (p : ProgramTree) (t : Typed) → IsFront p t → (turns : ℕ) (input : List ℤ) (o : Outcome) → Does p turns input o → run (program_of t (main_in p 0)) input turns ≡ o
  outcome_by p t f turns input o d = outcome_one p turns input (run (program_of t (main_in p 0)) input turns) o (record { names = f.names; meant = f.meant; types = t; typed = f.typed; outcome = refl }) d

  pub keeps_runs : (p q : ProgramTree) (t u : Typed) → IsFront p t → IsFront q u
      → ((given : List ℤ) (n : ℕ) → UpTo (run (program_of u (main_in q 0)) given n) (run (program_of t (main_in p 0)) given n))
      → ((given : List ℤ) (n : ℕ) → UpTo (run (program_of t (main_in p 0)) given n) (run (program_of u (main_in q 0)) given (2 * n))) → KeepsRuns p q
  keeps_runs p q t u f g answer text = record {
    answer = λ input n a o d e. subst (λ x. UpTo x o) (outcome_by q u g n input a d) (subst (λ x. UpTo (run (program_of u (main_in q 0)) input n) x) (outcome_by p t f n input o e) (answer input n));
    text = λ input n o a d e. subst (λ x. UpTo x a) (outcome_by p t f n input o d) (subst (λ x. UpTo (run (program_of t (main_in p 0)) input n) x) (outcome_by q u g (2 * n) input a e) (text input n));
  }

-- An answer of an extraction whose program is confirmed keeps its whole promise: of its text and the program that the text is read as, which is one.
use Rattle.std.proofs.Common.{◌≡◌, ◌*◌, ℕ, ℤ, ◌≤◌, List, length, Result, Ok, Err, sym, subst}
use Rattle.rx_core.specs.declared.types.Bound.{Bound}
use Rattle.rx_tree.specs.Plain.{ProgramTree}
use Rattle.rx_tree.specs.Size.{IsNumbered}
use Rattle.rx_parse_grammar.specs.grammar.Items.{Parses}
use Rattle.rx_graph_cycles.specs.Reaches.{NoCycle}
use Rattle.rx_resolve_names.specs.declared.resolved.ItemNames.{ItemNames}
use Rattle.rx_typed.specs.Types.{Declarations}
use Rattle.rx_typed.specs.PlainTypes.{declarations}
use Rattle.rx_typed_declarations.specs.Held.{held_by_each}
use Rattle.rx_typed_declarations.specs.Sizes.{Sized}
use Rattle.rx_typeck_typed.specs.declared.typed.Typed.{Typed}
use Rattle.rx_typeck_typed.specs.Typing.{IsTyped}
use Rattle.rx_typeck_typed.specs.Alike.{AreAlike}
use Rattle.rx_check.specs.Passes.{Accepted}
use Rattle.rx_machine.specs.Functions.{program_of}
use Rattle.rx_meaning.specs.Programs.{main_in, run, UpTo}
use Rattle.rx_engine_validated.specs.Found.{IsFound}
use Rattle.rx_engine_extraction.specs.declared.refusal.Fault.{Fault}
use Rattle.rx_engine_extraction.specs.declared.refusal.Fault.TheVariants as fault
use Rattle.rx_engine_extraction.specs.declared.refusal.Answer.{Answer}
use Rattle.rx_engine_extraction.specs.Source.{Wish}
use Rattle.rx_engine_extraction.specs.Confirmed.{Confirmed}
use Rattle.rx_engine_extraction.specs.Verdict as verdict
use Rattle.rx_engine_extraction.specs.Promise as shape
use Rattle.rx_engine.specs.Promise.{KeepsRuns, Keeps}
use Rattle.rx_engine.specs.Verdict.{Answers}
use Rattle.rx_engine.proofs.Running.{keeps_runs}
use Rattle.rx_engine.proofs.Finding.{found}

module _ (finite : (p : ProgramTree) (names : List ItemNames) (t : Typed) → IsTyped p names t → NoCycle (held_by_each (declarations t.decls.items)))
    (one_size : (D : Declarations) (P Q : ℕ → ℕ) → NoCycle (held_by_each D) → Sized D P → Sized D Q → (i : ℕ) → P i ≡ Q i)
    (numbered : (bytes : List ℕ) (p : ProgramTree) → Parses bytes p → length bytes ≤ 1048576 → IsNumbered p)
    (one_tree : (bytes : List ℕ) (p q : ProgramTree) → Parses bytes p → Parses bytes q → p ≡ q)
    (alike : (p : ProgramTree) (ns : List ItemNames) (t u : Typed) → IsTyped p ns t → IsTyped p ns u → AreAlike t u)
    (answer : (p q : ProgramTree) (t u : Typed) (main other : ℕ) → IsFound p q t u main other → (given : List ℤ) (n : ℕ) → UpTo (run (program_of u other) given n) (run (program_of t main) given n))
    (within : (p q : ProgramTree) (t u : Typed) (main other : ℕ) → IsFound p q t u main other → (given : List ℤ) (n : ℕ) → UpTo (run (program_of t main) given n) (run (program_of u other) given (2 * n)))
    (bytes : List ℕ) (w : Wish) (text : List ℕ) (bs : List Bound) (k : shape.Keeps bytes w text bs) (short : length bytes ≤ 1048576) where
  abbrev c : Confirmed k.extracts.text w k.extracts.case
  c = k.extracts.last

  same : c.program ≡ k.program
  same = one_tree text c.program k.program (subst (λ l. Parses l c.program) (sym k.rendered) c.parses) k.parses

  runs : KeepsRuns k.extracts.text.program k.program
  runs =
      let p = k.extracts.text.program in let t = k.extracts.text.types in
      let f = found finite one_size numbered bytes w k.extracts short in
      subst (λ q. KeepsRuns p q) same (keeps_runs alike p c.program t c.types f.front c.accepted.front
      (answer p c.program t c.types (main_in p 0) (main_in c.program 0) f) (within p c.program t c.types (main_in p 0) (main_in c.program 0) f))

  pub kept : Keeps bytes w text bs
  kept = record { extraction = k; accepted = subst (λ q. Accepted q) same (c.types, c.accepted); runs = runs }

-- an answer keeps its promise, and a fault stays as it is
pub answered : ((bytes : List ℕ) (w : Wish) (text : List ℕ) (bs : List Bound) → shape.Keeps bytes w text bs → length bytes ≤ 1048576 → Keeps bytes w text bs)
    → (bytes : List ℕ) (w : Wish) (r : Result Answer Fault) → length bytes ≤ 1048576 → verdict.Answers bytes w r → Answers bytes w r
answered whole bytes w (Ok a) short h = whole bytes w a.text a.bounds h short
answered whole bytes w (Err (fault.Syntax e)) short h = h
answered whole bytes w (Err (fault.NotAccepted e)) short h = h
answered whole bytes w (Err (fault.Refused r)) short h = h
answered whole bytes w (Err fault.OutOfMemory) short h = h

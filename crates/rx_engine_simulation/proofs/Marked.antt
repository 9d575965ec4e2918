-- A text with marks runs as the text; so what runs as the one, up to the turns, does as the other.
use Rattle.std.proofs.Common.{◌≡◌, ℕ, ◌*◌, ℤ, List, sym, subst}
use Rattle.rx_meaning.specs.Programs.{Program, run, UpTo}
use Rattle.rx_engine_simulation.specs.Marked.{Marked}
use Rattle.rx_engine_simulation.specs.Passing.{New}
use Rattle.rx_engine_simulation.specs.Called.{WithCall}
use Rattle.rx_engine_simulation.specs.Astray.{OrAstray, FindsReferences}
use Rattle.rx_engine_simulation.specs.Rereads.{RereadsProgram}
use Rattle.rx_engine_simulation.specs.Marks.{marks}
use Rattle.rx_engine_simulation.proofs.Whole.{alike_alone}
use Rattle.rx_engine_simulation.proofs.Marks.{marks_open_alike}
use Rattle.rx_engine_simulation.proofs.Called.{answer_to_text, text_to_answer}
use Rattle.rx_engine_simulation.proofs.Rightly.{answer_runs_so, text_runs_so}

pub marked_alike : (T P : Program) → Marked T P → (given : List ℤ) (n : ℕ) → run T given n ≡ run P given n
marked_alike T P w given n = sym (alike_alone w.items marks T P (λ d. marks_open_alike w.items T.functions P.functions d) w.alike given n)

pub marked_answer : (P T Q : Program) (N : New) → Marked T P → (w : WithCall T Q N) → (given : List ℤ) (n : ℕ) → OrAstray w.strays T Q given n n (UpTo (run Q given n) (run P given n))
marked_answer P T Q N k w given n = subst (λ o. OrAstray w.strays T Q given n n (UpTo (run Q given n) o)) (marked_alike T P k given n) (answer_to_text T Q N w given n)

pub marked_text : (P T Q : Program) (N : New) → Marked T P → (w : WithCall T Q N) → (given : List ℤ) (n : ℕ) → OrAstray w.strays T Q given n (2 * n) (UpTo (run P given n) (run Q given (2 * n)))
marked_text P T Q N k w given n = subst (λ o. OrAstray w.strays T Q given n (2 * n) (UpTo o (run Q given (2 * n)))) (marked_alike T P k given n) (text_to_answer T Q N w given n)

pub marked_found_answer : (P T Q M : Program) (N : New) → Marked T P → WithCall T M N → RereadsProgram Q M → (given : List ℤ) (n : ℕ) → FindsReferences Q given n → UpTo (run Q given n) (run P given n)
marked_found_answer P T Q M N k w r given n q = subst (λ o. UpTo (run Q given n) o) (marked_alike T P k given n) (answer_runs_so T Q M N w r given n q)

pub marked_found_text : (P T Q M : Program) (N : New) → Marked T P → WithCall T M N → RereadsProgram Q M → (given : List ℤ) (n : ℕ) → FindsReferences Q given (2 * n) → UpTo (run P given n) (run Q given (2 * n))
marked_found_text P T Q M N k w r given n q = subst (λ o. UpTo o (run Q given (2 * n))) (marked_alike T P k given n) (text_runs_so T Q M N w r given n q)

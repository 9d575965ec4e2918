-- Where the answer finds references, it does what the text does, also where references are asked for again.
use Rattle.std.proofs.Common.{◌≡◌, ℕ, ◌*◌, List, sym, ◌∙◌, subst, ℤ}
use Rattle.rx_meaning.specs.Programs.{Program, run, ending, UpTo}
use Rattle.rx_engine_simulation.specs.Passing.{New}
use Rattle.rx_engine_simulation.specs.Called.{WithCall}
use Rattle.rx_engine_simulation.specs.Astray.{FindsReferences}
use Rattle.rx_engine_simulation.specs.Rereads.{RereadsProgram}
use Rattle.rx_engine_simulation.proofs.Astray.{never_strays, never_asked_astray}
use Rattle.rx_engine_simulation.proofs.Rereads.{rereads_run_as}
use Rattle.rx_engine_simulation.proofs.Called.{answer_to_text, text_to_answer}

module _ (P Q M : Program) (N : New) (w : WithCall P M N) (r : RereadsProgram Q M) (given : List ℤ) where
  same_run : (n : ℕ) → FindsReferences Q given n → (run Q given n ≡ run M given n) × (ending Q given n ≡ ending M given n)
  same_run n q = never_asked_astray Q M given n q (rereads_run_as Q M r given n)

  finds_too : (n : ℕ) → FindsReferences Q given n → FindsReferences M given n
  finds_too n q e = q ((same_run n q).1 ∙ e)

  pub answer_runs_so : (n : ℕ) → FindsReferences Q given n → UpTo (run Q given n) (run P given n)
  answer_runs_so n q = subst (λ o. UpTo o (run P given n)) (sym (same_run n q).0) (never_strays w.strays P M given n n (finds_too n q) (answer_to_text P M N w given n))

  pub text_runs_so : (n : ℕ) → FindsReferences Q given (2 * n) → UpTo (run P given n) (run Q given (2 * n))
  text_runs_so n q = subst (λ o. UpTo (run P given n) o) (sym (same_run (2 * n) q).0) (never_strays w.strays P M given n (2 * n) (finds_too (2 * n) q) (text_to_answer P M N w given n))

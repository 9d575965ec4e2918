-- Where the answer finds references, it does not go astray.
use Rattle.std.proofs.Common.{◌≡◌, ℕ, Bool, true, List, refl, ap, ◌∙◌, ◌⊎◌, inl, inr, ℤ}
use Rattle.rx_meaning.specs.declared.outcome.End.{End}
use Rattle.rx_meaning.specs.Endings.{end_of}
use Rattle.rx_meaning.specs.Values.{Value}
use Rattle.rx_meaning.specs.Results.{Result, on, jumps, stops}
use Rattle.rx_meaning.specs.Acting.{plainly}
use Rattle.rx_meaning.specs.Programs.{Program, ending_of, outcome_of, run_by, run, ending}
use Rattle.rx_engine_simulation.specs.Astray.{WentAstray, OrAstray, FindsReferences}

end_told : (r : Result ℕ Value) → (outcome_of r).end ≡ end_of (ending_of r)
end_told (on w v s) = refl
end_told (jumps w x v s) = refl
end_told (stops w e) = refl

-- what is not Wrong finds them
pub right_finds : (P : Program) (given : List ℤ) (n : ℕ) → ((run P given n).end ≡ End.Wrong → ⊥) → FindsReferences P given n
right_finds P given n right e = right (end_told (run_by plainly P given n) ∙ ap end_of e)

pub never_strays : {A : Type 0} (may : Bool) (P Q : Program) (given : List ℤ) (n k : ℕ) → FindsReferences Q given k → OrAstray may P Q given n k A → A
never_strays may P Q given n k q (inl a) = a
never_strays may P Q given n k q (inr w) = absurd (q w.ends)

-- and the program whose references are read is the one that asks for them again
pub never_asked_astray : (Q M : Program) (given : List ℤ) (n : ℕ) → FindsReferences Q given n → ((run Q given n ≡ run M given n) × (ending Q given n ≡ ending M given n)) ⊎ WentAstray true (run Q given n) (run M given n) (ending Q given n)
    → (run Q given n ≡ run M given n) × (ending Q given n ≡ ending M given n)
never_asked_astray Q M given n q (inl e) = e
never_asked_astray Q M given n q (inr w) = absurd (q w.ends)

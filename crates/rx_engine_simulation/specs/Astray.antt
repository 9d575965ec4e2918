-- What is said of two runs, unless the answer goes astray: it asks again for the reference in a variable, and what was written there
-- is none (Rust Reference, "The dereference operator"). It has printed then what the other begins with. That a reference leads
-- somewhere is not asked: one that dangles is that reference again.
use Rattle.std.specs.Prelude.{◌≡◌, ℕ, ℤ, Bool, true, List, ◌⊎◌}
use Rattle.rx_meaning.specs.declared.outcome.Outcome.{Outcome}
use Rattle.rx_meaning.specs.Endings.{missing_reference, Ending, wrong}
use Rattle.rx_meaning.specs.Programs.{Program, run, ending, IsFront}

pub record WentAstray (may : Bool) (o other : Outcome) (e : Ending) : Type 0 where
  pub can : may ≡ true
  pub ends : e ≡ wrong missing_reference
  pub front : IsFront o.printed other.printed

-- with so many turns each
abbrev pub OrAstray : Bool → Program → Program → List ℤ → ℕ → ℕ → Type 0 → Type 0
OrAstray may P Q given n k A = A ⊎ WentAstray may (run Q given k) (run P given n) (ending Q given k)

-- with these turns a run does not follow what is no reference
abbrev pub FindsReferences : Program → List ℤ → ℕ → Type 0
FindsReferences P given n = ending P given n ≡ wrong missing_reference → ⊥

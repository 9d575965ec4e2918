-- What is answered for one match, and for the first that is not covered.
use Rattle.std.specs.Prelude.{◌≡◌, ℕ, List, Option, Some, None, Result, Ok, Err, get_or}
use Rattle.rx_typed.specs.Types.{Declarations}
use Rattle.rx_core.specs.declared.types.Span.{Span}
use Rattle.rx_cover.specs.declared.judging.Problem.{Problem}
use Rattle.rx_cover.specs.declared.covering.CoverFault.{CoverFault}
use Rattle.rx_cover.specs.PlainValue.{plain-Value}
use Rattle.rx_cover.specs.Choices.{Choice}
use Rattle.rx_cover.specs.Causes.{Covered, TooWideAt, MissingAt, AllCovered, FirstNot}

-- of one match
abbrev pub Judged : Declarations → Choice → Option Problem → Type 0
Judged D c None = Covered D c
Judged D c (Some (Problem.Wide n)) = TooWideAt c c.node n
Judged D c (Some (Problem.Missing v)) = MissingAt D c c.node (plain-Value v)

-- the first problem of these, with the node of its match
abbrev pub Told : Declarations → List Choice → Option (ℕ × Problem) → Type 0
Told D cs None = AllCovered D cs
Told D cs (Some (n, Problem.Wide k)) = FirstNot D (λ c. TooWideAt c n k) cs
Told D cs (Some (n, Problem.Missing v)) = FirstNot D (λ c. MissingAt D c n (plain-Value v)) cs

-- the span of a node
abbrev pub span_of : List Span → ℕ → Span
span_of ss n = get_or ss n (record { start = 0; end = 0 })

abbrev pub ToldAt : Declarations → List Span → List Choice → CoverFault → Type 0
ToldAt D ss cs (CoverFault.TooWide at k) = (n : ℕ) × (at ≡ span_of ss n) × FirstNot D (λ c. TooWideAt c n k) cs
ToldAt D ss cs (CoverFault.Missing at v) = (n : ℕ) × (at ≡ span_of ss n) × FirstNot D (λ c. MissingAt D c n (plain-Value v)) cs
ToldAt D ss cs CoverFault.OutOfMemory = Unit {0}

abbrev pub Answers : Declarations → List Span → List Choice → Result (Unit {0}) CoverFault → Type 0
Answers D ss cs (Ok u) = AllCovered D cs
Answers D ss cs (Err f) = ToldAt D ss cs f

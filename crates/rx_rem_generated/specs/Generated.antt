-- A text of so many functions that differ in their names alone, and of a `main` that calls each on the next number of the input and prints
-- the sum; with the statements of the last function that are to become a function of their own.
use Rattle.std.specs.Prelude.{ℕ, suc, zero, ◌+◌, ◌-◌, ◌*◌, ℤ, pos, List, [], ◌∷◌, ◌++◌, length, codes}
use Rattle.std.specs.Fmt.{decimal}

-- ---- a function: it adds to a number the first seven numbers of ten, and stops where the sum passes a million

abbrev pub before_run : ℕ → List ℕ
before_run k =
    codes "fn f" ++ (decimal k ++ codes "(x: i64) -> i64 {\n    let mut s = x;\n    let mut i = 0i64;\n    while i < 10 {\n        ")

abbrev pub the_run : List ℕ
the_run = codes "if s > 1000000 {\n            break;\n        }\n        s = s + i * 7;\n        i = i + 1;"

abbrev pub behind_run : List ℕ
behind_run = codes "\n    }\n    s\n}\n\n"

abbrev pub function : ℕ → List ℕ
function k = before_run k ++ (the_run ++ behind_run)

-- the first so many of them
abbrev pub functions : ℕ → List ℕ
functions zero = []
functions (suc k) = functions k ++ function k

-- ---- `main`

abbrev pub call : ℕ → List ℕ
call k = codes "    t = t + f" ++ (decimal k ++ codes "(rt::next());\n")

abbrev pub calls : ℕ → List ℕ
calls zero = []
calls (suc k) = calls k ++ call k

abbrev pub main : ℕ → List ℕ
main n = codes "fn main() {\n    let mut t = 0i64;\n" ++ (calls n ++ codes "    println!(\"{}\", t);\n}\n")

-- ---- the text

abbrev pub begun : ℕ → List ℕ
begun n = codes "mod rt;\n\n" ++ functions n

unfoldable pub generated : ℕ → List ℕ
generated n = begun n ++ main n

-- the range of bytes that selects the run of the last function
unfoldable pub run_start : ℕ → ℕ
run_start n = length (begun (n - 1) ++ before_run (n - 1))

unfoldable pub run_end : ℕ → ℕ
run_end n = run_start n + length the_run

-- ---- its runs

-- the numbers from one
abbrev pub input : ℕ → List ℤ
input zero = []
input (suc k) = input k ++ pos (suc k) ∷ []

-- the turns that it needs, and those that are enough for the answer of an extraction
abbrev pub turns : ℕ → ℕ
turns n = 12 * n + 1

abbrev pub twice : ℕ → ℕ
twice n = 2 * turns n

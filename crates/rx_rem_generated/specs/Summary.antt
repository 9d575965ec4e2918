-- What is told of a text and of the answer of an extraction from it: how many bytes each has, and what each prints.
use Rattle.std.specs.Prelude.{ℕ, List, ◌++◌, length, codes}
use Rattle.std.specs.Fmt.{decimal}

-- a word, a number and a line feed
abbrev pub counted : List ℕ → ℕ → List ℕ
counted word n = word ++ (codes " " ++ (decimal n ++ codes "\n"))

unfoldable pub summary : List ℕ → List ℕ → List ℕ → List ℕ → List ℕ
summary text answer printed again =
    counted (codes "text") (length text) ++ (counted (codes "answer") (length answer) ++ (printed ++ again))

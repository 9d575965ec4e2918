-- Fresh names: `'r0`, `'r1`, .. and `out_0`, `out_1`, .., leaving out those that are taken (Rust Reference, "Identifiers",
-- "Lifetimes and loop labels").
use Rattle.std.specs.Prelude.{ℕ, zero, suc, ◌+◌, not, List, [], ◌∷◌, ◌++◌, length, filter, get_or, codes}
use Rattle.std.specs.Fmt.{decimal}
use Rattle.rx_hoist_extraction.specs.Names.{Names, is_among}

-- so many names of a row, from a number on
abbrev pub row : List ℕ → ℕ → ℕ → Names
row word n zero = []
row word n (suc many) = (word ++ decimal n) ∷ row word (suc n) many

-- those that are not taken
abbrev pub left_out : Names → Names → Names
left_out taken names = filter (λ x. not (is_among x taken)) names

-- the i-th that is not taken. At most as many are left out as are taken, so it is among the first i + 1 + taken
abbrev pub fresh : List ℕ → Names → ℕ → List ℕ
fresh word taken i = get_or (left_out taken (row word 0 (length taken + suc i))) i []

abbrev pub fresh_lifetime : Names → ℕ → List ℕ
fresh_lifetime taken i = fresh (codes "'r") taken i

abbrev pub fresh_variable : Names → ℕ → List ℕ
fresh_variable taken i = fresh (codes "out_") taken i

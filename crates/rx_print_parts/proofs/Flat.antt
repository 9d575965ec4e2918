-- The text of pieces one after the other: by recursion on the pieces.
use Rattle.std.proofs.Common.{◌≡◌, List, [], ◌∷◌, ◌++◌, refl, sym, ap, ◌∙◌, append_assoc}
use Rattle.rx_print_spelling.specs.Pieces.{Piece, bytes_of, flat}

pub flat-append : (ps qs : List Piece) → flat (ps ++ qs) ≡ flat ps ++ flat qs
flat-append [] qs = refl
flat-append (p ∷ ps) qs = ap (λ l. bytes_of p ++ l) (flat-append ps qs) ∙ sym (append_assoc (bytes_of p) (flat ps) (flat qs))

-- A name that is an identifier and isn't taken is free.
use Rattle.std.proofs.Common.{◌≡◌, ℕ, Bool, true, false, ◌||◌, List, ◌++◌, codes, refl}
use Rattle.rx_lex.specs.Words.{is_identifier}
use Rattle.rx_hoist_extraction.specs.Names.{Names, is_among}
use Rattle.rx_hoist_extraction.specs.FreeName.{is_reserved, FreeName}
use Rattle.rx_hoist_naming.specs.NameTest.{is_taken}

neither : (a b : Bool) → (a || b) ≡ false → (a ≡ false) × (b ≡ false)
neither true b e = absurd (cc)
neither false b e = (refl, e)

pub name_is_free : (ids : Names) (name : List ℕ) → is_identifier name ≡ true → is_taken ids name ≡ false → FreeName ids name
name_is_free ids name word e =
    let both = neither (is_among name ids || is_among (codes "Exit_" ++ name) ids) (is_reserved name) e in
    let unused = neither (is_among name ids) (is_among (codes "Exit_" ++ name) ids) both.0 in
    record { word = word; unused = unused.0; enum_unused = unused.1; unreserved = both.1 }

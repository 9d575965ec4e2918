-- What types name, one after another.
use Rattle.std.proofs.Common.{◌≡◌, ℕ, ◌+◌, ◌<◌, List, [], ◌∷◌, ◌++◌, map, length, drop, get_or, refl, sym, ap, ◌∙◌}
use Rattle.std.proofs.lemmas.List.{append_assoc, append-nil}
use Rattle.rx_typed.specs.Types.{Typ, shapes_of}
use Rattle.rx_typed.specs.declared.declarations.VariantDecl.{VariantDecl}
use Rattle.rx_typed.specs.PlainTypes.{plain-Ty, plain-VariantDecl}
use Rattle.rx_typed_declarations.specs.Held.{named_in, named_among, variant_types}
use Rattle.rx_typed_declarations.proofs.ItemLemmas.{at_next}

pub append_none : (xs : List ℕ) → xs ++ [] ≡ xs
append_none xs = append-nil xs

pub named_among_append : (ts us : List Typ)
    → named_among (shapes_of (ts ++ us)) ≡ named_among (shapes_of ts) ++ named_among (shapes_of us)
named_among_append [] us = refl
named_among_append (t ∷ ts) us =
    rw (named_among_append ts us)
    (sym (append_assoc (named_in t) (named_among (shapes_of ts)) (named_among (shapes_of us))))

abbrev pub named_by_variants : List VariantDecl → List ℕ
named_by_variants vs = named_among (shapes_of (variant_types (map plain-VariantDecl vs)))

pub named_by_variants_more : (vs : List VariantDecl) (i : ℕ) (v : VariantDecl) (old new : List ℕ) → i < length vs
    → v ≡ get_or vs i v
    → new ≡ old ++ named_among (shapes_of (map plain-Ty v.parts))
    → new ++ named_by_variants (drop (i + 1) vs) ≡ old ++ named_by_variants (drop i vs)
named_by_variants_more vs i v old new less is new_is =
    let rest = drop (i + 1) vs in
    let here = map plain-Ty v.parts in
    ap (λ l. l ++ named_by_variants rest) new_is
    ∙ append_assoc old (named_among (shapes_of here)) (named_by_variants rest)
    ∙ ap (λ l. old ++ l) (sym (named_among_append here (variant_types (map plain-VariantDecl rest))))
    ∙ sym (at_next (λ l. old ++ named_by_variants l) vs i v less is)

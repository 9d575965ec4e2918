-- A lifetime that keeps its name has no edit.
use Rattle.std.proofs.Common.{◌≡◌, ℕ, List, [], ◌∷◌, Some, refl, ap}
use Rattle.std.specs.Prelude.{if◌then◌else◌}
use Rattle.std.specs.Str.{bytes_eq}
use Rattle.std.proofs.lemmas.Slice.Eq.{bytes_eq-Decides}
use Rattle.rx_tree.specs.declared.tree.Ident.{Ident}
use Rattle.rx_print_spelling.specs.Pieces.{lifetime}
use Rattle.rx_splice_laws.specs.Edits.{replaced}
use Rattle.rx_compact_lifetimes.specs.Rewritten.{ident_with}
use Rattle.rx_compact_text.specs.CompactedText.{renamed_edits}

pub stays : (x : Ident) → renamed_edits x x.name ≡ []
stays x = ap (λ b. if b then [] else replaced x.span (lifetime (ident_with x x.name) ∷ []) ∷ []) ((bytes_eq-Decides x.name x.name).1 refl)

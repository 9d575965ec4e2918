-- All edits of a short signature, by what is found one after the other.
use Rattle.std.proofs.Common.{◌≡◌, Bool, List, [], ◌++◌, map, ap, ◌∙◌}
use Rattle.std.specs.Prelude.{filter}
use Rattle.rx_core.specs.declared.types.Edit as text
use Rattle.rx_tree.specs.declared.tree.BoundLifetime.{BoundLifetime}
use Rattle.rx_tree.specs.Plain.{Function}
use Rattle.rx_hoist_extraction.specs.Names.{Names}
use Rattle.rx_splice_laws.specs.Edits.{written}
use Rattle.rx_compact_lifetimes.specs.declared.rewriting.Rewriting.{Rewriting}
use Rattle.rx_compact_lifetimes.specs.Elided.{elisions, left_out, goes, stays}
use Rattle.rx_compact_edits.specs.Writing.{Part, edits_by, edits_named}

-- by the lifetimes that are left out, and those that stay, of a list that is the function's
pub by_lists : (x : Part) (single : Bool) (rs es : List Rewriting) (names : Names) (g : Function) (ls left : List BoundLifetime) (o p : List text.Edit)
    → ls ≡ g.lifetimes → es ≡ map left_out (filter (goes single names g) ls) → left ≡ filter (stays single names g) ls
    → o ≡ [] → p ≡ o ++ map written (edits_by x rs es left) → p ≡ map written (edits_named x single rs names g)
by_lists x single rs es names g ls left o p list gone stay none made =
    made ∙ ap (λ (q : List text.Edit). q ++ map written (edits_by x rs es left)) none
    ∙ ap (λ (e : List Rewriting). map written (edits_by x rs e left)) (gone ∙ ap (λ (l : List BoundLifetime). map left_out (filter (goes single names g) l)) list)
    ∙ ap (λ (l : List BoundLifetime). map written (edits_by x rs (elisions single names g) l)) (stay ∙ ap (λ (l : List BoundLifetime). filter (stays single names g) l) list)

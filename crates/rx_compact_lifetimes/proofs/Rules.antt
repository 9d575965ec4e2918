-- Types one after the other, and words by the two tests of them.
use Rattle.std.proofs.Common.{◌≡◌, ℕ, List, [], ◌∷◌, map, refl, ap}
use Rattle.std.specs.Str.{bytes_eq}
use Rattle.std.proofs.lemmas.Bool.Decides.{same_from_decides}
use Rattle.std.proofs.lemmas.Slice.Eq.{bytes_eq-Decides}
use Rattle.rx_core.specs.Bytes.{same_bytes}
use Rattle.rx_core.proofs.BytesLemmas.{same_bytes-true, same_bytes-equal}
use Rattle.rx_tree.specs.Plain as plain
use Rattle.rx_tree.specs.Plain.{TypeTree}
use Rattle.rx_tree.specs.PlainOf.{types_of}
use Rattle.rx_compact_lifetimes.specs.declared.rewriting.Rewriting.{Rewriting}
use Rattle.rx_compact_lifetimes.specs.Rewritten.{rewritten_type, rewritten_types}

pub same_is_equal : (x y : List ℕ) → same_bytes x y ≡ bytes_eq x y
same_is_equal x y = same_from_decides (same_bytes x y) (bytes_eq x y) (same_bytes-true x y, same_bytes-equal x y) (bytes_eq-Decides x y)

pub all_rewritten_is : (rs : List Rewriting) (ts : List TypeTree) → rewritten_types rs (types_of ts) ≡ types_of (map (rewritten_type rs) ts)
all_rewritten_is rs [] = refl
all_rewritten_is rs (t ∷ ts) = ap (plain.type_and (rewritten_type rs t)) (all_rewritten_is rs ts)

pub ruleset list_rules = (all_rewritten_is)

-- A function with a short signature declares no more lifetimes.
use Rattle.std.proofs.Common.{ℕ, suc, ◌<◌, ◌≤◌, ◌^◌, Bool, true, false, List, [], ◌∷◌, ◌++◌, length, map, arith, if◌then◌else◌, filter}
use Rattle.std.proofs.lemmas.List.{length-map}
use Rattle.rx_tree.specs.declared.tree.BoundLifetime.{BoundLifetime}
use Rattle.rx_tree.specs.Plain.{Function}
use Rattle.rx_hoist_extraction.specs.Names.{Names, is_among}
use Rattle.rx_compact_lifetimes.specs.Rewritten.{renamed_bound}
use Rattle.rx_compact_lifetimes.specs.Merged.{joined_lifetime, joined, merged, mergings_of}
use Rattle.rx_compact_lifetimes.specs.Elided.{stays, elided, in_body}

fewer_joined : (all : List BoundLifetime) (found : Names) (ls : List BoundLifetime) → length (joined all found ls) ≤ length ls
fewer_joined all found [] = omega arith
fewer_joined all found (l ∷ ls) = by (is_among l.name.name found) (fewer_joined all found ls) (fewer_joined all (found ++ l.name.name ∷ []) ls)
  where
    by : (b : Bool) → length (joined all found ls) ≤ length ls → length (joined all (found ++ l.name.name ∷ []) ls) ≤ length ls
        → length (if b then joined all found ls else joined_lifetime all l.name ∷ joined all (found ++ l.name.name ∷ []) ls) ≤ suc (length ls)
    by true h g = omega (arith, h)
    by false h g = omega (arith, g)

pub fewer_merged : (o : ℕ → ℕ → Bool) (f : Function) → length (merged o f).lifetimes ≤ length f.lifetimes
fewer_merged o f =
    let ks : List BoundLifetime = map (renamed_bound (mergings_of o f)) f.lifetimes in
    let a = fewer_joined ks [] ks in
    let b = length-map f.lifetimes (renamed_bound (mergings_of o f)) in
    omega (arith, a, b)

pub few_merged : (o : ℕ → ℕ → Bool) (f : Function) → length f.lifetimes < 2 ^ 32 → length (merged o f).lifetimes < 2 ^ 32
few_merged o f few = let a = fewer_merged o f in omega (arith, a, few)

fewer_kept : (keep : BoundLifetime → Bool) (ls : List BoundLifetime) → length (filter keep ls) ≤ length ls
fewer_kept keep [] = omega arith
fewer_kept keep (l ∷ ls) = by (keep l) (fewer_kept keep ls)
  where
    by : (b : Bool) → length (filter keep ls) ≤ length ls → length (if b then l ∷ filter keep ls else filter keep ls) ≤ suc (length ls)
    by true h = omega (arith, h)
    by false h = omega (arith, h)

pub few_elided : (single : Bool) (f : Function) → length f.lifetimes < 2 ^ 32 → length (elided single f).lifetimes < 2 ^ 32
few_elided single f few = let a = fewer_kept (stays single (in_body f.body) f) f.lifetimes in omega (arith, a, few)

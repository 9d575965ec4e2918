-- Lists that are appended one after another, as the tactics take them.
use Rattle.std.proofs.Common.{◌≡◌, ℕ, List, [], ◌++◌}
use Rattle.std.proofs.lemmas.List.{append-nil, append_assoc}
use Rattle.rx_core.specs.declared.types.Bound.{Bound}

pub numbers_none : (xs : List ℕ) → xs ++ [] ≡ xs
numbers_none xs = append-nil xs

pub numbers_then : (xs ys zs : List ℕ) → (xs ++ ys) ++ zs ≡ xs ++ (ys ++ zs)
numbers_then xs ys zs = append_assoc xs ys zs

pub bounds_none : (xs : List Bound) → xs ++ [] ≡ xs
bounds_none xs = append-nil xs

pub bounds_then : (xs ys zs : List Bound) → (xs ++ ys) ++ zs ≡ xs ++ (ys ++ zs)
bounds_then xs ys zs = append_assoc xs ys zs

pub ruleset appending = (numbers_none, numbers_then, bounds_none, bounds_then)

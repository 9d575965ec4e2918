-- A list behind which nothing stands.
use Rattle.std.proofs.Common.{◌≡◌, List, [], ◌++◌, append-nil}

pub append_none : {A : Type 0} (xs : List A) → xs ++ [] ≡ xs
append_none xs = append-nil xs

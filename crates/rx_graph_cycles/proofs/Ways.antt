-- Ways through a graph, and members of a list.
use Rattle.std.proofs.Common.{ℕ, ◌≤◌, ◌⊎◌, inl, inr, List, [], ◌∷◌, ◌++◌, length, subst}
use Rattle.std.proofs.lemmas.List.{get_or_past}
use Rattle.rx_graph_cycles.specs.Reaches.{targets, IsIn, Reaches, edge, further}

pub is_in_front : (xs ys : List ℕ) (j : ℕ) → IsIn xs j → IsIn (xs ++ ys) j
is_in_front [] ys j h = absurd h
is_in_front (x ∷ xs) ys j (inl same) = inl same
is_in_front (x ∷ xs) ys j (inr h) = inr (is_in_front xs ys j h)

pub is_in_behind : (xs ys : List ℕ) (j : ℕ) → IsIn ys j → IsIn (xs ++ ys) j
is_in_behind [] ys j h = h
is_in_behind (x ∷ xs) ys j h = inr (is_in_behind xs ys j h)

pub is_in_either : (xs ys : List ℕ) (j : ℕ) → IsIn (xs ++ ys) j → IsIn xs j ⊎ IsIn ys j
is_in_either [] ys j h = inr h
is_in_either (x ∷ xs) ys j (inl same) = inl (inl same)
is_in_either (x ∷ xs) ys j (inr h) = elim (is_in_either xs ys j h) [ inl a ↦ inl (inr a) | inr b ↦ inr b ]

-- a number past the lists leads nowhere
pub past_leads_nowhere : (edges : List (List ℕ)) (i j : ℕ) → length edges ≤ i → IsIn (targets edges i) j → ⊥
past_leads_nowhere edges i j past h = let Leads : List ℕ → Type 0 = λ ns. IsIn ns j in
    subst Leads (get_or_past edges i [] past) h

pub past_reaches_nothing : (edges : List (List ℕ)) (i j : ℕ) → length edges ≤ i → Reaches edges i j → ⊥
past_reaches_nothing edges i j past (edge h) = past_leads_nowhere edges i j past h
past_reaches_nothing edges i j past (further {j = k} h r) = past_leads_nowhere edges i k past h

-- a way goes on along one more edge
pub reaches_on : (edges : List (List ℕ)) (i j k : ℕ) → Reaches edges i j → IsIn (targets edges j) k → Reaches edges i k
reaches_on edges i j k (edge h) t = further h (edge t)
reaches_on edges i j k (further {j = m} h r) t = further h (reaches_on edges m j k r t)

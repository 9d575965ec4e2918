-- A search from a node: what it has found is reached, and what it has looked at leads to what it has found.
use Rattle.std.proofs.Common.{◌≡◌, ℕ, ◌<◌, ◌⊎◌, inl, inr, Bool, true, false, List, [], ◌∷◌, ◌++◌, length, replicate}
use Rattle.std.proofs.Common.{take, ◌-◌, refl, sym, ap, ◌∙◌, subst, arith}
use Rattle.rx_graph_cycles.specs.Reaches.{targets, IsIn, Reaches, edge, further}
use Rattle.rx_graph_cycles.specs.Marks.{marked, mark_all, with_new}
use Rattle.rx_graph_cycles.proofs.Ways.{is_in_front, is_in_behind, is_in_either, past_leads_nowhere, reaches_on}
use Rattle.rx_graph_cycles.proofs.Marking.{past_from_marked, mark_all_keeps, mark_all_marks}
use Rattle.rx_graph_cycles.proofs.Marking.{work_stays, from_new, new_in_work}

-- all that a node leads to has a mark
abbrev pub LeadsToMarked : List (List ℕ) → List Bool → ℕ → Type 0
LeadsToMarked edges seen j = (k : ℕ) → IsIn (targets edges j) k → marked seen k ≡ true

-- a node that was looked at is not the first, and leads to what was found
abbrev pub Looked : List (List ℕ) → ℕ → List Bool → ℕ → Type 0
Looked edges n seen j = (j ≡ n → ⊥) × LeadsToMarked edges seen j

pub record Searching (edges : List (List ℕ)) (n : ℕ) (seen : List Bool) (work : List ℕ) : Type 0 where
  pub reached : (j : ℕ) → IsIn work j → Reaches edges n j
  pub begun : LeadsToMarked edges seen n
  pub looked : (j : ℕ) → marked seen j ≡ true → IsIn work j ⊎ Looked edges n seen j

module _ (edges : List (List ℕ)) (n : ℕ) where
  abbrev none : List Bool
  none = replicate (length edges) false

  search_begins : n < length edges
      → Searching edges n (mark_all none (targets edges n)) (with_new none [] (targets edges n))
  search_begins within = record {
    reached = λ j h. found j (from_new none [] (targets edges n) j h);
    begun = λ k h. mark_all_marks none (targets edges n) k h;
    looked = λ j h. seen j (new_in_work none [] (targets edges n) j h);
  }
    where
      found : (j : ℕ) → IsIn [] j ⊎ IsIn (targets edges n) j → Reaches edges n j
      found j (inl h) = absurd h
      found j (inr h) = edge h

      seen : (j : ℕ) → (marked none j ≡ true) ⊎ IsIn (with_new none [] (targets edges n)) j
          → IsIn (with_new none [] (targets edges n)) j ⊎ Looked edges n (mark_all none (targets edges n)) j
      seen j (inr h) = inl h
      seen j (inl h) = let past = past_from_marked (length edges) j h in
          inr (omega arith, λ k t. absurd (past_leads_nowhere edges j k past t))

  search_goes_on : (seen : List Bool) (work : List ℕ) (v : ℕ) → Searching edges n seen (work ++ v ∷ []) → (v ≡ n → ⊥)
      → Searching edges n (mark_all seen (targets edges v)) (with_new seen work (targets edges v))
  search_goes_on seen work v s other = record {
    reached = λ j h. found j (from_new seen work (targets edges v) j h);
    begun = λ k h. mark_all_keeps seen (targets edges v) k (s.begun k h);
    looked = λ j h. known j (new_in_work seen work (targets edges v) j h);
  }
    where
      found : (j : ℕ) → IsIn work j ⊎ IsIn (targets edges v) j → Reaches edges n j
      found j (inl h) = s.reached j (is_in_front work (v ∷ []) j h)
      found j (inr h) = reaches_on edges n v j (s.reached v (is_in_behind work (v ∷ []) v (inl refl))) h

      here : (j : ℕ) → v ≡ j → Looked edges n (mark_all seen (targets edges v)) j
      here j same = let IsLooked : ℕ → Type 0 = λ i. Looked edges n (mark_all seen (targets edges v)) i in
          subst IsLooked same (other, λ k t. mark_all_marks seen (targets edges v) k t)

      before : (j : ℕ) → IsIn work j ⊎ IsIn (v ∷ []) j
          → IsIn (with_new seen work (targets edges v)) j ⊎ Looked edges n (mark_all seen (targets edges v)) j
      before j (inl h) = inl (work_stays seen work (targets edges v) j h)
      before j (inr (inl same)) = inr (here j same)
      before j (inr (inr h)) = absurd h

      old : (j : ℕ) → IsIn (work ++ v ∷ []) j ⊎ Looked edges n seen j
          → IsIn (with_new seen work (targets edges v)) j ⊎ Looked edges n (mark_all seen (targets edges v)) j
      old j (inl h) = before j (is_in_either work (v ∷ []) j h)
      old j (inr (ne, leads)) = inr (ne, λ k t. mark_all_keeps seen (targets edges v) k (leads k t))

      known : (j : ℕ) → (marked seen j ≡ true) ⊎ IsIn (with_new seen work (targets edges v)) j
          → IsIn (with_new seen work (targets edges v)) j ⊎ Looked edges n (mark_all seen (targets edges v)) j
      known j (inl h) = old j (s.looked j h)
      known j (inr h) = inl h

  -- the node that was taken from the work is the first
  search_finds : (seen : List Bool) (work : List ℕ) (v : ℕ) → Searching edges n seen (work ++ v ∷ []) → v ≡ n
      → Reaches edges n n
  search_finds seen work v s same = subst (Reaches edges n) same (s.reached v (is_in_behind work (v ∷ []) v (inl refl)))

  -- no work is left
  search_ends : (seen : List Bool) → Searching edges n seen [] → Reaches edges n n → ⊥
  search_ends seen s way = itself (s.looked n (first n way))
    where
      leads : (j : ℕ) → IsIn [] j ⊎ Looked edges n seen j → LeadsToMarked edges seen j
      leads j (inl h) = absurd h
      leads j (inr l) = l.1

      stays : (i j : ℕ) → marked seen i ≡ true → Reaches edges i j → marked seen j ≡ true
      stays i j m (edge h) = leads i (s.looked i m) j h
      stays i j m (further {j = k} h r) = stays k j (leads i (s.looked i m) k h) r

      first : (j : ℕ) → Reaches edges n j → marked seen j ≡ true
      first j (edge h) = s.begun j h
      first j (further {j = k} h r) = stays k j (s.begun k h) r

      itself : IsIn [] n ⊎ Looked edges n seen n → ⊥
      itself (inl h) = absurd h
      itself (inr l) = l.0 refl

  same_search : (seen seen' : List Bool) (work work' : List ℕ) → seen ≡ seen' → work ≡ work'
      → Searching edges n seen' work' → Searching edges n seen work
  same_search seen seen' work work' e f s =
      let AtWork : List ℕ → Type 0 = λ w. Searching edges n seen w in
      let AtSeen : List Bool → Type 0 = λ m. Searching edges n m work' in
      subst AtWork (sym f) (subst AtSeen (sym e) s)

  -- ---- the same, where the code has equations: `ms`, `w` and `ts` are the marks, the work and the targets passed

  pub begins_at : n < length edges → (ms seen : List Bool) (w ts work : List ℕ) → ms ≡ none → w ≡ []
      → ts ≡ targets edges n
      → seen ≡ mark_all ms ts → work ≡ with_new ms w ts → Searching edges n seen work
  begins_at within ms seen w ts work is_none is_empty leads seen_is work_is =
      same_search seen (mark_all none (targets edges n)) work (with_new none [] (targets edges n)) (cc) (cc)
      (search_begins within)

  pub goes_on_at : (ms seen : List Bool) (old w ts work : List ℕ) (v : ℕ) → Searching edges n ms old
      → old ≡ w ++ v ∷ [] → (v ≡ n → ⊥) → ts ≡ targets edges v
      → seen ≡ mark_all ms ts → work ≡ with_new ms w ts → Searching edges n seen work
  goes_on_at ms seen old w ts work v s old_is other leads seen_is work_is =
      same_search seen (mark_all ms (targets edges v)) work (with_new ms w (targets edges v)) (cc) (cc)
      (search_goes_on ms w v (same_search ms ms (w ++ v ∷ []) old refl (sym old_is) s) other)

  pub finds_at : (ms : List Bool) (old w : List ℕ) (v : ℕ) → Searching edges n ms old → old ≡ w ++ v ∷ [] → v ≡ n
      → Reaches edges n n
  finds_at ms old w v s old_is same = search_finds ms w v (same_search ms ms (w ++ v ∷ []) old refl (sym old_is) s) same

  pub ends_at : (ms : List Bool) (old w : List ℕ) (len : ℕ) → Searching edges n ms old → old ≡ w ++ []
      → w ≡ take (len - 1) old → len ≡ 0 → Reaches edges n n → ⊥
  ends_at ms old w len s old_is rest is_empty = search_ends ms (same_search ms ms [] old refl (sym empty) s)
    where
      empty : old ≡ []
      empty = old_is ∙ ap (λ l. l ++ []) (rest ∙ ap (λ m. take (m - 1) old) is_empty)

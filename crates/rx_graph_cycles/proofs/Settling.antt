-- Settled nodes lead to settled nodes alone, and none comes back to itself.
use Rattle.std.proofs.Common.{◌≡◌, ℕ, ◌⊎◌, inl, inr, Bool, true, false, cond, List, [], ◌∷◌, length, replicate, refl}
use Rattle.std.proofs.Common.{sym, ◌∙◌, subst, true≢false}
use Rattle.rx_graph_cycles.specs.Reaches.{targets, IsIn, Reaches, edge, further, NoCycle}
use Rattle.rx_graph_cycles.specs.Marks.{marked, mark, all_marked, full, settle, settle_all}
use Rattle.rx_graph_cycles.proofs.Ways.{past_leads_nowhere, past_reaches_nothing}
use Rattle.rx_graph_cycles.proofs.Marking.{mark_keeps, from_mark, mark_again, each_marked, full_marks, past_from_marked}

pub record Settled (edges : List (List ℕ)) (done : List Bool) : Type 0 where
  pub closed : (j : ℕ) → marked done j ≡ true → (k : ℕ) → IsIn (targets edges j) k → marked done k ≡ true
  pub apart : (j : ℕ) → marked done j ≡ true → Reaches edges j j → ⊥

module _ (edges : List (List ℕ)) where
  none_settled : Settled edges (replicate (length edges) false)
  none_settled = record {
    closed = λ j h k t. absurd (past_leads_nowhere edges j k (past_from_marked (length edges) j h) t);
    apart = λ j h r. past_reaches_nothing edges j j (past_from_marked (length edges) j h) r;
  }

  stays : (done : List Bool) → Settled edges done → (i j : ℕ) → marked done i ≡ true → Reaches edges i j
      → marked done j ≡ true
  stays done s i j m (edge h) = s.closed i m j h
  stays done s i j m (further {j = k} h r) = stays done s k j (s.closed i m k h) r

  -- one more node, all of whose targets are settled
  module _ (done : List Bool) (s : Settled edges done) (n : ℕ) (all : all_marked done (targets edges n) ≡ true) where
    leads : (k : ℕ) → IsIn (targets edges n) k → marked done k ≡ true
    leads k t = each_marked done (targets edges n) k all t

    ends : (j : ℕ) → Reaches edges n j → marked done j ≡ true
    ends j (edge h) = leads j h
    ends j (further {j = k} h r) = stays done s k j (leads k h) r

    one_more : marked done n ≡ false → Settled edges (mark done n)
    one_more new = record {
      closed = λ j h k t. mark_keeps done n k (of j k t (from_mark done n j h));
      apart = λ j h r. way j r (from_mark done n j h);
    }
      where
        of : (j k : ℕ) → IsIn (targets edges j) k → (n ≡ j) ⊎ (marked done j ≡ true) → marked done k ≡ true
        of j k t (inl same) = let Leads : ℕ → Type 0 = λ i. IsIn (targets edges i) k in
            leads k (subst Leads (sym same) t)
        of j k t (inr m) = s.closed j m k t

        way : (j : ℕ) → Reaches edges j j → (n ≡ j) ⊎ (marked done j ≡ true) → ⊥
        way j r (inl same) = let Comes : ℕ → Type 0 = λ i. Reaches edges i i in
            true≢false (sym (ends n (subst Comes (sym same) r)) ∙ new)
        way j r (inr m) = s.apart j m r

    settled_node : Settled edges (mark done n)
    settled_node = by (marked done n) refl
      where
        by : (b : Bool) → marked done n ≡ b → Settled edges (mark done n)
        by true is = subst (Settled edges) (sym (mark_again done n is)) s
        by false is = one_more is

  settled_one : (done : List Bool) (n : ℕ) → Settled edges done → Settled edges (settle edges done n)
  settled_one done n s = by (all_marked done (targets edges n)) refl
    where
      by : (b : Bool) → all_marked done (targets edges n) ≡ b → Settled edges (cond b (mark done n) done)
      by true is = settled_node done s n is
      by false is = s

  settled_each : (done : List Bool) (ns : List ℕ) → Settled edges done → Settled edges (settle_all edges done ns)
  settled_each done [] s = s
  settled_each done (n ∷ ns) s = settled_each (settle edges done n) ns (settled_one done n s)

  pub settled_apart : (order : List ℕ) → full (settle_all edges (replicate (length edges) false) order) ≡ true
      → NoCycle edges
  settled_apart order h n way =
      let s = settled_each (replicate (length edges) false) order none_settled in s.apart n (full_marks _ n h) way

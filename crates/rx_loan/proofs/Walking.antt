-- Loans in scope lie on ways from their borrows; where lifetimes have fewer sites, they are in scope at fewer.
use Rattle.std.proofs.Common.{◌≡◌, ◌⊎◌, inl, inr, ℕ, Bool, true, ◌==◌, ◌<◌, List, [], ◌∷◌, ◌++◌, sym, subst, true≢false, Some, length}
use Rattle.std.proofs.lemmas.Bool.{eqb-true}
use Rattle.rx_lower_walks.specs.Actions.{Action}
use Rattle.rx_lower_walks.specs.Walks.{Among}
use Rattle.rx_lower_walks.specs.Walks as walks
use Rattle.rx_graph.specs.Facts.{has, targets}
use Rattle.rx_graph.proofs.Spreading.{one_of}
use Rattle.rx_lower_walks.specs.Graph.{Site, site_at}
use Rattle.rx_facts_tables.specs.Along.{Arrives, there, by, edges_of}
use Rattle.rx_facts_tables.proofs.Ways.{targets_at, site_here, site_within, arrives_on}
use Rattle.rx_graph_reach.specs.Reached.{next, further}
use Rattle.rx_graph_reach.proofs.Seeing.{leads_within}
use Rattle.rx_loan.specs.Accesses.{Loan}
use Rattle.rx_loan.specs.Loans.{InScope, IsLegal}
use Rattle.rx_loan.proofs.Scoping.{length_edges}

among_next : (q : ℕ) (ps : List ℕ) (p : ℕ) → (has ps p ≡ true → Among p ps) → (p == q ≡ true) ⊎ (has ps p ≡ true) → Among p (q ∷ ps)
among_next q ps p rest (inl e) = subst (λ n. Among p (n ∷ ps)) (eqb-true p q e) walks.here
among_next q ps p rest (inr h) = walks.there (rest h)

among_has : (ps : List ℕ) (p : ℕ) → has ps p ≡ true → Among p ps
among_has [] p h = absurd (true≢false (sym h))
among_has (q ∷ ps) p h = among_next q ps p (λ r. among_has ps p r) (one_of (p == q) (has ps p) h)

-- a site that leads to another is there, and has it among those that follow
leads_there : (g : List Site) (q p : ℕ) → has (targets (edges_of g) q) p ≡ true → (s : Site) × (site_at g q ≡ Some s) × Among p s.next
leads_there g q p h =
    let s = site_here g q (subst (λ n. q < n) (length_edges g) (leads_within (edges_of g) q p h)) in
    (s.0, s.1, among_has s.0.next p (subst (λ l. has l p ≡ true) (targets_at g q s.0 s.1) h))

pub on_a_way : (g : List Site) (R : ℕ → ℕ → Bool) (l : Loan) (p : ℕ) → InScope g R l p → (us : List Action) × Arrives g l.site us p
on_a_way g R l p (next t i) = let s = leads_there g l.site p t in (s.0.action ∷ [], by p s.0 s.1 s.2 there)
on_a_way g R l p (further q r e t i) = let s = leads_there g q p t in let w = on_a_way g R l q r in
    (w.0 ++ s.0.action ∷ [], arrives_on g l.site q p w.0 s.0 w.1 s.1 s.2)

pub inside : (g : List Site) (R : ℕ → ℕ → Bool) (l : Loan) (p : ℕ) → InScope g R l p → R l.region p ≡ true
inside g R l p (next t i) = i
inside g R l p (further q r e t i) = i

pub more_scope : (g : List Site) (R S : ℕ → ℕ → Bool) (l : Loan) (p : ℕ) → p < length g → ((r p : ℕ) → p < length g → R r p ≡ true → S r p ≡ true)
    → InScope g R l p → InScope g S l p
more_scope g R S l p w more (next t i) = next t (more l.region p w i)
more_scope g R S l p w more (further q r e t i) =
    further q (more_scope g R S l q (subst (λ n. q < n) (length_edges g) (leads_within (edges_of g) q p t)) more r) e t (more l.region p w i)

pub fewer_legal : (g : List Site) (R S : ℕ → ℕ → Bool) (ls : List Loan) → ((r p : ℕ) → p < length g → R r p ≡ true → S r p ≡ true) → IsLegal g S ls → IsLegal g R ls
fewer_legal g R S ls more legal l p meets = legal l p (record {
  listed = meets.listed;
  scope = more_scope g R S l p (site_within g p meets.against.0 meets.against.1) more meets.scope;
  against = meets.against;
})

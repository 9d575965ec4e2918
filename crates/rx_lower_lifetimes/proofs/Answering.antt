-- What is answered of a flow is answered of the function whose order it stands for.
use Rattle.std.proofs.Common.{◌≡◌, ℕ, suc, ◌+◌, ◌<◌, ◌≤◌, inl, inr, Bool, List, [], ◌∷◌, ◌++◌, length, map, Result, Ok, Err, IfOk, ◌↔◌, refl, sym, ap, subst, ◌∙◌, arith}
use Rattle.rx_typed.specs.Numbers.{capped, open_in, numbered}
use Rattle.rx_lower_walks.specs.Orders.{order_function}
use Rattle.rx_lower_walks.specs.Walks.{IsWalk}
use Rattle.rx_lower_walks.specs.Graph.{Path}
use Rattle.rx_lower_walks.specs.Graph as graphs
use Rattle.rx_lower_walks.specs.Pieces.{part, graph_of, graph}
use Rattle.rx_lower_walks.specs.Text.{actions_of}
use Rattle.rx_lower_walks.proofs.Sites.{paths_are_walks_of}
use Rattle.rx_lower_walks.proofs.WholeLemmas.{size_is}
use Rattle.rx_lower_walks.specs.Flows.{Flow, order_of}
use Rattle.rx_lower_walks.specs.declared.site.Site.{Site}
use Rattle.rx_lower_walks.specs.declared.whole.GraphFault.{GraphFault}
use Rattle.rx_lower_walks.specs.declared.whole.GraphFault.TheVariants as fault
use Rattle.rx_lower_walks.specs.PlainSite.{plain-Site}
use Rattle.rx_lower_walks.specs.Refusal as refusal
use Rattle.rx_lower_lifetimes.specs.declared.whole.Graph.{Graph}
use Rattle.rx_lower_lifetimes.specs.declared.whole.LowerFault.{LowerFault}
use Rattle.rx_lower_lifetimes.specs.declared.whole.LowerFault.TheVariants.{TooLarge}
use Rattle.rx_lower_lifetimes.specs.Values.{Open, held_by}
use Rattle.rx_lower_lifetimes.specs.Positions.{in_variables, in_held, all_own, positions}
use Rattle.rx_lower_lifetimes.specs.Numbered.{all_open, all_numbered}
use Rattle.rx_lower_lifetimes.specs.Held.{held_acts, Notes, all_noted}
use Rattle.rx_lower_lifetimes.specs.Lowered.{Function, known, actions, temporaries, lifetimes_by}
use Rattle.rx_lower_lifetimes.specs.Answer.{plain-Lifetimes, IsLoweredWithin, AnswersWithin, RefusesOver, Walked}
use Rattle.rx_lower_lifetimes.proofs.Gathered.{flow_notes}

pub sum_of_three : (a b c : ℕ) → capped (capped (a + b) + c) ≡ capped (b + (c + a))
sum_of_three a b c = omega arith

pub open_append : (ts us : List Open) → all_open (ts ++ us) ≡ all_open ts + all_open us
open_append [] us = omega arith
open_append (t ∷ ts) us = omega (arith, open_append ts us)

pub numbered_append : (n : ℕ) (ts us : List Open) → all_numbered n (ts ++ us) ≡ all_numbered n ts ++ all_numbered (n + all_open ts) us
numbered_append n [] us = let e : n ≡ n + 0 = omega arith in ap (λ m. all_numbered m us) e
numbered_append n (t ∷ ts) us =
    let k = open_in t.from t.typ in
    let e : (n + k) + all_open ts ≡ n + (k + all_open ts) = omega arith in
    ap (λ l. numbered t.from n t.typ ∷ l) (numbered_append (n + k) ts us ∙ ap (λ m. all_numbered (n + k) ts ++ all_numbered m us) e)

pub ruleset number_rules = (open_append, numbered_append)

-- ---- a function and a flow of its order

-- what is noted of the flow is told by the sites of the function's graph
pub stands : (F : Function) (f : Flow) (N : Notes) → order_of f ≡ order_function F.body → N ≡ all_noted (known F) (record { held = []; own = 0 }) (held_acts f)
    → N ≡ record { held = temporaries F; own = capped (all_own F.items (actions F)) }
stands F f N o n =
    n ∙ flow_notes (known F) f
    ∙ ap (λ g. record { held = held_by (known F) [] (actions_of g); own = capped (all_own F.items (actions_of g)) }) (ap graph_of o)

counted : (F : Function) (N : Notes) (n : ℕ) → N ≡ record { held = temporaries F; own = capped (all_own F.items (actions F)) }
    → n ≡ capped (in_variables F.variables + (in_held N.held + N.own)) → n ≡ capped (positions (known F) (actions F))
counted F N n s e =
    let v = in_variables F.variables in let h = in_held (temporaries F) in let o = all_own F.items (actions F) in
    let c : capped (v + (h + capped o)) ≡ capped (v + (h + o)) = omega arith in
    e ∙ ap (λ M. capped (in_variables F.variables + (in_held M.held + M.own))) s ∙ c

length_plain : (g : List Site) → length (map plain-Site g) ≡ length g
length_plain [] = refl
length_plain (s ∷ g) = ap suc (length_plain g)

refused : (limit : ℕ) (F : Function) (m : List Bool) (r : Result Graph LowerFault) (fault : LowerFault) → r ≡ Err fault → RefusesOver limit F fault → AnswersWithin limit F m r
refused limit F m r fault e h = subst (λ x. AnswersWithin limit F m x) (sym e) h

pub too_many_sites : (limit : ℕ) (F : Function) (m : List Bool) (f : Flow) (N : Notes) (n k : ℕ) (g : GraphFault) (r : Result Graph LowerFault)
    → order_of f ≡ order_function F.body → N ≡ all_noted (known F) (record { held = []; own = 0 }) (held_acts f)
    → n ≡ capped (in_variables F.variables + (in_held N.held + N.own)) → g ≡ fault.TooLarge k → refusal.RefusesOver limit g (part [] (order_of f)).size
    → r ≡ Err (TooLarge F.item k n) → AnswersWithin limit F m r
too_many_sites limit F m f N n k g r o noted n_is g_is h r_is =
    let size : length (graph F.body) ≡ (part [] (order_of f)).size = size_is (order_function F.body) ∙ ap (λ p. (part [] p).size) (sym o) in
    let many = subst (λ x. refusal.RefusesOver limit x (part [] (order_of f)).size) g_is h in
    refused limit F m r (TooLarge F.item k n) r_is
    (refl, many.0 ∙ ap capped (sym size), counted F N n (stands F f N o noted) n_is, inl (omega (arith, size, many.1)))

pub too_many_positions : (limit : ℕ) (F : Function) (m : List Bool) (f : Flow) (N : Notes) (n k : ℕ) (g : List Site) (r : Result Graph LowerFault)
    → order_of f ≡ order_function F.body → N ≡ all_noted (known F) (record { held = []; own = 0 }) (held_acts f)
    → n ≡ capped (in_variables F.variables + (in_held N.held + N.own)) → map plain-Site g ≡ graph_of (order_of f) → length g ≤ limit → limit < 4294967296
    → k ≡ length g → 65536 < n → r ≡ Err (TooLarge F.item k n) → AnswersWithin limit F m r
too_many_positions limit F m f N n k g r o noted n_is g_is few small k_is many r_is =
    let long : length (graph F.body) ≡ length g = ap length (sym (g_is ∙ ap graph_of o)) ∙ length_plain g in
    let p = counted F N n (stands F f N o noted) n_is in
    refused limit F m r (TooLarge F.item k n) r_is
    (refl, omega (arith, long, few, small, k_is), p, inr (omega (arith, p, many)))

pub lowered : (limit : ℕ) (F : Function) (m : List Bool) (f : Flow) (N : Notes) (n : ℕ) (g : List Site) (G : Graph)
    → order_of f ≡ order_function F.body → N ≡ all_noted (known F) (record { held = []; own = 0 }) (held_acts f)
    → n ≡ capped (in_variables F.variables + (in_held N.held + N.own)) → map plain-Site g ≡ graph_of (order_of f) → length g ≤ limit
    → n ≤ 65536 → G.sites ≡ g → G.mutable ≡ m
    → plain-Lifetimes G.lifetimes ≡ lifetimes_by F.items F.item F.body.params F.variables N.held (actions_of (map plain-Site g)) → IsLoweredWithin limit F m G
lowered limit F m f N n g G o noted n_is g_is few little sites_are m_is l_is =
    let same : map plain-Site g ≡ graph F.body = g_is ∙ ap graph_of o in
    let long : length (graph F.body) ≡ length g = ap length (sym same) ∙ length_plain g in
    let s = stands F f N o noted in
    let p = counted F N n s n_is in
    record {
      sites = ap (map plain-Site) sites_are ∙ same;
      mutable_is = m_is;
      lifetimes_are = l_is ∙ ap (λ M. lifetimes_by F.items F.item F.body.params F.variables M.held (actions_of (map plain-Site g))) s
          ∙ ap (λ x. lifetimes_by F.items F.item F.body.params F.variables (temporaries F) (actions_of x)) same;
      few_sites = omega (arith, long, few);
      few_positions = omega (arith, p, little);
    }

-- ---- walks

walked : (limit : ℕ) (F : Function) (m : List Bool) (g : Graph) → IsLoweredWithin limit F m g → Walked F g
walked limit F m g h w = subst (λ (s : List graphs.Site). Path s (0 ∷ []) w ↔ IsWalk F.body w) (sym h.sites) (paths_are_walks_of F.body w)

pub walks : (limit : ℕ) (F : Function) (m : List Bool) (r : Result Graph LowerFault) → AnswersWithin limit F m r → IfOk r (λ g. Walked F g)
walks limit F m (Ok g) h = walked limit F m g h
walks limit F m (Err fault) h = tt

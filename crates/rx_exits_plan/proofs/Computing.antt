-- A plan and the first condition that fails, computed over the graph of the marked function, for examples: a fact holds at a site
-- on some path, or lies ahead of it, by as many rounds as there are sites.
use Rattle.std.specs.Prelude.{ℕ, zero, suc, ◌+◌, ◌==◌, Bool, true, false, not, ◌&&◌, ◌||◌, if◌then◌else◌, List, [], ◌∷◌, length, map, Option, Some, None, get_or}
use Rattle.rx_typed.specs.Types.{Typ}
use Rattle.rx_typed.specs.Tree.{Exp, variable, own, mark_of}
use Rattle.rx_lower_walks.specs.Actions.{Action}
use Rattle.rx_lower_walks.specs.Graph.{Site}
use Rattle.rx_lower_walks.specs.Pieces.{graph}
use Rattle.rx_facts_tables.specs.Along.{Switch, behind}
use Rattle.rx_facts_tables.specs.Places.{is_part, all_parts}
use Rattle.rx_facts_tables.specs.Setting.{setting}
use Rattle.rx_facts_tables.specs.Wholes.{standing}
use Rattle.rx_facts_tables.specs.Live.{living}
use Rattle.rx_exits_plan.specs.Runs.{last_value}
use Rattle.rx_exits_plan.specs.Points.{Exit, next, returns, same_exit, Point, enters, leaves, number}
use Rattle.rx_exits_plan.specs.Marked.{marked}
use Rattle.rx_exits_plan.specs.Unmarked.{is_mark}
use Rattle.rx_exits_plan.specs.Occurrences.{has_number, those}
use Rattle.rx_exits_plan.specs.Exits.{Jump, exits, jumps, at_end}
use Rattle.rx_exits_plan.specs.Asked.{Asked}
use Rattle.rx_exits_plan.specs.Plan.{Plan, foreign_of, offered, variables_of, handed_value, is_redeclared, is_loose}
use Rattle.rx_exits_plan.specs.Shadowed.{meant}

-- ---- facts along paths

abbrev goes_to : ℕ → List ℕ → Bool
goes_to q [] = false
goes_to q (p ∷ ps) = (q == p) || goes_to q ps

-- whether it holds behind some site that leads here
abbrev arriving : Switch → ℕ → List Site → List Bool → Bool
arriving s q [] row = false
arriving s q (x ∷ g) [] = false
arriving s q (x ∷ g) (b ∷ row) = (goes_to q x.next && behind s x.action b) || arriving s q g row

abbrev turned : Switch → Bool → List Site → List Bool → ℕ → List Site → List Bool
turned s start g row q [] = []
turned s start g row q (x ∷ xs) = (((q == 0) && start) || arriving s q g row) ∷ turned s start g row (suc q) xs

abbrev rounds : ℕ → Switch → Bool → List Site → List Bool → List Bool
rounds zero s start g row = row
rounds (suc n) s start g held = rounds n s start g (turned s start g held 0 g)

abbrev nowhere : List Site → List Bool
nowhere [] = []
nowhere (x ∷ g) = false ∷ nowhere g

abbrev holds_at : Switch → Bool → List Site → List Bool
holds_at s start g = rounds (length g + 1) s start g (nowhere g)

-- whether it lies ahead behind a site
abbrev any_of : List Bool → List ℕ → Bool
any_of row [] = false
any_of row (p ∷ ps) = get_or row p false || any_of row ps

abbrev foreseen : Switch → List Site → List Bool → List Bool
foreseen s [] row = []
foreseen s (x ∷ g) row = behind s x.action (any_of row x.next) ∷ foreseen s g row

abbrev back_rounds : ℕ → Switch → List Site → List Bool → List Bool
back_rounds zero s g row = row
back_rounds (suc n) s g row = back_rounds n s g (foreseen s g row)

abbrev ahead_of : Switch → List Site → List Bool
ahead_of s g = back_rounds (length g + 1) s g (nowhere g)

-- ---- marks

abbrev is_shown : Point → Action → Bool
is_shown p a = (a.node == number p) && is_mark a.act

abbrev is_there : Point → List Site → Bool
is_there p [] = false
is_there p (x ∷ g) = is_shown p x.action || is_there p g

abbrev at_point : Point → List Site → List Bool → Bool
at_point p [] row = false
at_point p (x ∷ g) [] = false
at_point p (x ∷ g) (b ∷ row) = (is_shown p x.action && b) || at_point p g row

abbrev behind_point : Point → List Site → List Site → List Bool → Bool
behind_point p all [] row = false
behind_point p all (x ∷ g) row = (is_shown p x.action && any_of row x.next) || behind_point p all g row

-- ---- plans

abbrev graph_with : Asked → List ℕ → List Site
graph_with A xs = graph (marked A.run A.home.around.loops xs A.function)

abbrev parts_from : Asked → ℕ → ℕ → List ℕ → List ℕ
parts_from A x zero found = found
parts_from A x (suc n) found = parts_from A x n (if is_part A.frame (own x) n then n ∷ found else found)

abbrev parts_of : Asked → ℕ → List ℕ
parts_of A x = parts_from A x (all_parts A.frame.sizes A.frame.types) []

-- some part may be set there; may be unset; both
abbrev unsetting : Switch → Switch
unsetting s = record { gives = λ a. s.kills a && not (s.gives a); kills = λ a. s.gives a }

abbrev may_set : Asked → List Site → Point → ℕ → Bool
may_set A g p n = at_point p g (holds_at (setting A.frame n) false g)

abbrev may_unset : Asked → List Site → Point → ℕ → Bool
may_unset A g p n = at_point p g (holds_at (unsetting (setting A.frame n)) true g)

abbrev any_part : (ℕ → Bool) → List ℕ → Bool
any_part f [] = false
any_part f (n ∷ ns) = f n || any_part f ns

abbrev some_unset : Asked → List Site → Point → ℕ → Bool
some_unset A g p x = any_part (may_unset A g p) (parts_of A x)

abbrev is_mixed : Asked → List Site → ℕ → Bool
is_mixed A g x = any_part (λ n. may_set A g enters n && may_unset A g enters n) (parts_of A x)

abbrev may_stand : Asked → List Site → ℕ → Bool
may_stand A g x = at_point enters g (holds_at (standing x []) false g)

abbrev is_live : List Site → Exit → ℕ → Bool
is_live g e x = behind_point (leaves e) g g (ahead_of (living (variable x)) g)

abbrev outs_of : Asked → Plan → List Site → Exit → List ℕ
outs_of A k g returns = []
outs_of A k g e = those (is_live g e) (offered A k.locals)

-- params and locals, outs, and the rest
abbrev given : Asked → Plan
given A = let g = graph_with A [] in record {
  exits = exits A.run A.home;
  params = those (λ x. not (some_unset A g enters x)) (foreign_of A);
  locals = those (λ x. not (may_stand A g x)) (foreign_of A);
  outs = λ e. [];
  value = handed_value (last_value A.run A.home.body);
  redeclared = [];
  loose = [];
}

abbrev with_outs : Asked → Plan → Plan
with_outs A k = let g = graph_with A k.params in record k { outs = λ e. outs_of A k g e }

abbrev with_rest : Asked → Plan → Plan
with_rest A k = record k { redeclared = those (is_redeclared A (k.outs next)) (variables_of A); loose = those (is_loose A k) (variables_of A) }

abbrev pub planned : Asked → Plan
planned A = with_rest A (with_outs A (given A))

-- what is looked at in examples
pub record Shown : Type 0 where
  pub exits : List Exit
  pub params : List ℕ
  pub locals : List ℕ
  pub outs : List (List ℕ)
  pub redeclared : List ℕ
  pub loose : List ℕ

abbrev pub shown : Plan → Shown
shown k = record { exits = k.exits; params = k.params; locals = k.locals; outs = map k.outs k.exits; redeclared = k.redeclared; loose = k.loose }

-- ---- the first condition that fails

pub data Row : Type 0 where
  fine : Row
  unreachable_first : Row
  unreachable_last : Row
  unreachable_jump : ℕ → Row
  endless : Row
  mixed_init : ℕ → Row
  partly_moved : ℕ → Row
  shadowed : ℕ → Row

abbrev pub or_else : Row → Row → Row
or_else fine r = r
or_else q r = q

abbrev first_such : (ℕ → Row) → (ℕ → Bool) → List ℕ → Row
first_such row f [] = fine
first_such row f (x ∷ xs) = if f x then row x else first_such row f xs

abbrev has_next : List Exit → Bool
has_next [] = false
has_next (next ∷ es) = true
has_next (e ∷ es) = has_next es

abbrev goes_on : Asked → Bool
goes_on A = by (last_value A.run A.home.body)
  where
    there : Option Typ → Bool
    there None = false
    there (Some t) = true

    by : Option Exp → Bool
    by None = false
    by (Some e) = there (mark_of e).typ

abbrev first_missing : List Site → List Jump → List Exit → Row
first_missing g js [] = fine
first_missing g js (next ∷ es) = first_missing g js es
first_missing g js (e ∷ es) = if is_there (leaves e) g then first_missing g js es else at_jump e js
  where
    at_jump : Exit → List Jump → Row
    at_jump e [] = endless
    at_jump e (j ∷ js) = if same_exit e j.exit then unreachable_jump j.node else at_jump e js

abbrev unreached : Asked → List Site → Row
unreached A g =
    if not (is_there enters g) then unreachable_first
    else (if not (is_there (leaves next) g) && (has_next (exits A.run A.home) || goes_on A) then unreachable_last
    else first_missing g (jumps A.run A.home) (exits A.run A.home))

abbrev no_exit : List Exit → Row
no_exit [] = endless
no_exit (e ∷ es) = fine

abbrev out_unset : Asked → Plan → List Site → List Exit → ℕ → Bool
out_unset A k g [] x = false
out_unset A k g (e ∷ es) x = (has_number x (k.outs e) && some_unset A g (leaves e) x) || out_unset A k g es x

-- in part on a walk that enters: not mixed, neither wholly set nor lost as a whole
abbrev is_partly : Asked → List Site → ℕ → Bool
is_partly A g x = has_number x (foreign_of A) && some_unset A g enters x && may_stand A g x

abbrev is_hidden : Asked → Plan → (ℕ → ℕ → Bool) → ℕ → Bool
is_hidden A k same x = at_jumps (jumps A.run A.home) || (has_number x (k.outs next) && not (is_it (meant same x (at_end A.run A.home).scope)))
  where
    is_it : Option ℕ → Bool
    is_it None = false
    is_it (Some y) = x == y

    at_jumps : List Jump → Bool
    at_jumps [] = false
    at_jumps (j ∷ js) = (has_number x (k.outs j.exit) && not (is_it (meant same x j.scope))) || at_jumps js

abbrev pub first_row : Asked → (ℕ → ℕ → Bool) → Row
first_row A same = let g = graph_with A [] in let k = planned A in
    or_else (unreached A g) (or_else (no_exit k.exits) (or_else (first_such mixed_init (is_mixed A g) (foreign_of A))
    (or_else (first_such partly_moved (λ x. is_partly A g x || out_unset A k g k.exits x) (variables_of A))
    (first_such shadowed (is_hidden A k same) (variables_of A)))))

-- A function that is like another, without an opening, is so by its form, whichever variables may be elsewhere.
use Rattle.std.proofs.Common.{◌≡◌, ℕ, [], Option, Some, refl, sym, subst}
use Rattle.rx_typed.specs.Tree.{Exp, Operands, Scrutinee, Arms, Body, Function}
use Rattle.rx_meaning.specs.Values.{element}
use Rattle.rx_meaning.specs.Programs.{Program}
use Rattle.rx_engine_simulation.specs.Turns.{Allowance}
use Rattle.rx_engine_simulation.specs.Histories.{Facts}
use Rattle.rx_engine_simulation.specs.Sights.{Renaming}
use Rattle.rx_engine_simulation.specs.Jumps.{Jumping}
use Rattle.rx_engine_simulation.specs.Openings.{no_openings}
use Rattle.rx_engine_simulation.specs.Like.{LikeExp, opens, LikeAll, LikeMatched, LikeArms, LikeBody, opens_in, reads, borrows, views, shares, builds, builds_structs, builds_variants, units, lazies, assigns, updates, calls, inputs, prints, blocks, chooses, loops, stays, gives, no_operands, operands_and, at_places, of_values, no_arms, arms_and, ends_in, runs_on, declares_all, lets_in, reads_place, looks_behind}
use Rattle.rx_engine_simulation.specs.Programs.{facts_of, LikeFunction, LikeEntry, functions, neither}
use Rattle.rx_engine_simulation.specs.Marking.{without_turns}
use Rattle.rx_engine_related.specs.ByForm.{by_form, RelatedFunction, SameEntry, same_function, no_function, IsItself, is_itself, is_none, EachIsItself}
use Rattle.rx_engine_related.proofs.Freed.{freed, seen_free, place_free, declared_free, params_free, bindings_free, tests_free}

module _ (items : ℕ → ℕ) (gain : Allowance) (V : Facts) where
  mutual
    exp_free : {k : ℕ} {J : Jumping} {R : Renaming} {e e' : Exp} → LikeExp items no_openings gain V k J R e e' → LikeExp items no_openings gain (by_form []) k J (freed R) e e'
    exp_free (opens a i le o l) = absurd o
    exp_free (reads p) = reads (place_free p)
    exp_free (borrows p) = borrows (place_free p)
    exp_free {R = R} (views {x = x} seen) = views (seen_free R x seen)
    exp_free (shares l) = shares (exp_free l)
    exp_free (builds f l) = builds f (all_free l)
    exp_free (builds_structs f l) = builds_structs f (all_free l)
    exp_free (builds_variants f l) = builds_variants f (all_free l)
    exp_free units = units
    exp_free (lazies i j le l r) = lazies i j le (exp_free l) (exp_free r)
    exp_free (assigns p l) = assigns (place_free p) (exp_free l)
    exp_free (updates p q l) = updates (place_free p) (place_free q) (exp_free l)
    exp_free (calls l) = calls (all_free l)
    exp_free inputs = inputs
    exp_free (prints l) = prints (exp_free l)
    exp_free (blocks l) = blocks (body_free l)
    exp_free (chooses i j le m r) = chooses i j le (matched_free m) (arms_free r)
    exp_free (loops apart p q e) = loops apart p q (exp_free e)
    exp_free (stays f) = stays f
    exp_free (gives f l) = gives f (exp_free l)

    all_free : {k : ℕ} {J : Jumping} {R : Renaming} {es es' : Operands} → LikeAll items no_openings gain V k J R es es' → LikeAll items no_openings gain (by_form []) k J (freed R) es es'
    all_free no_operands = no_operands
    all_free (operands_and i j le l ls) = operands_and i j le (exp_free l) (all_free ls)

    matched_free : {k : ℕ} {J : Jumping} {R : Renaming} {c c' : Scrutinee} → LikeMatched items no_openings gain V k J R c c' → LikeMatched items no_openings gain (by_form []) k J (freed R) c c'
    matched_free at_places = at_places
    matched_free (of_values l) = of_values (exp_free l)

    arms_free : {k : ℕ} {J : Jumping} {R : Renaming} {c c' : Scrutinee} {l l' : Arms} → LikeArms items no_openings gain V k J R c c' l l' → LikeArms items no_openings gain (by_form []) k J (freed R) c c' l l'
    arms_free no_arms = no_arms
    arms_free (arms_and Ra lt lb le ls) = arms_and (freed Ra) (tests_free lt) (bindings_free V lb) (exp_free le) (arms_free ls)

    body_free : {k : ℕ} {J : Jumping} {R : Renaming} {b b' : Body} → LikeBody items no_openings gain V k J R b b' → LikeBody items no_openings gain (by_form []) k J (freed R) b b'
    body_free (opens_in a i le o l) = absurd o
    body_free (ends_in l) = ends_in (exp_free l)
    body_free (runs_on i j le l lb) = runs_on i j le (exp_free l) (body_free lb)
    body_free (declares_all Ra ld lb) = declares_all (freed Ra) (declared_free V ld) (body_free lb)
    body_free (lets_in Ra i j le lc lp lb) = lets_in (freed Ra) i j le (matched_free lc) (bindings_free V lp) (body_free lb)
    body_free (reads_place l) = reads_place (body_free l)
    body_free {R = R} (looks_behind x seen behind l) = looks_behind x (seen_free R x seen) behind (body_free l)

pub related_so : (items : ℕ → ℕ) (gain : Allowance) {g g' : Function} → LikeFunction items no_openings gain g g' → RelatedFunction items no_openings gain [] g g'
related_so items gain {g} l = record {
  inside = freed l.inside;
  params = params_free (facts_of g l.about l.untouched) l.params;
  body = exp_free items gain (facts_of g l.about l.untouched) l.body;
}

pub entry_same : (items : ℕ → ℕ) (o o' : Option (Option Function)) → LikeEntry items no_openings without_turns o o' → SameEntry items o o'
entry_same items _ _ (functions l) = same_function (related_so items without_turns l)
entry_same items o o' (neither n n') = no_function n n'

same_inside : {g g' : Function} → Some (Some g) ≡ Some (Some g') → g ≡ g'
same_inside e = cc

itself_if : {o o' : Option (Option Function)} → LikeEntry (λ f. f) no_openings without_turns o o' → o ≡ o' → IsItself o
itself_if (functions {g = g} l) e = is_itself (subst (λ h. RelatedFunction (λ f. f) no_openings without_turns [] g h) (sym (same_inside e)) (related_so (λ f. f) without_turns l))
itself_if (neither n n') e = is_none n

pub each_itself : (P : Program) → ((f : ℕ) → LikeEntry (λ f. f) no_openings without_turns (element P.functions f) (element P.functions f)) → EachIsItself P
each_itself P l f = itself_if (l f) refl

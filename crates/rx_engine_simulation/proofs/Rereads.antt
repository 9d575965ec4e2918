-- A program runs as the one in which references are read that it asks for again, unless a value that it asks is none.
use Rattle.std.proofs.Common.{◌≡◌, ℕ, zero, suc, Bool, true, false, nat_eq, List, [], ◌∷◌, Option, Some, None, refl, sym, ap, ◌∙◌, subst, ◌⊎◌, inl, inr, ℤ, if◌then◌else◌}
use Rattle.rx_core.specs.declared.types.Step.TheVariants as step
use Rattle.rx_typed.specs.Tree as tree
use Rattle.rx_typed.specs.Tree.{Mark, Exp, Operands, Scrutinee, Arms, Body, Parameter, Function, Temporary, own, under, mark_of, temporary_of, temporaries_of, fields_of}
use Rattle.rx_lower_walks.specs.Matching.{PartTest, Binding, tests, bindings}
use Rattle.rx_lower_walks.specs.Actions.{Build, Subject, in_temporary, subject, does}
use Rattle.rx_lower_walks.specs.Orders.{breaks, continues, returns}
use Rattle.rx_meaning.specs.Endings.{lacks, astray, missing_reference, missing_function, wrong}
use Rattle.rx_meaning.specs.Straying.{where_some, unlike, why_no_part, why_no_content, why_not_followed}
use Rattle.rx_meaning.specs.Values.{Value, number, truth, whole, tagged, pointer, lacking, and_then, get, element, slot_of, Frame, State, with_turns, new_frame}
use Rattle.rx_meaning.specs.Results as results
use Rattle.rx_meaning.specs.Results.{Result, Done, or_ends, on, jumps, stops, after, bind, result_of}
use Rattle.rx_meaning.specs.Places.{Spot, in_slot, content, pointed, follow, whole_value, reference_to}
use Rattle.rx_meaning.specs.Acting.{performed, plainly}
use Rattle.rx_meaning.specs.Patterns.{decided, tested, closed, bound, begun}
use Rattle.rx_meaning.specs.Expressions as meaning
use Rattle.rx_meaning.specs.Expressions.{Functions, Meaning, turn_at, take_turn, passed_by, passed, returned, with_arguments, entered, value, values, matched, arms, body, below_level, called}
use Rattle.rx_meaning.specs.Programs.{Program, IsFront, begins, run, ending, ending_of, outcome_of}
use Rattle.rx_meaning.specs.Telling.{told_by}
use Rattle.rx_meaning.proofs.Sequences.{closed_is}
use Rattle.rx_meaning.proofs.Fronts.{front_behind, front_bind, front_passed, told_returned}
use Rattle.rx_engine_simulation.specs.Astray.{WentAstray}
use Rattle.rx_engine_simulation.specs.Rereads.{Rereads, is_read, same_read, same_borrow, same_unit, same_input, same_jump, in_share, in_build, in_lazily, in_assign, in_update, in_call, in_print, in_block, in_choose, in_loop, in_give, RereadsAll, in_none, in_operand, RereadsMatched, in_place_of, in_value_of, RereadsArms, in_no_arm, in_arm, RereadsBody, in_end, in_run, in_declare, in_let, IsNoFunction, RereadsEntry, no_function, in_function, RereadsProgram}

-- the first is the second, or went astray on the way
data RunsAs {A : Type 0} : Result ℕ A → Result ℕ A → Type 0 where
  the_same : {r : Result ℕ A} → RunsAs r r
  went_astray : {o : List ℕ} {r : Result ℕ A} → IsFront o (told_by r) → RunsAs (stops o (wrong missing_reference)) r

-- ---- parts one behind another

as_after : {A : Type 0} (o : List ℕ) (r r' : Result ℕ A) → RunsAs r r' → RunsAs (after o r) (after o r')
unfolding after
as_after o r r' the_same = the_same
as_after o r r' (went_astray {o = p} f) = went_astray (front_behind o p r' f)

same_bind : {A B : Type 0} (r : Result ℕ A) (go go' : A → State → Result ℕ B) → ((a : A) (s : State) → RunsAs (go a s) (go' a s)) → RunsAs (bind r go) (bind r go')
unfolding bind
same_bind (on o a s) go go' k = as_after o (go a s) (go' a s) (k a s)
same_bind (jumps o x v s) go go' k = the_same
same_bind (stops o e) go go' k = the_same

as_bind : {A B : Type 0} (r r' : Result ℕ A) (go go' : A → State → Result ℕ B) → RunsAs r r' → ((a : A) (s : State) → RunsAs (go a s) (go' a s)) → RunsAs (bind r go) (bind r' go')
unfolding bind
as_bind r r' go go' the_same k = same_bind r go go' k
as_bind r r' go go' (went_astray {o = o} f) k = went_astray (front_bind o r' go' f)

as_if : {A : Type 0} (b : Bool) (r q r' q' : Result ℕ A) → RunsAs r r' → RunsAs q q' → RunsAs (if b then r else q) (if b then r' else q')
as_if true r q r' q' h k = h
as_if false r q r' q' h k = k

same_passed : (l : ℕ) (r : Result ℕ Value) (go go' : State → Result ℕ Value) → ((s : State) → RunsAs (go s) (go' s)) → RunsAs (passed l r go) (passed l r go')
unfolding passed
same_passed l (on o v s) go go' k = as_after o (go s) (go' s) (k s)
same_passed l (jumps o (breaks n i) v s) go go' k = the_same
same_passed l (jumps o (continues n i) v s) go go' k = as_if (nat_eq i l) (after o (go s)) (jumps o (continues n i) v s) (after o (go' s)) (jumps o (continues n i) v s) (as_after o (go s) (go' s) (k s)) the_same
same_passed l (jumps o (returns n) v s) go go' k = the_same
same_passed l (stops o e) go go' k = the_same

as_passed : (l : ℕ) (r r' : Result ℕ Value) (go go' : State → Result ℕ Value) → RunsAs r r' → ((s : State) → RunsAs (go s) (go' s)) → RunsAs (passed l r go) (passed l r' go')
unfolding passed
as_passed l r r' go go' the_same k = same_passed l r go go' k
as_passed l r r' go go' (went_astray {o = o} f) k = went_astray (front_passed l o r' go' f)

as_turn_at : {A : Type 0} (n : ℕ) (s : State) (go go' : State → Result ℕ A) → ((s : State) → RunsAs (go s) (go' s)) → RunsAs (turn_at n s go) (turn_at n s go')
as_turn_at zero s go go' k = the_same
as_turn_at (suc n) s go go' k = k (with_turns s n)

as_turn : {A : Type 0} (s : State) (go go' : State → Result ℕ A) → ((s : State) → RunsAs (go s) (go' s)) → RunsAs (take_turn s go) (take_turn s go')
unfolding take_turn
as_turn s go go' k = as_turn_at s.turns s go go' k

as_returned : (F : Frame) (r r' : Result ℕ Value) → RunsAs r r' → RunsAs (returned plainly F r) (returned plainly F r')
unfolding returned
as_returned F r r' the_same = the_same
as_returned F r r' (went_astray {o = o} f) = went_astray (subst (λ w. IsFront o w) (sym (told_returned plainly F r')) f)

as_closed : (n n' x : ℕ) (r r' : Result ℕ Value) → RunsAs r r' → RunsAs (closed plainly n x r) (closed plainly n' x r')
as_closed n n' x r r' k = subst (λ q. RunsAs q (closed plainly n' x r')) (sym (closed_is n x r)) (subst (λ q. RunsAs r q) (sym (closed_is n' x r')) k)

as_decided : (v : Value) (go other go' other' : State → Result ℕ Value) (s : State) → ((s : State) → RunsAs (go s) (go' s)) → ((s : State) → RunsAs (other s) (other' s)) → RunsAs (decided v go other s) (decided v go' other' s)
unfolding decided
as_decided (truth true) go other go' other' s k l = k s
as_decided (truth false) go other go' other' s k l = l s
as_decided (number i z) go other go' other' s k l = the_same
as_decided (whole vs) go other go' other' s k l = the_same
as_decided (tagged i vs) go other go' other' s k l = the_same
as_decided (pointer i p m) go other go' other' s k l = the_same
as_decided (lacking x) go other go' other' s k l = the_same

as_bound : (S : Subject) (vs : List Value) (bs : List Binding) (n n' : ℕ) (go go' : State → Result ℕ Value) (s : State) → ((s : State) → RunsAs (go s) (go' s)) → RunsAs (bound plainly S vs bs n go s) (bound plainly S vs bs n' go' s)
unfolding bound
as_bound S vs [] n n' go go' s k = k s
as_bound S vs (b ∷ bs) n n' go go' s k = same_bind _ _ _ (λ ws s1. same_bind _ _ _ (λ u s2. same_bind _ _ _ (λ w s3. as_closed n n' b.variable _ _ (as_bound S vs bs n n' go go' s3 k))))

as_begun : (i : ℕ) (xs : List ℕ) (n n' : ℕ) (go go' : State → Result ℕ Value) (s : State) → ((s : State) → RunsAs (go s) (go' s)) → RunsAs (begun plainly i xs n go s) (begun plainly i xs n' go' s)
unfolding begun
as_begun i [] n n' go go' s k = k s
as_begun i (x ∷ xs) n n' go go' s k = same_bind _ _ _ (λ u s1. as_closed n n' x _ _ (as_begun i xs n n' go go' s1 k))

as_tested : (S : Subject) (vs : List Value) (ts : List PartTest) (go other go' other' : State → Result ℕ Value) (s : State) → ((s : State) → RunsAs (go s) (go' s)) → ((s : State) → RunsAs (other s) (other' s)) → RunsAs (tested plainly S vs ts go other s) (tested plainly S vs ts go' other' s)
unfolding tested
as_tested S vs [] go other go' other' s k l = k s
as_tested S vs (t ∷ ts) go other go' other' s k l = same_bind _ _ _ (λ v s1. as_decided v _ _ _ _ s1 (λ s2. as_tested S vs ts go other go' other' s2 k l) l)

as_arguments : (ps : List Parameter) (n n' : ℕ) (vs : List Value) (go go' : State → Result ℕ Value) (s : State) → ((s : State) → RunsAs (go s) (go' s)) → RunsAs (with_arguments plainly ps n vs go s) (with_arguments plainly ps n' vs go' s)
unfolding with_arguments
as_arguments [] n n' [] go go' s k = k s
as_arguments [] n n' (v ∷ vs) go go' s k = the_same
as_arguments (p ∷ ps) n n' [] go go' s k = the_same
as_arguments (p ∷ ps) n n' (v ∷ vs) go go' s k = same_bind _ _ _ (λ u s1. same_bind _ _ _ (λ w s2. as_closed n n' p.variable _ _ (as_arguments ps n n' vs go go' s2 k)))

-- ---- where the reference is read

-- by what stands in the variable's slot: where it lacks a value, both end the run for that
module _ (s : State) where
  abbrev asked_of : Option Value → Done ℕ
  asked_of o =
      or_ends (where_some (and_then o (λ u. get [] u)) (where_some o astray (λ u. why_no_part [] u)) (λ u. where_some (pointed true u) (unlike missing_reference u) (λ to. why_no_content s.memory to)))
      (and_then (and_then o (λ u. get [] u)) (λ u. and_then (pointed true u) (λ to. Some to))) (λ at. or_ends astray (reference_to true at) (λ v. results.gives [] v s))

  abbrev read_of : ℕ → Option Value → Done ℕ
  read_of i o = or_ends {A = Spot × Value} (where_some o astray (λ u. why_no_part [] u)) (and_then (and_then o (λ u. get [] u)) (λ u. Some (in_slot i [] true, u))) (λ f. or_ends lacks (whole_value f) (λ v. results.gives [] v s))

  by_content : (i : ℕ) (o : Option Value) → RunsAs (result_of (asked_of o)) (result_of (read_of i o))
  unfolding result_of
  by_content i None = the_same
  by_content i (Some (pointer q ss b)) = the_same
  by_content i (Some (lacking l)) = the_same
  by_content i (Some (number k z)) = went_astray (_, refl)
  by_content i (Some (truth b)) = went_astray (_, refl)
  by_content i (Some (whole vs)) = went_astray (_, refl)
  by_content i (Some (tagged k vs)) = went_astray (_, refl)

  -- by its slot
  abbrev asked_at : Bool → Option ℕ → Done ℕ
  asked_at n o =
      or_ends (where_some (and_then o (λ i. Some (in_slot i [] true))) astray (λ at. why_not_followed s.memory (step.Deref n ∷ []) at)) (and_then (and_then o (λ i. Some (in_slot i [] true))) (λ at. follow s.memory (step.Deref n ∷ []) at))
      (λ at. or_ends astray (reference_to true at) (λ v. results.gives [] v s))

  abbrev read_at : Option ℕ → Done ℕ
  read_at o =
      or_ends {A = Spot × Value} (where_some (and_then o (λ i. Some (in_slot i [] true))) astray (λ at. why_no_content s.memory at)) (and_then (and_then (and_then o (λ i. Some (in_slot i [] true))) (λ at. Some at)) (λ at. and_then (content s.memory at) (λ u. Some (at, u))))
      (λ f. or_ends lacks (whole_value f) (λ v. results.gives [] v s))

  by_slot : (n : Bool) (o : Option ℕ) → RunsAs (result_of (asked_at n o)) (result_of (read_at o))
  unfolding result_of
  by_slot n None = the_same
  by_slot n (Some i) = by_content i (element s.memory i)

read_again : (P Q : Functions) (low low' : Meaning ℕ) (m : Mark) (z : ℕ) (n w : Bool) (t t' : Temporary) (s : State) → RunsAs (value plainly P low (tree.borrow m true (under (own z) (step.Deref n ∷ []))) t s) (value plainly Q low' (tree.read m w (own z)) t' s)
unfolding value result_of
read_again P Q low low' m z n w t t' s = by_slot s n (slot_of s.frame.slots z)

-- ---- whole parts

same_mark : {e e' : Exp} → Rereads e e' → mark_of e ≡ mark_of e'
same_mark is_read = refl
same_mark same_read = refl
same_mark same_borrow = refl
same_mark same_unit = refl
same_mark same_input = refl
same_mark same_jump = refl
same_mark (in_share k) = refl
same_mark (in_build k) = refl
same_mark (in_lazily k l) = refl
same_mark (in_assign k) = refl
same_mark (in_update k) = refl
same_mark (in_call k) = refl
same_mark (in_print k) = refl
same_mark (in_block k) = refl
same_mark (in_choose k l) = refl
same_mark (in_loop k) = refl
same_mark (in_give k) = refl

same_fields : {es es' : Operands} → RereadsAll es es' → fields_of es ≡ fields_of es'
same_fields in_none = refl
same_fields (in_operand {i = i} k ks) = ap (λ js. i ∷ js) (same_fields ks)

same_subject : {c c' : Scrutinee} → RereadsMatched c c' → subject c ≡ subject c'
same_subject in_place_of = refl
same_subject (in_value_of k) = ap (λ (m : Mark). in_temporary (tree.temporary_at m.node 0)) (same_mark k)

-- each tree is so for itself
mutual
  pub self_exp : (e : Exp) → Rereads e e
  self_exp (tree.read m v p) = same_read
  self_exp (tree.borrow m k p) = same_borrow
  self_exp (tree.share m e) = in_share (self_exp e)
  self_exp (tree.build m w es) = in_build (self_all es)
  self_exp (tree.unit m) = same_unit
  self_exp (tree.lazily m b e f) = in_lazily (self_exp e) (self_exp f)
  self_exp (tree.assign m p e) = in_assign (self_exp e)
  self_exp (tree.update m o p e) = in_update (self_exp e)
  self_exp (tree.call m f es) = in_call (self_all es)
  self_exp (tree.input m) = same_input
  self_exp (tree.print m e) = in_print (self_exp e)
  self_exp (tree.block m b) = in_block (self_body b)
  self_exp (tree.choose m c l) = in_choose (self_matched c) (self_arms l)
  self_exp (tree.loop m l e) = in_loop (self_exp e)
  self_exp (tree.jump m l k) = same_jump
  self_exp (tree.give m e) = in_give (self_exp e)

  pub self_all : (es : Operands) → RereadsAll es es
  self_all tree.no_operand = in_none
  self_all (tree.operand_and i e es) = in_operand (self_exp e) (self_all es)

  pub self_matched : (c : Scrutinee) → RereadsMatched c c
  self_matched (tree.at_place m p) = in_place_of
  self_matched (tree.of_value e) = in_value_of (self_exp e)

  pub self_arms : (l : Arms) → RereadsArms l l
  self_arms tree.no_arm = in_no_arm
  self_arms (tree.arm_and q e l) = in_arm (self_exp e) (self_arms l)

  pub self_body : (b : Body) → RereadsBody b b
  self_body (tree.ends e) = in_end (self_exp e)
  self_body (tree.runs e b) = in_run (self_exp e) (self_body b)
  self_body (tree.declares i xs b) = in_declare (self_body b)
  self_body (tree.lets i q c b) = in_let (self_matched c) (self_body b)

module _ (P Q : Functions) (all : (f : ℕ) → RereadsEntry (element P f) (element Q f)) where
  abbrev At : ℕ → Type 0
  At n = (e e' : Exp) → Rereads e e' → (t t' : Temporary) (s : State) → RunsAs (below_level plainly P n e t s) (below_level plainly Q n e' t' s)

  module _ (n : ℕ) (below : At n) where
    abbrev lp : Meaning ℕ
    lp = below_level plainly P n

    abbrev lq : Meaning ℕ
    lq = below_level plainly Q n

    as_entered : (i : ℕ) (f f' : Function) → f.params ≡ f'.params → Rereads f.body f'.body → (vs : List Value) (s : State) → RunsAs (entered plainly lp i f vs s) (entered plainly lq i f' vs s)
    as_entered i f f' e k vs s =
        as_returned s.frame _ _ (subst (λ ps. RunsAs (with_arguments plainly f.params (mark_of f.body).node vs (λ s1. lp f.body (temporary_of f.body) s1) (record s { frame = new_frame i })) (with_arguments plainly ps (mark_of f'.body).node vs (λ s1. lq f'.body (temporary_of f'.body) s1) (record s { frame = new_frame i }))) e
        (as_arguments f.params (mark_of f.body).node (mark_of f'.body).node vs _ _ (record s { frame = new_frame i }) (λ s1. below f.body f'.body k (temporary_of f.body) (temporary_of f'.body) s1)))

    none_there : (o : Option (Option Function)) (go : Function → Result ℕ Value) → IsNoFunction o → meaning.found o go ≡ stops [] (wrong missing_function)
    none_there None go h = refl
    none_there (Some None) go h = refl
    none_there (Some (Some g)) go h = absurd h

    as_found : (f : ℕ) (vs : List Value) (s : State) (o o' : Option (Option Function)) → RereadsEntry o o' → RunsAs (meaning.found o (λ g. take_turn s (λ s3. entered plainly lp f g vs s3))) (meaning.found o' (λ g. take_turn s (λ s3. entered plainly lq f g vs s3)))
    as_found f vs s o o' (no_function a b) = subst (λ r. RunsAs r (meaning.found o' (λ g. take_turn s (λ s3. entered plainly lq f g vs s3)))) (sym (none_there o _ a)) (subst (λ r. RunsAs (stops [] (wrong missing_function)) r) (sym (none_there o' _ b)) the_same)
    as_found f vs s o o' (in_function {f = g} {f' = g'} e k) = as_turn s _ _ (λ s3. as_entered f g g' e k vs s3)

    mutual
      unfolding value

      as_value : {e e' : Exp} → Rereads e e' → (t t' : Temporary) (s : State) → RunsAs (value plainly P lp e t s) (value plainly Q lq e' t' s)
      as_value (is_read {m = m} {z = z} {n = b} {w = w}) t t' s = read_again P Q lp lq m z b w t t' s
      as_value same_read t t' s = the_same
      as_value same_borrow t t' s = the_same
      as_value same_unit t t' s = the_same
      as_value same_input t t' s = the_same
      as_value same_jump t t' s = the_same
      as_value (in_share k) t t' s = as_bind _ _ _ _ (as_value k _ _ s) (λ v s1. the_same)
      as_value (in_build {m = m} {w = w} {es = es} {es' = es'} k) t t' s = as_bind _ _ _ _ (as_all k s) (λ vs s1.
          subst (λ js. RunsAs (performed plainly (does m.node (Build w (fields_of es) (temporaries_of es) t)) vs s1) (performed plainly (does m.node (Build w js (temporaries_of es') t')) vs s1)) (same_fields k) the_same)
      as_value (in_lazily k l) t t' s =
          as_bind _ _ _ _ (as_value k _ _ s) (λ v s1.
          as_bind _ _ _ _ the_same (λ u s2.
          as_bind _ _ _ _ (as_decided u _ _ _ _ s2 (λ s3. as_value l _ _ s3) (λ s3. the_same)) (λ x s4. the_same)))
      as_value (in_assign k) t t' s = as_bind _ _ _ _ (as_value k _ _ s) (λ v s1. the_same)
      as_value (in_update k) t t' s = as_bind _ _ _ _ (as_value k _ _ s) (λ v s1. the_same)
      as_value (in_call {f = f} k) t t' s = as_bind _ _ _ _ (as_all k s) (λ vs s1. as_bind _ _ _ _ the_same (λ u s2. as_found f vs s2 (element P f) (element Q f) (all f)))
      as_value (in_print k) t t' s = as_bind _ _ _ _ (as_value k _ _ s) (λ v s1. the_same)
      as_value (in_block {m = m} k) t t' s = as_body k m.node m.node t t' s
      as_value (in_choose {c = c} {c' = c'} {l = l} {l' = l'} k r) t t' s = as_bind _ _ _ _ (as_matched k s) (λ vs s1.
          subst (λ S. RunsAs (arms plainly P lp (subject c) vs l t s1) (arms plainly Q lq S vs l' t' s1)) (same_subject k) (as_arms (subject c) r vs t t' s1))
      as_value (in_loop {m = m} {l = l} {e = e} {e' = e'} k) t t' s =
          as_turn s _ _ (λ s1. as_passed l _ _ _ _ (below e e' k (temporary_of e) (temporary_of e') s1) (λ s2. below (tree.loop m l e) (tree.loop m l e') (in_loop k) t t' s2))
      as_value (in_give k) t t' s = as_bind _ _ _ _ (as_value k _ _ s) (λ v s1. the_same)

      as_all : {es es' : Operands} → RereadsAll es es' → (s : State) → RunsAs (values plainly P lp es s) (values plainly Q lq es' s)
      as_all in_none s = the_same
      as_all (in_operand k ks) s = as_bind _ _ _ _ (as_value k _ _ s) (λ v s1. as_bind _ _ _ _ (as_all ks s1) (λ vs s2. the_same))

      as_matched : {c c' : Scrutinee} → RereadsMatched c c' → (s : State) → RunsAs (matched plainly P lp c s) (matched plainly Q lq c' s)
      as_matched in_place_of s = the_same
      as_matched (in_value_of k) s = as_bind _ _ _ _ (as_value k _ _ s) (λ v s1. the_same)

      as_arms : (S : Subject) {l l' : Arms} → RereadsArms l l' → (vs : List Value) (t t' : Temporary) (s : State) → RunsAs (arms plainly P lp S vs l t s) (arms plainly Q lq S vs l' t' s)
      as_arms S in_no_arm vs t t' s = the_same
      as_arms S (in_arm {q = q} {e = e} {e' = e'} k r) vs t t' s =
          as_tested S vs (tests [] q) _ _ _ _ s (λ s1. as_bound S vs (bindings [] q) (mark_of e).node (mark_of e').node _ _ s1 (λ s2. as_value k t t' s2)) (λ s1. as_arms S r vs t t' s1)

      as_body : {b b' : Body} → RereadsBody b b' → (i i' : ℕ) (t t' : Temporary) (s : State) → RunsAs (body plainly P lp b i t s) (body plainly Q lq b' i' t' s)
      as_body (in_end k) i i' t t' s = as_value k t t' s
      as_body (in_run k r) i i' t t' s = as_bind _ _ _ _ (as_value k _ _ s) (λ v s1. as_body r i i' t t' s1)
      as_body (in_declare {i = j} {xs = xs} r) i i' t t' s = as_begun j xs i i' _ _ s (λ s1. as_body r i i' t t' s1)
      as_body (in_let {q = q} {c = c} {c' = c'} {b = b} {b' = b'} k r) i i' t t' s = as_bind _ _ _ _ (as_matched k s) (λ vs s1.
          subst (λ S. RunsAs (bound plainly (subject c) vs (bindings [] q) i (λ s2. body plainly P lp b i t s2) s1) (bound plainly S vs (bindings [] q) i' (λ s2. body plainly Q lq b' i' t' s2) s1)) (same_subject k)
          (as_bound (subject c) vs (bindings [] q) i i' _ _ s1 (λ s2. as_body r i i' t t' s2)))

  at_level : (n : ℕ) → At n
  unfolding below_level
  at_level zero e e' k t t' s = the_same
  at_level (suc n) e e' k t t' s = as_value n (at_level n) k t t' s

  as_called : (n f : ℕ) (vs : List Value) (s : State) → RunsAs (called plainly P n f vs s) (called plainly Q n f vs s)
  as_called n f vs s = as_found n (at_level n) f vs s (element P f) (element Q f) (all f)

told_outcome : (r : Result ℕ Value) → told_by r ≡ (outcome_of r).printed
told_outcome (on w v s) = refl
told_outcome (jumps w x v s) = refl
told_outcome (stops w e) = refl

as_outcome : (r r' : Result ℕ Value) → RunsAs r r' → ((outcome_of r ≡ outcome_of r') × (ending_of r ≡ ending_of r')) ⊎ WentAstray true (outcome_of r) (outcome_of r') (ending_of r)
as_outcome r r' the_same = inl (refl, refl)
as_outcome r r' (went_astray f) = inr (record { can = refl; ends = refl; front = (f.0, sym (told_outcome r') ∙ f.1) })

pub rereads_run_as : (P Q : Program) → RereadsProgram P Q → (given : List ℤ) (n : ℕ) → ((run P given n ≡ run Q given n) × (ending P given n ≡ ending Q given n)) ⊎ WentAstray true (run P given n) (run Q given n) (ending P given n)
rereads_run_as P Q w given n =
    subst (λ f. ((run P given n ≡ outcome_of (called plainly Q.functions n f [] (begins given n))) × (ending P given n ≡ ending_of (called plainly Q.functions n f [] (begins given n)))) ⊎ WentAstray true (run P given n) (outcome_of (called plainly Q.functions n f [] (begins given n))) (ending P given n)) w.mains
    (as_outcome _ _ (as_called P.functions Q.functions w.all n P.main [] (begins given n)))

-- What the text of a part names and where it jumps, its typed tree names and jumps to: so claims of names and jumps hold in a text where
-- they hold of what its tree names, along the relation of the text and its tree with numbers, by induction.
use Rattle.std.proofs.Common.{◌≡◌, ℕ, suc, Bool, true, false, ◌&&◌, List, [], ◌∷◌, ◌++◌, reverse, Option, Some, None, slice_get, refl, sym, ap, subst}
use Rattle.std.proofs.lemmas.List.{map-append}
use Rattle.rx_tree.specs.declared.tree.Ident.{Ident}
use Rattle.rx_tree.specs.declared.tree.BinaryOp.{BinaryOp}
use Rattle.rx_tree.specs.Plain as plain
use Rattle.rx_tree.specs.Plain.{Expression}
use Rattle.rx_resolve_names.specs.Meant.{Around, a_loop, a_test, target, to_loop}
use Rattle.rx_resolve_names.specs.Steps.{Inside}
use Rattle.rx_typed.specs.declared.nodes.Node.{Node}
use Rattle.rx_typed.specs.Named as named
use Rattle.rx_typed.specs.Named.{Exp, is_place, node_of}
use Rattle.rx_typed.specs.Elaborated as elaborated
use Rattle.rx_typed.specs.Elaborated.{Assigned, Coercion, variables}
use Rattle.rx_typed.specs.Tree as tree
use Rattle.rx_lower_walks.specs.Walks.{Among, here, there}
use Rattle.rx_exits_plan.specs.Blocks.{bound}
use Rattle.rx_exits_plan.specs.Spots as spots
use Rattle.rx_exits_plan.specs.Spots.{Spot, with_loop, with_variables, spots_in, spots_matched, spots_armed, spots_of}
use Rattle.rx_exits_plan.specs.Exits.{spots_in_statements}
use Rattle.rx_exits_plan.specs.Occurrences.{all_declared, in_statements, named_place, Occurrence, occurrences, occurrences_armed, occurrences_in, occurrences_matched, occurrences_of, the_variable, variables_among}
use Rattle.rx_exits.specs.Refusing.{same_name}
use Rattle.rx_hoist_extraction.specs.Names.{behind_all, Names}
use Rattle.rx_hoist_meant.specs.NamesMeant.{MeansIt}
use Rattle.rx_hoist_meant.proofs.TypedNames.{bound_is}
use Rattle.rx_hoist_meant.specs.Stands as stands
use Rattle.rx_hoist_meant.specs.Stands.{IsFunction, StandsExp, StandsExps, StandsElse, StandsArguments, StandsFields, StandsArms, StandsBody, StandsRow, loop_numbers}
use Rattle.rx_hoist_meant.specs.Placed.{Placed, PlacedAll, PlacedElse, PlacedFields, PlacedArms, PlacedBody, PlacedRow}
use Rattle.rx_hoist_meant.proofs.Patterns.{among_left, among_right}
use Rattle.rx_engine_names.specs.Within.{Claims, Within, AllWithin, OptionalWithin, ArgumentsWithin, FieldsWithin, ArmsWithin, BodyWithin, StatementsWithin}
use Rattle.rx_engine_tied.proofs.Since as since
use Rattle.rx_engine_tied.proofs.Since.{in_loop, in_test, Rounds, Since}
use Rattle.rx_engine_tied.proofs.Covers.{elaborated_row}

-- what stands round a part in the tree
pub record SameAround (ar : spots.Around) (vs : List ℕ) (ls : List Around) : Type 0 where
  pub scope : ar.scope ≡ vs
  pub loops : ar.loops ≡ loop_numbers ls

-- loops round a part beside those of claims, further loops and tests round it too
pub record Rounding : Type 1 where
  pub Round : List Around → List Around → Type 0
  pub loop : {l : Option Ident} {k : ℕ} {ls ms : List Around} → (Among k (loop_numbers ls) → ⊥) → Round ls ms → Round (a_loop l k ∷ ls) (a_loop l 0 ∷ ms)
  pub test : {ls ms : List Around} → Round ls ms → Round (a_test ∷ ls) (a_test ∷ ms)

-- those round a run
abbrev pub round_run : List Around → Rounding
round_run base = record { Round = Rounds base; loop = λ new h. in_loop new h; test = λ h. in_test h }

-- of no account
abbrev pub any_round : Rounding
any_round = record { Round = λ ls ms. Unit {0}; loop = λ new h. tt; test = λ h. tt }

module _ (I : Inside) (ns : Names) (T : Assigned) (base : List ℕ) (R : Rounding) (N : Claims) where
  -- ---- claims, of what the tree names and jumps to

  -- `Named` of variables, `Jumped` of jumps, with the variables in scope there and the loop
  pub record Tells (Named : ℕ → Type 0) (Jumped : spots.Around → ℕ → Bool → Type 0) (Left : Type 0) : Type 0 where
    pub variable : (vs : List ℕ) (own : Names) → Since ns base vs own → (x : List ℕ) (k : ℕ) → slice_get ns k ≡ Some x → MeansIt (same_name ns) vs k → Named k → N.variable own x
    pub name : (vs : List ℕ) (own : Names) → Since ns base vs own → (x : List ℕ) (item : ℕ) → IsFunction I ns vs x item → N.name x
    pub broken : (vs : List ℕ) (own : Names) (ls ms : List Around) → Since ns base vs own → R.Round ls ms → (l : Option Ident) (k : ℕ) → target l ls ≡ to_loop k → (ar : spots.Around) → SameAround ar vs ls → Jumped ar k false → N.broken own ms l
    pub continued : (vs : List ℕ) (own : Names) (ls ms : List Around) → Since ns base vs own → R.Round ls ms → (l : Option Ident) (k : ℕ) → target l ls ≡ to_loop k → (ar : spots.Around) → SameAround ar vs ls → Jumped ar k true → N.continued own ms l
    pub returned : Left → N.returned
    pub annotation : (y : Option plain.TypeTree) → N.annotation y
    pub block : (own : Names) (ms : List Around) (b : plain.Body) → N.block own ms b

  module _ (Named : ℕ → Type 0) (Jumped : spots.Around → ℕ → Bool → Type 0) (Left : Type 0) (tells : Tells Named Jumped Left) where
    -- all of these are so
    pub record Goes (os : List Occurrence) (ss : List Spot) : Type 0 where
      pub named : (x : ℕ) → Among x (variables_among os) → Named x
      pub jumped : (a : spots.Around) (n l : ℕ) (again : Bool) → Among (spots.a_jump a n l again) ss → Jumped a l again
      pub left : (a : spots.Around) (n : ℕ) → Among (spots.a_return a n) ss → Left

    first_of : {os : List Occurrence} (ps : List Occurrence) {ss : List Spot} (ts : List Spot) → Goes (os ++ ps) (ss ++ ts) → Goes os ss
    first_of {os} ps {ss} ts g = record {
      named = λ x i. g.named x (subst (Among x) (sym (map-append the_variable os ps)) (among_left (variables_among os) (variables_among ps) i));
      jumped = λ a n l again i. g.jumped a n l again (among_left ss ts i);
      left = λ a n i. g.left a n (among_left ss ts i);
    }

    rest_of : (os : List Occurrence) {ps : List Occurrence} (ss : List Spot) {ts : List Spot} → Goes (os ++ ps) (ss ++ ts) → Goes ps ts
    rest_of os {ps} ss {ts} g = record {
      named = λ x i. g.named x (subst (Among x) (sym (map-append the_variable os ps)) (among_right (variables_among os) (variables_among ps) i));
      jumped = λ a n l again i. g.jumped a n l again (among_right ss ts i);
      left = λ a n i. g.left a n (among_right ss ts i);
    }

    less : {os : List Occurrence} {ss : List Spot} (ts : List Spot) → Goes os (ss ++ ts) → Goes os ss
    less {ss = ss} ts g = record { named = g.named; jumped = λ a n l again i. g.jumped a n l again (among_left ss ts i); left = λ a n i. g.left a n (among_left ss ts i) }

    behind_block : {os : List Occurrence} {s : Spot} {ss : List Spot} → Goes os (s ∷ ss) → Goes os ss
    behind_block g = record { named = g.named; jumped = λ a n l again i. g.jumped a n l again (there i); left = λ a n i. g.left a n (there i) }

    -- ---- forms

    abbrev V : Exp → tree.Exp
    V a = elaborated.value T a

    read_so : (ar : spots.Around) (n : Node) (k : Coercion) (p : tree.Place) → Goes (occurrences (elaborated.read_as T n k p)) (spots.spots ar (elaborated.read_as T n k p)) → Goes (named_place p) []
    read_so ar n elaborated.plain p g = g
    read_so ar n elaborated.reborrow p g = g
    read_so ar n elaborated.share p g = g

    passed_so : (ar : spots.Around) (n : Node) (k : Coercion) (e : tree.Exp) → Goes (occurrences (elaborated.passed_as T n k e)) (spots.spots ar (elaborated.passed_as T n k e)) → Goes (occurrences e) (spots.spots ar e)
    passed_so ar n elaborated.plain e g = g
    passed_so ar n elaborated.reborrow e g = g
    passed_so ar n elaborated.share e g = g

    -- a place that is matched, or a value
    matched_so : (ar : spots.Around) (a : Exp) (b : Bool) (k : Coercion) (W : Type 0) → (b ≡ true → Goes (named_place (elaborated.place T a)) [] → W) → (Goes (occurrences (V a)) (spots.spots ar (V a)) → W)
        → Goes (occurrences_matched (elaborated.matched_as T b k a (V a))) (spots_matched ar (elaborated.matched_as T b k a (V a))) → W
    matched_so ar a true elaborated.plain W p f g = p refl g
    matched_so ar a true elaborated.reborrow W p f g = f g
    matched_so ar a true elaborated.share W p f g = f g
    matched_so ar a false elaborated.plain W p f g = f g
    matched_so ar a false elaborated.reborrow W p f g = f g
    matched_so ar a false elaborated.share W p f g = f g

    left_so : (ar : spots.Around) (n : Node) (o : BinaryOp) (x y : tree.Exp) → Goes (occurrences (elaborated.operated T n o x y)) (spots.spots ar (elaborated.operated T n o x y)) → Goes (occurrences x) (spots.spots ar x)
    left_so ar n BinaryOp.And x y g = first_of _ _ g
    left_so ar n BinaryOp.Or x y g = first_of _ _ g
    left_so ar n _ x y g = first_of _ _ g

    right_so : (ar : spots.Around) (n : Node) (o : BinaryOp) (x y : tree.Exp) → Goes (occurrences (elaborated.operated T n o x y)) (spots.spots ar (elaborated.operated T n o x y)) → Goes (occurrences y) (spots.spots ar y)
    right_so ar n BinaryOp.And x y g = rest_of (occurrences x) (spots.spots ar x) g
    right_so ar n BinaryOp.Or x y g = rest_of (occurrences x) (spots.spots ar x) g
    right_so ar n _ x y g = first_of _ _ (rest_of (occurrences x) (spots.spots ar x) g)

    tuple_so : (ar : spots.Around) (n : Node) (es : tree.Operands) → Goes (occurrences (elaborated.tuple_of T n es)) (spots.spots ar (elaborated.tuple_of T n es)) → Goes (occurrences_in es) (spots_in ar es)
    tuple_so ar n tree.no_operand g = g
    tuple_so ar n (tree.operand_and k e es) g = g

    -- what is behind a declaration
    declared_so : (xs : List ℕ) {os : List Occurrence} {ss : List Spot} → Goes (all_declared xs ++ os) ss → Goes os ss
    declared_so xs {os} {ss} g = rest_of (all_declared xs) [] g

    -- the parts of a choice
    chosen_so : (ar : spots.Around) (m : tree.Mark) (x : tree.Scrutinee) (q : tree.Pattern) (b o : tree.Exp) → Goes (occurrences (tree.choose m x (tree.arm_and q b (tree.arm_and tree.any o tree.no_arm)))) (spots.spots ar (tree.choose m x (tree.arm_and q b (tree.arm_and tree.any o tree.no_arm))))
        → Goes (occurrences_matched x) (spots_matched ar x)
    chosen_so ar m x q b o g = first_of _ _ g

    then_so : (ar : spots.Around) (m : tree.Mark) (x : tree.Scrutinee) (q : tree.Pattern) (b o : tree.Exp) → Goes (occurrences (tree.choose m x (tree.arm_and q b (tree.arm_and tree.any o tree.no_arm)))) (spots.spots ar (tree.choose m x (tree.arm_and q b (tree.arm_and tree.any o tree.no_arm))))
        → Goes (occurrences b) (spots.spots (with_variables (bound q) ar) b)
    then_so ar m x q b o g = first_of _ _ (declared_so (bound q) (rest_of (occurrences_matched x) (spots_matched ar x) g))

    other_so : (ar : spots.Around) (m : tree.Mark) (x : tree.Scrutinee) (q : tree.Pattern) (b o : tree.Exp) → Goes (occurrences (tree.choose m x (tree.arm_and q b (tree.arm_and tree.any o tree.no_arm)))) (spots.spots ar (tree.choose m x (tree.arm_and q b (tree.arm_and tree.any o tree.no_arm))))
        → Goes (occurrences o) (spots.spots (with_variables [] ar) o)
    other_so ar m x q b o g = first_of _ _ (rest_of (occurrences b) (spots.spots (with_variables (bound q) ar) b) (declared_so (bound q) (rest_of (occurrences_matched x) (spots_matched ar x) g)))

    -- what stands round
    round_pattern : {ar : spots.Around} {vs : List ℕ} {ls : List Around} (r : elaborated.Met) (P : named.Pattern) → SameAround ar vs ls → SameAround (with_variables (bound (elaborated.pattern T r P)) ar) (reverse (variables P) ++ vs) ls
    round_pattern {ar} {vs} {ls} r P k =
        subst (λ (xs : List ℕ). SameAround (with_variables xs ar) (reverse (variables P) ++ vs) ls) (bound_is T r P) (record { scope = ap (λ (l : List ℕ). reverse (variables P) ++ l) k.scope; loops = k.loops })

    round_variables : {ar : spots.Around} {vs : List ℕ} {ls : List Around} (xs : List ℕ) → SameAround ar vs ls → SameAround (with_variables xs ar) (reverse xs ++ vs) ls
    round_variables xs k = record { scope = ap (λ (l : List ℕ). reverse xs ++ l) k.scope; loops = k.loops }

    round_none : {ar : spots.Around} {vs : List ℕ} {ls : List Around} → SameAround ar vs ls → SameAround (with_variables [] ar) vs ls
    round_none k = record { scope = k.scope; loops = k.loops }

    round_loop : {ar : spots.Around} {vs : List ℕ} {ls : List Around} (l : Option Ident) (n : ℕ) → SameAround ar vs ls → SameAround (with_loop n ar) vs (a_loop l n ∷ ls)
    round_loop l n k = record { scope = k.scope; loops = ap (λ (x : List ℕ). n ∷ x) k.loops }

    round_test : {ar : spots.Around} {vs : List ℕ} {ls : List Around} (l : Option Ident) (n : ℕ) → SameAround ar vs ls → SameAround (with_loop n ar) vs (a_test ∷ a_loop l n ∷ ls)
    round_test l n k = record { scope = k.scope; loops = ap (λ (x : List ℕ). n ∷ x) k.loops }

    -- a place
    pub place_told : (ms : List Around) {vs : List ℕ} {ls : List Around} {own : Names} {i j : ℕ} {e : Expression} {a : Exp} → StandsExp I ns vs ls i j e a → Placed a → is_place a ≡ true → Since ns base vs own → Goes (named_place (elaborated.place T a)) [] → Within N own ms e
    place_told ms {vs} {own = own} (stands.s_var {x = x} {u = u} q w h) p t s g = tells.variable vs own s x u.number w h (g.named u.number here)
    place_told ms (stands.s_field q h) p t s g = place_told ms h p.0 p.1 s g
    place_told ms (stands.s_part q h) p t s g = place_told ms h p.0 p.1 s g
    place_told ms (stands.s_deref q h) p t s g = place_told ms h p.0 p.1 s g
    place_told ms (stands.s_int q) p t s g = absurd (cc)
    place_told ms (stands.s_bool q) p t s g = absurd (cc)
    place_told ms (stands.s_tuple q h) p t s g = absurd (cc)
    place_told ms (stands.s_negate q h) p t s g = absurd (cc)
    place_told ms (stands.s_invert q h) p t s g = absurd (cc)
    place_told ms (stands.s_borrow q h) p t s g = absurd (cc)
    place_told ms (stands.s_binary q f h) p t s g = absurd (cc)
    place_told ms (stands.s_assign q f h) p t s g = absurd (cc)
    place_told ms (stands.s_gives q w m h) p t s g = absurd (cc)
    place_told ms (stands.s_update q f h) p t s g = absurd (cc)
    place_told ms (stands.s_call q d h) p t s g = absurd (cc)
    place_told ms (stands.s_hidden q h) p t s g = absurd (cc)
    place_told ms (stands.s_input q) p t s g = absurd (cc)
    place_told ms (stands.s_variant q h) p t s g = absurd (cc)
    place_told ms (stands.s_make q h) p t s g = absurd (cc)
    place_told ms (stands.s_print q h) p t s g = absurd (cc)
    place_told ms (stands.s_block q h) p t s g = absurd (cc)
    place_told ms (stands.s_if q f d h) p t s g = absurd (cc)
    place_told ms (stands.s_if_let q d f c h) p t s g = absurd (cc)
    place_told ms (stands.s_match q f h) p t s g = absurd (cc)
    place_told ms (stands.s_loop q n h) p t s g = absurd (cc)
    place_told ms (stands.s_while q n f h) p t s g = absurd (cc)
    place_told ms (stands.s_while_let q n d f h) p t s g = absurd (cc)
    place_told ms (stands.s_break q h) p t s g = absurd (cc)
    place_told ms (stands.s_continue q h) p t s g = absurd (cc)
    place_told ms (stands.s_return q h) p t s g = absurd (cc)

    -- what was bound since, behind statements
    since_row : {vs after : List ℕ} {ls : List Around} {own : Names} {i k : ℕ} {ss : plain.Statements} {xs : named.Statements} → StandsRow I ns vs ls i k ss xs after → Since ns base vs own → Since ns base after (behind_all own ss)
    since_row stands.s_no_statement s = s
    since_row (stands.s_statement_and (stands.s_declares q d e) h) s = since_row h (since.since_pattern ns d s)
    since_row (stands.s_statement_and (stands.s_lets q d e g) h) s = since_row h (since.since_pattern ns d s)
    since_row (stands.s_statement_and (stands.s_evaluates q g) h) s = since_row h s

    -- ---- all forms

    mutual
      pub exp_told : {vs : List ℕ} {ls ms : List Around} {own : Names} {i j : ℕ} {e : Expression} {a : Exp} → StandsExp I ns vs ls i j e a → Placed a → Since ns base vs own → R.Round ls ms → (ar : spots.Around) → SameAround ar vs ls
          → Goes (occurrences (V a)) (spots.spots ar (V a)) → Within N own ms e
      exp_told (stands.s_int q) p s r ar k g = tt
      exp_told (stands.s_bool q) p s r ar k g = tt
      exp_told (stands.s_tuple {n = n} {xs = xs} q h) p s r ar k g = exps_told 0 h p s r ar k (tuple_so ar n (elaborated.operands T 0 xs) g)
      exp_told {vs} {own = own} (stands.s_var {n = n} {x = x} {u = u} q w h) p s r ar k g =
          let y = read_so ar n (elaborated.coercion_at T n) (elaborated.place T (named.var n u)) g in
          tells.variable vs own s x u.number w h (y.named u.number here)
      exp_told {ms = ms} (stands.s_field {n = n} {a = a} {x = x} q h) p s r ar k g = place_told ms h p.0 p.1 s (read_so ar n (elaborated.coercion_at T n) (elaborated.place T (named.field n a x.name)) g)
      exp_told {ms = ms} (stands.s_part {n = n} {a = a} {k = z} q h) p s r ar k g = place_told ms h p.0 p.1 s (read_so ar n (elaborated.coercion_at T n) (elaborated.place T (named.part n a z)) g)
      exp_told {ms = ms} (stands.s_deref {n = n} {a = a} q h) p s r ar k g = place_told ms h p.0 p.1 s (read_so ar n (elaborated.coercion_at T n) (elaborated.place T (named.deref n a)) g)
      exp_told (stands.s_negate q h) p s r ar k g = exp_told h p s r ar k (first_of _ _ g)
      exp_told (stands.s_invert q h) p s r ar k g = exp_told h p s r ar k (first_of _ _ g)
      exp_told {ms = ms} (stands.s_borrow {n = n} {m = m} {a = a} q h) p s r ar k g = place_told ms h p.0 p.1 s (passed_so ar n (elaborated.coercion_at T n) (tree.borrow (elaborated.mark T n) m (elaborated.place T a)) g)
      exp_told (stands.s_binary {n = n} {o = o} {a = a} {b = b} q f h) p s r ar k g = (exp_told f p.0 s r ar k (left_so ar n o (V a) (V b) g), exp_told h p.1 s r ar k (right_so ar n o (V a) (V b) g))
      exp_told {ms = ms} (stands.s_assign {a = a} q f h) p s r ar k g = (place_told ms f p.0.0 p.0.1 s (first_of _ {ss = []} _ g), exp_told h p.1 s r ar k (rest_of (named_place (elaborated.place T a)) [] g))
      exp_told {vs} {own = own} (stands.s_gives {x = x} {u = u} q w m h) p s r ar k g = (tells.variable vs own s x u.number w m (g.named u.number here), exp_told h p s r ar k (rest_of (named_place (tree.own u.number)) [] g))
      exp_told {ms = ms} (stands.s_update {a = a} q f h) p s r ar k g = (place_told ms f p.0.0 p.0.1 s (first_of _ {ss = []} _ g), exp_told h p.1 s r ar k (rest_of (named_place (elaborated.place T a)) [] g))
      exp_told {vs} {own = own} (stands.s_call {n = n} {g = c} {k = f} {xs = xs} q d h) p s r ar k g =
          (tells.name vs own s c.name f d, exps_told 0 h p s r ar k (passed_so ar n (elaborated.coercion_at T n) (tree.call (elaborated.mark T n) f (elaborated.operands T 0 xs)) g))
      exp_told (stands.s_hidden q h) p s r ar k g = absurd p
      exp_told (stands.s_input q) p s r ar k g = tt
      exp_told (stands.s_variant q h) p s r ar k g = arguments_told h p s r ar k g
      exp_told (stands.s_make {k = z} q h) p s r ar k g = fields_told z h p s r ar k g
      exp_told (stands.s_print q h) p s r ar k g = exp_told h p s r ar k g
      exp_told (stands.s_block q h) p s r ar k g = body_told h p s r ar k g
      exp_told (stands.s_if {n = n} {C = C} {B = B} {O = O} q f d h) p s r ar k g =
          let m = elaborated.mark_if T n (named.body_never B && named.else_never O) in
          let t = tree.exactly n.number (tree.truth true) in
          let x = tree.of_value (V C) in
          let b = elaborated.body T B in
          let o = elaborated.otherwise T n O in (
            exp_told f p.0 s r ar k (chosen_so ar m x t b o g),
            body_told d p.1 s r (with_variables [] ar) (round_none k) (then_so ar m x t b o g),
            otherwise_told n h p.2 s r (with_variables [] ar) (round_none k) (other_so ar m x t b o g),
          )
      exp_told {ms = ms} {own = own} (stands.s_if_let {n = n} {P = P} {e = e} {a = a} {B = B} {O = O} q c f d h) p s r ar k g =
          let m = elaborated.mark_if T n (named.body_never B && named.else_never O) in
          let t = elaborated.pattern T None P in
          let x = elaborated.matched T a (V a) in
          let b = elaborated.body T B in
          let o = elaborated.otherwise T n O in (
            matched_so ar a (is_place a) (elaborated.coercion_at T (node_of a)) (Within N own ms e) (λ z y. place_told ms f p.0 z s y) (λ y. exp_told f p.0 s r ar k y) (chosen_so ar m x t b o g),
            body_told d p.1 (since.since_pattern ns c s) r (with_variables (bound t) ar) (round_pattern None P k) (then_so ar m x t b o g),
            otherwise_told n h p.2 s r (with_variables [] ar) (round_none k) (other_so ar m x t b o g),
          )
      exp_told {ms = ms} {own = own} (stands.s_match {e = e} {a = a} {L = L} q f h) p s r ar k g =
          let x = elaborated.matched T a (V a) in (
            matched_so ar a (is_place a) (elaborated.coercion_at T (node_of a)) (Within N own ms e) (λ z y. place_told ms f p.0 z s y) (λ y. exp_told f p.0 s r ar k y) (first_of _ _ g),
            arms_told h p.1 s r ar k (rest_of (occurrences_matched x) (spots_matched ar x) g),
          )
      exp_told (stands.s_loop {l = l} {k = z} q new h) p s r ar k g = body_told h p s (R.loop new r) (with_loop z ar) (round_loop l z k) g
      exp_told (stands.s_while {n = n} {l = l} {k = z} {C = C} {B = B} q new f h) p s r ar k g =
          let m = elaborated.mark_if T (named.body_node B) (named.body_never B) in
          let t = tree.exactly n.number (tree.truth true) in
          let x = tree.of_value (V C) in
          let b = elaborated.body T B in
          let o = elaborated.leaves n z in
          let a2 = with_loop z ar in (
            exp_told f p.0 s (R.test (R.loop new r)) a2 (round_test l z k) (chosen_so a2 m x t b o g),
            body_told h p.1 s (R.loop new r) (with_variables [] a2) (round_none (round_loop l z k)) (then_so a2 m x t b o g),
          )
      exp_told {ms = ms} {own = own} (stands.s_while_let {n = n} {l = l} {k = z} {P = P} {e = e} {a = a} {B = B} q new c f h) p s r ar k g =
          let m = elaborated.mark_if T (named.body_node B) (named.body_never B) in
          let t = elaborated.pattern T None P in
          let x = elaborated.matched T a (V a) in
          let b = elaborated.body T B in
          let o = elaborated.leaves n z in
          let a2 = with_loop z ar in (
            matched_so a2 a (is_place a) (elaborated.coercion_at T (node_of a)) (Within N own (a_test ∷ a_loop l 0 ∷ ms) e) (λ w y. place_told (a_test ∷ a_loop l 0 ∷ ms) f p.0 w s y) (λ y. exp_told f p.0 s (R.test (R.loop new r)) a2 (round_test l z k) y) (chosen_so a2 m x t b o g),
            body_told h p.1 (since.since_pattern ns c s) (R.loop new r) (with_variables (bound t) a2) (round_pattern None P (round_loop l z k)) (then_so a2 m x t b o g),
          )
      exp_told {vs} {ls} {ms} {own} (stands.s_break {n = n} {l = l} {k = z} q h) p s r ar k g = tells.broken vs own ls ms s r l z h ar k (g.jumped ar n.number z false here)
      exp_told {vs} {ls} {ms} {own} (stands.s_continue {n = n} {l = l} {k = z} q h) p s r ar k g = tells.continued vs own ls ms s r l z h ar k (g.jumped ar n.number z true here)
      exp_told (stands.s_return {n = n} {O = O} q h) p s r ar k g =
          let e = elaborated.returned T n O in
          (tells.returned (g.left ar n.number (among_right (spots.spots ar e) (spots.a_return ar n.number ∷ []) here)), returned_told n h p s r ar k (less (spots.a_return ar n.number ∷ []) g))

      exps_told : {vs : List ℕ} {ls ms : List Around} {own : Names} {i j : ℕ} {es : plain.Expressions} {xs : named.Exps} (z : ℕ) → StandsExps I ns vs ls i j es xs → PlacedAll xs → Since ns base vs own → R.Round ls ms → (ar : spots.Around) → SameAround ar vs ls
          → Goes (occurrences_in (elaborated.operands T z xs)) (spots_in ar (elaborated.operands T z xs)) → AllWithin N own ms es
      exps_told z stands.s_no_exp p s r ar k g = tt
      exps_told z (stands.s_exp_and {a = a} f h) p s r ar k g = (exp_told f p.0 s r ar k (first_of _ _ g), exps_told (suc z) h p.1 s r ar k (rest_of (occurrences (V a)) (spots.spots ar (V a)) g))

      otherwise_told : {vs : List ℕ} {ls ms : List Around} {own : Names} {i j : ℕ} {o : plain.OptionalExpression} {O : named.Else} (n : Node) → StandsElse I ns vs ls i j o O → PlacedElse O → Since ns base vs own → R.Round ls ms → (ar : spots.Around) → SameAround ar vs ls
          → Goes (occurrences (elaborated.otherwise T n O)) (spots.spots ar (elaborated.otherwise T n O)) → OptionalWithin N own ms o
      otherwise_told n stands.s_absent p s r ar k g = tt
      otherwise_told n (stands.s_present h) p s r ar k g = exp_told h p s r ar k g

      returned_told : {vs : List ℕ} {ls ms : List Around} {own : Names} {i j : ℕ} {o : plain.OptionalExpression} {O : named.Else} (n : Node) → StandsElse I ns vs ls i j o O → PlacedElse O → Since ns base vs own → R.Round ls ms → (ar : spots.Around) → SameAround ar vs ls
          → Goes (occurrences (elaborated.returned T n O)) (spots.spots ar (elaborated.returned T n O)) → OptionalWithin N own ms o
      returned_told n stands.s_absent p s r ar k g = tt
      returned_told n (stands.s_present h) p s r ar k g = exp_told h p s r ar k g

      pub tail_told : {vs : List ℕ} {ls ms : List Around} {own : Names} {i j : ℕ} {o : plain.OptionalExpression} {O : named.Else} (n : Node) → StandsElse I ns vs ls i j o O → PlacedElse O → Since ns base vs own → R.Round ls ms → (ar : spots.Around) → SameAround ar vs ls
          → Goes (occurrences (elaborated.tail T n O)) (spots.spots ar (elaborated.tail T n O)) → OptionalWithin N own ms o
      tail_told n stands.s_absent p s r ar k g = tt
      tail_told n (stands.s_present h) p s r ar k g = exp_told h p s r ar k g

      arguments_told : {vs : List ℕ} {ls ms : List Around} {own : Names} {i j : ℕ} {es : plain.OptionalExpressions} {xs : named.Exps} → StandsArguments I ns vs ls i j es xs → PlacedAll xs → Since ns base vs own → R.Round ls ms → (ar : spots.Around) → SameAround ar vs ls
          → Goes (occurrences_in (elaborated.operands T 0 xs)) (spots_in ar (elaborated.operands T 0 xs)) → ArgumentsWithin N own ms es
      arguments_told stands.s_no_list p s r ar k g = tt
      arguments_told (stands.s_list h) p s r ar k g = exps_told 0 h p s r ar k g

      fields_told : {vs : List ℕ} {ls ms : List Around} {own : Names} {i j : ℕ} {fs : plain.FieldExpressions} {xs : named.Fields} (z : ℕ) → StandsFields I ns vs ls i j fs xs → PlacedFields xs → Since ns base vs own → R.Round ls ms → (ar : spots.Around) → SameAround ar vs ls
          → Goes (occurrences_in (elaborated.fields T z xs)) (spots_in ar (elaborated.fields T z xs)) → FieldsWithin N own ms fs
      fields_told z stands.s_no_field p s r ar k g = tt
      fields_told z (stands.s_field_and {a = a} f h) p s r ar k g = (exp_told f p.0 s r ar k (first_of _ _ g), fields_told z h p.1 s r ar k (rest_of (occurrences (V a)) (spots.spots ar (V a)) g))

      arms_told : {vs : List ℕ} {ls ms : List Around} {own : Names} {i j : ℕ} {l : plain.Arms} {L : named.Arms} → StandsArms I ns vs ls i j l L → PlacedArms L → Since ns base vs own → R.Round ls ms → (ar : spots.Around) → SameAround ar vs ls
          → Goes (occurrences_armed (elaborated.arms T L)) (spots_armed ar (elaborated.arms T L)) → ArmsWithin N own ms l
      arms_told stands.s_no_arm p s r ar k g = tt
      arms_told (stands.s_arm_and {P = P} {a = a} d f h) p s r ar k g =
          let t = elaborated.pattern T None P in
          let y = declared_so (bound t) g in
          (exp_told f p.0 (since.since_pattern ns d s) r (with_variables (bound t) ar) (round_pattern None P k) (first_of _ _ y), arms_told h p.1 s r ar k (rest_of (occurrences (V a)) (spots.spots (with_variables (bound t) ar) (V a)) y))

      body_told : {vs : List ℕ} {ls ms : List Around} {own : Names} {i j : ℕ} {b : plain.Body} {B : named.Body} → StandsBody I ns vs ls i j b B → PlacedBody B → Since ns base vs own → R.Round ls ms → (ar : spots.Around) → SameAround ar vs ls
          → Goes (occurrences (elaborated.body T B)) (spots.spots ar (elaborated.body T B)) → BodyWithin N own ms b
      body_told {ms = ms} {own = own} (stands.s_body {s = place} {n = n} {ss = ss} {xs = xs} {o = o} {O = O} q c f h) p s r ar k g =
          let y = nested_told f p.0 s r ar k (elaborated.tail T n O) (behind_all own ss) o (λ a' k' z. tail_told n h p.1 (since_row f s) r a' k' z) (behind_block g) in
          (tells.block own ms (plain.body place ss o), y.0, y.1)

      nested_told : {vs after : List ℕ} {ls ms : List Around} {own : Names} {i j : ℕ} {ss : plain.Statements} {xs : named.Statements} → StandsRow I ns vs ls i j ss xs after → PlacedRow xs → Since ns base vs own → R.Round ls ms → (ar : spots.Around) → SameAround ar vs ls
          → (last : tree.Exp) (z : Names) (o : plain.OptionalExpression) → ((a' : spots.Around) → SameAround a' after ls → Goes (occurrences last) (spots.spots a' last) → OptionalWithin N z ms o)
          → Goes (occurrences_of (elaborated.nested T xs last)) (spots_of ar (elaborated.nested T xs last)) → StatementsWithin N own ms ss × OptionalWithin N z ms o
      nested_told stands.s_no_statement p s r ar k last v o f g = (tt, f ar k g)
      nested_told (stands.s_statement_and (stands.s_declares {P = P} {y = y} q d e) h) p s r ar k last v o f g =
          let rest = nested_told h p.1 (since.since_pattern ns d s) r (with_variables (variables P) ar) (round_variables (variables P) k) last v o f (declared_so (variables P) g) in
          (((tells.annotation y, tt), rest.0), rest.1)
      nested_told {ms = ms} {own = own} (stands.s_statement_and (stands.s_lets {P = P} {y = y} {e = e} {a = a} q d l c) h) p s r ar k last v o f g =
          let t = elaborated.pattern T None P in
          let x = elaborated.matched T a (V a) in
          let u = declared_so (bound t) g in
          let first = matched_so ar a (is_place a) (elaborated.coercion_at T (node_of a)) (Within N own ms e) (λ w d2. place_told ms c p.0 w s d2) (λ d2. exp_told c p.0 s r ar k d2) (first_of _ _ u) in
          let rest = nested_told h p.1 (since.since_pattern ns d s) r (with_variables (bound t) ar) (round_pattern None P k) last v o f (rest_of (occurrences_matched x) (spots_matched ar x) u) in
          (((tells.annotation y, first), rest.0), rest.1)
      nested_told (stands.s_statement_and (stands.s_evaluates {a = a} q c) h) p s r ar k last v o f g =
          let rest = nested_told h p.1 s r ar k last v o f (rest_of (occurrences (V a)) (spots.spots ar (V a)) g) in
          ((exp_told c p.0 s r ar k (first_of _ _ g), rest.0), rest.1)

    -- ---- of a row of statements

    pub statements_told : {vs after : List ℕ} {ls ms : List Around} {own : Names} {i j : ℕ} {ss : plain.Statements} {xs : named.Statements} → StandsRow I ns vs ls i j ss xs after → PlacedRow xs → Since ns base vs own → R.Round ls ms → (ar : spots.Around) → SameAround ar vs ls
        → Goes (in_statements (elaborated_row T xs)) (spots_in_statements ar (elaborated_row T xs)) → StatementsWithin N own ms ss
    statements_told stands.s_no_statement p s r ar k g = tt
    statements_told (stands.s_statement_and (stands.s_declares {P = P} {y = y} q d e) h) p s r ar k g =
        ((tells.annotation y, tt), statements_told h p.1 (since.since_pattern ns d s) r (with_variables (variables P) ar) (round_variables (variables P) k) (declared_so (variables P) g))
    statements_told {ms = ms} {own = own} (stands.s_statement_and {xs = xs} (stands.s_lets {P = P} {y = y} {e = e} {a = a} q d l c) h) p s r ar k g =
        let t = elaborated.pattern T None P in
        let x = elaborated.matched T a (V a) in
        let more = in_statements (elaborated_row T xs) in
        let further = spots_in_statements (with_variables (bound t) ar) (elaborated_row T xs) in
        let z = declared_so (bound t) (first_of {os = all_declared (bound t) ++ occurrences_matched x} more {ss = spots_matched ar x} further g) in (
          (tells.annotation y, matched_so ar a (is_place a) (elaborated.coercion_at T (node_of a)) (Within N own ms e) (λ w v. place_told ms c p.0 w s v) (λ v. exp_told c p.0 s r ar k v) z),
          statements_told h p.1 (since.since_pattern ns d s) r (with_variables (bound t) ar) (round_pattern None P k) (rest_of (all_declared (bound t) ++ occurrences_matched x) {ps = more} (spots_matched ar x) {ts = further} g),
        )
    statements_told (stands.s_statement_and (stands.s_evaluates {a = a} q c) h) p s r ar k g =
        (exp_told c p.0 s r ar k (first_of _ _ g), statements_told h p.1 s r ar k (rest_of (occurrences (V a)) (spots.spots ar (V a)) g))

-- Written types and patterns ask in order, and tell the types of their nodes and variables.
use Rattle.std.proofs.Common.{ℕ, suc, Bool, true, false, List, [], ◌∷◌, ◌++◌, Option, Some, None, sym, subst, ◌⊎◌, inl, inr, ⊎_elim}
use Rattle.rx_typed.specs.declared.nodes.Node.{Node}
use Rattle.rx_typed.specs.Named as named
use Rattle.rx_typed.specs.Named.{Written, WrittenTypes, Pattern, Patterns, FieldPatterns, written_node, pattern_node}
use Rattle.rx_typed.specs.Elaborated.{variables, variables_in, variables_in_fields}
use Rattle.rx_typeck_solver.specs.declared.facts.Rule.{Rule}
use Rattle.rx_typeck_solver.specs.declared.facts.Broken.TheVariants as broken
use Rattle.rx_typeck_solver.specs.declared.facts.Subject.{Subject}
use Rattle.rx_typeck_solver.specs.declared.facts.Subject.TheVariants as subject
use Rattle.rx_typeck_solver.specs.declared.facts.Passing.{Passing}
use Rattle.rx_typeck_solver.specs.declared.facts.Op.TheVariants as op
use Rattle.rx_typeck_solver.specs.declared.facts.Test.{Test}
use Rattle.rx_typeck_solver.specs.declared.facts.Test.TheVariants as test
use Rattle.rx_typeck_solver.specs.declared.facts.Demand.{Demand}
use Rattle.rx_typeck_solver.specs.Valid.{IsIn}
use Rattle.rx_typeck_typed.specs.Asking.{type_of, fitting, with_suffix, is_open}
use Rattle.rx_typeck_typed.specs.Demands.{of_type, of_types, written_nodes, lifetimes_asked, limits, whole_type, Matched, a_value, a_place, an_initialiser, binding_of, direct, count, field_names, under, pattern_is, minus, of_pattern, of_parts, of_variant_parts, of_field_patterns, whole_pattern}
use Rattle.rx_typeck_typed.proofs.Reach.{Sure, Known, Passed, Reach, stays, ◌⇒◌, Tells, sure_kept, equals_asked, passes_asked, behind_asked, sure_passed, known_none, known_and, known_one, known_two, passed_none, passed_snoc}

-- ---- written types

lifetimes_reach : (n : Node) (i : ℕ) (l : Option ℕ) (ds : List Demand) → Reach ds (lifetimes_asked n i l ds)
lifetimes_reach n i None ds = stays ds
lifetimes_reach n i (Some k) ds = passes_asked n _ _ [] [] [] ds known_none passed_none passed_none

record TypesTold (ds ds' : List Demand) (xs : List Subject) : Type 0 where
  reach : Reach ds ds'
  told : Known ds' xs

mutual
  pub type_told : (t : Written) (ds : List Demand) → Tells ds (of_type t ds) (type_of (written_node t))
  type_told (named.a_kind n k) ds = equals_asked n _ _ _ [] [] ds known_none passed_none
  type_told (named.a_bool n) ds = equals_asked n _ _ _ [] [] ds known_none passed_none
  type_told (named.a_tuple n ts) ds = let a = types_told ts ds in let b = equals_asked n (broken.Mismatch Rule.Equal) (type_of n) op.Tuple (written_nodes ts) [] (of_types ts ds) a.told passed_none in
      record { reach = (a.reach ⇒ b.reach); told = b.told }
  type_told (named.a_reference n m t) ds = let a = type_told t ds in let b = equals_asked n (broken.Mismatch Rule.Equal) (type_of n) (op.Referring m) (type_of (written_node t) ∷ []) [] (of_type t ds) (known_one a.told) passed_none in
      record { reach = (a.reach ⇒ b.reach); told = b.told }
  type_told (named.an_item n i ls) ds = let b = equals_asked n (broken.Mismatch Rule.Equal) (type_of n) (op.Item i) [] [] (lifetimes_asked n i ls ds) known_none passed_none in
      record { reach = ((lifetimes_reach n i ls ds) ⇒ b.reach); told = b.told }

  types_told : (ts : WrittenTypes) (ds : List Demand) → TypesTold ds (of_types ts ds) (written_nodes ts)
  types_told named.no_written ds = record { reach = stays ds; told = known_none }
  types_told (named.written_and t ts) ds = let a = type_told t ds in let b = types_told ts (of_type t ds) in
      record { reach = (a.reach ⇒ b.reach); told = known_and (b.reach.keeps _ a.told) b.told }

pub limits_reach : (n : Node) (ds : List Demand) → Sure ds (type_of n) → Reach ds (limits n ds)
limits_reach n ds h = passes_asked n _ _ (type_of n ∷ []) [] [] ds (known_one h) passed_none passed_none

pub whole_type_told : (t : Written) (ds : List Demand) → Tells ds (whole_type t ds) (type_of (written_node t))
whole_type_told t ds = let a = type_told t ds in let b = limits_reach (written_node t) (of_type t ds) a.told in
    record { reach = (a.reach ⇒ b); told = b.keeps _ a.told }

-- ---- patterns

abbrev pub SureMatched : List Demand → Matched → Type 0
SureMatched ds a_value = Unit {0}
SureMatched ds (a_place x qs) = Passed ds qs
SureMatched ds (an_initialiser e x qs) = Sure ds (type_of e) × Passed ds qs

pub sure_matched : (ds ds' : List Demand) → Reach ds ds' → (s : Matched) → SureMatched ds s → SureMatched ds' s
sure_matched ds ds' r a_value h = tt
sure_matched ds ds' r (a_place x qs) h = sure_passed r h
sure_matched ds ds' r (an_initialiser e x qs) h = (r.keeps _ h.0, sure_passed r h.1)

direct_reach : (n : Node) (m : Bool) (anc : List Passing) (ds : List Demand) → Passed ds anc → Reach ds (direct n m anc ds)
direct_reach n true anc ds h = passes_asked n _ _ [] anc [] ds known_none h passed_none
direct_reach n false anc ds h = stays ds

binding_reach : (n : Node) (anc : List Passing) (s : Matched) (ds : List Demand) → Sure ds (type_of n) → Passed ds anc → SureMatched ds s → Reach ds (binding_of n anc s ds)
binding_reach n anc a_value ds h k l = stays ds
binding_reach n anc (a_place x qs) ds h k l =
    let a = passes_asked n (broken.Mismatch Rule.MoveOut) test.BindingKept (type_of n ∷ []) anc qs ds (known_one h) k l in
    (a ⇒ (passes_asked n _ _ [] anc qs _ known_none (sure_passed a k) (sure_passed a l)))
binding_reach n anc (an_initialiser e x qs) ds h k l =
    let a = passes_asked n (broken.Mismatch Rule.MoveOut) test.BindingKeptOrLent (type_of n ∷ type_of e ∷ []) anc qs ds (known_two h l.0) k l.1 in
    a ⇒ (passes_asked n _ _ (type_of e ∷ []) anc qs _ (known_one (a.keeps _ l.0)) (sure_passed a k) (sure_passed a l.1))

minus_reach : (n : Node) (g : Bool) (ds : List Demand) → Sure ds (type_of n) → Reach ds (minus n g ds)
minus_reach n true ds h = behind_asked n _ false _ ds h
minus_reach n false ds h = stays ds

pub record VariablesTold (ds ds' : List Demand) (xs : List ℕ) : Type 0 where
  pub reach : Reach ds ds'
  pub told : (x : ℕ) → IsIn x xs → Sure ds' (subject.Variable x)

pub in_join : (x : ℕ) (xs ys : List ℕ) → IsIn x (xs ++ ys) → IsIn x xs ⊎ IsIn x ys
in_join x [] ys i = inr i
in_join x (z ∷ xs) ys (inl e) = inl (inl e)
in_join x (z ∷ xs) ys (inr i) = ⊎_elim (λ h. inl (inr h)) (λ h. inr h) (in_join x xs ys i)

told_one : {ds : List Demand} {x : ℕ} → Sure ds (subject.Variable x) → (y : ℕ) → IsIn y (x ∷ []) → Sure ds (subject.Variable y)
told_one {ds} h y (inl e) = subst (λ z. Sure ds (subject.Variable z)) (sym e) h
told_one h y (inr i) = absurd i

told_join : (ds ds1 ds2 : List Demand) (xs ys : List ℕ) → VariablesTold ds ds1 xs → VariablesTold ds1 ds2 ys → VariablesTold ds ds2 (xs ++ ys)
told_join ds ds1 ds2 xs ys a b = record {
  reach = (a.reach ⇒ b.reach);
  told = λ x i. ⊎_elim (λ h. b.reach.keeps _ (a.told x h)) (λ h. b.told x h) (in_join x xs ys i);
}

told_behind : (ds ds1 ds2 : List Demand) (xs : List ℕ) → Reach ds ds1 → VariablesTold ds1 ds2 xs → VariablesTold ds ds2 xs
told_behind ds ds1 ds2 xs a b = record { reach = (a ⇒ b.reach); told = b.told }

is_reach : (n : Node) (ds : List Demand) (t : Test) → Sure ds (type_of n) → Reach ds (pattern_is n t ds)
is_reach n ds t h = passes_asked n _ t (type_of n ∷ []) [] [] ds (known_one h) passed_none passed_none

mutual
  pub pattern_told : (s : Matched) (anc : List Passing) (q : Pattern) (ds : List Demand) → Sure ds (type_of (pattern_node q)) → Passed ds anc → SureMatched ds s
      → VariablesTold ds (of_pattern s anc q ds) (variables q)
  pattern_told s anc (named.wild n) ds h k l = record { reach = stays ds; told = λ x i. absurd i }
  pattern_told s anc (named.bind n x m) ds h k l =
      let a = equals_asked n (broken.Mismatch Rule.Equal) (subject.Variable x) op.Bound (type_of n ∷ []) anc ds (known_one h) k in
      let b = passes_asked n (broken.Mismatch Rule.Parts) test.Limits (subject.Variable x ∷ []) [] [] _ (known_one a.told) passed_none passed_none in
      let ab = (a.reach ⇒ b) in
      let c = direct_reach n m anc _ (sure_passed ab k) in
      let abc = (ab ⇒ c) in
      let d = binding_reach n anc s _ (abc.keeps _ h) (sure_passed abc k) (sure_matched _ _ abc s l) in
      record { reach = (abc ⇒ d); told = told_one (sure_kept (b ⇒ c ⇒ d) a.told) }
  pattern_told s anc (named.whole_number n g v w) ds h k l =
      let a = is_reach n ds test.IntegerBehind h in
      let b = minus_reach n g _ (a.keeps _ h) in
      let ab = (a ⇒ b) in
      let c = behind_asked n (broken.Mismatch Rule.PatternOf) false (with_suffix w) _ (ab.keeps _ h) in
      let abc = (ab ⇒ c) in
      let d = behind_asked n broken.Literal (is_open w) (fitting g v) _ (abc.keeps _ h) in
      record { reach = (abc ⇒ d); told = λ x i. absurd i }
  pattern_told s anc (named.truth n b) ds h k l = record { reach = is_reach n ds test.TruthBehind h; told = λ x i. absurd i }
  pattern_told s anc (named.tuple_pattern n ps) ds h k l =
      let a = is_reach n ds (test.TupleBehind (count ps)) h in
      told_behind _ _ _ _ a (parts_told s (under n anc) n 0 ps _ (a.keeps _ h) (passed_snoc _ anc (sure_passed a k) (a.keeps _ h)) (sure_matched _ _ a s l))
  pattern_told s anc (named.variant_pattern n i v ps) ds h k l =
      let a = is_reach n ds (test.ItemBehind i) h in
      let b = passes_asked n (broken.Mismatch Rule.Count) (test.Holds i v (count ps)) [] [] [] _ known_none passed_none passed_none in
      let ab = (a ⇒ b) in
      told_behind _ _ _ _ ab (variant_told s (under n anc) i v 0 ps _ (passed_snoc _ anc (sure_passed ab k) (ab.keeps _ h)) (sure_matched _ _ ab s l))
  pattern_told s anc (named.struct_pattern n i fs) ds h k l =
      let a = is_reach n ds (test.ItemBehind i) h in
      let b = passes_asked n (broken.Mismatch Rule.Fields) (test.HasFields i (field_names fs)) [] [] [] _ known_none passed_none passed_none in
      let ab = (a ⇒ b) in
      told_behind _ _ _ _ ab (fields_told s (under n anc) i fs _ (passed_snoc _ anc (sure_passed ab k) (ab.keeps _ h)) (sure_matched _ _ ab s l))

  parts_told : (s : Matched) (anc : List Passing) (n : Node) (j : ℕ) (ps : Patterns) (ds : List Demand) → Sure ds (type_of n) → Passed ds anc → SureMatched ds s
      → VariablesTold ds (of_parts s anc n j ps ds) (variables_in ps)
  parts_told s anc n j named.no_pattern ds h k l = record { reach = stays ds; told = λ x i. absurd i }
  parts_told s anc n j (named.pattern_and p ps) ds h k l =
      let a = equals_asked (pattern_node p) (broken.Mismatch Rule.Equal) (type_of (pattern_node p)) (op.Part j) (type_of n ∷ []) [] ds (known_one h) passed_none in
      let b = pattern_told s anc p _ a.told (sure_passed a.reach k) (sure_matched _ _ a.reach s l) in
      let ab = (a.reach ⇒ b.reach) in
      told_join _ _ _ _ _ (told_behind _ _ _ _ a.reach b) (parts_told s anc n (suc j) ps _ (ab.keeps _ h) (sure_passed ab k) (sure_matched _ _ ab s l))

  variant_told : (s : Matched) (anc : List Passing) (i v j : ℕ) (ps : Patterns) (ds : List Demand) → Passed ds anc → SureMatched ds s
      → VariablesTold ds (of_variant_parts s anc i v j ps ds) (variables_in ps)
  variant_told s anc i v j named.no_pattern ds k l = record { reach = stays ds; told = λ x i. absurd i }
  variant_told s anc i v j (named.pattern_and p ps) ds k l =
      let a = equals_asked (pattern_node p) (broken.Mismatch Rule.Equal) (type_of (pattern_node p)) (op.PartOf i v j) [] [] ds known_none passed_none in
      let b = pattern_told s anc p _ a.told (sure_passed a.reach k) (sure_matched _ _ a.reach s l) in
      let ab = (a.reach ⇒ b.reach) in
      told_join _ _ _ _ _ (told_behind _ _ _ _ a.reach b) (variant_told s anc i v (suc j) ps _ (sure_passed ab k) (sure_matched _ _ ab s l))

  fields_told : (s : Matched) (anc : List Passing) (i : ℕ) (fs : FieldPatterns) (ds : List Demand) → Passed ds anc → SureMatched ds s
      → VariablesTold ds (of_field_patterns s anc i fs ds) (variables_in_fields fs)
  fields_told s anc i named.no_field_pattern ds k l = record { reach = stays ds; told = λ x i. absurd i }
  fields_told s anc i (named.field_pattern_and x p fs) ds k l =
      let a = equals_asked (pattern_node p) (broken.Mismatch Rule.Equal) (type_of (pattern_node p)) (op.FieldOf i x) [] [] ds known_none passed_none in
      let b = pattern_told s anc p _ a.told (sure_passed a.reach k) (sure_matched _ _ a.reach s l) in
      let ab = (a.reach ⇒ b.reach) in
      told_join _ _ _ _ _ (told_behind _ _ _ _ a.reach b) (fields_told s anc i fs _ (sure_passed ab k) (sure_matched _ _ ab s l))

-- a whole pattern, matched against what was told
pub whole_told : (s : Matched) (x : Subject) (p : Pattern) (ds : List Demand) → Sure ds x → SureMatched ds s → VariablesTold ds (whole_pattern s x p ds) (variables p)
whole_told s x p ds h l =
    let a = equals_asked (pattern_node p) (broken.Mismatch Rule.Equal) (type_of (pattern_node p)) op.Same (x ∷ []) [] ds (known_one h) passed_none in
    told_behind _ _ _ _ a.reach (pattern_told s [] p _ a.told passed_none (sure_matched _ _ a.reach s l))

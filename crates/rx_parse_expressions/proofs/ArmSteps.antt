-- A turn of the parser of arms is the step and then what follows it, by the outcome of each part.
use Rattle.std.proofs.Common.{◌≡◌, ℕ, suc, Bool, true, false, not, ◌&&◌, cond, List, length, Ok, Err, refl, ap, ◌∙◌}
use Rattle.rx_tree.specs.Plain.{Expression, PatternTree}
use Rattle.rx_lex.specs.Tok.{Tok}
use Rattle.rx_parse_grammar.specs.declared.stop.Stop.{Stop}
use Rattle.rx_parse_grammar.specs.declared.stop.Stop.TheVariants.{Syntax}
use Rattle.rx_parse_grammar.specs.declared.symbol.Symbol.TheVariants as symbol
use Rattle.rx_parse_grammar.specs.parser.Symbols.{peek, head, tail}
use Rattle.rx_parse_grammar.specs.parser.Steps.{Parser, Outcome, Got, and_then, sees, expect}
use Rattle.rx_parse_grammar.specs.parser.Lists.{Items}
use Rattle.rx_parse_grammar.specs.parser.Patterns.{pattern}
use Rattle.rx_parse_grammar.specs.parser.Operators.{begins_like}
use Rattle.rx_parse_grammar.specs.parser.Expressions as spec
use Rattle.rx_parse_grammar.specs.parser.Blocks.{operand, whole, like, block}
use Rattle.rx_parse_choices.specs.Ends.{behind_comma, follows}
use Rattle.rx_parse_expressions.specs.Arms.{ArmsTree, ValueTree, arms_from, arms_closed, value, value_by, arm, with_arm}

abbrev Arms : Type 0
Arms = List (PatternTree × Expression)

abbrev Again : Type 0
Again = Arms → ℕ → Parser (Items (PatternTree × Expression))

-- what follows a turn
abbrev goes_on : ℕ → Again → ArmsTree → Parser (Items (PatternTree × Expression))
goes_on b again t j = cond t.more (again t.list t.height j) (arms_closed b t.list t.height j)

abbrev after_arm : ℕ → Again → Arms → ℕ → Parser (Items (PatternTree × Expression))
after_arm b = spec.after_arm (operand b) (whole b) (like b) (block b) b

abbrev arm_by : ℕ → Again → Arms → ℕ → Got PatternTree → Bool → Parser (Items (PatternTree × Expression))
arm_by b = spec.arm_by (operand b) (whole b) (like b) (block b) b

turned : {X : Type 0} (c : Bool) (x y : X) → cond c x y ≡ cond (not c) y x
turned true x y = refl
turned false x y = refl

like_cases : (b : ℕ) (again : Again) (f : Arms) (h : ℕ) (j : List Tok) (m : Bool)
    → cond m (and_then (cond m (Ok (head j, tail j)) (Err (Syntax (length j)))) (λ (t : Tok). after_arm b again f h)) (after_arm b again f h j)
    ≡ goes_on b again (record { list = f; height = h; more = cond m (not (sees symbol.CloseBrace (tail j))) (true && not (sees symbol.CloseBrace j)) }) (cond m (tail j) j)
like_cases b again f h j true = turned (sees symbol.CloseBrace (tail j)) (arms_closed b f h (tail j)) (again f h (tail j))
like_cases b again f h j false = turned (sees symbol.CloseBrace j) (arms_closed b f h j) (again f h j)

whole_cases : (b : ℕ) (again : Again) (f : Arms) (h : ℕ) (j : List Tok) (m : Bool)
    → cond m (and_then (cond m (Ok (head j, tail j)) (Err (Syntax (length j)))) (λ (t : Tok). after_arm b again f h)) (arms_closed b f h j)
    ≡ goes_on b again (record { list = f; height = h; more = cond m (not (sees symbol.CloseBrace (tail j))) (false && not (sees symbol.CloseBrace j)) }) (cond m (tail j) j)
whole_cases b again f h j true = turned (sees symbol.CloseBrace (tail j)) (arms_closed b f h (tail j)) (again f h (tail j))
whole_cases b again f h j false = refl

behind_like : (b : ℕ) (again : Again) (f : Arms) (h : ℕ) (j : List Tok)
    → cond (sees symbol.Comma j) (and_then (expect symbol.Comma j) (λ (t : Tok). after_arm b again f h)) (after_arm b again f h j)
    ≡ goes_on b again (record { list = f; height = h; more = follows true j }) (behind_comma j)
unfolding expect
behind_like b again f h j = like_cases b again f h j (sees symbol.Comma j)

behind_whole : (b : ℕ) (again : Again) (f : Arms) (h : ℕ) (j : List Tok)
    → cond (sees symbol.Comma j) (and_then (expect symbol.Comma j) (λ (t : Tok). after_arm b again f h)) (arms_closed b f h j)
    ≡ goes_on b again (record { list = f; height = h; more = follows false j }) (behind_comma j)
unfolding expect
behind_whole b again f h j = whole_cases b again f h j (sees symbol.Comma j)

abbrev taken : ℕ → Again → Arms → ℕ → Got PatternTree → ValueTree → Parser (Items (PatternTree × Expression))
taken b again f h p v = goes_on b again (with_arm f h p v)

like_read : (b : ℕ) (again : Again) (f : Arms) (h : ℕ) (p : Got PatternTree) (o : Outcome (Got Expression))
    → and_then o (λ x j. cond (sees symbol.Comma j) (and_then (expect symbol.Comma j) (λ (t : Tok). after_arm b again (with_arm f h p (record { value = x; more = true })).list (with_arm f h p (record { value = x; more = true })).height)) (after_arm b again (with_arm f h p (record { value = x; more = true })).list (with_arm f h p (record { value = x; more = true })).height j))
    ≡ and_then (and_then {B = ValueTree} o (λ x j. Ok (record { value = x; more = follows true j }, behind_comma j))) (taken b again f h p)
like_read b again f h p (Ok r) = let t = with_arm f h p (record { value = r.0; more = true }) in behind_like b again t.list t.height r.1
like_read b again f h p (Err e) = refl

whole_read : (b : ℕ) (again : Again) (f : Arms) (h : ℕ) (p : Got PatternTree) (o : Outcome (Got Expression))
    → and_then o (λ x j. cond (sees symbol.Comma j) (and_then (expect symbol.Comma j) (λ (t : Tok). after_arm b again (with_arm f h p (record { value = x; more = true })).list (with_arm f h p (record { value = x; more = true })).height)) (arms_closed b (with_arm f h p (record { value = x; more = true })).list (with_arm f h p (record { value = x; more = true })).height j))
    ≡ and_then (and_then {B = ValueTree} o (λ x j. Ok (record { value = x; more = follows false j }, behind_comma j))) (taken b again f h p)
whole_read b again f h p (Ok r) = let t = with_arm f h p (record { value = r.0; more = true }) in behind_whole b again t.list t.height r.1
whole_read b again f h p (Err e) = refl

value_read : (b : ℕ) (again : Again) (f : Arms) (h : ℕ) (p : Got PatternTree) (q : Bool) (i : List Tok)
    → arm_by b again f h p q i ≡ and_then (value_by b q i) (taken b again f h p)
value_read b again f h p true i = like_read b again f h p (like b i)
value_read b again f h p false i = whole_read b again f h p (whole b i)

arrow_read : (b : ℕ) (again : Again) (f : Arms) (h : ℕ) (p : Got PatternTree) (o : Outcome Tok)
    → and_then o (λ t j. arm_by b again f h p (begins_like (peek j)) j) ≡ and_then (and_then o (λ t j. value_by b (begins_like (peek j)) j)) (taken b again f h p)
arrow_read b again f h p (Ok r) = value_read b again f h p (begins_like (peek r.1)) r.1
arrow_read b again f h p (Err e) = refl

put_after : (b : ℕ) (again : Again) (f : Arms) (h : ℕ) (p : Got PatternTree) (o : Outcome ValueTree)
    → and_then o (taken b again f h p) ≡ and_then (and_then {B = ArmsTree} o (λ v j. Ok (with_arm f h p v, j))) (goes_on b again)
put_after b again f h p (Ok r) = refl
put_after b again f h p (Err e) = refl

pattern_read : (b : ℕ) (again : Again) (f : Arms) (h : ℕ) (o : Outcome (Got PatternTree))
    → and_then o (λ p j. and_then (expect symbol.FatArrow j) (λ t k. arm_by b again f h p (begins_like (peek k)) k))
    ≡ and_then (and_then {B = ArmsTree} o (λ p j. and_then (value b j) (λ v k. Ok (with_arm f h p v, k)))) (goes_on b again)
unfolding value
pattern_read b again f h (Ok r) = arrow_read b again f h r.0 (expect symbol.FatArrow r.1) ∙ put_after b again f h r.0 (value b r.1)
pattern_read b again f h (Err e) = refl

pub turn_is : (b n : ℕ) (f : Arms) (h : ℕ) (i : List Tok) → arms_from b (suc n) f h i ≡ and_then (arm b f h i) (goes_on b (arms_from b n))
unfolding spec.arms_from arm
turn_is b n f h i = pattern_read b (arms_from b n) f h (pattern b i)

-- ---- by what the step gives

pub turn_fault : (b n : ℕ) (f : Arms) (h : ℕ) (i : List Tok) (e : Stop) → arm b f h i ≡ Err e → arms_from b (suc n) f h i ≡ Err e
turn_fault b n f h i e a = turn_is b n f h i ∙ ap (λ o. and_then o (goes_on b (arms_from b n))) a

pub turn_more : (b n : ℕ) (f : Arms) (h : ℕ) (t : ArmsTree) (i j : List Tok) → arm b f h i ≡ Ok (t, j) → t.more ≡ true → arms_from b (suc n) f h i ≡ arms_from b n t.list t.height j
turn_more b n f h t i j a m = turn_is b n f h i ∙ ap (λ o. and_then o (goes_on b (arms_from b n))) a ∙ ap (λ c. cond c (arms_from b n t.list t.height j) (arms_closed b t.list t.height j)) m

pub turn_last : (b n : ℕ) (f : Arms) (h : ℕ) (t : ArmsTree) (i j : List Tok) → arm b f h i ≡ Ok (t, j) → t.more ≡ false → arms_from b (suc n) f h i ≡ arms_closed b t.list t.height j
turn_last b n f h t i j a m = turn_is b n f h i ∙ ap (λ o. and_then o (goes_on b (arms_from b n))) a ∙ ap (λ c. cond c (arms_from b n t.list t.height j) (arms_closed b t.list t.height j)) m

pub no_turn : (b : ℕ) (f : Arms) (h : ℕ) (i : List Tok) → arms_from b 0 f h i ≡ Err (Syntax (length i))
unfolding spec.arms_from
no_turn b f h i = refl

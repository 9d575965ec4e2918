-- How deep an extraction is (Rust Reference, "Grouped expressions", "Types"): its text, where each pair of parentheses of the file counts, and
-- the types that are made, of which some stand in no text.
use Rattle.std.specs.Prelude.{◌≡◌, ℕ, ◌≤◌, ◌<◌, ◌⊎◌, List, [], Option, Some, None, MatchOption}
use Rattle.rx_tree.specs.Lists.{nth}
use Rattle.rx_tree.specs.Plain as plain
use Rattle.rx_tree.specs.Plain.{ItemTree, ProgramTree}
use Rattle.rx_lex.specs.Tok.{Tok}
use Rattle.rx_hoist_extraction.specs.Run.{Run}
use Rattle.rx_hoist_extraction.specs.Plan.{Plan}
use Rattle.rx_hoist_extraction.specs.Limits.{first_past, made_levels}
use Rattle.rx_hoist_made.specs.Counts.{capped}
use Rattle.rx_parse.specs.Answer.{HasLevels, most_counted}
use Rattle.rx_splice_laws.specs.SplicedText.{spliced_text}
use Rattle.rx_engine_extraction.specs.Rendering.{CanBeMade}

abbrev pub most_levels : ℕ
most_levels = 128

-- a text is the file's bytes with the edits of a run's extraction by a plan, without bounds, where these can be made
abbrev pub IsSplicedIn : List ℕ → List Tok → ProgramTree → Run → Plan → List ℕ → Option ItemTree → Type 0
IsSplicedIn bytes all P r pl text (Some (plain.function_item s f)) = CanBeMade bytes all P r pl f × (text ≡ spliced_text bytes all P r pl [] f)
IsSplicedIn bytes all P r pl text _ = ⊥

abbrev pub IsSpliced : List ℕ → List Tok → ProgramTree → Run → Plan → List ℕ → Type 0
IsSpliced bytes all P r pl text = IsSplicedIn bytes all P r pl text (nth P r.item)

-- it has so many levels, of those that are counted
pub record IsDeep (bytes : List ℕ) (all : List Tok) (P : ProgramTree) (r : Run) (pl : Plan) (n : ℕ) : Type 0 where
  pub text : List ℕ
  pub spliced : IsSpliced bytes all P r pl text
  pub levels : HasLevels text n
  pub counted : n ≤ most_counted

-- no more than a text may have
abbrev pub IsLow : List ℕ → List Tok → ProgramTree → Run → Plan → Type 0
IsLow bytes all P r pl = (n : ℕ) → IsDeep bytes all P r pl n → n ≤ most_levels

-- neither the text nor a type that is made is too deep
pub record HasFewLevels (bytes : List ℕ) (all : List Tok) (P : ProgramTree) (r : Run) (pl : Plan) : Type 0 where
  pub text : IsLow bytes all P r pl
  pub types : first_past most_levels (made_levels pl) ≡ None

-- the number that is told: that of the text, if it is too deep, or else that of the first type
abbrev pub HasManyLevels : List ℕ → List Tok → ProgramTree → Run → Plan → ℕ → Type 0
HasManyLevels bytes all P r pl n =
    (IsDeep bytes all P r pl n × (most_levels < n)) ⊎ (IsLow bytes all P r pl × (first_past most_levels (made_levels pl) ≡ Some n))

-- ---- what private functions answer

abbrev pub IsCounted : List ℕ → Option ℕ → Type 0
IsCounted text o = MatchOption o ((n : ℕ) → HasLevels text n → n ≤ most_counted → ⊥) (λ n. HasLevels text n × (n ≤ most_counted))

abbrev pub IsDeepIf : List ℕ → List Tok → ProgramTree → Run → Plan → Option ℕ → Type 0
IsDeepIf bytes all P r pl o = MatchOption o ((n : ℕ) → IsDeep bytes all P r pl n → ⊥) (λ n. IsDeep bytes all P r pl n)

abbrev pub IsTooDeepIf : List ℕ → List Tok → ProgramTree → Run → Plan → Option ℕ → Type 0
IsTooDeepIf bytes all P r pl o =
    MatchOption o (HasFewLevels bytes all P r pl) (λ k. (n : ℕ) × (k ≡ capped n) × HasManyLevels bytes all P r pl n)

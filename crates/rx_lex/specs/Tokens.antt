-- The token list of a text (Rust Reference, "Whitespace", "Comments", "Tokens"), by cases on the text.
use Rattle.std.specs.Prelude.{◌≡◌, ◌≢◌, ℕ, ◌+◌, ◌≤◌, Bool, true, false, ◌==◌, ◌&&◌, ◌||◌, not, List, [], ◌∷◌, ◌++◌, length, codes}
use Rattle.std.specs.List.{list_all}
use Rattle.std.specs.Str.{IsUtf8}
use Rattle.rx_lex.specs.declared.token.Class.{Class}
use Rattle.rx_lex.specs.Tok.{Tok}
use Rattle.rx_lex.specs.Words.{IsWord, may_follow}

-- space, tab, line feed, carriage return
abbrev pub is_blank : ℕ → Bool
is_blank c = (c == 32) || (c == 9) || (c == 10) || (c == 13)

abbrev pub slashes : List ℕ
slashes = codes "//"

abbrev pub opening : List ℕ
opening = codes "/*"

abbrev pub closing : List ℕ
closing = codes "*/"

-- where a comment to the end of its line ends
abbrev pub at_line_end : List ℕ → Bool
at_line_end [] = true
at_line_end (c ∷ cs) = c == 10

-- whether a text begins with `/*` or `*/`
abbrev pub begins_pair : List ℕ → Bool
begins_pair (c ∷ d ∷ t) = ((c == 47) && (d == 42)) || ((c == 42) && (d == 47))
begins_pair _ = false

-- t begins with a word in which `/*` and `*/` are balanced, and then comes r
pub data Balanced : List ℕ → List ℕ → Type 0 where
  nothing : {t : List ℕ} → Balanced t t
  plain : {c : ℕ} {t r : List ℕ} → begins_pair (c ∷ t) ≡ false → Balanced t r → Balanced (c ∷ t) r
  nested : {t u r : List ℕ} → Balanced t (closing ++ u) → Balanced u r → Balanced (opening ++ t) r

-- t begins with a blank or a comment, and then comes r
pub data Gap : List ℕ → List ℕ → Type 0 where
  blank : {c : ℕ} {r : List ℕ} → is_blank c ≡ true → Gap (c ∷ r) r
  line_comment : (u : List ℕ) {t r : List ℕ} → list_all (λ c. not (c == 10)) u ≡ true → at_line_end r ≡ true → t ≡ slashes ++ (u ++ r) → Gap t r
  block_comment : {u r : List ℕ} → Balanced u (closing ++ r) → Gap (opening ++ u) r

-- t begins with the word w of this class, and then comes r
pub record Front (c : Class) (w r t : List ℕ) : Type 0 where
  pub word : IsWord c w
  pub follows : may_follow c w r ≡ true
  pub is : t ≡ w ++ r

-- the longest such word
pub record Longest (c : Class) (w r t : List ℕ) : Type 0 where
  pub front : Front c w r t
  pub longest : (d : Class) (v q : List ℕ) → Front d v q t → length v ≤ length w

abbrev pub token_at : ℕ → Class → List ℕ → Tok
token_at at c w = record { class = c; span = record { start = at; end = at + length w }; text = w }

-- the tokens of a text whose first byte stands at a place
pub data Tokens : ℕ → List ℕ → List Tok → Type 0 where
  none : {at : ℕ} → Tokens at [] []
  gap : {at : ℕ} (n : ℕ) {t r : List ℕ} {ts : List Tok} → Gap t r → length t ≡ n + length r → Tokens (at + n) r ts → Tokens at t ts
  token : {at : ℕ} {t : List ℕ} {ts : List Tok} (c : Class) (w r : List ℕ) → ((q : List ℕ) → Gap t q → ⊥) → Longest c w r t
      → Tokens (at + length w) r ts → Tokens at t (token_at at c w ∷ ts)

-- going on from a place, the first place where neither a blank, a comment nor a token begins
pub data Stuck : ℕ → List ℕ → ℕ → Type 0 where
  here : {at : ℕ} {t : List ℕ} → t ≢ [] → ((q : List ℕ) → Gap t q → ⊥) → ((c : Class) (w r : List ℕ) → Front c w r t → ⊥) → Stuck at t at
  after_gap : {at bad : ℕ} (n : ℕ) {t r : List ℕ} → Gap t r → length t ≡ n + length r → Stuck (at + n) r bad → Stuck at t bad
  after_token : {at bad : ℕ} {t : List ℕ} (c : Class) (w r : List ℕ) → ((q : List ℕ) → Gap t q → ⊥) → Longest c w r t
      → Stuck (at + length w) r bad → Stuck at t bad

-- the bytes are a text with these tokens
pub record Lexes (bytes : List ℕ) (ts : List Tok) : Type 0 where
  pub text : IsUtf8 bytes
  pub tokens : Tokens 0 bytes ts

-- each is a word of its class, as the tokens of a text are
abbrev pub AreWords : List Tok → Type 0
AreWords [] = Unit {0}
AreWords (t ∷ ts) = IsWord t.class t.text × AreWords ts

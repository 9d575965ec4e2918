-- What is added in parts is the whole: a call more, and the parts of a text, with where its run stands.
use Rattle.std.proofs.Common.{ℕ, ◌≡◌, ◌≤◌, ◌+◌, ◌-◌, suc, List, ◌++◌, length, ap, ◌∙◌, arith}
use Rattle.std.proofs.Math.Numerals.{suc-eq-add-one}
use Rattle.std.proofs.lemmas.List.{append_assoc, length-append}
use Rattle.std.specs.Prelude.{codes}
use Rattle.rx_rem_generated.specs.Generated.{before_run, the_run, behind_run, function, functions, call, calls, main, begun, generated, run_start, run_end}

pub one_call_more : (text old new : List ℕ) (k : ℕ) → old ≡ text ++ calls k → new ≡ old ++ call k → new ≡ text ++ calls (k + 1)
one_call_more text old new k e f =
    f ∙ ap (λ t. t ++ call k) e ∙ append_assoc text (calls k) (call k) ∙ ap (λ n. text ++ calls n) (suc-eq-add-one k)

pub in_parts : (text a b c one two three : List ℕ) → one ≡ text ++ a → two ≡ one ++ b → three ≡ two ++ c → three ≡ text ++ (a ++ (b ++ c))
in_parts text a b c one two three e f h =
    h ∙ ap (λ t. t ++ c) (f ∙ ap (λ t. t ++ b) e) ∙ append_assoc (text ++ a) b c ∙ append_assoc text a (b ++ c)

function_more : (k n : ℕ) → suc k ≡ n → begun k ++ function k ≡ begun n
function_more k n e = append_assoc (codes "mod rt;\n\n") (functions k) (function k) ∙ ap begun e

last_of : (n : ℕ) → 1 ≤ n → suc (n - 1) ≡ n
last_of n h = omega (arith, h)

-- all functions but the last, the last in its parts, and `main`
pub all_parts : (n : ℕ) → 1 ≤ n → (one two three four five : List ℕ) → one ≡ begun (n - 1) → two ≡ one ++ before_run (n - 1) → three ≡ two ++ the_run
    → four ≡ three ++ behind_run → five ≡ four ++ main n → five ≡ generated n
unfolding generated
all_parts n h one two three four five e f g i j = let k = n - 1 in
    j ∙ ap (λ t. t ++ main n)
    (in_parts one (before_run k) the_run behind_run two three four f g i ∙ ap (λ t. t ++ function k) e ∙ function_more k n (last_of n h))

pub start_of : (n : ℕ) (one two : List ℕ) → one ≡ begun (n - 1) → two ≡ one ++ before_run (n - 1) → length two ≡ run_start n
unfolding run_start
start_of n one two e f = ap length (f ∙ ap (λ t. t ++ before_run (n - 1)) e)

pub end_of : (n : ℕ) (one two three : List ℕ) → one ≡ begun (n - 1) → two ≡ one ++ before_run (n - 1) → three ≡ two ++ the_run → length three ≡ run_end n
unfolding run_end
end_of n one two three e f g = ap length g ∙ length-append two the_run ∙ ap (λ m. m + length the_run) (start_of n one two e f)

-- A text of at most a thousand functions is short: the numbers in it have four digits at most.
use Rattle.std.proofs.Common.{ℕ, ◌≡◌, ◌≤◌, ◌<◌, ◌+◌, ◌*◌, suc, zero, List, ◌++◌, length, ap, ◌∙◌, arith}
use Rattle.std.specs.Prelude.{codes}
use Rattle.std.specs.Fmt.{decimal}
use Rattle.std.proofs.lemmas.List.{length-append}
use Rattle.std.proofs.lemmas.Fmt.{length-decimal-le}
use Rattle.rx_rem_generated.specs.Generated.{before_run, the_run, behind_run, function, functions, call, calls, main, begun, generated}

seam : (a b c : List ℕ) → length (a ++ (b ++ c)) ≡ length a + (length b + length c)
seam a b c = length-append a (b ++ c) ∙ ap (λ n. length a + n) (length-append b c)

digits : (k : ℕ) → k < 10000 → length (decimal k) ≤ 4
digits k h = length-decimal-le 4 k (omega arith) h (omega (arith, h))

-- words with a number between them
numbered : (a c : List ℕ) (k m : ℕ) → length a + length c ≤ m → k < 10000 → length (a ++ (decimal k ++ c)) ≤ m + 4
numbered a c k m l h = let d = digits k h in let e = seam a (decimal k) c in omega (arith, l, d, e)

before_length : (k : ℕ) → k < 10000 → length (before_run k) ≤ 104
before_length k h = numbered (codes "fn f")
    (codes "(x: i64) -> i64 {\n    let mut s = x;\n    let mut i = 0i64;\n    while i < 10 {\n        ") k 100 (omega arith) h

function_length : (k : ℕ) → k < 10000 → length (function k) ≤ 250
function_length k h = let b = before_length k h in let e = seam (before_run k) the_run behind_run in
    let r : length the_run ≤ 100 = omega arith in let s : length behind_run ≤ 40 = omega arith in
    omega (arith, b, e, r, s)

functions_length : (n : ℕ) → n ≤ 1000 → length (functions n) ≤ 250 * n
functions_length zero h = omega arith
functions_length (suc n) h = let r = functions_length n (omega (arith, h)) in let f = function_length n (omega (arith, h)) in
    let e = length-append (functions n) (function n) in omega (arith, r, f, e)

call_length : (k : ℕ) → k < 10000 → length (call k) ≤ 50
call_length k h = let n = numbered (codes "    t = t + f") (codes "(rt::next());\n") k 40 (omega arith) h in omega (arith, n)

calls_length : (n : ℕ) → n ≤ 1000 → length (calls n) ≤ 50 * n
calls_length zero h = omega arith
calls_length (suc n) h = let r = calls_length n (omega (arith, h)) in let f = call_length n (omega (arith, h)) in
    let e = length-append (calls n) (call n) in omega (arith, r, f, e)

main_length : (n : ℕ) → n ≤ 1000 → length (main n) ≤ 50 * n + 100
main_length n h = let c = calls_length n h in
    let e = seam (codes "fn main() {\n    let mut t = 0i64;\n") (calls n) (codes "    println!(\"{}\", t);\n}\n") in
    let a : length (codes "fn main() {\n    let mut t = 0i64;\n") ≤ 50 = omega arith in
    let b : length (codes "    println!(\"{}\", t);\n}\n") ≤ 50 = omega arith in
    omega (arith, c, e, a, b)

pub generated_length : (n : ℕ) → n ≤ 1000 → length (generated n) ≤ 1048576
unfolding generated
generated_length n h = let f = functions_length n h in let m = main_length n h in
    let d = length-append (codes "mod rt;\n\n") (functions n) in let e = length-append (begun n) (main n) in
    let a : length (codes "mod rt;\n\n") ≤ 10 = omega arith in
    omega (arith, f, m, d, e, a)

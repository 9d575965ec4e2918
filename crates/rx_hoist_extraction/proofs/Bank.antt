-- The middle of a loop of a longer program, with jumps, a return and three kinds of params: its extraction, computed.
use Rattle.std.proofs.Common.{◌≡◌, true, false, [], ◌∷◌, Some, None, codes, refl}
use Rattle.std.specs.Fmt.{digits}
use Rattle.rx_core.specs.declared.types.Kind.TheVariants as kind
use Rattle.rx_tree.specs.declared.tree.BinaryOp.TheVariants as op
use Rattle.rx_tree.specs.Plain as plain
use Rattle.rx_tree.specs.Plain.{ProgramTree}
use Rattle.rx_tree.specs.Erase.{nowhere}
use Rattle.rx_typed.specs.Types.{reference, named}
use Rattle.rx_print_spelling.specs.Items.{print_program}
use Rattle.rx_hoist_extraction.specs.Run.{Run}
use Rattle.rx_hoist_extraction.specs.Plan.{Plan, to_next, to_break, to_continue, to_return, by_value, by_reborrow, by_shared}
use Rattle.rx_hoist_extraction.specs.Made.{variant, variant_pattern}
use Rattle.rx_hoist_extraction.specs.Extraction.{extraction}
use Rattle.rx_hoist_extraction.proofs.Trees.{here, name, bind, number, var, field, two, call, make, match_of, set, set_mut, does, block_at, structure, enumeration, function, i64_type, variable, mutable, passed_by, leaving, run_at, no_plan, lines}

-- a break, a continue and a return, and params by value, shared and by a reborrow
abbrev pub bank : ProgramTree
bank =
    (plain.rt_item nowhere nowhere) ∷
    (structure (codes "Account") [] [] ((name (codes "id"), (plain.kind_type nowhere kind.I64)) ∷ (name (codes "balance"), (plain.kind_type nowhere kind.I64)) ∷ [])) ∷
    (structure (codes "Bank") [] [] ((name (codes "first"), (plain.named_type nowhere (name (codes "Account")) None)) ∷ (name (codes "second"), (plain.named_type nowhere (name (codes "Account")) None)) ∷ (name (codes "fee"), (plain.kind_type nowhere kind.I64)) ∷ [])) ∷
    (enumeration (codes "Command") [] [] ((name (codes "Deposit"), ((plain.kind_type nowhere kind.I64) ∷ (plain.kind_type nowhere kind.I64) ∷ [])) ∷ (name (codes "Withdraw"), ((plain.kind_type nowhere kind.I64) ∷ (plain.kind_type nowhere kind.I64) ∷ [])) ∷ (name (codes "Show"), ((plain.kind_type nowhere kind.I64) ∷ [])) ∷ (name (codes "Quit"), []) ∷ [])) ∷
    (function (codes "read_command") [] [] (Some (plain.named_type nowhere (name (codes "Command")) None)) (block_at nowhere (
    set (codes "kind") (plain.next_input nowhere) ∷
    plain.expression_statement nowhere (plain.if nowhere (two op.Eq (var (codes "kind")) (number 0)) (block_at nowhere (
    does (plain.return nowhere (plain.present (variant nowhere (codes "Command") (codes "Quit") []))) ∷
    []) plain.absent) plain.absent) false ∷
    set (codes "id") (plain.next_input nowhere) ∷
    []) (plain.present (match_of (var (codes "kind")) (((plain.int_pattern nowhere false 1 None), (variant nowhere (codes "Command") (codes "Deposit") ((var (codes "id")) ∷ (plain.next_input nowhere) ∷ []))) ∷ ((plain.int_pattern nowhere false 2 None), (variant nowhere (codes "Command") (codes "Withdraw") ((var (codes "id")) ∷ (plain.next_input nowhere) ∷ []))) ∷ ((plain.wild nowhere), (variant nowhere (codes "Command") (codes "Show") ((var (codes "id")) ∷ []))) ∷ []))))) ∷
    (function (codes "pick") [] ((name (codes "bank"), false, (plain.ref_type nowhere None true (plain.named_type nowhere (name (codes "Bank")) None))) ∷ (name (codes "id"), false, (plain.kind_type nowhere kind.I64)) ∷ []) (Some (plain.ref_type nowhere None true (plain.named_type nowhere (name (codes "Account")) None))) (block_at nowhere (
    plain.expression_statement nowhere (plain.if nowhere (two op.Eq (var (codes "id")) (field (field (var (codes "bank")) (codes "first")) (codes "id"))) (block_at nowhere (
    does (plain.return nowhere (plain.present (plain.borrow nowhere true (field (var (codes "bank")) (codes "first"))))) ∷
    []) plain.absent) plain.absent) false ∷
    []) (plain.present (plain.borrow nowhere true (field (var (codes "bank")) (codes "second")))))) ∷
    (function (codes "serve") [] ((name (codes "bank"), false, (plain.ref_type nowhere None true (plain.named_type nowhere (name (codes "Bank")) None))) ∷ (name (codes "limit"), false, (plain.kind_type nowhere kind.I64)) ∷ []) (Some (plain.kind_type nowhere kind.I64)) (block_at nowhere (
    set_mut (codes "served") (number 0) ∷
    plain.expression_statement nowhere (plain.loop nowhere None (block_at here (
    set (codes "command") (call (codes "read_command") []) ∷
    plain.expression_statement nowhere (plain.if nowhere (two op.Eq (var (codes "served")) (var (codes "limit"))) (block_at nowhere (
    does (plain.return nowhere (plain.present (var (codes "served")))) ∷
    []) plain.absent) plain.absent) false ∷
    plain.expression_statement nowhere (match_of (var (codes "command")) ((
      (variant_pattern nowhere (codes "Command") (codes "Deposit") ((bind (codes "id")) ∷ (bind (codes "amount")) ∷ [])),
      (plain.block nowhere (block_at nowhere (
          set (codes "account") (call (codes "pick") ((var (codes "bank")) ∷ (var (codes "id")) ∷ [])) ∷
          does (plain.assign nowhere (field (var (codes "account")) (codes "balance")) (two op.Add (field (var (codes "account")) (codes "balance")) (var (codes "amount")))) ∷
          []) plain.absent)),
    ) ∷ (
      (variant_pattern nowhere (codes "Command") (codes "Withdraw") ((bind (codes "id")) ∷ (bind (codes "amount")) ∷ [])),
      (plain.block nowhere (block_at nowhere (
          set (codes "fee") (field (var (codes "bank")) (codes "fee")) ∷
          set (codes "account") (call (codes "pick") ((var (codes "bank")) ∷ (var (codes "id")) ∷ [])) ∷
          plain.expression_statement nowhere (plain.if nowhere (two op.Lt (field (var (codes "account")) (codes "balance")) (two op.Add (var (codes "amount")) (var (codes "fee")))) (block_at nowhere (
          does (plain.print nowhere (plain.negate nowhere (number 1))) ∷
          does (plain.continue nowhere None) ∷
          []) plain.absent) plain.absent) false ∷
          does (plain.assign nowhere (field (var (codes "account")) (codes "balance")) (two op.Sub (two op.Sub (field (var (codes "account")) (codes "balance")) (var (codes "amount"))) (var (codes "fee")))) ∷
          []) plain.absent)),
    ) ∷ (
      (variant_pattern nowhere (codes "Command") (codes "Show") ((bind (codes "id")) ∷ [])),
      (plain.block nowhere (block_at nowhere (
          set (codes "account") (call (codes "pick") ((var (codes "bank")) ∷ (var (codes "id")) ∷ [])) ∷
          does (plain.print nowhere (field (var (codes "account")) (codes "balance"))) ∷
          []) plain.absent)),
    ) ∷ ((variant_pattern nowhere (codes "Command") (codes "Quit") []), (plain.break nowhere None)) ∷ [])) false ∷
    does (plain.assign nowhere (var (codes "served")) (two op.Add (var (codes "served")) (number 1))) ∷
    []) plain.absent)) false ∷
    []) (plain.present (var (codes "served"))))) ∷
    (function (codes "main") [] [] None (block_at nowhere (
    set_mut (codes "bank") (make (codes "Bank") ((name (codes "first"), (make (codes "Account") ((name (codes "id"), (number 1)) ∷ (name (codes "balance"), (number 100)) ∷ []))) ∷ (name (codes "second"), (make (codes "Account") ((name (codes "id"), (number 2)) ∷ (name (codes "balance"), (number 50)) ∷ []))) ∷ (name (codes "fee"), (number 1)) ∷ [])) ∷
    set (codes "done") (call (codes "serve") ((plain.borrow nowhere true (var (codes "bank"))) ∷ (number 10) ∷ [])) ∷
    does (plain.print nowhere (var (codes "done"))) ∷
    []) plain.absent)) ∷ []

abbrev pub bank_run : Run
bank_run = run_at 6 (1 ∷ 0 ∷ 0 ∷ []) 1 2

abbrev pub bank_plan : Plan
bank_plan = record no_plan {
  name = codes "act";
  exits = leaving to_next [] ∷ leaving (to_break 0) [] ∷ leaving (to_continue 0) [] ∷ leaving to_return [] ∷ [];
  result = i64_type;
  params = passed_by by_value false (mutable (codes "served") i64_type) ∷ passed_by by_value false (variable (codes "limit") i64_type) ∷ passed_by by_shared false (variable (codes "command") (named 3)) ∷ passed_by by_reborrow false (variable (codes "bank") (reference true (named 2))) ∷ [];
}

pub bank_extracted :
    (print_program bank ≡ (lines (
    codes "mod rt;" ∷
    codes "" ∷
    codes "struct Account {" ∷
    codes "    id: i64," ∷
    codes "    balance: i64," ∷
    codes "}" ∷
    codes "" ∷
    codes "struct Bank {" ∷
    codes "    first: Account," ∷
    codes "    second: Account," ∷
    codes "    fee: i64," ∷
    codes "}" ∷
    codes "" ∷
    codes "enum Command {" ∷
    codes "    Deposit(i64, i64)," ∷
    codes "    Withdraw(i64, i64)," ∷
    codes "    Show(i64)," ∷
    codes "    Quit," ∷
    codes "}" ∷
    codes "" ∷
    codes "fn read_command() -> Command {" ∷
    codes "    let kind = rt::next();" ∷
    codes "    if kind == 0 {" ∷
    codes "        return Command::Quit;" ∷
    codes "    }" ∷
    codes "    let id = rt::next();" ∷
    codes "    match kind {" ∷
    codes "        1 => Command::Deposit(id, rt::next())," ∷
    codes "        2 => Command::Withdraw(id, rt::next())," ∷
    codes "        _ => Command::Show(id)," ∷
    codes "    }" ∷
    codes "}" ∷
    codes "" ∷
    codes "fn pick(bank: &mut Bank, id: i64) -> &mut Account {" ∷
    codes "    if id == bank.first.id {" ∷
    codes "        return &mut bank.first;" ∷
    codes "    }" ∷
    codes "    &mut bank.second" ∷
    codes "}" ∷
    codes "" ∷
    codes "fn serve(bank: &mut Bank, limit: i64) -> i64 {" ∷
    codes "    let mut served = 0;" ∷
    codes "    loop {" ∷
    codes "        let command = read_command();" ∷
    codes "        if served == limit {" ∷
    codes "            return served;" ∷
    codes "        }" ∷
    codes "        match command {" ∷
    codes "            Command::Deposit(id, amount) => {" ∷
    codes "                let account = pick(bank, id);" ∷
    codes "                account.balance = account.balance + amount;" ∷
    codes "            }" ∷
    codes "            Command::Withdraw(id, amount) => {" ∷
    codes "                let fee = bank.fee;" ∷
    codes "                let account = pick(bank, id);" ∷
    codes "                if account.balance < amount + fee {" ∷
    codes "                    println!(\"{}\", -1);" ∷
    codes "                    continue;" ∷
    codes "                }" ∷
    codes "                account.balance = account.balance - amount - fee;" ∷
    codes "            }" ∷
    codes "            Command::Show(id) => {" ∷
    codes "                let account = pick(bank, id);" ∷
    codes "                println!(\"{}\", account.balance);" ∷
    codes "            }" ∷
    codes "            Command::Quit => break," ∷
    codes "        }" ∷
    codes "        served = served + 1;" ∷
    codes "    }" ∷
    codes "    served" ∷
    codes "}" ∷
    codes "" ∷
    codes "fn main() {" ∷
    codes "    let mut bank = Bank { first: Account { id: 1, balance: 100 }, second: Account { id: 2, balance: 50 }, fee: 1 };" ∷
    codes "    let done = serve(&mut bank, 10);" ∷
    codes "    println!(\"{}\", done);" ∷
    codes "}" ∷
    [])))
    × (print_program (extraction bank bank_run bank_plan []) ≡ (lines (
    codes "mod rt;" ∷
    codes "" ∷
    codes "struct Account {" ∷
    codes "    id: i64," ∷
    codes "    balance: i64," ∷
    codes "}" ∷
    codes "" ∷
    codes "struct Bank {" ∷
    codes "    first: Account," ∷
    codes "    second: Account," ∷
    codes "    fee: i64," ∷
    codes "}" ∷
    codes "" ∷
    codes "enum Command {" ∷
    codes "    Deposit(i64, i64)," ∷
    codes "    Withdraw(i64, i64)," ∷
    codes "    Show(i64)," ∷
    codes "    Quit," ∷
    codes "}" ∷
    codes "" ∷
    codes "fn read_command() -> Command {" ∷
    codes "    let kind = rt::next();" ∷
    codes "    if kind == 0 {" ∷
    codes "        return Command::Quit;" ∷
    codes "    }" ∷
    codes "    let id = rt::next();" ∷
    codes "    match kind {" ∷
    codes "        1 => Command::Deposit(id, rt::next())," ∷
    codes "        2 => Command::Withdraw(id, rt::next())," ∷
    codes "        _ => Command::Show(id)," ∷
    codes "    }" ∷
    codes "}" ∷
    codes "" ∷
    codes "fn pick(bank: &mut Bank, id: i64) -> &mut Account {" ∷
    codes "    if id == bank.first.id {" ∷
    codes "        return &mut bank.first;" ∷
    codes "    }" ∷
    codes "    &mut bank.second" ∷
    codes "}" ∷
    codes "" ∷
    codes "fn serve(bank: &mut Bank, limit: i64) -> i64 {" ∷
    codes "    let mut served = 0;" ∷
    codes "    loop {" ∷
    codes "        let command = read_command();" ∷
    codes "        match act(served, limit, &command, bank) {" ∷
    codes "            Exit_act::Next => {}" ∷
    codes "            Exit_act::Break_0 => break," ∷
    codes "            Exit_act::Continue_0 => continue," ∷
    codes "            Exit_act::Return(out_0) => return out_0," ∷
    codes "        };" ∷
    codes "        served = served + 1;" ∷
    codes "    }" ∷
    codes "    served" ∷
    codes "}" ∷
    codes "" ∷
    codes "enum Exit_act {" ∷
    codes "    Next," ∷
    codes "    Break_0," ∷
    codes "    Continue_0," ∷
    codes "    Return(i64)," ∷
    codes "}" ∷
    codes "" ∷
    codes "fn act<'r0, 'r1>(served: i64, limit: i64, command: &'r0 Command, bank: &'r1 mut Bank) -> Exit_act {" ∷
    codes "    if served == limit {" ∷
    codes "        return Exit_act::Return(served);" ∷
    codes "    }" ∷
    codes "    match *command {" ∷
    codes "        Command::Deposit(id, amount) => {" ∷
    codes "            let account = pick(bank, id);" ∷
    codes "            account.balance = account.balance + amount;" ∷
    codes "        }" ∷
    codes "        Command::Withdraw(id, amount) => {" ∷
    codes "            let fee = bank.fee;" ∷
    codes "            let account = pick(bank, id);" ∷
    codes "            if account.balance < amount + fee {" ∷
    codes "                println!(\"{}\", -1);" ∷
    codes "                return Exit_act::Continue_0;" ∷
    codes "            }" ∷
    codes "            account.balance = account.balance - amount - fee;" ∷
    codes "        }" ∷
    codes "        Command::Show(id) => {" ∷
    codes "            let account = pick(bank, id);" ∷
    codes "            println!(\"{}\", account.balance);" ∷
    codes "        }" ∷
    codes "        Command::Quit => return Exit_act::Break_0," ∷
    codes "    }" ∷
    codes "    Exit_act::Next" ∷
    codes "}" ∷
    codes "" ∷
    codes "fn main() {" ∷
    codes "    let mut bank = Bank { first: Account { id: 1, balance: 100 }, second: Account { id: 2, balance: 50 }, fee: 1 };" ∷
    codes "    let done = serve(&mut bank, 10);" ∷
    codes "    println!(\"{}\", done);" ∷
    codes "}" ∷
    [])))
unfolding digits
bank_extracted = (refl, refl)

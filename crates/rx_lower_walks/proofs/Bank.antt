-- A small bank: its text, and what it is by the definitions of names and of the typed tree.
use Rattle.std.specs.Prelude.{true, false, List, [], ◌∷◌, Option, Some, None, codes}
use Rattle.rx_core.specs.declared.types.Kind.{Kind}
use Rattle.rx_tree.specs.declared.tree.BinaryOp.{BinaryOp}
use Rattle.rx_tree.specs.Plain as plain
use Rattle.rx_typed.specs.Types.{integer, boolean, reference, named, unit_shape, Declarations, rt_declared, struct_declared, enum_declared, function_declared}
use Rattle.rx_typed.specs.Tree.{Function}
use Rattle.rx_lower_walks.proofs.Short.{at, word, function_of}

-- // A small bank: commands come from the input.
-- mod rt;
--
-- struct Account {
--     id: i64,
--     balance: i64,
-- }
--
-- struct Bank {
--     first: Account,
--     second: Account,
--     fee: i64,
-- }
--
-- enum Command {
--     Deposit(i64, i64),
--     Withdraw(i64, i64),
--     Show(i64),
--     Quit,
-- }
--
-- // One command: a kind, an account and an amount.
-- fn read_command() -> Command {
--     let kind = rt::next();
--     if kind == 0 {
--         return Command::Quit;
--     }
--     let id = rt::next();
--     match kind {
--         1 => Command::Deposit(id, rt::next()),
--         2 => Command::Withdraw(id, rt::next()),
--         _ => Command::Show(id),
--     }
-- }
--
-- fn pick(bank: &mut Bank, id: i64) -> &mut Account {
--     if id == bank.first.id {
--         return &mut bank.first;
--     }
--     &mut bank.second
-- }
--
-- fn serve(bank: &mut Bank, limit: i64) -> i64 {
--     let mut served = 0;
--     loop {
--         let command = read_command();
--         /* The limit is tested
--            before the command is done. */
--         if served == limit {
--             return served;
--         }
--         match command {
--             Command::Deposit(id, amount) => {
--                 let account = pick(bank, id);
--                 account.balance = account.balance + amount;
--             }
--             Command::Withdraw(id, amount) => {
--                 let fee = bank.fee;
--                 let account = pick(bank, id);
--                 // No account goes below zero.
--                 if account.balance < amount + fee {
--                     println!("{}", -1);
--                     continue;
--                 }
--                 account.balance = account.balance - amount - fee;
--             }
--             Command::Show(id) => {
--                 let account = pick(bank, id);
--                 println!("{}", account.balance);
--             }
--             Command::Quit => break,
--         }
--         served = served + 1;
--     }
--     served
-- }
--
-- fn main() {
--     let mut bank = Bank {
--         first: Account { id: 1, balance: 100 },
--         second: Account { id: 2, balance: 50 },
--         fee: 1,
--     };
--     let done = serve(&mut bank, 10);
--     println!("{}", done);
-- }
abbrev pub bank_items : Declarations
bank_items = rt_declared ∷ struct_declared false 0 (record { name = codes "id"; typ = (integer Kind.I64) } ∷ record {
  name = codes "balance";
  typ =
      (integer Kind.I64);
} ∷ []) ∷ struct_declared false 0 (record { name = codes "first"; typ = (named 1) } ∷ record {
  name = codes "second";
  typ =
      (named 1);
} ∷ record { name = codes "fee"; typ = (integer Kind.I64) } ∷ []) ∷ enum_declared false 0 (record {
  name = codes "Deposit";
  parts =
      (integer Kind.I64) ∷ (integer Kind.I64) ∷ [];
} ∷ record { name = codes "Withdraw"; parts = (integer Kind.I64) ∷ (integer Kind.I64) ∷ [] } ∷
    record { name = codes "Show"; parts = (integer Kind.I64) ∷ [] } ∷ record { name = codes "Quit"; parts = [] } ∷ []) ∷ function_declared ([])
    (named 3) ∷ function_declared ((reference true (named 2)) ∷ (integer Kind.I64) ∷ []) (reference true (named 1)) ∷ function_declared ((reference
    true (named 2)) ∷ (integer Kind.I64) ∷ []) (integer Kind.I64) ∷ function_declared ([]) unit_shape ∷ []

abbrev pub bank_read_command : Function
bank_read_command = function_of 4 bank_items ((2, (named 3)) ∷ (4, (integer Kind.I64)) ∷ (5, (integer Kind.I64)) ∷ (7, unit_shape) ∷ (8, boolean) ∷
    (9, (integer Kind.I64)) ∷ (10, (integer Kind.I64)) ∷ (14, (named 3)) ∷ (16, (integer Kind.I64)) ∷ (17, (integer Kind.I64)) ∷ (18, (named 3)) ∷
    (19, (integer Kind.I64)) ∷ (20, (integer Kind.I64)) ∷ (21, (named 3)) ∷ (22, (integer Kind.I64)) ∷ (23, (integer Kind.I64)) ∷ (
      24,
      (integer
          Kind.I64),
    ) ∷ (25, (named 3)) ∷ (26, (integer Kind.I64)) ∷ (27, (integer Kind.I64)) ∷ (28, (integer Kind.I64)) ∷ (29, (named 3)) ∷ (
      30,
      (integer
          Kind.I64),
    ) ∷ []) ((7, unit_shape) ∷ (14, (named 3)) ∷ (18, (named 3)) ∷ (21, (named 3)) ∷ (22, (integer Kind.I64)) ∷ (23, (integer Kind.I64)) ∷
    (25, (named 3)) ∷ (26, (integer Kind.I64)) ∷ (27, (integer Kind.I64)) ∷ (29, (named 3)) ∷ (30, (integer Kind.I64)) ∷ []) ((3 ∷ []) ∷ (0 ∷ []) ∷
    (0 ∷ []) ∷ (0 ∷ []) ∷ (3 ∷ 3 ∷ []) ∷ (1 ∷ []) ∷ (0 ∷ []) ∷ (0 ∷ []) ∷ (3 ∷ 0 ∷ []) ∷ (1 ∷ []) ∷ (0 ∷ []) ∷ (3 ∷ 1 ∷ []) ∷ (1 ∷ []) ∷ (0 ∷ []) ∷
    (3 ∷ 2 ∷ []) ∷ (1 ∷ []) ∷ []) (record {
      name = (word (codes "read_command"));
      lifetimes = [];
      params = [];
      result = (Some (plain.named_type at
          (word (codes "Command")) None));
      body = (plain.body at (plain.statement_and (plain.let_statement at (plain.bind at (word (codes "kind")) false)
          None (plain.present (plain.next_input at))) (plain.statement_and (plain.expression_statement at (plain.if at (plain.binary at BinaryOp.Eq
          (plain.var at (codes "kind")) (plain.int at 0 None)) (plain.body at (plain.statement_and (plain.expression_statement at (plain.return at
          (plain.present (plain.variant at (word (codes "Command")) (word (codes "Quit")) plain.no_list))) true) plain.no_statement) plain.absent)
          plain.absent) false) (plain.statement_and (plain.let_statement at (plain.bind at (word (codes "id")) false) None (plain.present
          (plain.next_input at))) plain.no_statement))) (plain.present (plain.match at (plain.var at (codes "kind")) (plain.arm_and (plain.int_pattern at
          false 1 None) (plain.variant at (word (codes "Command")) (word (codes "Deposit")) (plain.a_list (plain.expression_and (plain.var at (codes
          "id")) (plain.expression_and (plain.next_input at) plain.no_expression)))) (plain.arm_and (plain.int_pattern at false 2 None) (plain.variant at
          (word (codes "Command")) (word (codes "Withdraw")) (plain.a_list (plain.expression_and (plain.var at (codes "id")) (plain.expression_and
          (plain.next_input at) plain.no_expression)))) (plain.arm_and (plain.wild at) (plain.variant at (word (codes "Command")) (word (codes "Show"))
          (plain.a_list (plain.expression_and (plain.var at (codes "id")) plain.no_expression))) plain.no_arm))))));
    })

abbrev pub bank_pick : Function
bank_pick = function_of 5 bank_items ((6, (reference true (named 1))) ∷ (8, unit_shape) ∷ (9, boolean) ∷ (10, (integer Kind.I64)) ∷ (
  11,
  (integer
      Kind.I64),
) ∷ (12, (named 1)) ∷ (13, (reference true (named 2))) ∷ (17, (reference true (named 1))) ∷ (18, (named 1)) ∷ (
  19,
  (reference true
      (named 2)),
) ∷ (20, (reference true (named 1))) ∷ (21, (named 1)) ∷ (22, (reference true (named 2))) ∷ []) ((8, unit_shape) ∷ (
  17,
  (reference
      true (named 1)),
) ∷ (20, (reference true (named 1))) ∷ []) ((0 ∷ []) ∷ (2 ∷ []) ∷ (1 ∷ []) ∷ (1 ∷ []) ∷ (0 ∷ []) ∷ (0 ∷ []) ∷ (0 ∷ []) ∷ [])
    (record {
      name = (word (codes "pick"));
      lifetimes = [];
      params = record {
        name = (word (codes "bank"));
        mutable = false;
        typ = (plain.ref_type
            at None true (plain.named_type at (word (codes "Bank")) None));
      } ∷ record {
        name = (word (codes "id"));
        mutable = false;
        typ = (plain.kind_type
            at Kind.I64);
      } ∷ [];
      result = (Some (plain.ref_type at None true (plain.named_type at (word (codes "Account")) None)));
      body = (plain.body at
          (plain.statement_and (plain.expression_statement at (plain.if at (plain.binary at BinaryOp.Eq (plain.var at (codes "id")) (plain.field at
          (plain.field at (plain.var at (codes "bank")) (word (codes "first"))) (word (codes "id")))) (plain.body at (plain.statement_and
          (plain.expression_statement at (plain.return at (plain.present (plain.borrow at true (plain.field at (plain.var at (codes "bank")) (word (codes
          "first")))))) true) plain.no_statement) plain.absent) plain.absent) false) plain.no_statement) (plain.present (plain.borrow at true (plain.field
          at (plain.var at (codes "bank")) (word (codes "second"))))));
    })

abbrev pub bank_serve : Function
bank_serve = function_of 6 bank_items ((5, (integer Kind.I64)) ∷ (7, (integer Kind.I64)) ∷ (8, (integer Kind.I64)) ∷ (10, unit_shape) ∷ (
  11,
  unit_shape,
) ∷ (13, (named 3)) ∷ (14, (named 3)) ∷ (16, unit_shape) ∷ (17, boolean) ∷ (18, (integer Kind.I64)) ∷ (19, (integer Kind.I64)) ∷ (
  23,
  (integer Kind.I64),
) ∷ (25, unit_shape) ∷ (26, (named 3)) ∷ (27, (named 3)) ∷ (28, (integer Kind.I64)) ∷ (29, (integer Kind.I64)) ∷ (
  30,
  unit_shape,
) ∷ (31, unit_shape) ∷ (33, (reference true (named 1))) ∷ (34, (reference true (named 1))) ∷ (35, (reference true (named 2))) ∷ (
  36,
  (integer Kind.I64),
) ∷ (38, unit_shape) ∷ (39, (integer Kind.I64)) ∷ (40, (reference true (named 1))) ∷ (41, (integer Kind.I64)) ∷ (
  42,
  (integer
      Kind.I64),
) ∷ (43, (reference true (named 1))) ∷ (44, (integer Kind.I64)) ∷ (45, (named 3)) ∷ (46, (integer Kind.I64)) ∷ (47, (integer Kind.I64))
    ∷ (48, unit_shape) ∷ (49, unit_shape) ∷ (51, (integer Kind.I64)) ∷ (52, (integer Kind.I64)) ∷ (53, (reference true (named 2))) ∷ (
      55,
      (reference
          true (named 1)),
    ) ∷ (56, (reference true (named 1))) ∷ (57, (reference true (named 2))) ∷ (58, (integer Kind.I64)) ∷ (60, unit_shape) ∷ (
      61,
      boolean,
    ) ∷ (62, (integer Kind.I64)) ∷ (63, (reference true (named 1))) ∷ (64, (integer Kind.I64)) ∷ (65, (integer Kind.I64)) ∷ (
      66,
      (integer
          Kind.I64),
    ) ∷ (69, unit_shape) ∷ (70, (integer Kind.I32)) ∷ (71, (integer Kind.I32)) ∷ (75, unit_shape) ∷ (76, (integer Kind.I64)) ∷ (
      77,
      (reference true (named 1)),
    ) ∷ (78, (integer Kind.I64)) ∷ (79, (integer Kind.I64)) ∷ (80, (integer Kind.I64)) ∷ (81, (reference true (named 1)))
    ∷ (82, (integer Kind.I64)) ∷ (83, (integer Kind.I64)) ∷ (84, (named 3)) ∷ (85, (integer Kind.I64)) ∷ (86, unit_shape) ∷ (87, unit_shape) ∷ (
      89,
      (reference true (named 1)),
    ) ∷ (90, (reference true (named 1))) ∷ (91, (reference true (named 2))) ∷ (92, (integer Kind.I64)) ∷ (94, unit_shape)
    ∷ (95, (integer Kind.I64)) ∷ (96, (reference true (named 1))) ∷ (97, (named 3)) ∷ (100, unit_shape) ∷ (101, (integer Kind.I64)) ∷ (
      102,
      (integer
          Kind.I64),
    ) ∷ (103, (integer Kind.I64)) ∷ (104, (integer Kind.I64)) ∷ (105, (integer Kind.I64)) ∷ []) ((16, unit_shape) ∷ (
      23,
      (integer
          Kind.I64),
    ) ∷ (25, unit_shape) ∷ (30, unit_shape) ∷ (35, (reference true (named 2))) ∷ (36, (integer Kind.I64)) ∷ (41, (integer Kind.I64)) ∷ (
      48,
      unit_shape,
    ) ∷ (57, (reference true (named 2))) ∷ (58, (integer Kind.I64)) ∷ (60, unit_shape) ∷ (78, (integer Kind.I64)) ∷ (86, unit_shape) ∷
    (91, (reference true (named 2))) ∷ (92, (integer Kind.I64)) ∷ (98, unit_shape) ∷ (102, (integer Kind.I64)) ∷ (105, (integer Kind.I64)) ∷ []) ((0
    ∷ []) ∷ (2 ∷ []) ∷ (2 ∷ []) ∷ (3 ∷ []) ∷ (4 ∷ []) ∷ (2 ∷ []) ∷ (1 ∷ []) ∷ (2 ∷ []) ∷ (3 ∷ []) ∷ (3 ∷ 0 ∷ []) ∷ (4 ∷ []) ∷ (5 ∷ []) ∷ (6 ∷ []) ∷
    (5 ∷ []) ∷ (0 ∷ []) ∷ (4 ∷ []) ∷ (6 ∷ []) ∷ (6 ∷ []) ∷ (5 ∷ []) ∷ (3 ∷ 1 ∷ []) ∷ (7 ∷ []) ∷ (8 ∷ []) ∷ (9 ∷ []) ∷ (0 ∷ []) ∷ (10 ∷ []) ∷ (5 ∷
    []) ∷ (0 ∷ []) ∷ (7 ∷ []) ∷ (10 ∷ []) ∷ (8 ∷ []) ∷ (9 ∷ []) ∷ (0 ∷ []) ∷ (10 ∷ []) ∷ (10 ∷ []) ∷ (8 ∷ []) ∷ (9 ∷ []) ∷ (3 ∷ 2 ∷ []) ∷ (11 ∷ [])
    ∷ (12 ∷ []) ∷ (5 ∷ []) ∷ (0 ∷ []) ∷ (11 ∷ []) ∷ (12 ∷ []) ∷ (3 ∷ 3 ∷ []) ∷ (0 ∷ []) ∷ (2 ∷ []) ∷ (2 ∷ []) ∷ (2 ∷ []) ∷ []) (record {
      name =
          (word (codes "serve"));
      lifetimes = [];
      params = record {
        name = (word (codes "bank"));
        mutable = false;
        typ = (plain.ref_type at None true
            (plain.named_type at (word (codes "Bank")) None));
      } ∷ record {
        name = (word (codes "limit"));
        mutable = false;
        typ = (plain.kind_type at
            Kind.I64);
      } ∷ [];
      result = (Some (plain.kind_type at Kind.I64));
      body = (plain.body at (plain.statement_and (plain.let_statement at (plain.bind
          at (word (codes "served")) true) None (plain.present (plain.int at 0 None))) (plain.statement_and (plain.expression_statement at (plain.loop at
          None (plain.body at (plain.statement_and (plain.let_statement at (plain.bind at (word (codes "command")) false) None (plain.present (plain.call
          at (word (codes "read_command")) plain.no_expression))) (plain.statement_and (plain.expression_statement at (plain.if at (plain.binary at
          BinaryOp.Eq (plain.var at (codes "served")) (plain.var at (codes "limit"))) (plain.body at (plain.statement_and (plain.expression_statement at
          (plain.return at (plain.present (plain.var at (codes "served")))) true) plain.no_statement) plain.absent) plain.absent) false)
          (plain.statement_and (plain.expression_statement at (plain.match at (plain.var at (codes "command")) (plain.arm_and (plain.variant_pattern at
          (word (codes "Command")) (word (codes "Deposit")) (plain.pattern_and (plain.bind at (word (codes "id")) false) (plain.pattern_and (plain.bind at
          (word (codes "amount")) false) plain.no_pattern))) (plain.block at (plain.body at (plain.statement_and (plain.let_statement at (plain.bind at
          (word (codes "account")) false) None (plain.present (plain.call at (word (codes "pick")) (plain.expression_and (plain.var at (codes "bank"))
          (plain.expression_and (plain.var at (codes "id")) plain.no_expression))))) (plain.statement_and (plain.expression_statement at (plain.assign at
          (plain.field at (plain.var at (codes "account")) (word (codes "balance"))) (plain.binary at BinaryOp.Add (plain.field at (plain.var at (codes
          "account")) (word (codes "balance"))) (plain.var at (codes "amount")))) true) plain.no_statement)) plain.absent)) (plain.arm_and
          (plain.variant_pattern at (word (codes "Command")) (word (codes "Withdraw")) (plain.pattern_and (plain.bind at (word (codes "id")) false)
          (plain.pattern_and (plain.bind at (word (codes "amount")) false) plain.no_pattern))) (plain.block at (plain.body at (plain.statement_and
          (plain.let_statement at (plain.bind at (word (codes "fee")) false) None (plain.present (plain.field at (plain.var at (codes "bank")) (word
          (codes "fee"))))) (plain.statement_and (plain.let_statement at (plain.bind at (word (codes "account")) false) None (plain.present (plain.call at
          (word (codes "pick")) (plain.expression_and (plain.var at (codes "bank")) (plain.expression_and (plain.var at (codes "id"))
          plain.no_expression))))) (plain.statement_and (plain.expression_statement at (plain.if at (plain.binary at BinaryOp.Lt (plain.field at
          (plain.var at (codes "account")) (word (codes "balance"))) (plain.binary at BinaryOp.Add (plain.var at (codes "amount")) (plain.var at (codes
          "fee")))) (plain.body at (plain.statement_and (plain.expression_statement at (plain.print at (plain.negate at (plain.int at 1 None))) true)
          (plain.statement_and (plain.expression_statement at (plain.continue at None) true) plain.no_statement)) plain.absent) plain.absent) false)
          (plain.statement_and (plain.expression_statement at (plain.assign at (plain.field at (plain.var at (codes "account")) (word (codes "balance")))
          (plain.binary at BinaryOp.Sub (plain.binary at BinaryOp.Sub (plain.field at (plain.var at (codes "account")) (word (codes "balance")))
          (plain.var at (codes "amount"))) (plain.var at (codes "fee")))) true) plain.no_statement)))) plain.absent)) (plain.arm_and
          (plain.variant_pattern at (word (codes "Command")) (word (codes "Show")) (plain.pattern_and (plain.bind at (word (codes "id")) false)
          plain.no_pattern)) (plain.block at (plain.body at (plain.statement_and (plain.let_statement at (plain.bind at (word (codes "account")) false)
          None (plain.present (plain.call at (word (codes "pick")) (plain.expression_and (plain.var at (codes "bank")) (plain.expression_and (plain.var at
          (codes "id")) plain.no_expression))))) (plain.statement_and (plain.expression_statement at (plain.print at (plain.field at (plain.var at (codes
          "account")) (word (codes "balance")))) true) plain.no_statement)) plain.absent)) (plain.arm_and (plain.variant_pattern at (word (codes
          "Command")) (word (codes "Quit")) plain.no_pattern) (plain.break at None) plain.no_arm))))) false) (plain.statement_and
          (plain.expression_statement at (plain.assign at (plain.var at (codes "served")) (plain.binary at BinaryOp.Add (plain.var at (codes "served"))
          (plain.int at 1 None))) true) plain.no_statement)))) plain.absent)) false) plain.no_statement)) (plain.present (plain.var at (codes "served"))));
    })

abbrev pub bank_main : Function
bank_main = function_of 7 bank_items ((1, unit_shape) ∷ (3, (named 2)) ∷ (4, (named 2)) ∷ (5, (named 1)) ∷ (6, (integer Kind.I64)) ∷ (
  7,
  (integer
      Kind.I64),
) ∷ (8, (named 1)) ∷ (9, (integer Kind.I64)) ∷ (10, (integer Kind.I64)) ∷ (11, (integer Kind.I64)) ∷ (13, (integer Kind.I64)) ∷ (
  14,
  (integer Kind.I64),
) ∷ (15, (reference true (named 2))) ∷ (16, (named 2)) ∷ (17, (integer Kind.I64)) ∷ (19, unit_shape) ∷ (
  20,
  (integer
      Kind.I64),
) ∷ []) ((5, (named 1)) ∷ (6, (integer Kind.I64)) ∷ (7, (integer Kind.I64)) ∷ (8, (named 1)) ∷ (9, (integer Kind.I64)) ∷ (
  10,
  (integer
      Kind.I64),
) ∷ (11, (integer Kind.I64)) ∷ (15, (reference true (named 2))) ∷ (17, (integer Kind.I64)) ∷ []) ((0 ∷ []) ∷ (2 ∷ []) ∷ (1 ∷ []) ∷ (1 ∷
    []) ∷ (1 ∷ []) ∷ (6 ∷ []) ∷ (0 ∷ []) ∷ (1 ∷ []) ∷ []) (record {
      name = (word (codes "main"));
      lifetimes = [];
      params = [];
      result = None;
      body =
          (plain.body at (plain.statement_and (plain.let_statement at (plain.bind at (word (codes "bank")) true) None (plain.present (plain.make at (word
          (codes "Bank")) (plain.field_and (word (codes "first")) (plain.make at (word (codes "Account")) (plain.field_and (word (codes "id")) (plain.int
          at 1 None) (plain.field_and (word (codes "balance")) (plain.int at 100 None) plain.no_field))) (plain.field_and (word (codes "second"))
          (plain.make at (word (codes "Account")) (plain.field_and (word (codes "id")) (plain.int at 2 None) (plain.field_and (word (codes "balance"))
          (plain.int at 50 None) plain.no_field))) (plain.field_and (word (codes "fee")) (plain.int at 1 None) plain.no_field)))))) (plain.statement_and
          (plain.let_statement at (plain.bind at (word (codes "done")) false) None (plain.present (plain.call at (word (codes "serve"))
          (plain.expression_and (plain.borrow at true (plain.var at (codes "bank"))) (plain.expression_and (plain.int at 10 None) plain.no_expression)))))
          (plain.statement_and (plain.expression_statement at (plain.print at (plain.var at (codes "done"))) true) plain.no_statement))) plain.absent);
    })

abbrev pub bank_functions : List (Option Function)
bank_functions = None ∷ None ∷ None ∷ None ∷ Some bank_read_command ∷ Some bank_pick ∷ Some bank_serve ∷ Some bank_main ∷ []

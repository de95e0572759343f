-- What the transactions of a wave do.
use Rattle.std.specs.Prelude.{ℕ, zero, suc, ◌+◌, ◌*◌, ◌%◌, List, [], ◌∷◌, ◌++◌, None, Some, codes}
use Rattle.std.specs.Fmt.{decimal}
use Rattle.sig_core.specs.declared.op.Op.TheVariants.{Put, Get, Del}
use Rattle.script_lang.specs.declared.command.Command.{Command}
use Rattle.script_lang.specs.declared.command.Command.TheVariants.{Begin, Operate}
use Rattle.load_gen.specs.Random.{drawn, first}

-- the row that a draw picks, of the 1024 of a transaction: `t`, its number, a dot, and the row's number
abbrev pub row_key : ℕ → ℕ → List ℕ
row_key transaction draw = codes "t" ++ (decimal transaction ++ (codes "." ++ decimal (draw % 1024)))

-- the value that a draw picks
abbrev pub row_value : ℕ → List ℕ
row_value draw = decimal (draw % 1000000000)

-- of three draws the first picks the row that is put and read, the second the value, and the third the row
-- that is deleted
abbrev pub with_draws : ℕ → ℕ → ℕ → ℕ → List Command
with_draws t one two three =
    Begin (t + 1) None
    ∷ Operate (Some (t + 1)) (Put (row_key t one) (row_value two))
    ∷ Operate (Some (t + 1)) (Get (row_key t one))
    ∷ Operate (Some (t + 1)) (Del (row_key t three))
    ∷ []

-- transaction t, where the ring stands at x
unfoldable pub transaction : ℕ → ℕ → List Command
transaction t x = with_draws t (drawn 1 x) (drawn 2 x) (drawn 3 x)

-- the first n transactions, each of which takes three draws
abbrev pub transactions : ℕ → ℕ → List Command
transactions zero x = []
transactions (suc n) x = transactions n x ++ transaction n (drawn (3 * n) x)

-- the first n transactions of wave w: 48 draws for each wave before it are thrown away
abbrev pub wave : ℕ → ℕ → ℕ → List Command
wave seed w n = transactions n (drawn (48 * w) (first seed))

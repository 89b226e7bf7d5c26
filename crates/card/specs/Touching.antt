-- Where in the body of the current EF a command on it begins, by the bytes of the command (02 Ticket 4): READ and UPDATE BINARY at the
-- start that P1 P2 give; READ and UPDATE RECORD at the record of number P1, each record being as long as the command is.
use Rattle.std.specs.Prelude.{ℕ, ◌*◌, ◌-◌, cond, List}
use Rattle.apdu.specs.Apdu.{instruction, is_binary, parameters, record_number, asked}

unfoldable pub place_of : List ℕ → ℕ
place_of c = cond (is_binary (instruction c)) (parameters c) ((record_number c - 1) * asked c)

-- The status words of 01 "The order in which a command is judged" and of 02, each given once.
use Rattle.std.specs.Prelude.{ℕ}

abbrev pub done : ℕ
done = 0x9000

-- the selected file is deactivated; it is terminated
abbrev pub file_deactivated : ℕ
file_deactivated = 0x6283

abbrev pub file_terminated : ℕ
file_terminated = 0x6285

abbrev pub wrong_length : ℕ
wrong_length = 0x6700

-- the file has another structure than the command is for
abbrev pub wrong_structure : ℕ
wrong_structure = 0x6981

abbrev pub security_not_satisfied : ℕ
security_not_satisfied = 0x6982

abbrev pub conditions_not_satisfied : ℕ
conditions_not_satisfied = 0x6985

-- no EF is current
abbrev pub not_allowed : ℕ
not_allowed = 0x6986

abbrev pub wrong_data : ℕ
wrong_data = 0x6A80

abbrev pub not_found : ℕ
not_found = 0x6A82

abbrev pub no_such_record : ℕ
no_such_record = 0x6A83

abbrev pub not_enough_memory : ℕ
not_enough_memory = 0x6A84

abbrev pub identifier_exists : ℕ
identifier_exists = 0x6A89

abbrev pub name_exists : ℕ
name_exists = 0x6A8A

abbrev pub wrong_parameters : ℕ
wrong_parameters = 0x6B00

abbrev pub wrong_instruction : ℕ
wrong_instruction = 0x6D00

abbrev pub wrong_class : ℕ
wrong_class = 0x6E00

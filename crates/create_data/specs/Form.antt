-- Which objects a new file's template has, and how long they are (01 "CREATE"):
-- DF: 82 (2 bytes), 83 (2), 84 optional (1-16), 8A (1), 8C (1-16), 81 (2-4), C6 (at least 1), 85 or A5 optional.
-- EF: 82 (2, or 4 with record length), 83, 8A, 8C, 80 (2-4), 85 or A5 optional.
-- In 8C's place may stand AB, an expanded rule (02 Ticket 3), or 8B, a referred one (02 Ticket 7), on a card whose version has that form.
use Rattle.std.specs.Prelude.{ℕ, Bool, cond, ◌&&◌, ◌||◌, leb, get_or, None, is_none}
use Rattle.rules.specs.Descriptor.{has_records}
use Rattle.access.specs.Access.{compact, expanded, referred}
use Rattle.template.specs.declared.Objects.{Objects}
use Rattle.template.specs.Objects.{length_in}

-- the numbers of the objects in the order of tags
abbrev pub t82 : ℕ
t82 = 0

abbrev pub t83 : ℕ
t83 = 1

abbrev pub t84 : ℕ
t84 = 2

abbrev pub t8a : ℕ
t8a = 3

abbrev pub t8c : ℕ
t8c = 4

abbrev pub tab : ℕ
tab = 5

abbrev pub t8b : ℕ
t8b = 6

abbrev pub t80 : ℕ
t80 = 7

abbrev pub t81 : ℕ
t81 = 8

abbrev pub tc6 : ℕ
tc6 = 9

abbrev pub t85 : ℕ
t85 = 10

abbrev pub ta5 : ℕ
ta5 = 11

-- the object is not there; it has low to high bytes (low at least 1, so it is there)
unfoldable pub lacks : Objects → ℕ → Bool
lacks o k = is_none (get_or o.values k None)

unfoldable pub has : Objects → ℕ → ℕ → ℕ → Bool
has o k low high = leb low (length_in o k) && leb (length_in o k) high

-- 85 or A5 optional: not both
unfoldable pub one_private : Objects → Bool
one_private o = lacks o t85 || lacks o ta5

-- the rule in 8C, in AB or in 8B: no two of them
unfoldable pub one_rule : Objects → Bool
one_rule o = cond (lacks o t8c) (lacks o tab || lacks o t8b) (lacks o tab && lacks o t8b)

-- the object that has the rule, and the rule's form by its tag
unfoldable pub rule_in : Objects → ℕ
rule_in o = cond (lacks o t8c) (cond (lacks o tab) t8b tab) t8c

unfoldable pub form_in : Objects → ℕ
form_in o = cond (lacks o t8c) (cond (lacks o tab) referred expanded) compact

-- 82 has four bytes exactly for structures 010 and 110
unfoldable pub first_form : Objects → ℕ → Bool
first_form o descriptor = cond (has_records descriptor) (has o t82 4 4) (has o t82 2 2)

-- the two lists, but for 84 and the rule, which Data leaves to the name's and the rule's readers; 80 has no
-- place in a DF's list, 84, 81 and C6 have none in an EF's
unfoldable pub df_form : Objects → Bool
df_form o =
    has o t82 2 2
    && (has o t83 2 2 && (has o t8a 1 1 && (has o t81 2 4 && (has o tc6 1 0x7F && (one_private o && lacks o t80)))))

unfoldable pub ef_form : Objects → ℕ → Bool
ef_form o descriptor =
    first_form o descriptor
    && (has o t83 2 2 && (has o t8a 1 1 && (has o t80 2 4 && (one_private o && (lacks o t84 && (lacks o t81 && lacks o tc6))))))

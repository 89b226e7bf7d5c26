-- Which records and which header bytes an effect changes, and how (demand 2: that effect and no other). A
-- record that isn't named here is as it was.
use Rattle.std.specs.Prelude.{ℕ, cond, List, ◌++◌, eqb, Ok, Err}
use Rattle.laws.specs.Lists.{part}
use Rattle.numbers.specs.Numbers.{be16}
use Rattle.rules.specs.Descriptor.{df}
use Rattle.template.specs.Objects.{bytes_at}
use Rattle.image.specs.Layout.{rec_at, with_life, free_bytes, current_df_of, current_ef_of, none}
use Rattle.sound.specs.Table.{view_at}
use Rattle.sound.specs.Kinship.{at_or_beneath}
use Rattle.sound.specs.Effects.{new_bytes, other_record}
use Rattle.verdict.specs.declared.Effect.TheVariants.{Select, Create, Delete, SetLife, Read, Update}
use Rattle.verdict.specs.Applied.{Verdict, sent_data}

-- record t after a verdict on the command c
abbrev pub record_after : List ℕ → List ℕ → Verdict → ℕ → List ℕ
record_after img c (Err word) t = rec_at img t
record_after img c (Ok (Select d e word)) t = rec_at img t
-- CREATE: the record in the new slot; of the others only the start of a body may differ, where bodies are moved down
record_after img c (Ok (Create x)) t =
    cond (eqb t x.slot) (new_bytes img x.head (bytes_at (sent_data c) x.name) (bytes_at (sent_data c) x.rule))
    (other_record img x.head t)
-- DELETE: the file and all beneath it become zero records
record_after img c (Ok (Delete s)) t = cond (at_or_beneath (view_at img) s t) free_bytes (rec_at img t)
-- a life-cycle command: one byte of one record
record_after img c (Ok (SetLife s life)) t = cond (eqb t s) (with_life (rec_at img t) life) (rec_at img t)
-- READ and UPDATE: none
record_after img c (Ok (Read at n)) t = rec_at img t
record_after img c (Ok (Update at)) t = rec_at img t

-- the current DF and the current EF afterwards
abbrev pub df_after : List ℕ → Verdict → ℕ
df_after img (Err word) = current_df_of img
df_after img (Ok (Select d e word)) = d
df_after img (Ok (Create x)) = cond (eqb x.head.kind df) x.slot (current_df_of img)
df_after img (Ok (Delete s)) = current_df_of img
df_after img (Ok (SetLife s life)) = current_df_of img
df_after img (Ok (Read at n)) = current_df_of img
df_after img (Ok (Update at)) = current_df_of img

abbrev pub ef_after : List ℕ → Verdict → ℕ
ef_after img (Err word) = current_ef_of img
ef_after img (Ok (Select d e word)) = e
ef_after img (Ok (Create x)) = cond (eqb x.head.kind df) none x.slot
ef_after img (Ok (Delete s)) = cond (eqb (current_ef_of img) s) none (current_ef_of img)
ef_after img (Ok (SetLife s life)) = current_ef_of img
ef_after img (Ok (Read at n)) = current_ef_of img
ef_after img (Ok (Update at)) = current_ef_of img

-- the four header bytes that tell what is current
abbrev pub current_after : List ℕ → Verdict → List ℕ
current_after img (Err word) = part img 7 4
current_after img (Ok (Select d e word)) = be16 d ++ be16 e
current_after img (Ok (Create x)) =
    be16 (cond (eqb x.head.kind df) x.slot (current_df_of img)) ++ be16 (cond (eqb x.head.kind df) none x.slot)
current_after img (Ok (Delete s)) = be16 (current_df_of img) ++ be16 (cond (eqb (current_ef_of img) s) none (current_ef_of img))
current_after img (Ok (SetLife s life)) = part img 7 4
current_after img (Ok (Read at n)) = part img 7 4
current_after img (Ok (Update at)) = part img 7 4
